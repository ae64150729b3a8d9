pub mod FewWords
pub mod Recipes
pub mod Items
pub mod Standins
