pub mod NameParts
pub mod Starts
pub mod TypeKeys
pub mod VTypeKeys
