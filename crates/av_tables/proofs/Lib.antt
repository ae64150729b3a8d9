pub mod Rising
pub mod Sets
pub mod Placing
pub mod Noting
