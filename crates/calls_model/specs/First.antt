-- The machine of one class, and what each of its runs keeps.
pub mod Machine
pub mod Keeping
