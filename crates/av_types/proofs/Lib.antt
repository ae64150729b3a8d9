pub mod RisingClasses
pub mod Types
