pub mod Statuses
pub mod Handing
pub mod Pieces
pub mod Outcomes
