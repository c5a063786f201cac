pub mod Positions
pub mod Rows
