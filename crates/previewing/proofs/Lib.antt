pub mod Hearings
pub mod Prints
