pub mod Shown
pub mod Refused
