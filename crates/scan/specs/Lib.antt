pub mod Sides
pub mod Places
pub mod Tree
