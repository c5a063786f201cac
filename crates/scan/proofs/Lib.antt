pub mod Digits
pub mod Standing
pub mod Tables
pub mod Division
