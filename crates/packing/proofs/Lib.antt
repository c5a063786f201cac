pub mod Hosts
pub mod Scans
pub mod Written
