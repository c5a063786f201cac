pub mod Faults
pub mod Previews
