pub mod Cells
pub mod Stages
pub mod Machines
pub mod Heirs
