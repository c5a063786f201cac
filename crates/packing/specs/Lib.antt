pub mod Faults
pub mod Hexes
pub mod Packs
pub mod Texts
