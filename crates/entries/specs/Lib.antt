pub mod Range
pub mod Surfaces
pub mod Partials
