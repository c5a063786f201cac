pub mod SurfaceRows
pub mod PartialRows
