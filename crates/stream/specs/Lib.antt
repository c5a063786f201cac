pub mod Faults
pub mod Numbers
pub mod Passes
pub mod Streams
pub mod Reading
pub mod Laws
