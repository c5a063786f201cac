pub mod Trials
pub mod ByteBits
pub mod Writes
pub mod Firsts
