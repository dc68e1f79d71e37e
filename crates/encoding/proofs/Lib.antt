mod Rows
mod Halves
mod Counts
pub mod Fits
pub mod Levels
pub mod EqualCodes
pub mod Bits
pub mod Values
