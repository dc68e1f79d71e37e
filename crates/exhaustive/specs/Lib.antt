pub mod Bands
pub mod Inputs
