pub mod Tally
pub mod Cuts
pub mod Starts
pub mod Highest
pub mod Bytes
