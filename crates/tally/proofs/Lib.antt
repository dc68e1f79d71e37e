pub mod Around
pub mod Marks
pub mod Late
pub mod Bytes
pub mod Starts
