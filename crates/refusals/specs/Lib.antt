pub mod Numbers
pub mod Grounds
pub mod Checks
