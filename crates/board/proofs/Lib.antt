pub mod Zeros
mod Turns
