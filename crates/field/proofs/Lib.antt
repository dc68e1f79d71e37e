pub mod Widths
pub mod Congruences
pub mod Subtraction
pub mod Units
pub mod Sums
mod Remainders
