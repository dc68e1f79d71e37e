pub mod Width
pub mod Subtraction
pub mod Congruence
pub mod Inverse
