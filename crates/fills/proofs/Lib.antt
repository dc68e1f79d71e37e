pub mod Due
pub mod Parts
pub mod Fillings
