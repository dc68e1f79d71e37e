mod Grounds
mod Places
mod Equations
pub mod Dealing
mod Products
mod Powers
mod ByKind
mod Fronts
