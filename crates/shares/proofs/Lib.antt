pub mod Sides
pub mod Reading
pub mod Products
