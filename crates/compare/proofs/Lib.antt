pub mod Parts
pub mod Products
pub mod Messages
pub mod Sound
pub mod Closings
pub mod Heard
