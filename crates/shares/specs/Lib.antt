pub mod Side
pub mod Reading
pub mod Deliveries
pub mod Share
