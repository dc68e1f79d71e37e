mod Told
mod Sums
pub mod Ready
pub mod Delivery
pub mod Course
pub mod Exchanges
pub mod Begun
pub mod Right
mod Endings
pub mod Fresh
