pub mod Opening
pub mod Boxes
pub mod Jobs
pub mod Memory
pub mod Rooms
