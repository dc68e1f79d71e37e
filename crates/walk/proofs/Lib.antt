pub mod Reached
pub mod Same
pub mod Deals
pub mod Marks
pub mod Joining
pub mod Fillers
