pub mod Turns
pub mod Lists
pub mod Going
pub mod Marks
pub mod Runs
pub mod Deals
pub mod Starts
