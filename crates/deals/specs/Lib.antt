pub mod Groups
pub mod Steps
pub mod Deals
pub mod Dealing
pub mod Kinds
