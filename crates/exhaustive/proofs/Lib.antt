pub mod Dealt
pub mod Small
