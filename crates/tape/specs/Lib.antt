pub mod Layout
pub mod Sections
pub mod Order
pub mod Letters
pub mod Dealt
pub mod Plain
