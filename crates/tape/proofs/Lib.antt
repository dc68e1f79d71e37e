pub mod Sizes
pub mod Sections
pub mod Orders
pub mod Passing
mod Trailers
pub mod Letters
pub mod Dealing
pub mod Plains
pub mod Keys
