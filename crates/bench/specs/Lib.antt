pub mod Work
pub mod Eight
