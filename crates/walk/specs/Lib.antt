pub mod Said
pub mod Walk
pub mod Sweeps
pub mod Deals
pub mod JobSteps
pub mod Courses
pub mod Three
pub mod Bands
