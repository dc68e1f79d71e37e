pub mod Numbers
pub mod Due
pub mod Head
pub mod Job
pub mod Sent
pub mod Deal
