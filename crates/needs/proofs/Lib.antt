pub mod AsRun
mod Examples
