pub mod Figures
pub mod AsRun
