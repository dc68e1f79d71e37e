pub mod Every
pub mod Tabulate
pub mod Span
pub mod Joined
