pub mod Decide
pub mod Tasks
pub mod Batches
pub mod Bands
pub mod Chained
pub mod Ranges
pub mod Passed
pub mod Goes
pub mod Spoken
pub mod Later
mod Refusals
pub mod Moves
pub mod Answering
pub mod AsRead
mod Runs
mod Fits
mod EachJob
mod Alone
pub mod OneByOne
pub mod AnyCount
pub mod Sizes
