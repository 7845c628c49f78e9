pub mod Feeding
pub mod Runs
