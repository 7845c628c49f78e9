pub mod Rows
pub mod Places
pub mod Lanes
pub mod Rounds
pub mod Sums
