pub mod Words
pub mod Chips
