-- What Chips answers and writes.
pub mod Chips
