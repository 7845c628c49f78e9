pub mod Beginnings
pub mod LongLines
