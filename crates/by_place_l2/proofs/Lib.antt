pub mod Cycles
pub mod ByPlace
