pub mod Modes
pub mod Generators
pub mod RoundTrip
pub mod Writing
