-- The parts of an answer of the console.
pub mod Lines
