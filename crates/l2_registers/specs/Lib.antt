-- For the contracts of inner functions alone.
pub mod Moves
