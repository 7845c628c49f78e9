pub mod ChipsSoFar
