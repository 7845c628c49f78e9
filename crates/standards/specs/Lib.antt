-- What the contracts of `standards` cite.
pub mod Cells
pub mod CodePhases
