-- What the contracts cite of a cell of the tables.
pub mod Cells
