-- For the contracts of inner functions alone.
pub mod Rows
pub mod Columns
