-- A line of the line program and its reply. `Inner` is for the contracts of inner functions alone.
pub mod Lines
pub mod Inner
