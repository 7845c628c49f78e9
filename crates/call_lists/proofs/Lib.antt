-- `Parts` is a window on a part of the memory, `Walk` is the loop of `run`, and `Listed` brings it to the statement.
mod Parts
pub mod Walk
pub mod Listed
