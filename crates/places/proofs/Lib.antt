-- `ThereAndBack`, `EpochOfP` and `Gaps` are the theorems.
pub mod Epochs
pub mod Answers
pub mod ThereAndBack
pub mod EpochOfP
pub mod Differences
pub mod Gaps
pub mod EndValues
