-- `EveryInput` is the theorem.
pub mod EveryInput
