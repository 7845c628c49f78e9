-- `EveryList` is the theorem.
pub mod OneCall
pub mod EveryList
