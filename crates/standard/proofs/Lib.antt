-- `EveryChip` is the law of every chip; the others lead up to it, in this order.
pub mod SameRegisters
pub mod Sequences
pub mod Phases
pub mod ChipBySignal
pub mod EveryChip
