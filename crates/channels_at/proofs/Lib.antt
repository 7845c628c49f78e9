pub mod Registers
pub mod Words
pub mod Ahead
pub mod DelayLine
pub mod Channels
