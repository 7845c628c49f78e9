-- What the standards say, read in this order, and what is proved of it.
pub mod Registers
pub mod Tables
pub mod Standard
pub mod Laws
