-- What a type owes that stands for a kind of generator.
pub mod Codes
