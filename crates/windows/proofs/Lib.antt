pub mod SameChannel
pub mod Round
