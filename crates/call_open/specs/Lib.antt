-- What open answers.
pub mod Open
