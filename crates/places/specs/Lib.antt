-- What Reading, Place of and Gap answer.
pub mod Places
