-- The proofs of the fields of a line.
pub mod Bytes
