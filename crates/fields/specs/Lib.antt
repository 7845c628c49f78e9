-- What a field of a line is, and which number stands in it.
pub mod Fields
