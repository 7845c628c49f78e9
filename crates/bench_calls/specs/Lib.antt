-- A channel in plain numbers, and what of a reply is told to C.
pub mod Numbers
