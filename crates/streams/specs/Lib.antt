-- What the line program says to a stream of bytes. `Laws` has the proofs of the laws.
pub mod Stream
pub mod Laws
