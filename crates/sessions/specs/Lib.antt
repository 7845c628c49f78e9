-- What is said in a session at the console. `Laws` has the proofs of the laws.
pub mod Sessions
pub mod Scripts
pub mod Laws
