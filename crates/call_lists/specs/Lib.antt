-- A list of calls as the code makes it.
pub mod Memory
pub mod Told
