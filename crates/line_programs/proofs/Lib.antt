pub mod Dialogs
pub mod Chunks
pub mod Tries
pub mod Lines
