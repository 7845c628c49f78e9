-- What a program that answers lines says, and what it has written of that.
pub mod Lines
pub mod Dialogs
pub mod Talks
