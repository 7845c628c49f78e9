-- Channels as words of text, and how such words are read.
pub mod Words
