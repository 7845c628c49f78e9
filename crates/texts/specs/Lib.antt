-- The text of a refusal and of a chip, and a program that takes bytes and says text.
pub mod Texts
pub mod Saying
