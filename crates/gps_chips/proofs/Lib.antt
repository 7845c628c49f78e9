-- `AsAWindow` is the theorem.
pub mod Answers
pub mod AsAWindow
