-- What window answers.
pub mod Window
