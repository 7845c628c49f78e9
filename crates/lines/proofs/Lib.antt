pub mod LineReplies
pub mod ByTheStandards
