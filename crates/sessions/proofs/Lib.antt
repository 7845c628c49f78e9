-- `EverySession` and `EveryScript` are the theorems.
pub mod EverySession
pub mod EveryScript
