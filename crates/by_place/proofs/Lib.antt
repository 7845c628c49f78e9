pub mod ByTheMachine
