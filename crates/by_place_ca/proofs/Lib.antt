pub mod DelayedG2
