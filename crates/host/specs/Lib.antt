pub mod WorldState
