pub mod Layers
pub mod Changes
pub mod SessionRounds
