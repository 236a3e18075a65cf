pub mod Public
pub mod Rounds
pub mod Inside
