pub mod Texts
pub mod Rounds
pub mod Inside
