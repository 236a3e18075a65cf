mod Common
pub mod Allowed
pub mod SameRound
pub mod Positions
pub mod OneMoreStudent
