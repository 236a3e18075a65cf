-- What proofs need and no public clause says.
pub mod Judged
pub mod Messages
pub mod Run
pub mod Served
pub mod Taken
