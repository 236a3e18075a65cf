-- What proofs need and no public clause says.
pub mod Kept
pub mod Solved
pub mod Weights
