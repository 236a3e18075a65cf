-- What proofs need and no public clause says.
pub mod Outputs
pub mod Outcomes
pub mod Rounds
