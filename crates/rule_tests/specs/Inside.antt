-- What proofs need and no public clause says.
pub mod Costs
