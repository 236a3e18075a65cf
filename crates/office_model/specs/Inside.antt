-- What proofs need and no public clause says.
pub mod Counted
pub mod Place
