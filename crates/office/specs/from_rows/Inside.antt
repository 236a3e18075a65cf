-- What proofs need and no public clause says.
pub mod Decoded
pub mod Gathering
pub mod Whole
