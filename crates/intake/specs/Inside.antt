-- What proofs need and no public clause says.
pub mod PartialRound
pub mod Entries
pub mod Posting
