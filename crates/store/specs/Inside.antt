-- What proofs need and no public clause says.
pub mod Faults
pub mod Reading
pub mod Saving
