-- What proofs need and no public clause says.
pub mod Causes
pub mod Inert
pub mod Layout
pub mod Steps
pub mod Table
