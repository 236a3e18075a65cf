-- What proofs need and no public clause says.
pub mod PersistentOffice
pub mod Keeping
pub mod DeskState
pub mod Saved
pub mod Sessions
