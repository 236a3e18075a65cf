-- What proofs need and no public clause says.
pub mod Among
pub mod Arcs
pub mod Fair
pub mod Seating
pub mod Labels
pub mod Marks
pub mod Phases
pub mod Prices
pub mod Push
pub mod Search
pub mod View
pub mod Ways
