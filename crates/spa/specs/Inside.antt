-- What proofs need and no public clause says.
pub mod Codes
pub mod Columns
pub mod Lex
pub mod Made
pub mod Order
pub mod Over
pub mod Places
pub mod Reading
pub mod Row
