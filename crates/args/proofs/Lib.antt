mod Common
pub mod Faults
pub mod Found
pub mod Loops
pub mod Numbers
pub mod OnWords
pub mod Simple
pub mod Subcommands
pub mod Taken
pub mod Values
mod Own
