mod Common
pub mod Available
mod Among
mod OtherNames
mod MigratingRows
mod MigratingChanges
mod Begins
pub mod Standing
mod Held
mod ChangesInOrder
mod NewTables
mod InTurn
mod ListedTables
mod Commit
mod Fitness
mod ReadRows
mod Migrated
mod FoundOffice
pub mod SameTrees
mod Opening
mod Readings
mod Nothing
pub mod Reopened
