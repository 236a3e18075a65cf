mod Common
mod Available
pub mod Refusals
mod NoStorage
pub mod SavedRows
mod Runs
mod AfterCrash
pub mod Reached
pub mod Lasting
mod SessionAfter
mod Asked
