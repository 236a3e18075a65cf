mod Common
pub mod Made
pub mod ListPuts
pub mod Few
pub mod ImportRows
pub mod Known
