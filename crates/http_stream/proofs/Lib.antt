mod Common
pub mod Windows
pub mod WholeStream
pub mod Unique
pub mod Known
pub mod ReaderEnd
pub mod Runs
pub mod FieldSearch
pub mod OneMessage
