mod Records
mod FieldTexts
mod Alike
pub mod AfterHeader
