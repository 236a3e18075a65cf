pub mod Bytes
pub mod Served
