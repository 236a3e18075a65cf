pub mod Served
pub mod Inside
