pub mod Fields
pub mod Kinds
pub mod Requests
pub mod Inside
