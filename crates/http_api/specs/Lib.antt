pub mod Routes
pub mod Members
pub mod Requests
pub mod Text
pub mod Texts
pub mod Inside
