pub mod Common
pub mod Handed
pub mod Places
pub mod Changes
pub mod Laws
pub mod Inside
