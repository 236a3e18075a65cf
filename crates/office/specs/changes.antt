pub mod Common
pub mod Allowed
pub mod Apart
pub mod Changes
pub mod Laws
