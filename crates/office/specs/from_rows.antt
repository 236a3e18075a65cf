pub mod Common
pub mod View
pub mod Inside
