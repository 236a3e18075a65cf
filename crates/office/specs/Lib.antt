pub mod changes
pub mod closing
pub mod from_rows
pub mod Common
pub mod View
pub mod Inside
