pub mod Parts
pub mod Lines
pub mod Reading
pub mod View
pub mod Public
pub mod Inside
