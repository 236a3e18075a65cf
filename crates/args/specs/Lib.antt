pub mod Kinds
pub mod Program
pub mod Reading
pub mod Table
pub mod Inside
