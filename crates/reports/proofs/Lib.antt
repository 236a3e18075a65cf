mod Common
pub mod Widths
pub mod Lines
pub mod Risen
