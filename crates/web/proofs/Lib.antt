pub mod OneConnection
pub mod Seen
pub mod OneMessage
pub mod Streams
