pub mod Endpoints
pub mod Watching
pub mod Messages
pub mod Run
pub mod Answers
pub mod Served
pub mod Inside
