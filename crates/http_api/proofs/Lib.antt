mod Common
pub mod Refusals
pub mod Json
pub mod Found
pub mod Sound
pub mod PathsOfRoutes
pub mod Routers
pub mod Short
pub mod OneRequest
