pub mod Serving
pub mod Connections
pub mod Laws
