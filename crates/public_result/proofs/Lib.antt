mod Common
pub mod Assigned
pub mod Moved
pub mod ByPlaces
pub mod Counts
pub mod Sums
pub mod Best
pub mod Zero
pub mod Accepted
pub mod Chosen
pub mod Any
