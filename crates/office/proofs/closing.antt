mod Common
pub mod Entries
pub mod ManyPuts
pub mod UniqueCodes
pub mod RoundInstance
pub mod PairsByCode
pub mod PlacesAreRanks
pub mod Kept
pub mod Unplaced
pub mod ClosingRows
pub mod SizeAndProfile
pub mod TakenPairs
pub mod ClosingAllowed
