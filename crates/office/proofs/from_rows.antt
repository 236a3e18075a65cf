mod Common
pub mod Tests
pub mod Decoded
pub mod Stages
pub mod Taken
pub mod Gathered
pub mod FitDrafted
pub mod Takes
pub mod DraftIsFit
pub mod EachWithin
pub mod Chosen
pub mod GoesOn
pub mod Faults
