-- The laws and the promises. Assumes nothing.
pub mod DigitLaws
pub mod OverwrittenLaws
pub mod LineLaws
pub mod ListingLaws
pub mod PutsLaws
pub mod LentLaws
pub mod Decimals
pub mod Unique
pub mod Cut
pub mod Room
pub mod Example
