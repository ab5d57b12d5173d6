-- The listing of a session file. Assumes nothing.
pub mod Decimal
pub mod Listing
pub mod Statements
pub mod Code
pub mod Example
