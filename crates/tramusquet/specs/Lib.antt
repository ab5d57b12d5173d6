-- The listing for C. Assumes nothing.
pub mod Statements
