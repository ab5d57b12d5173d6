-- What the functions of this crate promise. Assumes nothing.
pub mod Statements
pub mod Calls
pub mod Code
