-- The session file and its run. Assumes nothing.
pub mod File
pub mod FileRefusals
pub mod FileWords
pub mod Run
pub mod Statements
pub mod Written
pub mod Code
