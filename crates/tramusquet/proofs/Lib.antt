-- The promises. Assumes nothing.
pub mod Unique
