-- The laws and the promises. Assumes nothing.
pub mod MaskTests
pub mod ReadyLaws
pub mod SoundLaws
pub mod SizeLaws
pub mod PerformLaws
pub mod ProcedureLaws
pub mod GuardLaws
pub mod ActionLaws
pub mod FreshLaws
pub mod CheckLaws
pub mod Unique
pub mod Promises
pub mod CallPromises
