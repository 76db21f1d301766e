pub mod Meaning
pub mod Calls
pub mod Fold
pub mod Known
pub mod inner
