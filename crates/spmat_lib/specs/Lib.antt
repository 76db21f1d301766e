pub mod Answer
pub mod Calls
pub mod Lines
pub mod Verdict
pub mod inner
