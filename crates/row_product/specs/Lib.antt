pub mod Factors
pub mod inner
