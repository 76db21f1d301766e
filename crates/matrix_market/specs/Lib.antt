pub mod CanonicalText
pub mod Rule
pub mod Market
pub mod Refusal
pub mod Values
pub mod inner
