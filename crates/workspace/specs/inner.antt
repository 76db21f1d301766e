-- What serves this crate's own modules: contracts between them, invariants and proofs. No public contract reaches it.
pub mod Binds
pub mod Concluding
pub mod Lent
pub mod Names
pub mod Outputs
pub mod Queued
