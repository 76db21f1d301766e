-- What serves this crate's own modules: contracts between them, invariants and proofs. No public contract reaches it.
pub mod Arguments
pub mod Cuts
pub mod Names
pub mod Reading
pub mod Tables
