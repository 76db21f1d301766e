-- What serves this crate's own modules: contracts between them, invariants and proofs. No public contract reaches it.
pub mod Calls
pub mod Flat
pub mod Gathering
pub mod Known
