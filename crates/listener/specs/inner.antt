-- What serves this crate's own modules: contracts between them, invariants and proofs. No public contract reaches it.
pub mod Admitting
pub mod Patience
pub mod Speaking
pub mod Starting
