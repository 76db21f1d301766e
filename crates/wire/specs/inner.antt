-- What serves this crate's own modules: contracts between them, invariants and proofs. No public contract reaches it.
pub mod Found
pub mod InputState
pub mod Keeping
