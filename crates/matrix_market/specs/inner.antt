-- What serves this crate's own modules: contracts between them, invariants and proofs. No public contract reaches it.
pub mod Answers
pub mod Filling
pub mod Gathering
pub mod Labels
pub mod Refusal
pub mod Repeating
pub mod Rules
pub mod Usual
