-- What serves this crate's own modules: contracts between them, invariants and proofs. No public contract reaches it.
pub mod Accounts
pub mod Events
pub mod Standing
pub mod Telling
pub mod Text
pub mod Untold
