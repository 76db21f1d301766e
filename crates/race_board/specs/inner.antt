-- What serves this crate's own modules: contracts between them, invariants and proofs. No public contract reaches it.
pub mod Balance
pub mod Crews
pub mod Naming
pub mod Race
pub mod Rule
