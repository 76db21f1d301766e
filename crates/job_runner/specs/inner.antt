-- What serves this crate's own modules: contracts between them, invariants and proofs. No public contract reaches it.
pub mod Crew
pub mod Pieces
pub mod CompletedPieces
pub mod Worked
pub mod Charged
