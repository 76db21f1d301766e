-- What serves this crate's own modules: contracts between them, invariants and proofs. No public contract reaches it.
pub mod ColumnPairs
pub mod IndexCalls
pub mod Folding
pub mod Mapped
pub mod Masked
pub mod Paired
pub mod Placing
pub mod SelectBuffer
pub mod Shown
pub mod Standing
pub mod Walking
pub mod Forms
