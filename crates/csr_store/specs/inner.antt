-- What serves this crate's own modules: contracts between them, invariants and proofs. No public contract reaches it.
pub mod ByRows
pub mod Collected
pub mod Narrow
pub mod Selected
pub mod Moved
pub mod Packed
pub mod Repeated
pub mod Parts
pub mod Run
pub mod Cells
pub mod Copied
pub mod Column
pub mod Starts
pub mod Growing
