-- What serves this crate's own modules: contracts between them, invariants and proofs. A public contract reaches `columns_in` and
-- `stands` of Progress alone: the view of a scratch names them, and no contract of another crate unfolds it.
pub mod Adding
pub mod RowUnderMask
pub mod Column
pub mod Masked
pub mod Emitting
pub mod SortedAccumulator
pub mod DenseSums
pub mod Progress
pub mod Rows
pub mod Single
pub mod Sums
pub mod StandIn
