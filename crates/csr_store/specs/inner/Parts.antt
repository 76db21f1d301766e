-- Parts of the range of rising positions, each of positions that agree but for some low bits. This project's own.
use Rattle.std.specs.Prelude.{◌≡◌, ◌<◌, ◌≤◌, ◌/◌, ◌^◌, ℕ, List, true, drop, length, take}
use Rattle.std.specs.Ordering.{nat_cmp}
use Rattle.std.specs.FinMap.{is_sorted}
use Rattle.csr_store.specs.Grid.{Cell}
use Rattle.csr_store.specs.inner.Repeated.{number_at}

-- so many positions are in parts before this one, and they stand before all others
pub record IsPartStart (positions : List Cell) (bits part start : ℕ) : Type 0 where
  pub within : start ≤ length positions
  pub before : (k : ℕ) → k < start → number_at positions k / 2 ^ bits < part
  pub behind : (k : ℕ) → start ≤ k → k < length positions → part ≤ number_at positions k / 2 ^ bits

-- the cells say where each part starts
abbrev pub ArePartStarts : List Cell → ℕ → List Cell → Type 0
ArePartStarts positions bits starts = (part : ℕ) → part < length starts → IsPartStart positions bits part (number_at starts part)

-- the first so many cells are rising positions, and the others say where each part of them starts
pub record IsIndexed (count bits : ℕ) (cells : List Cell) : Type 0 where
  pub within : count ≤ length cells
  pub fits : bits < 64
  pub sorted : is_sorted nat_cmp (take count cells) ≡ true
  pub starts : ArePartStarts (take count cells) bits (drop count cells)
