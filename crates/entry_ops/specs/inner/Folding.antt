-- Rows that are folded many at once: those that are open, each with a lane, and what the others come to. This project's own.
use Rattle.std.specs.Prelude.{◌≡◌, ◌⊎◌, ◌<◌, ◌≤◌, ◌+◌, ◌-◌, ◌^◌, ℕ, List, [], ◌∷◌, length, map, slice_index_or}
use Rattle.std.specs.Prelude.{Option, None, Some, Result}
use Rattle.std.specs.List.{AllByRecursion}
use Rattle.std.specs.declared.alloc.AllocError.{AllocError}
use Rattle.bpf_insn.specs.declared.operands.Kind.TheVariants as kinds
use Rattle.bpf_verify.specs.Accepted.{Accepted, IsAccepted}
use Rattle.csr_store.specs.Grid.{Grid, Cell}
use Rattle.csr_store.specs.Mask.{cut, rows_under, all_listed_under, mask_of}
use Rattle.bpf_run.specs.Calls.{Call, steps_of}
use Rattle.bpf_run.specs.Fold.{fold, fold_from, fold_calls, fold_calls_from}
use Rattle.job_forms.specs.Forms.{reduce_at, reduce_calls_at}
use Rattle.job_forms.specs.Region.{IsRegion, Adds, nothing_made}
use Rattle.job_forms.specs.declared.region.Region.{Region}
use Rattle.job_forms.specs.declared.region.Making.{Making}
use Rattle.entry_ops.specs.declared.folds.Block.{Block}
use Rattle.entry_ops.specs.declared.open_rows.Lane.{Lane}
use Rattle.entry_ops.specs.declared.open_rows.OpenRow.{OpenRow}

-- the words of cells
abbrev pub words : List Cell → List ℕ
words cells = map (λ (c : Cell). c.1) cells

-- an open row: its number in the block, its fold so far, and the words still to come
pub record Open : Type 0 where
  pub number : ℕ
  pub so_far : ℕ
  pub terms : List ℕ

abbrev pub open_of : OpenRow → Open
open_of r = record { number = r.number; so_far = r.so_far; terms = r.next ∷ words r.rest.now }

-- open rows by columns: their cells, their folds so far, and their next words, which come before the cells
abbrev pub in_columns : List Lane → List ℕ → List ℕ → List Open
in_columns [] vs ws = []
in_columns (l ∷ ls) [] ws = []
in_columns (l ∷ ls) (v ∷ vs) [] = []
in_columns (l ∷ ls) (v ∷ vs) (w ∷ ws) =
    record { number = l.number; so_far = v; terms = w ∷ words l.rest.now } ∷ in_columns ls vs ws

-- the same before their next words are taken from their cells
abbrev pub in_two_columns : List Lane → List ℕ → List Open
in_two_columns [] vs = []
in_two_columns (l ∷ ls) [] = []
in_two_columns (l ∷ ls) (v ∷ vs) = record { number = l.number; so_far = v; terms = words l.rest.now } ∷ in_two_columns ls vs

-- the open rows, what each row that was begun comes to unless it is open, by its number in the block, and the steps of the
-- calls that ran
pub record Folding : Type 0 where
  pub lanes : List Open
  pub results : List (Option ℕ)
  pub steps : ℕ

-- each is of one of so many rows
abbrev pub ArePlaced : ℕ → List Open → Type 0
ArePlaced n lanes = AllByRecursion (λ (l : Open). l.number < n) lanes

-- all the calls of an open row that are still to come, and the steps of those of all of them
abbrev pub to_come : Accepted → Open → List Call
to_come f l = fold_calls_from f l.so_far l.terms

abbrev pub due : Accepted → List Open → ℕ
due f [] = 0
due f (l ∷ ls) = steps_of (to_come f l) + due f ls

-- a row is among some rows, as those that are open
abbrev pub IsAmong : ℕ → List ℕ → Type 0
IsAmong k [] = ⊥
IsAmong k (p ∷ ps) = (k ≡ p) ⊎ IsAmong k ps

abbrev pub indices : List Open → List ℕ
indices lanes = map (λ (l : Open). l.number) lanes

-- each row that was begun comes to what it should, the open ones when all that is to come is folded
pub record LeadsTo (f : Accepted) (target : ℕ → Option ℕ) (lanes : List Open) (results : List (Option ℕ)) : Type 0 where
  pub opened : AllByRecursion (λ (l : Open). Some (fold_from f l.so_far l.terms) ≡ target l.number) lanes
  pub known : (k : ℕ) → k < length results → (slice_index_or results k None ≡ target k) ⊎ IsAmong k (indices lanes)

-- some of the calls to come ran, by so many steps, and some rows now have their results
pub record Gives (f : Accepted) (steps : ℕ) (lanes : List Open) (results : List (Option ℕ)) (left : List Open)
    (found : List (Option ℕ)) : Type 0 where
  pub rows : length found ≡ length results
  pub leads : (target : ℕ → Option ℕ) → LeadsTo f target lanes results → LeadsTo f target left found
  pub costs : steps + due f left ≡ due f lanes

-- the same with the steps so far: the next call of each open row ran, or all of the last one
pub record Goes (f : Accepted) (old new : Folding) : Type 0 where
  pub rows : length new.results ≡ length old.results
  pub leads : (target : ℕ → Option ℕ) → LeadsTo f target old.lanes old.results → LeadsTo f target new.lanes new.results
  pub costs : new.steps + due f new.lanes ≡ old.steps + due f old.lanes

-- where a row is open, such calls take steps
abbrev pub TakesSteps : Folding → Folding → Type 0
TakesSteps old new = 0 < length old.lanes → old.steps < new.steps

-- a binary operator folds, and the steps of all calls to come in lanes fit in
pub record CanGo (f : Accepted) (e : Folding) : Type 0 where
  pub kind : f.kind ≡ kinds.Binary
  pub accepted : IsAccepted f
  pub capacity : e.steps + due f e.lanes < 2 ^ 64

-- a block is of at most 256 rows, and the matrix has them
pub record IsBlock (a : Grid) (block : Block) : Type 0 where
  pub fits : block.first + block.many < 2 ^ 64
  pub within : block.first + block.many ≤ a.rows
  pub few : block.many ≤ 256

-- rows of a block were begun: all of them, or as many as there are lanes for
pub record AreBegun (many : ℕ) (old new : Folding) : Type 0 where
  pub few : length new.results ≤ many
  pub all : length new.lanes < 64 → length new.results ≡ many
  pub steps : new.steps ≡ old.steps

-- one more row was begun, of these cells
pub record Begins (f : Accepted) (cells : List Cell) (old new : Folding) : Type 0 where
  pub rows : length new.results ≡ length old.results + 1
  pub leads : (target : ℕ → Option ℕ) → LeadsTo f target old.lanes old.results
      → target (length old.results) ≡ fold f (words cells)
      → LeadsTo f target new.lanes new.results
  pub costs : new.steps + due f new.lanes ≡ old.steps + (due f old.lanes + steps_of (fold_calls f (words cells)))

-- what the rows of a block of a reduction come to, from `first` on
abbrev pub target_of : Accepted → Grid → Option Grid → ℕ → ℕ → Option ℕ
target_of f a mask first k = cut mask (reduce_at f a) (first + k, 0)

-- the reduction of a block is under way: the steps so far, of what is to come in lanes and of the rows that aren't begun are
-- those of the whole block
pub record IsFolding (f : Accepted) (a : Grid) (mask : Option Grid) (first many total : ℕ) (e : Folding) : Type 0 where
  pub leads : LeadsTo f (target_of f a mask first) e.lanes e.results
  pub costs : e.steps + (due f e.lanes + steps_of (all_listed_under mask 1 (reduce_calls_at f a) (first + length e.results)
      (many - length e.results))) ≡ total

-- the results of a block
pub record AreResults (f : Accepted) (a : Grid) (mask : Option Grid) (first many : ℕ) (results : List (Option ℕ)) : Type 0 where
  pub count : length results ≡ many
  pub each : (k : ℕ) → k < many → slice_index_or results k None ≡ target_of f a mask first k

-- the calls of the reduction of a region
abbrev pub region_calls : Accepted → Grid → Region → List Call
region_calls f a region =
    all_listed_under (mask_of region.mask) 1 (reduce_calls_at f a) region.range.start (region.range.end - region.range.start)

-- the rows of a region may be reduced, none of them computed yet: the operator is binary, and the steps of the calls fit a word
pub record CanReduce (f : Accepted) (a : Grid) (region : Region) (making : Making) : Type 0 where
  pub kind : f.kind ≡ kinds.Binary
  pub region_is : IsRegion a.rows 1 region
  pub begun : making ≡ nothing_made region.range.start 1
  pub capacity : steps_of (region_calls f a region) < 2 ^ 64

-- the reductions of the rows of a region are added
abbrev pub AddsReduced : Accepted → Grid → Region → Making → Making → Result (Unit {0}) AllocError → Type 0
AddsReduced f a region old new filled =
    Adds (rows_under (mask_of region.mask) 1 (reduce_at f a) region.range.start (region.range.end - region.range.start))
    (region_calls f a region) old new filled

-- a block of rows may be folded: the operator is binary, the matrix has the rows, and the steps of the calls fit in
pub record CanFold (f : Accepted) (a : Grid) (mask : Option Grid) (block : Block) (e : Folding) : Type 0 where
  pub kind : f.kind ≡ kinds.Binary
  pub accepted : IsAccepted f
  pub block_is : IsBlock a block
  pub capacity : e.steps + steps_of (all_listed_under mask 1 (reduce_calls_at f a) block.first block.many) < 2 ^ 64

-- the results of a block are known, and the steps of its calls are counted
pub record IsFolded (f : Accepted) (a : Grid) (mask : Option Grid) (block : Block) (old new : Folding) : Type 0 where
  pub results : AreResults f a mask block.first block.many new.results
  pub steps : new.steps ≡ old.steps + steps_of (all_listed_under mask 1 (reduce_calls_at f a) block.first block.many)
