-- What is told of a text: its matrix, or its first fault.
use Rattle.std.proofs.Common.{◌≡◌, ◌<◌, ℕ, List, Option, None, Some, Result, Ok, Err, sym, subst, arith}
use Rattle.std.specs.Prelude.{MatchOption, MatchResult, IfOk, IfErr, OnErr, OnOk}
use Rattle.std.specs.FinMap as fin
use Rattle.csr_store.specs.Grid.{Grid}
use Rattle.csr_store.specs.ByRows.{grid}
use Rattle.csr_store.specs.Listed.{Listed, NoneTwice}
use Rattle.matrix_market.specs.declared.kinds.Header.{Header}
use Rattle.matrix_market.specs.declared.cursor.Cursor.{Cursor}
use Rattle.matrix_market.specs.declared.rule.MarketError.{MarketError}
use Rattle.matrix_market.specs.declared.rule.MarketError.TheVariants.{NoRoom, Memory}
use Rattle.csr_store.specs.declared.growth.RefusedGrowth.{RefusedGrowth}
use Rattle.matrix_market.specs.Market.{IsTextOf}
use Rattle.matrix_market.specs.inner.Gathering.{Adds, IsAnswer, IsEnd, IsFaultAt, Tells, nothing}
use Rattle.matrix_market.specs.inner.Refusal.{NamesFault}
use Rattle.matrix_market.proofs.Gathering.{adds_filled}
use Rattle.matrix_market.proofs.Sizes.{has_sizes}

-- ---- what stopped a list

pub tells_fault : (h : Header) (start cursor : Cursor) (l : Listed) (given : ℕ) (e : MarketError) → Adds h (nothing h) l start.rest.now start.at given cursor.rest.now cursor.at → given < h.size.entries → IsFaultAt h cursor e → Tells h start l (Some e)
tells_fault h start cursor l given e a few f text begun once =
    f text (grid l.rows l.columns l.entries) given (adds_filled text h start l cursor.rest.now cursor.at given begun (omega arith) a once) few

pub tells_end : (h : Header) (start cursor : Cursor) (l : Listed) (given : ℕ) (o : Option MarketError) → Adds h (nothing h) l start.rest.now start.at given cursor.rest.now cursor.at → given ≡ h.size.entries → IsEnd cursor o → Tells h start l o
tells_end h start cursor l given o a all f text begun once =
    f text h.banner h.size (grid l.rows l.columns l.entries) given (adds_filled text h start l cursor.rest.now cursor.at given begun (omega arith) a once) (omega arith)

-- ---- answers

pub answers_no_room : (h : Header) (start : Cursor) (refused : RefusedGrowth) → IsAnswer h start (Err (NoRoom refused))
answers_no_room h start refused text begun =
    has_sizes text h.banner h.size (record { rows = h.size.rows; columns = h.size.columns; cells = fin.empty }) start.rest.now start.at 0 begun

pub answers_memory : (h : Header) (start : Cursor) (l : Listed) (o : Option MarketError) (refused : RefusedGrowth) → Tells h start l o → o ≡ None → NoneTwice l.entries
    → IsAnswer h start (Err (Memory refused))
answers_memory h start l o refused t n once text begun = (
  grid l.rows l.columns l.entries,
  subst (λ (x : Option MarketError). MatchOption x (IsTextOf text (grid l.rows l.columns l.entries)) (NamesFault text)) n (t text begun once),
)

pub answers_matrix : (h : Header) (start : Cursor) (l : Listed) (o : Option MarketError) (m : Grid) → Tells h start l o → o ≡ None → NoneTwice l.entries → m ≡ grid l.rows l.columns l.entries → IsAnswer h start (Ok m)
answers_matrix h start l o m t n once e text begun =
    subst (λ (g : Grid). IsTextOf text g) (sym e) (subst (λ (x : Option MarketError). MatchOption x (IsTextOf text (grid l.rows l.columns l.entries)) (NamesFault text)) n (t text begun once))

pub answers_fault : (h : Header) (start : Cursor) (l : Listed) (o : Option MarketError) (f : MarketError) → Tells h start l o → o ≡ Some f → NoneTwice l.entries → IsAnswer h start (Err f)
answers_fault h start l o f t e once text begun =
    subst (λ (x : Option MarketError). MatchOption x (IsTextOf text (grid l.rows l.columns l.entries)) (NamesFault text)) e (t text begun once)

pub answer_ok : (text : List ℕ) (r : Result Grid MarketError) → MatchResult r (IsTextOf text) (NamesFault text) → IfOk r (λ m. IsTextOf text m)
answer_ok text (Ok m) h = h
answer_ok text (Err e) h = tt

pub answer_err : (text : List ℕ) (r : Result Grid MarketError) → MatchResult r (IsTextOf text) (NamesFault text) → IfErr r (λ e. NamesFault text e)
answer_err text (Ok m) h = tt
answer_err text (Err e) h = h

-- ---- what is known of an answer's variant

pub ok_case : {X E : Type 0} (P : X → Type 0) (r : Result X E) (x : X) → r ≡ Ok x → IfOk r P → P x
ok_case P r x e h = subst (λ t. IfOk t P) e h

pub err_case : {X E : Type 0} (P : E → Type 0) (r : Result X E) (x : E) → r ≡ Err x → IfErr r P → P x
err_case P r x e h = subst (λ t. IfErr t P) e h

pub on_err : {X E : Type 0} (P : Type 0) (r : Result X E) (x : E) → r ≡ Err x → OnErr r P → P
on_err P r x e h = subst (λ t. OnErr t P) e h

pub on_ok : {X E : Type 0} (P : Type 0) (r : Result X E) (x : X) → r ≡ Ok x → OnOk r P → P
on_ok P r x e h = subst (λ t. OnOk t P) e h
