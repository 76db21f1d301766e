-- A text is that of one matrix at most, and none that has a fault.
use Rattle.std.proofs.Common.{◌≡◌, ℕ, List, [], ◌∷◌, Option, Some, None, get_or, refl, sym, ap, ◌∙◌}
use Rattle.std.specs.FinMap as fin
use Rattle.csr_store.specs.Grid.{Grid, Position, pos_cmp}
use Rattle.csr_store.proofs.Laws.{same_values}
use Rattle.matrix_market.specs.declared.rule.MarketRule.{MarketRule}
use Rattle.matrix_market.specs.declared.kinds.Banner.{Banner}
use Rattle.matrix_market.specs.declared.kinds.Size.{Size}
use Rattle.std.specs.Prelude.{Result, Ok, Err, IfOk, IfErr}
use Rattle.matrix_market.specs.declared.rule.MarketError.{MarketError}
use Rattle.matrix_market.specs.declared.rule.MarketError.TheVariants.{Fault, NoRoom, Memory}
use Rattle.matrix_market.specs.Refusal.{IsOnlyMatrix, ExplainsRefusal}
use Rattle.matrix_market.specs.inner.Refusal.{NamesFault}
use Rattle.matrix_market.specs.Market.{IsFault, IsTextOf, tail, content, banner_of, size_of, words_at, entries_of, at_most, first_rule}

same_some : {X : Type 0} (x y : X) → Some x ≡ Some y → x ≡ y
same_some x y e = cc

same_most : (o p : Option ℕ) → at_most o ≡ at_most p → o ≡ p
same_most None None e = refl
same_most None (Some y) e = absurd (cc)
same_most (Some x) None e = absurd (cc)
same_most (Some x) (Some y) e = ap Some (let h : x ≡ y = ap (λ xs. get_or xs 0 0) e in h)

made : ℕ → ℕ → fin.FinMap pos_cmp ℕ → Grid
made rows columns cells = record { rows = rows; columns = columns; cells = cells }

module _ (text : List ℕ) (g h : Grid) (a : IsTextOf text g) (b : IsTextOf text h) where
  same_lines : a.first ∷ a.others ≡ b.first ∷ b.others
  same_lines = sym a.lines_are ∙ b.lines_are

  same_others : a.others ≡ b.others
  same_others = ap tail same_lines

  same_banner : a.banner ≡ b.banner
  same_banner = same_some a.banner b.banner (sym a.banner_is ∙ ap (λ ls. banner_of (get_or ls 0 [])) same_lines ∙ b.banner_is)

  same_size : a.size ≡ b.size
  same_size = same_some a.size b.size (sym a.size_is ∙ ap (λ ls. size_of (content ls)) same_others ∙ b.size_is)

  same_cell : (p : Position) → fin.get g.cells p ≡ fin.get h.cells p
  same_cell p =
      same_most (fin.get g.cells p) (fin.get h.cells p)
      (sym (a.cells p) ∙ ap (λ (x : Banner). words_at x.symmetric (entries_of x.pattern (content a.others)) p) same_banner
      ∙ ap (λ ls. words_at b.banner.symmetric (entries_of b.banner.pattern (content ls)) p) same_others ∙ b.cells p)

  pub same_matrix : g ≡ h
  same_matrix = λ i. record {
    rows = (a.rows ∙ ap (λ (s : Size). s.rows) same_size ∙ sym b.rows) i;
    columns = (a.columns ∙ ap (λ (s : Size). s.columns) same_size ∙ sym b.columns) i;
    cells = (same_values g.cells h.cells same_cell) i;
  }

no_rule : (rule : MarketRule) → None ≡ Some rule → ⊥
no_rule rule e = cc

pub never_both : (text : List ℕ) (g : Grid) (n : ℕ) (rule : MarketRule) → IsTextOf text g → IsFault text n rule → ⊥
never_both text g n rule t f = no_rule rule (ap first_rule (sym (t.faultless n f.line.0 f.line.1)) ∙ f.fault)

pub only_matrix : (text : List ℕ) (r : Result Grid MarketError) → IfOk r (λ m. IsTextOf text m) → IfOk r (λ m. IsOnlyMatrix text m)
only_matrix text (Ok m) t = λ g h. same_matrix text g m h t
only_matrix text (Err e) t = tt

pub refusal_explained : (text : List ℕ) (r : Result Grid MarketError) → IfErr r (λ e. NamesFault text e) → IfErr r (ExplainsRefusal text)
refusal_explained text (Ok m) t = tt
refusal_explained text (Err (Fault rule line)) t = (t, λ g h. never_both text g line rule h t)
refusal_explained text (Err (NoRoom refused)) t = t
refusal_explained text (Err (Memory refused)) t = t
