use Rattle.std.proofs.Common.{ℕ, List, Some, map, sym, ap, ◌∙◌}
use Rattle.csr_store.proofs.ByBits.{slots_full}
use Rattle.csr_store.proofs.column.Column.full_words.Goals as goal

pub returns-then-self : goal.returns-then-self
returns-then-self c =
    let s = c.self.inside in
    sym c.self.view_is ∙ (slots_full s.words.items s.bits.items (c.self.invariant.1 c.if-self.true)
    ∙ ap (λ (ws : List ℕ). map (λ (w : ℕ). Some w) ws) (sym c.deref.ensures.value))
