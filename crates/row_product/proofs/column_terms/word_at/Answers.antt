use Rattle.std.proofs.Common.{◌≡◌, ℕ, List, Option, None, length, get_or, ap, sym, subst, ◌∙◌, arith}
use denote.Ref.{Bor}
use Rattle.csr_store.specs.Column.{column_of, IsCopyOf}
use Rattle.csr_store.proofs.ByBits.{column_at, length_column}
use Rattle.row_product.proofs.column_terms.word_at.Goals as goal

pub word-requires : goal.word-requires
word-requires c =
    let b = c.args.b.now in
    let copied : c.in-Some.column.now ≡ column_of b =
    subst (λ (lent : Option (Bor (List (Option ℕ)))). IsCopyOf b lent) c.in-Some.is c.requires.copy in
    let l = ap length copied in
    let n = length_column b in
    let r = c.requires.row in
    omega (arith, l, n, r)

pub returns-in-Some : goal.returns-in-Some
returns-in-Some c =
    let b = c.args.b.now in
    let k = c.args.k in
    let copied : c.in-Some.column.now ≡ column_of b =
    subst (λ (lent : Option (Bor (List (Option ℕ)))). IsCopyOf b lent) c.in-Some.is c.requires.copy in
    sym (column_at b k c.requires.row) ∙ (ap (λ us. get_or us k None) (sym copied) ∙ c.word.ensures)
