use Rattle.std.proofs.Common.{◌+◌, ◌-◌, ◌^◌, ◌%◌, ℕ, List, refl, sym, subst, arith}
use Rattle.matrix_market.specs.declared.kinds.Found.{Found}
use Rattle.matrix_market.specs.inner.Usual.{IsEntryLine}
use Rattle.matrix_market.proofs.Repeated.{entry_usual}
use Rattle.matrix_market.proofs.repeat.usual_entry.Goals as goal

pub returns : goal.returns
returns c =
    let l = c.in_ok-line.ensures in
    let some = l.0 in
    let line = c.in_ok-line.line in
    let shorter = c.text_behind-rest.ensures.shorter in
    let f : Found = record { row = (line.row + (2 ^ 64 - 1)) % 2 ^ 64; column = (line.column + (2 ^ 64 - 1)) % 2 ^ 64; word = line.word } in
    entry_usual c.args.header c.args.cursor line f _
    (subst (λ (more : List ℕ). IsEntryLine c.args.header.banner.pattern c.args.cursor.rest.now line more) (sym c.text_behind-rest.ensures.rest) l.2)
    (let r = c.if-found-header.false in omega (arith, r)) (let r = c.if-found-header-2.false in omega (arith, r)) refl refl refl refl
    (omega (arith, some, shorter))
