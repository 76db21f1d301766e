use Rattle.std.proofs.Common.{rules, tests, arith, ◌≡◌, ◌∙◌, ◌≤◌, ◌&&◌, ℕ, Bool, nat_le, sym, refl, length}
use Rattle.std.proofs.lemmas.Bool.{le-leb, eqb-false}
use Rattle.std.proofs.lemmas.Iterator.{YieldsList-from_slice}
use Rattle.std.proofs.lemmas.Iterator.Search.{all_from_yields_List}
use Rattle.command_text.specs.Words.{is_name_byte}
use Rattle.command_text.proofs.words.is_name.Goals as goal

-- at a length of 1 to 32 only the bytes decide
bytes_decide : (n : ℕ) (b : Bool) → 1 ≤ n → n ≤ 32 → b ≡ (nat_le 1 n && (nat_le n 32 && b))
bytes_decide n b low high = rw (le-leb 1 n low, le-leb n 32 high) refl

pub returns : goal.returns
returns c =
    let all = all_from_yields_List is_name_byte _ _ c.all.result c.all.ensures.ran (YieldsList-from_slice c.args.word.now cc) (λ x b q k. search (rules, tests)) in
    let some = eqb-false (length c.args.word.now) 0 (sym c.is_empty.ensures ∙ c.if-is_empty.false) in
    all ∙ bytes_decide (length c.args.word.now) _ (omega arith) (omega arith)
