use Rattle.std.proofs.Common.{◌≡◌, ◌<◌, ◌*◌, ◌+◌, ◌%◌, ◌^◌, ℕ, true, get_or, arith, ap, ◌∙◌, subst}
use Rattle.std.specs.Char.{is_ascii_digit}
use Rattle.matrix_market.proofs.Scanning.{scanned_next, is_digit, less, not_ten}
use Rattle.matrix_market.proofs.usual.more_digits.Goals as goal

pub loop-from-preserved : goal.loop-from-preserved
loop-from-preserved c =
    let b = get_or c.args.text.now c.loop-from.at 0 in
    let fits : get_or c.args.text.now c.loop-from.at 0 < 256 = let f = c.type_inv.text c.loop-from.at in omega arith in
    let digit : is_ascii_digit (get_or c.args.text.now c.loop-from.at 0) ≡ true = is_digit _ fits c.if-digit-gt9.false in
    let h = c.loop-from.invariant in
    let other : c.loop-from.at ≡ c.args.last → ⊥ = λ e. not_ten (subst (λ (k : ℕ). is_ascii_digit (get_or c.args.text.now k 0) ≡ true) e digit) c.requires.stop in
    record {
      stays = omega arith;
      within = omega arith;
      scanned = scanned_next c.args.text.now c.args.from c.loop-from.at c.loop-from.value _ h.stays (omega arith) h.scanned digit
          (let e = less (get_or c.args.text.now c.loop-from.at 0) fits c.if-digit-gt9.false in let r = c.from.ensures in ap (λ d. (c.loop-from.value * 10 % 2 ^ 64 + d) % 2 ^ 64) (r ∙ e));
    }
