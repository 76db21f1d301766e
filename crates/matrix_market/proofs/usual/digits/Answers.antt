use Rattle.std.proofs.Common.{◌≡◌, ◌<◌, ◌*◌, ◌+◌, ◌%◌, ◌^◌, ℕ, true, get_or, arith, ap, ◌∙◌, subst}
use Rattle.std.specs.Char.{is_ascii_digit}
use Rattle.matrix_market.proofs.Scanning.{scanned_at, scanned_next, is_digit, less, not_ten}
use Rattle.matrix_market.proofs.usual.digits.Goals as goal

pub loop-count-preserved : goal.loop-count-preserved
loop-count-preserved c =
    let here = c.args.from + c.loop-count.count in
    let fits : get_or c.args.text.now (c.args.from + c.loop-count.count) 0 < 256 = let f = c.type_inv.text (c.args.from + c.loop-count.count) in omega arith in
    let digit : is_ascii_digit (get_or c.args.text.now (c.args.from + c.loop-count.count) 0) ≡ true = is_digit _ fits c.if-digit-gt9.false in
    let h = c.loop-count.invariant in
    let inside = h.within in
    let other : c.args.from + c.loop-count.count ≡ c.args.last → ⊥ = λ e. not_ten (subst (λ (k : ℕ). is_ascii_digit (get_or c.args.text.now k 0) ≡ true) e digit) c.requires.stop in
    let next : c.args.from + c.loop-count.count + 1 ≡ c.args.from + (c.loop-count.count + 1) = omega arith in
    record {
      few = omega arith;
      within = omega arith;
      scanned = scanned_at _ _ _ _ _ next (scanned_next c.args.text.now c.args.from (c.args.from + c.loop-count.count) c.loop-count.value _ (omega arith) (omega arith) h.scanned digit
          (let e = less (get_or c.args.text.now (c.args.from + c.loop-count.count) 0) fits c.if-digit-gt9.false in let r = c.from.ensures in ap (λ d. (c.loop-count.value * 10 % 2 ^ 64 + d) % 2 ^ 64) (r ∙ e)));
    }
