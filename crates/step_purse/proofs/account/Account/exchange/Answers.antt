use Rattle.std.proofs.Common.{rules, sym, ap, subst, ◌∙◌, ℕ, List}
use Rattle.std.specs.Prelude.{nat_eq, if◌then◌else◌}
use lib.Pointwise.{pointwise}
use Rattle.crossbeam_utils.specs.Seq.{cell_view}
use Rattle.crossbeam_utils.specs.Register.{Turns}
use Rattle.step_purse.specs.declared.dealings.Dealing.{Dealing}
use Rattle.step_purse.specs.Plain.{total, after}
use Rattle.step_purse.specs.inner.Rule.{Kept, exchanged, words_of}
use Rattle.step_purse.proofs.Calls.{after_total}
use Rattle.step_purse.proofs.Steps.{exchanges}
use Rattle.step_purse.proofs.account.Account.exchange.Goals as goal

pub words-written-requires : goal.words-written-requires
words-written-requires g c = ap total c.requires.call.1.1 ∙ (after_total c.args.now c.args.call c.requires.call.1.0 ∙ c.requires.call.0)

pub compare_exchange_as-requires : goal.compare_exchange_as-requires
compare_exchange_as-requires g c =
    let v = cell_view c.args.seat.now in
    let id = c.args.seat.now.id in
    let expected = c.words-expected.result in
    let written = c.words-written.result in
    let own = ap (λ (a : ℕ). words_of a c.args.now) (sym c.requires.seat.allowance) in
    let after_own = ap (λ (a : ℕ). words_of a (after c.args.now c.args.call)) (sym c.requires.seat.allowance) in
    let kept = exchanges id v c.args.now expected written c.args.call c.requires.seat.may (c.words-expected.ensures ∙ own) c.requires.call.1.0 c.requires.call.2 (c.words-written.ensures ∙ (ap (words_of c.args.self.now.allowance) c.requires.call.1.1 ∙ after_own)) in
    let picked = subst (λ (d : Dealing). Turns Kept id v (λ (x : List ℕ). if pointwise nat_eq x expected then written else x) (exchanged expected d)) (sym c.requires.pick.0) kept in
    (search rules, (search rules, (search rules, subst (λ (e : List ℕ). Turns Kept id v (λ (x : List ℕ). if pointwise nat_eq x expected then written else x) (exchanged e g.S.Calling.call)) (c.words-expected.ensures ∙ sym c.requires.pick.1) picked)))
