use Rattle.std.proofs.Common.{rules, sym, subst, ℕ, ◌≤◌, ◌^◌, []}
use Rattle.crossbeam_utils.specs.Register.{Forks}
use Rattle.step_purse.specs.declared.views.View.{View}
use Rattle.step_purse.specs.Shares.{whole}
use Rattle.step_purse.specs.Rule.{idle}
use Rattle.step_purse.specs.inner.Rule.{Kept, left_behind}
use Rattle.step_purse.proofs.Opening.{opens}
use Rattle.step_purse.proofs.account.begin.Goals as goal

pub split_pass-requires : goal.split_pass-requires
split_pass-requires g c =
    let allowance = g.S.Allowed.allowance in
    let begun = opens c.args.first.now.id allowance (subst (λ (a : ℕ). a ≤ 2 ^ 62) (sym c.requires.pick) c.requires.small) in
    (search rules, (search rules, (search rules, subst (λ (v : View). Forks Kept c.args.first.now.id v left_behind (idle allowance [] whole)) (sym c.requires.blank.1) begun)))
