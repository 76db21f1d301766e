use Rattle.std.proofs.Common.{◌≡◌, ◌<◌, rules, sym, ap, ◌∙◌, subst}
use Rattle.crossbeam_utils.specs.Seq.{cell_view}
use Rattle.step_purse.specs.declared.views.View.{View}
use Rattle.step_purse.specs.Rule.{MayCall}
use Rattle.step_purse.proofs.Shares.{both_part}
use Rattle.step_purse.proofs.Steps.{moves, merges, learns}
use Rattle.step_purse.proofs.account.Account.gather.Goals as goal

pub split_pass-moved-requires : goal.split_pass-moved-requires
split_pass-moved-requires g c = (search rules, (search rules, (search rules, moves _ _ c.requires.1.may)))

pub join_pass-requires : goal.join_pass-requires
join_pass-requires g c =
    let moved : cell_view c.split_pass-moved.result ≡ cell_view c.args.second = c.split_pass-moved.ensures.given.1 in
    let may : MayCall (cell_view c.split_pass-moved.result) = subst MayCall (sym moved) c.requires.1.may in
    (search rules, (search rules, (search rules, merges _ _ _ _ c.requires.0.may may)))

pub load_as-requires : goal.load_as-requires
load_as-requires g c =
    let both = c.join_pass.ensures.1 in
    (search rules, (search rules, (search rules, learns _ _ (ap (λ (v : View). v.opened) both ∙ c.requires.0.may.opened) (subst (λ (v : View). 0 < v.known.share.parts) (sym both) (both_part _ _ c.requires.0.may.part)))))
