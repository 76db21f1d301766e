use Rattle.std.proofs.Common.{◌++◌, ◌∷◌, [], Some, if◌then◌else◌, refl, ap, sym, ◌∙◌}
use Rattle.std.specs.Result.{is_ok}
use Rattle.entry_ops.specs.inner.Folding.{Open, open_of, words}
use Rattle.entry_ops.proofs.OpenRows.{begins_open}
use Rattle.entry_ops.proofs.folds.Folds.begin_row.Goals as goal

pub returns-in-Some-split_first-clause-folds : goal.returns-in-Some-split_first-clause-folds
returns-in-Some-split_first-clause-folds c =
    let rs = c.self.inside.results.items in
    let first = c.in-Some.first.now in
    let x : Open = open_of (record {
      number = c.len-number.result;
      so_far = first.1;
      next = c.in-Some-split_first.next.now.1;
      rest = c.in-Some-split_first.rest;
    }) in
    let m = c.push-2.ensures.items ∙ ap (λ r. if is_ok r then rs ++ Some first.1 ∷ [] else rs) c.unwrap-2.ensures in
    begins_open c.self.inside.lanes _ rs _ c.self.inside.steps (Some first.1) c.args.self.now c.self.view_is m c.args.cells.now
    x first c.in-Some.behind.now c.push-in-Some-split_first.ensures c.in-Some.ensures.cases.0
    (sym (ap words c.in-Some-split_first.ensures.cases.0)) refl (c.len-number.ensures ∙ c.self.inside.results.ok.0)
