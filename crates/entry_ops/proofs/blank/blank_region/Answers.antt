use Rattle.std.proofs.Common.{◌-◌, ◌++◌, [], List, ap, ◌∙◌, replicate}
use Rattle.std.proofs.lemmas.Result.{on_ok_weaker}
use Rattle.csr_store.proofs.Along.{along-replicate}
use Rattle.csr_store.specs.Run.{Row}
use Rattle.job_forms.specs.declared.region.Making.{Making}
use Rattle.entry_ops.proofs.Regions.{told_none}
use Rattle.entry_ops.proofs.blank.blank_region.Goals as goal

pub returns : goal.returns
returns c =
    let first = c.args.range.start in
    let n = c.args.range.end - first in
    told_none c.end_blank-ended.result _ _ _ c.finish.ensures
    (on_ok_weaker c.end_blank-ended.result
    (λ e. e ∙ (ap (λ (m : Making). record m.rows { ended = m.rows.ended ++ replicate n [] }) c.begin-making.ensures
    ∙ ap (λ (rs : List Row). record { first = first; columns = c.args.columns; ended = rs; opened = [] }) (along-replicate [] first n)))
    c.end_blank-ended.ensures.ended)
    (ap (λ (m : Making). m.steps) c.begin-making.ensures)
