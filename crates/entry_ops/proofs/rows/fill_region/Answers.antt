use Rattle.std.proofs.Common.{◌-◌, ◌∙◌, ap, arith, rules}
use Rattle.bpf_run.specs.Calls.{calls_on}
use Rattle.csr_store.specs.Mask.{mask_of}
use Rattle.csr_store.specs.Run.{Run}
use Rattle.entry_ops.specs.inner.Forms.{form_of}
use Rattle.entry_ops.specs.inner.Walking.{form_all_calls}
use Rattle.bpf_run.proofs.Charging.{charges-none}
use Rattle.entry_ops.specs.inner.Placing.{Emission, standing}
use Rattle.entry_ops.proofs.Placing.{begin-final}
use Rattle.entry_ops.proofs.Standing.{empty_run}
use Rattle.entry_ops.proofs.Regions.{begin-room, begin-stop, whole-costs, whole-rows}
use Rattle.entry_ops.proofs.rows.fill_region.Goals as goal

pub returns-in-Err : goal.returns-in-Err
returns-in-Err c =
    let zero = ap (λ (e : Emission). e.steps) c.reserve.ensures ∙ c.begin-emitter.ensures.steps in
    rw c.finish.ensures (record { rows = tt; steps = tt; spent = rw zero (charges-none _ 0) })

pub fill-requires-clause-ready : goal.fill-requires-clause-ready
fill-requires-clause-ready c =
    let begun = begin-final c.args.operator.now c.reserve.new.self c.begin.new.self _ _
    (ap (λ (e : Emission). e.rows) c.reserve.ensures ∙ c.begin-emitter.ensures.rows) c.begin.ensures.none in
    record {
      holds = search rules;
      open_row = record {
        columns_are = ap (λ (r : Run). r.columns) begun ∙ c.columns.ensures.columns;
        none = ap
            (λ (r : Run). r.opened) begun;
      };
      capacity = begin-room c.args.operator.now (form_of c.args.form) c.args.sources.left.now
          (mask_of c.args.sources.right) (mask_of c.args.sources.mask) c.args.range.start c.args.range.end
          (standing c.args.operator.now c.reserve.new.self c.begin.new.self)
          (ap (λ (e : Emission). e.steps) c.reserve.ensures ∙ c.begin-emitter.ensures.steps)
          (ap (calls_on c.args.operator.now) c.begin.ensures.none) c.recall.ensures
          c.requires.form.kind c.columns.ensures.is_grid c.requires.rows.within;
    }

pub returns-in-Err-fill : goal.returns-in-Err-fill
returns-in-Err-fill c =
    let all = form_all_calls (form_of c.args.form) c.args.operator.now c.args.sources.left.now (mask_of c.args.sources.right)
    (mask_of c.args.sources.mask) c.args.range.start (c.args.range.end - c.args.range.start) in
    rw c.finish-in-Err-fill.ensures (record {
      rows = tt;
      steps = tt;
      spent = begin-stop _ _ (standing c.args.operator.now c.reserve.new.self c.begin.new.self)
          (begin-final c.args.operator.now c.reserve.new.self c.begin.new.self _ _
          (ap (λ (e : Emission). e.rows) c.reserve.ensures ∙ c.begin-emitter.ensures.rows) c.begin.ensures.none)
          (ap (calls_on c.args.operator.now) c.begin.ensures.none)
          (ap (λ (e : Emission). e.steps) c.reserve.ensures ∙ c.begin-emitter.ensures.steps) all _ c.in-Err-fill.ensures.spent;
    })

pub flush-requires-clause-capacity : goal.flush-requires-clause-capacity
flush-requires-clause-capacity c =
    let capacity = begin-room c.args.operator.now (form_of c.args.form) c.args.sources.left.now
    (mask_of c.args.sources.right) (mask_of c.args.sources.mask) c.args.range.start c.args.range.end
    (standing c.args.operator.now c.reserve.new.self c.begin.new.self)
    (ap (λ (e : Emission). e.steps) c.reserve.ensures ∙ c.begin-emitter.ensures.steps)
    (ap (calls_on c.args.operator.now) c.begin.ensures.none) c.recall.ensures
    c.requires.form.kind c.columns.ensures.is_grid c.requires.rows.within in
    let costs = whole-costs _ _ (standing c.args.operator.now c.reserve.new.self c.begin.new.self)
    (begin-final c.args.operator.now c.reserve.new.self c.begin.new.self _ _
    (ap (λ (e : Emission). e.rows) c.reserve.ensures ∙ c.begin-emitter.ensures.rows) c.begin.ensures.none)
    (ap (calls_on c.args.operator.now) c.begin.ensures.none)
    (ap (λ (e : Emission). e.steps) c.reserve.ensures ∙ c.begin-emitter.ensures.steps) _ _ _ c.in-Ok-fill.ensures.does.adds in
    omega (arith, capacity, costs)

pub returns : goal.returns
returns c =
    let begun = begin-final c.args.operator.now c.reserve.new.self c.begin.new.self _ _
    (ap (λ (e : Emission). e.rows) c.reserve.ensures ∙
    (c.begin-emitter.ensures.rows ∙ ap (empty_run c.args.range.start) c.columns.ensures.columns)) c.begin.ensures.none in
    let none = ap (calls_on c.args.operator.now) c.begin.ensures.none in
    let zero = ap (λ (e : Emission). e.steps) c.reserve.ensures ∙ c.begin-emitter.ensures.steps in
    let start = standing c.args.operator.now c.reserve.new.self c.begin.new.self in
    rw c.finish-2.ensures (record {
      rows = c.flush.ensures.rows ∙ whole-rows _ _ start begun none zero _ _ _ c.in-Ok-fill.ensures.does.adds;
      steps = c.flush.ensures.steps ∙ whole-costs _ _ start begun none zero _ _ _ c.in-Ok-fill.ensures.does.adds;
      spent = tt;
    })
