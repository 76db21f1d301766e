use Rattle.std.proofs.Common.{◌-◌, ◌∙◌, None, Some, ap, arith, rules}
use Rattle.std.proofs.lemmas.Result.{on_ok_weaker, on_err_weaker}
use Rattle.csr_store.specs.Run.{Run}
use Rattle.bpf_run.specs.Calls.{calls_on}
use Rattle.entry_ops.specs.inner.Forms.{Select}
use Rattle.entry_ops.specs.inner.Walking.{form_all_calls}
use Rattle.entry_ops.specs.inner.SelectBuffer.{SelectState, final, standing}
use Rattle.entry_ops.proofs.Standing.{empty_run}
use Rattle.entry_ops.proofs.Regions.{begin-room, begin-stop, whole-rows, whole-costs, whole-spent, told_is}
use Rattle.entry_ops.proofs.select.sift_region.Goals as goal

pub returns-in-Err : goal.returns-in-Err
returns-in-Err c = c.refused.ensures _ _

pub keep_rows-requires-clause-ready : goal.keep_rows-requires-clause-ready
keep_rows-requires-clause-ready c =
    let begun = ap (λ (e : SelectState). final c.args.operator.now e c.begin-2.new.self) c.in-Ok.ensures in
    record {
      holds = search rules;
      open_row = record {
        columns_are = ap (λ (r : Run). r.columns) begun ∙ c.columns.ensures.columns;
        none = ap
            (λ (r : Run). r.opened) begun;
      };
      capacity = begin-room c.args.operator.now (Select c.args.thunk) c.args.masked.a.now None
          (Some c.args.masked.mask.now) c.args.range.start c.args.range.end
          (standing c.args.operator.now c.in-Ok.sieve c.begin-2.new.self) (ap (λ (e : SelectState). e.steps) c.in-Ok.ensures)
          (ap (calls_on c.args.operator.now) c.begin-2.ensures.none) c.recall.ensures c.requires.kind
          c.columns.ensures.is_grid c.requires.rows.within;
    }

pub returns-in-Err-keep_rows : goal.returns-in-Err-keep_rows
returns-in-Err-keep_rows c =
    let all = form_all_calls (Select c.args.thunk) c.args.operator.now c.args.masked.a.now None (Some c.args.masked.mask.now)
    c.args.range.start (c.args.range.end - c.args.range.start) in
    rw c.finish.ensures (record {
      rows = tt;
      steps = tt;
      spent = begin-stop _ _ (standing c.args.operator.now c.in-Ok.sieve c.begin-2.new.self)
          (ap (λ (e : SelectState). final c.args.operator.now e c.begin-2.new.self) c.in-Ok.ensures)
          (ap (calls_on c.args.operator.now) c.begin-2.ensures.none) (ap (λ (e : SelectState). e.steps) c.in-Ok.ensures) all _
          c.in-Err-keep_rows.ensures.spent;
    })

pub flush-flushed-requires-clause-capacity : goal.flush-flushed-requires-clause-capacity
flush-flushed-requires-clause-capacity c =
    let capacity = begin-room c.args.operator.now (Select c.args.thunk) c.args.masked.a.now None
    (Some c.args.masked.mask.now) c.args.range.start c.args.range.end
    (standing c.args.operator.now c.in-Ok.sieve c.begin-2.new.self) (ap (λ (e : SelectState). e.steps) c.in-Ok.ensures)
    (ap (calls_on c.args.operator.now) c.begin-2.ensures.none) c.recall.ensures c.requires.kind
    c.columns.ensures.is_grid c.requires.rows.within in
    let costs = whole-costs _ _ (standing c.args.operator.now c.in-Ok.sieve c.begin-2.new.self)
    (ap (λ (e : SelectState). final c.args.operator.now e c.begin-2.new.self) c.in-Ok.ensures)
    (ap (calls_on c.args.operator.now) c.begin-2.ensures.none) (ap (λ (e : SelectState). e.steps) c.in-Ok.ensures) _ _ _
    c.in-Ok-keep_rows.ensures.does.adds in
    omega (arith, capacity, costs)

pub returns : goal.returns
returns c =
    let begun = ap (λ (e : SelectState). final c.args.operator.now e c.begin-2.new.self) c.in-Ok.ensures
    ∙ ap (empty_run c.args.range.start) c.columns.ensures.columns in
    let none = ap (calls_on c.args.operator.now) c.begin-2.ensures.none in
    let zero = ap (λ (e : SelectState). e.steps) c.in-Ok.ensures in
    let start = standing c.args.operator.now c.in-Ok.sieve c.begin-2.new.self in
    let costs = whole-costs _ _ start begun none zero _ _ _ c.in-Ok-keep_rows.ensures.does.adds in
    let rows = whole-rows _ _ start begun none zero _ _ _ c.in-Ok-keep_rows.ensures.does.adds in
    told_is c.flush-flushed.result _ _ _ _ c.finish-2.ensures
    (on_ok_weaker c.flush-flushed.result (λ m. ap (λ (e : SelectState). e.rows) m.state ∙ rows) c.flush-flushed.ensures.flushed)
    (on_ok_weaker c.flush-flushed.result (λ m. ap (λ (e : SelectState). e.steps) m.state ∙ costs) c.flush-flushed.ensures.flushed)
    (on_err_weaker c.flush-flushed.result
    (λ e. whole-spent _ _ start begun none zero _ _ _ c.in-Ok-keep_rows.ensures.does.adds _ e) c.flush-flushed.ensures.spent)
