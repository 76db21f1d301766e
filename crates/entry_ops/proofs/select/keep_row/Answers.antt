use Rattle.std.proofs.Common.{◌∷◌, [], None, Some, refl, sym, ap, subst, rules}
use Rattle.bpf_insn.specs.declared.operands.Operands.{Operands}
use Rattle.bpf_run.specs.Meaning.{value_of}
use Rattle.bpf_run.specs.Calls.{call_of}
use Rattle.entry_ops.specs.inner.Forms.{Select}
use Rattle.entry_ops.specs.inner.SelectBuffer.{standing, with_kept}
use Rattle.entry_ops.specs.inner.Standing.{Adds}
use Rattle.entry_ops.proofs.Filling.{row_ascends, same_cells, same_calls}
use Rattle.entry_ops.proofs.OperandReader.{adds-kept}
use Rattle.entry_ops.proofs.Nexts.{none_left}
use Rattle.entry_ops.proofs.Masks.{masking-start, masking-fits, masking-step, masking-end}
use Rattle.entry_ops.proofs.Merging.{adds-none}
use Rattle.entry_ops.proofs.Standing.{on_err, completes-room, completes-stop}
use Rattle.entry_ops.proofs.select.keep_row.Goals as goal

pub loop-shown-init : goal.loop-shown-init
loop-shown-init c =
    let a = c.args.masked.a.now in
    let mask = c.args.masked.mask.now in
    let left = c.row.result.now in
    let masks = c.row-masks.result.now in rw c.new-cells.ensures (
      c.requires.ready.holds,
      masking-start _ _ _ _ _ _ _ left [] masks
          (row_ascends a c.args.row a.columns left c.recall.ensures refl c.row.ensures) tt
          (row_ascends mask c.args.row a.columns masks c.recall-2.ensures c.requires.row.0.1 c.row-masks.ensures)
          (sym (same_cells (Select c.args.thunk) c.args.operator.now a None (Some mask) c.args.row _ _ left [] (Some masks) refl
          refl c.row.ensures refl (ap Some c.row-masks.ensures)))
          (sym (same_calls (Select c.args.thunk) c.args.operator.now a None (Some mask) c.args.row _ _ left [] (Some masks) refl
          refl c.row.ensures refl (ap Some c.row-masks.ensures)))
          c.requires.ready.open_row,
    )

pub keep-requires-clause-can : goal.keep-requires-clause-can
keep-requires-clause-can c = record {
  holds = c.loop-shown.invariant.0;
  fits = masking-fits _ _ _ _ _ _ _ _ _ _ _ c.loop-shown.invariant.1 _ _ c.in-Some.ensures.cases.0;
  capacity = completes-room _ _ _ _ _ _ c.loop-shown.invariant.1.completes c.requires.ready.capacity;
}

pub returns-in_err-keep : goal.returns-in_err-keep
returns-in_err-keep c = record {
  does = search rules;
  spent = on_err c.from_residual.result (completes-stop _ _ _ _ _ _ c.loop-shown.invariant.1.completes _
      c.in_err-keep.ensures.spent);
}

pub loop-shown-preserved-in_ok-keep : goal.loop-shown-preserved-in_ok-keep
loop-shown-preserved-in_ok-keep c =
    let f = c.args.operator.now in
    let column = c.in-Some.shown.now.0 in
    let word = c.in-Some-word_at.word in
    let d = c.in_ok-keep.ensures.does in
    let l = c.advance_to.ensures c.args.masked.a.now.columns c.loop-shown.invariant.1.left_row in
    let added = subst (λ (o : Operands). Adds (call_of f o ∷ []) (with_kept column word (value_of f o))
    (standing f c.loop-shown.sieve c.loop-shown.calls)
    (standing f c.keep.new.self c.keep.new.calls)) c.operands_of-operands.ensures d.adds in (
      d.holds,
      masking-step _ _ _ _ _ _ _ _ _ _ _ c.loop-shown.invariant.1 _ _ c.in-Some.ensures.cases.0 _ _ l
          (c.loop-shown.invariant.1.right_row, λ j b. refl) _ _
          (c.in-Some-word_at.ensures c.args.masked.a.now.columns l.0) refl _ (adds-kept _ column word _ _ _ added),
    )

pub loop-shown-preserved : goal.loop-shown-preserved
loop-shown-preserved c =
    let l = c.advance_to.ensures c.args.masked.a.now.columns c.loop-shown.invariant.1.left_row in (
      c.loop-shown.invariant.0,
      masking-step _ _ _ _ _ _ _ _ _ _ _ c.loop-shown.invariant.1 _ _ c.in-Some.ensures.cases.0 _ _ l
          (c.loop-shown.invariant.1.right_row, λ j b. refl) _
          None (c.in_default-word_at.ensures c.args.masked.a.now.columns l.0) refl _ (adds-none _),
    )

pub returns : goal.returns
returns c = record {
  does = record {
    holds = c.loop-shown.invariant.0;
    adds = masking-end _ _ _ _ _ _ _ _ _ _ _ c.loop-shown.invariant.1 (none_left _ c.in_default.ensures.cases);
  };
  spent = tt;
}
