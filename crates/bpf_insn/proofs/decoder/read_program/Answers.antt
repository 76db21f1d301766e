use Rattle.std.proofs.Common.{◌≡◌, ◌∙◌, ◌*◌, ◌++◌, ◌∷◌, [], sym, subst, arith, ap, drop, length}
use Rattle.std.proofs.Common.{length-append}
use Rattle.bpf_insn.specs.Program.{slots_of}
use Rattle.bpf_insn.specs.Code.{Spells}
use Rattle.bpf_insn.proofs.Cutting.{IsCut-more, IsCut-end, kept-room, kept-more, kept-back, kept-laid}
use Rattle.bpf_insn.proofs.Layouts.{slot_count-one}
use Rattle.bpf_insn.proofs.decoder.read_program.Goals as goal

pub with_cells-cells-requires : goal.with_cells-cells-requires
with_cells-cells-requires c =
    let before = c.loop-rest.invariant.before in
    let i = c.in-Ok.insn in
    let whole = c.in-Ok.ensures.ok.whole in
    kept-room c.loop-rest.cells before i (length c.args.code.now) c.loop-rest.invariant.kept (omega arith)

pub loop-rest-preserved : goal.loop-rest-preserved
loop-rest-preserved c =
    let i = c.in-Ok.insn in
    let rest = c.loop-rest.rest.now in
    let before = c.loop-rest.invariant.before in
    let after : c.split_at.result.1.now ≡ drop (8 * slots_of i) rest = c.split_at.ensures.back ∙ ap (λ n. drop (8 * n) rest) c.slots-slots.ensures.count in
    record {
      before = before ++ i ∷ [];
      cut = rw after (IsCut-more c.args.code.now before rest i c.loop-rest.invariant.cut c.in-Ok.ensures.ok);
      place = omega (arith, slot_count-one before i);
      count = omega (arith, length-append before (i ∷ []), c.loop-rest.invariant.count);
      few = grind arith;
      whole = omega (arith, c.split_at.ensures.back_len);
      left = omega (arith, c.split_at.ensures.back_len);
      kept = kept-more c.loop-rest.cells c.with_cells-cells.result before i (length c.args.code.now) c.with_cells-cells.ensures.some c.with_cells-cells.ensures.more c.loop-rest.invariant.kept;
    }

pub from_cells-requires-clause-laid : goal.from_cells-requires-clause-laid
from_cells-requires-clause-laid c =
    let before = c.loop-rest.invariant.before in
    let spelled = IsCut-end c.args.code.now before c.loop-rest.rest.now c.loop-rest.invariant.cut (grind arith) c.requires.length in
    kept-laid c.loop-rest.cells c.in-Some.cells before (length c.args.code.now) c.loop-rest.invariant.kept c.in-Some.is spelled.program

pub from_cells-requires-clause-len : goal.from_cells-requires-clause-len
from_cells-requires-clause-len c =
    let back = kept-back c.loop-rest.cells c.in-Some.cells c.loop-rest.invariant.before (length c.args.code.now) c.loop-rest.invariant.kept c.in-Some.is in
    sym c.loop-rest.invariant.count ∙ ap length (sym back)

pub returns-in-Some-clause-ok : goal.returns-in-Some-clause-ok
returns-in-Some-clause-ok c =
    let before = c.loop-rest.invariant.before in
    let back = kept-back c.loop-rest.cells c.in-Some.cells before (length c.args.code.now) c.loop-rest.invariant.kept c.in-Some.is in
    let spelled = IsCut-end c.args.code.now before c.loop-rest.rest.now c.loop-rest.invariant.cut (grind arith) c.requires.length in
    subst (Spells c.args.code.now) (sym (c.from_cells.ensures.insns ∙ back)) spelled
