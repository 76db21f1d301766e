use Rattle.std.proofs.lemmas.Bool.{false≢true}
use Rattle.std.proofs.Common.{◌≡◌, ◌≢◌, ◌∙◌, [], List, sym, subst, arith}
use Rattle.bpf_insn.specs.declared.insn.Insn.{Insn}
use Rattle.bpf_text.specs.Text.{IsTextOf}
use Rattle.bpf_text.proofs.Assembling.{progress_none, progress_more, progress_fault, progress_empty, progress_all}
use Rattle.bpf_text.proofs.OneReading.{one_reading}
use Rattle.bpf_text.proofs.assembler.assemble.Goals as goal

pub loop-first-init : goal.loop-first-init
loop-first-init c = record {
  progress = progress_none c.args.text.now c.new-listing.result c.new-listing.ensures;
  room = omega arith;
}

pub loop-first-preserved : goal.loop-first-preserved
loop-first-preserved c =
    let p = c.loop-first.invariant.progress in
    record {
      progress = progress_more c.args.text.now c.loop-first.rest.now c.in-Some.first.now c.in-Some.behind.now c.loop-first.line c.loop-first.listing c.read.new.self
          p c.in-Some.ensures.lines (c.in_default-read.ensures p.insns p.lists);
      room = let shorter = c.in-Some.ensures.shorter in omega arith;
    }

pub returns-in-Err-clause-err : goal.returns-in-Err-clause-err
returns-in-Err-clause-err c =
    let p = c.loop-first.invariant.progress in
    progress_fault c.args.text.now c.loop-first.rest.now c.in-Some.first.now c.in-Some.behind.now c.loop-first.line c.loop-first.listing c.in-Err.rule
    p c.in-Some.ensures.lines (c.in-Err.ensures p.insns p.lists)

pub returns-in-Err-clause-exact : goal.returns-in-Err-clause-exact
returns-in-Err-clause-exact c = λ q t.
    let p = c.loop-first.invariant.progress in
    let reading = one_reading c.args.text.now in
    absurd (reading.no_fault q _ t (progress_fault c.args.text.now c.loop-first.rest.now c.in-Some.first.now c.in-Some.behind.now c.loop-first.line c.loop-first.listing c.in-Err.rule
    p c.in-Some.ensures.lines (c.in-Err.ensures p.insns p.lists)))

pub returns-then-is_empty-clause-err : goal.returns-then-is_empty-clause-err
returns-then-is_empty-clause-err c =
    let p = c.loop-first.invariant.progress in
    progress_empty c.args.text.now c.loop-first.rest.now c.loop-first.line c.loop-first.listing p c.in_default.ensures.lines ((c.is_empty.ensures p.insns p.lists).0 c.if-is_empty.true)

pub returns-then-is_empty-clause-exact : goal.returns-then-is_empty-clause-exact
returns-then-is_empty-clause-exact c = λ q t.
    let p = c.loop-first.invariant.progress in
    let reading = one_reading c.args.text.now in
    absurd (reading.no_fault q _ t (progress_empty c.args.text.now c.loop-first.rest.now c.loop-first.line c.loop-first.listing p c.in_default.ensures.lines
    ((c.is_empty.ensures p.insns p.lists).0 c.if-is_empty.true)))

pub returns-in_default-insns-clause-err : goal.returns-in_default-insns-clause-err
returns-in_default-insns-clause-err c =
    let p = c.loop-first.invariant.progress in
    let some : p.insns ≢ [] = λ e. false≢true (sym c.if-is_empty.false ∙ (c.is_empty.ensures p.insns p.lists).1 e) in
    (p.insns, progress_all c.args.text.now c.loop-first.rest.now c.loop-first.line c.loop-first.listing p c.in_default.ensures.lines some)

pub returns-in-Ok-clause-ok : goal.returns-in-Ok-clause-ok
returns-in-Ok-clause-ok c =
    let p = c.loop-first.invariant.progress in
    let some : p.insns ≢ [] = λ e. false≢true (sym c.if-is_empty.false ∙ (c.is_empty.ensures p.insns p.lists).1 e) in
    let whole = progress_all c.args.text.now c.loop-first.rest.now c.loop-first.line c.loop-first.listing p c.in_default.ensures.lines some in
    let same : c.in-Ok.program ≡ p.insns = c.in-Ok.ensures.ok.0 ∙ c.in-Some-insns.ensures p.insns p.lists in
    subst (λ (is : List Insn). IsTextOf c.args.text.now is) (sym same) whole

pub returns-in-Ok-clause-exact : goal.returns-in-Ok-clause-exact
returns-in-Ok-clause-exact c = λ q t.
    let p = c.loop-first.invariant.progress in
    let some : p.insns ≢ [] = λ e. false≢true (sym c.if-is_empty.false ∙ (c.is_empty.ensures p.insns p.lists).1 e) in
    let whole = progress_all c.args.text.now c.loop-first.rest.now c.loop-first.line c.loop-first.listing p c.in_default.ensures.lines some in
    let same : c.in-Ok.program ≡ p.insns = c.in-Ok.ensures.ok.0 ∙ c.in-Some-insns.ensures p.insns p.lists in
    let reading = one_reading c.args.text.now in
    same ∙ reading.one_program p.insns q whole t

pub returns-in-Err-from_insns-clause-err : goal.returns-in-Err-from_insns-clause-err
returns-in-Err-from_insns-clause-err c =
    let p = c.loop-first.invariant.progress in
    let some : p.insns ≢ [] = λ e. false≢true (sym c.if-is_empty.false ∙ (c.is_empty.ensures p.insns p.lists).1 e) in
    (p.insns, progress_all c.args.text.now c.loop-first.rest.now c.loop-first.line c.loop-first.listing p c.in_default.ensures.lines some)
