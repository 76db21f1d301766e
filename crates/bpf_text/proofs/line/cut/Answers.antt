use Rattle.std.proofs.Common.{◌∷◌, ◌∙◌, ◌+◌, sym, ap, arith, take}
use Rattle.std.specs.List.{slice_split}
use Rattle.bpf_text.specs.inner.Cuts.{separates}
use Rattle.bpf_text.proofs.Cuts.{front_at, behind_at, parts_at, front_none, behind_none, parts_none, rest_behind}
use Rattle.bpf_text.proofs.line.cut.Goals as goal

pub returns-then-is : goal.returns-then-is
returns-then-is c =
    let p = separates c.args.at in
    let text = c.args.text.now in
    let i = c.loop-i.i in
    let here = sym c.is.ensures ∙ c.if-is.true in
    let rest = rest_behind text (i + 1) in
    record {
      front = sym (front_at p text i (omega arith) c.loop-i.invariant here);
      behind = rest ∙ sym (behind_at p text i (omega arith) c.loop-i.invariant here);
      parts = parts_at p text i (omega arith) c.loop-i.invariant here ∙ ap (λ r. take i text ∷ slice_split p r) (sym rest);
    }

pub returns : goal.returns
returns c =
    let p = separates c.args.at in
    let text = c.args.text.now in
    record {
      front = sym (front_none p text (λ k l. c.loop-i.invariant k (omega arith)));
      behind = behind_none p text (λ k l. c.loop-i.invariant k (omega arith));
      parts = parts_none p text (λ k l. c.loop-i.invariant k (omega arith));
    }
