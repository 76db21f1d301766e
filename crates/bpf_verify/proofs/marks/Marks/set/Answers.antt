use Rattle.std.proofs.Common.{arith, rules, ◌≡◌, length}
use Rattle.bpf_verify.proofs.Bits.{marked_set}
use Rattle.bpf_verify.proofs.marks.Marks.set.Goals as goal

pub returns : goal.returns
returns c = λ other.
    let long : length c.args.self.now.words ≡ 8 = search rules in
    marked_set c.args.self.now.words c.args.byte other _ (omega (arith, c.requires, long)) (search rules)
