use Rattle.bpf_insn.proofs.OneReading.{spelled-length, read_exact}
use Rattle.bpf_insn.proofs.decoder.decode.Goals as goal

pub returns-then-has_bad_length-clause-exact : goal.returns-then-has_bad_length-clause-exact
returns-then-has_bad_length-clause-exact c = λ p s. let good = spelled-length c.args.code.now p s in cc

pub returns-clause-exact : goal.returns-clause-exact
returns-clause-exact c =
    λ p s. read_exact c.args.code.now p c.read_program.result s c.read_program.ensures.ok c.read_program.ensures.err
