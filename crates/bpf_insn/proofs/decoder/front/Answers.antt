use Rattle.bpf_insn.proofs.Front.{begins}
use Rattle.bpf_insn.proofs.decoder.front.Goals as goal

pub returns-in-Err-clause-err : goal.returns-in-Err-clause-err
returns-in-Err-clause-err c = record { slot = c.read-slot.result; fits = c.read-slot.ensures.fits; read = c.read-slot.ensures.bytes; fault = c.in-Err.ensures.lowest c.args.bytes.now }

pub returns-in-Ok-clause-ok : goal.returns-in-Ok-clause-ok
returns-in-Ok-clause-ok c = begins c.args.bytes.now c.insn_of.result c.read-slot.result c.read-slot.ensures.bytes c.insn_of.ensures.spelled c.insn_of.ensures.one c.insn_of.ensures.fits c.requires.some
