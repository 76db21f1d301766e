use Rattle.bpf_run.proofs.Charging.{charges-none}
use Rattle.job_forms.proofs.region.Chunk.refused.Goals as goal

pub returns : goal.returns
returns c = λ run calls. record { rows = tt; steps = tt; spent = charges-none calls 0 }
