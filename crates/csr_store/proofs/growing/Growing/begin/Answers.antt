use Rattle.csr_store.proofs.Alike.{first_start}
use Rattle.csr_store.proofs.growing.Growing.begin.Goals as goal

pub returns : goal.returns
returns c = first_start c.args.like.now
