use Rattle.csr_store.proofs.Collecting.{collected_none}
use Rattle.csr_store.proofs.builder.Builder.new.Goals as goal

pub invariant_of-result : goal.invariant_of-result
invariant_of-result c = collected_none c.new.result c.new-2.result.entries c.args.rows c.args.columns c.requires.rows c.requires.columns c.new.ensures c.new-2.ensures.empty
