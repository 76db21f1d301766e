use Rattle.matrix_market.proofs.Unique.{only_matrix}
use Rattle.matrix_market.proofs.reader.read.Goals as goal

pub returns-clause-only : goal.returns-clause-only
returns-clause-only c = only_matrix c.args.text.now c.read_text.result c.read_text.ensures.ok
