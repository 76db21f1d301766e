use Rattle.std.proofs.Common.{ap, ◌∙◌, nat_eq}
use Rattle.std.specs.Map.{lookup}
use Rattle.csr_store.proofs.ByRow.{lookup-row_of, row_ascends}
use Rattle.csr_store.proofs.matrix.Matrix.get.Goals as goal

pub value_at-requires : goal.value_at-requires
value_at-requires c = rw c.row.ensures (row_ascends c.args.self.now c.args.i)

pub returns-then-i-self : goal.returns-then-i-self
returns-then-i-self c = c.value_at.ensures ∙ (ap (lookup (nat_eq c.args.j)) c.row.ensures ∙ lookup-row_of c.args.self.now c.args.i c.args.j)
