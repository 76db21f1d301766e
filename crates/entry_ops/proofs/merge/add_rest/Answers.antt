use Rattle.std.proofs.Common.{◌≡◌, [], ap, sym, append-nil}
use Rattle.entry_ops.specs.inner.Placing.{Emission}
use Rattle.entry_ops.specs.inner.Standing.{with_cells}
use Rattle.entry_ops.proofs.merge.add_rest.Goals as goal

nothing : (e : Emission) → e ≡ record e { rows = with_cells [] e.rows }
nothing e = ap (λ os. record e { rows = record e.rows { opened = os } }) (sym (append-nil e.rows.opened))

pub returns-in-Both-clause-copied : goal.returns-in-Both-clause-copied
returns-in-Both-clause-copied c = rw c.in-Both.is (nothing c.args.emitter.now)

pub returns-in-Apply-clause-copied : goal.returns-in-Apply-clause-copied
returns-in-Apply-clause-copied c = rw c.in-Apply.is (nothing c.args.emitter.now)
