use Rattle.std.proofs.Common.{◌≡◌}
use Rattle.crossbeam_utils.specs.Seq.{cell_view}
use Rattle.step_purse.specs.Seats.{IsSeatOf}
use Rattle.step_purse.specs.inner.Rule.{words_of}
use Rattle.step_purse.proofs.account.Account.settle.Given as goal

abbrev pub invariant-loop : goal.invariant-loop
invariant-loop g l = IsSeatOf l.self l.seat × ((cell_view l.seat).known ≡ (cell_view l.initial.seat).known)

abbrev pub ghosts-exchange : goal.ghosts-exchange
ghosts-exchange g a = record { expected = words_of a.self.now.allowance a.now; call = a.call }
