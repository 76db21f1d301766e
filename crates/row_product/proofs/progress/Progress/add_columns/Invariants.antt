use Rattle.std.proofs.Common.{◌≡◌, length}
use Rattle.row_product.specs.inner.Progress.{IsReady, stands}
use Rattle.row_product.specs.inner.Sums.{takes}
use Rattle.row_product.proofs.StandIn.{IsPassing}
use Rattle.row_product.proofs.progress.Progress.add_columns.Given as goal

abbrev pub invariant-loop-rest : goal.invariant-loop-rest
invariant-loop-rest g l = record {
  passing : IsPassing l.factors l.term.x l.term.word (takes l.masked l.fn.self.allowed.items) (stands l.fn.self) l.columns l.rest
      (stands l.self) l.steps;
  ready : IsReady l.factors.b.now.columns l.self;
  allowed : l.self.allowed ≡ l.fn.self.allowed;
}

abbrev pub decreases-loop-rest : goal.decreases-loop-rest
decreases-loop-rest g l = length l.rest
