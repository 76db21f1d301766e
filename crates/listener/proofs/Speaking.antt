-- A session over devices that were made for it.
use Rattle.std.proofs.Common.{ℕ, ◌≡◌, List, Option, Result, false, subst}
use Rattle.wire.specs.Devices.{SourceState, SinkState}
use Rattle.step_purse.specs.Passes.{PurseState, PassState, IsPassOf}
use Rattle.session.specs.Sessions.{full_session}
use Rattle.session.specs.Talk.{Outcome}
use Rattle.session.specs.declared.end.End.{End}
use Rattle.session.specs.declared.end.ServeFault.{ServeFault}
use Rattle.metered_session.specs.Limits.{Metered, Meters, IsWithin}
use Rattle.listener.specs.declared.server.ServerTerms.{ServerTerms}
use Rattle.listener.specs.inner.Speaking.{IsServedOver, beginning}

module _ (purse : PurseState) (pass : PassState) (terms : ServerTerms) (left : PassState) (outcome : Result End ServeFault) (spent : ℕ) where
  abbrev first : Metered
  first = beginning pass terms.limits

  abbrev last : Metered
  last = record { pass = left; spent = spent; limits = terms.limits }

  -- a session over a source and a sink of which nothing was asked before
  pub served_over : (remaining contents : Option (List ℕ)) (src src' : SourceState) (snk snk' : SinkState)
      → src ≡ record { remaining = remaining; reads = 0; failures = 0; told_end = false }
      → snk ≡ record { contents = contents; writes = 0; failures = 0 }
      → Outcome Meters (full_session terms.workers) (record { budget = first; source = src; sink = snk })
      (record { budget = last; source = src'; sink = snk' }) outcome
      → IsPassOf purse left → left.known.owes ≡ pass.known.owes → IsWithin last
      → IsServedOver purse pass terms remaining contents left outcome spent
  served_over remaining contents src src' snk snk' source sink said own owed within = record {
    source = src';
    sink = snk';
    said =
        subst (λ (s : SourceState). Outcome Meters (full_session terms.workers)
        (record { budget = first; source = s; sink = record { contents = contents; writes = 0; failures = 0 } })
        (record { budget = last; source = src'; sink = snk' }) outcome) source
        (subst (λ (k : SinkState). Outcome Meters (full_session terms.workers) (record { budget = first; source = src; sink = k })
        (record { budget = last; source = src'; sink = snk' }) outcome) sink said);
    own = own;
    owed = owed;
    within = within;
  }
