use Rattle.std.proofs.Common.{rules, [], ◌∷◌, inl, inr, refl, ap}
use Rattle.step_purse.specs.declared.dealings.Dealing.TheVariants.{Observed, Reserved}
use Rattle.step_purse.specs.declared.dealings.Reply.TheVariants.{NotEnough}
use Rattle.metered_session.proofs.meter.MeterSteps.reserve.Goals as goal

-- a reservation beyond the limits is one look at the totals
pub returns-then-allowed-amount-clause-dealt : goal.returns-then-allowed-amount-clause-dealt
returns-then-allowed-amount-clause-dealt g c = record {
  calls = Observed c.totals-totals.result ∷ [];
  stands = inr (search rules, (c.totals-totals.result, refl, ap NotEnough (search rules)));
  drawn = (c.totals-totals.new.self, search rules, refl);
  counted = search rules;
  limits = search rules;
  within = search rules;
}

-- one within them is the pass's own
pub returns-clause-dealt : goal.returns-clause-dealt
returns-clause-dealt g c = record {
  calls = Reserved c.args.amount c.reserve-reply.result ∷ [];
  stands = inl (search rules, refl);
  drawn = (c.reserve-reply.new.self, search rules, refl);
  counted = search rules;
  limits = search rules;
  within = search rules;
}
