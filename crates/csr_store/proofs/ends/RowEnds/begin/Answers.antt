use Rattle.std.proofs.Common.{◌+◌, ◌<◌, ◌^◌, ◌++◌, List, ℕ, replicate, sym, ap, ◌∙◌, subst}
use Rattle.std.specs.List.{AllByRecursion}
use Rattle.csr_store.proofs.BlankEnds.{all_last}
use Rattle.csr_store.proofs.Alike.{begins}
use Rattle.csr_store.proofs.ends.RowEnds.begin.Goals as goal

pub are_ahead-requires-clause-fit : goal.are_ahead-requires-clause-fit
are_ahead-requires-clause-fit c =
    all_last (λ e. c.args.base + e < 2 ^ 64) (replicate c.self.inside.blank 0) c.deref.result.now
    (subst (AllByRecursion (λ e. c.args.base + e < 2 ^ 64))
    (sym (ap (λ (xs : List ℕ). replicate c.self.inside.blank 0 ++ xs) c.deref.ensures.value ∙ c.self.view_is)) c.requires.fit)

pub returns-then-are_all-clause-alike : goal.returns-then-are_all-clause-alike
returns-then-are_all-clause-alike c =
    λ t. begins c.args.base c.self.inside.blank c.deref.result.now c.args.self.now c.args.starts.now c.split_at.result.0.now c.split_at.result.1.now
    (ap (λ (xs : List ℕ). replicate c.self.inside.blank 0 ++ xs) c.deref.ensures.value ∙ c.self.view_is)
    c.split_at.ensures.front c.split_at.ensures.back (c.are_all.ensures c.if-are_all.true) c.split_at.ensures.front_len (c.are_ahead.ensures t)
