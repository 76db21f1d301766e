use Rattle.std.proofs.Common.{◌+◌, ◌<◌, ◌^◌, ◌++◌, List, ℕ, map, replicate, sym, ap, ◌∙◌, subst}
use Rattle.std.specs.List.{AllByRecursion}
use Rattle.std.proofs.lemmas.Result.{on_ok_weaker}
use Rattle.csr_store.specs.inner.Moved.{moved}
use Rattle.csr_store.proofs.BlankEnds.{all_last, blank_and_listed, filled_up}
use Rattle.csr_store.proofs.Moved.{moved_on}
use Rattle.csr_store.proofs.ends.RowEnds.add_to.Goals as goal

pub returns : goal.returns
returns c =
    let old = c.args.starts.now.items in
    let blank = replicate c.self.inside.blank c.args.base in
    let listed = c.self.inside.listed.items in
    let fit = all_last (λ e. c.args.base + e < 2 ^ 64) (replicate c.self.inside.blank 0) listed
    (subst (AllByRecursion (λ e. c.args.base + e < 2 ^ 64)) (sym c.self.view_is) c.requires) in
    let mid = filled_up c.args.base c.self.inside.blank c.len.result c.args.starts.now.len old c.resize.new.self.items
    c.len.ensures c.args.starts.now.ok.0 c.in_ok-resize.ensures.items in
    on_ok_weaker c.push_moved.result
    (λ n. n ∙ (ap (λ (xs : List ℕ). xs ++ map (moved c.args.base) c.deref.result.now) mid
    ∙ (ap (λ (xs : List ℕ). (old ++ blank) ++ map (moved c.args.base) xs) c.deref.ensures.value
    ∙ (ap (λ (xs : List ℕ). (old ++ blank) ++ xs) (moved_on c.args.base listed fit)
    ∙ blank_and_listed c.args.base c.self.inside.blank old listed c.args.self.now c.self.view_is))))
    c.push_moved.ensures
