use Rattle.std.proofs.Common.{◌+◌, drop, refl, ap, sym, ◌∙◌, subst, arith}
use Rattle.std.proofs.lemmas.List.{drop_all}
use Rattle.csr_store.specs.Valued.{all_cells}
use Rattle.csr_store.proofs.Valuing.{entries_are, alike_entries}
use Rattle.bpf_run.specs.Calls.{words_of}
use Rattle.entry_ops.proofs.Mapped.{
  mapping-start,
  mapping-end,
  IsMapping,
  words-entries,
  words-room,
  words-made,
  words-count,
  length_words,
}
use Rattle.entry_ops.proofs.mapping.Mapping.add_words.Goals as goal

pub loop-self-init : goal.loop-self-init
loop-self-init c =
    let z = c.requires.capacity.0 in
    let w = length_words (all_cells c.args.self.now.rows.run) in
    let e = entries_are c.args.self.now.rows.run in
    record {
      kind = c.requires.waits.begun;
      none = c.requires.waits.none;
      mapping = subst (λ os. IsMapping c.args.operator.now (words_of (all_cells c.args.self.now.rows.run)) c.args.self.now os
          c.args.self.now)
          (sym (ap (λ k. words_of (drop k (all_cells c.args.self.now.rows.run))) z))
          (mapping-start c.args.operator.now (words_of (all_cells c.args.self.now.rows.run)) c.args.self.now
          (omega (arith, z, w, e)) c.requires.capacity.1);
      many = refl;
    }

pub make_on_words-requires-clause-few : goal.make_on_words-requires-clause-few
make_on_words-requires-clause-few c =
    let s = c.loop-self.invariant.many in
    let m = c.min-many.ensures in let a = c.entries-entries.ensures in let w = c.written-in-loop-self.ensures in let u =
    c.written.ensures in let t = c.loop-self-test.true in
    (omega (arith, m), omega (arith, s, m, a, w, u, t))

pub make_on_words-requires-clause-capacity : goal.make_on_words-requires-clause-capacity
make_on_words-requires-clause-capacity c =
    let s = c.loop-self.invariant.many in
    let m = c.min-many.ensures in let a = c.entries-entries.ensures in let w = c.written-in-loop-self.ensures in let u =
    c.written.ensures in let t = c.loop-self-test.true in
    record {
      entries = words-entries c.args.operator.now _ _ c.loop-self.self (c.loop-self.self.rows.written + c.min-many.result)
          _ _ c.loop-self.invariant.mapping (omega arith) (omega (arith, s, m, a, w, u, t)) refl refl;
      steps = words-room c.args.operator.now _ _ c.loop-self.self (c.loop-self.self.rows.written + c.min-many.result)
          _ _ c.loop-self.invariant.mapping (omega arith) (omega (arith, s, m, a, w, u, t)) refl refl;
    }

pub loop-self-preserved : goal.loop-self-preserved
loop-self-preserved c =
    let s = c.loop-self.invariant.many in
    let m = c.min-many.ensures in let a = c.entries-entries.ensures in let w = c.written-in-loop-self.ensures in let u =
    c.written.ensures in let t = c.loop-self-test.true in
    record {
      kind = c.make_on_words.ensures.waits.begun;
      none = c.make_on_words.ensures.waits.none;
      mapping = words-made c.args.operator.now _ _ c.loop-self.self (c.loop-self.self.rows.written + c.min-many.result)
          _ _ c.loop-self.invariant.mapping (omega arith) (omega (arith, s, m, a, w, u, t)) refl refl
          c.make_on_words.new.self c.make_on_words.ensures.further;
      many = sym (alike_entries c.loop-self.self.rows.run c.make_on_words.new.self.rows.run c.make_on_words.ensures.further.alike) ∙ s;
    }

pub loop-self-smaller : goal.loop-self-smaller
loop-self-smaller c =
    let s = c.loop-self.invariant.many in
    let m = c.min-many.ensures in let a = c.entries-entries.ensures in let w = c.written-in-loop-self.ensures in let u =
    c.written.ensures in let t = c.loop-self-test.true in
    let n = words-count c.args.operator.now _ _ c.loop-self.self (c.loop-self.self.rows.written + c.min-many.result)
    _ _ c.loop-self.invariant.mapping (omega arith) (omega (arith, s, m, a, w, u, t)) refl refl in
    let d = c.make_on_words.ensures.further.number in
    omega (arith, n, d, m, w, u, t, a, s)

pub returns : goal.returns
returns c =
    let s = c.loop-self.invariant.many in let t = c.loop-self-test.false in let a = c.entries-entries.ensures in let u =
    c.written.ensures in
    let e = entries_are c.loop-self.self.rows.run in
    mapping-end c.args.operator.now _ _ _ _ c.loop-self.invariant.mapping
    (ap words_of (drop_all c.loop-self.self.rows.written (all_cells c.loop-self.self.rows.run) (omega (arith, s, t, a, e, u))))
