use Rattle.std.proofs.Common.{◌≡◌, ◌++◌, ℕ, List, length, length-take-le, take, not, refl, subst, sym, ap, ◌∙◌, arith}
use Rattle.std.proofs.lemmas.List.{take-append-drop, with_items_is}
use Rattle.csr_store.specs.Ascending.{Ascends}
use Rattle.csr_store.specs.Grid.{Cell}
use Rattle.row_product.specs.inner.Adding.{taking}
use Rattle.row_product.specs.inner.Progress.{stands}
use Rattle.row_product.specs.inner.Rows.{AddsCells}
use Rattle.row_product.specs.inner.StandIn.{cells_with}
use Rattle.row_product.specs.inner.Sums.{flag, takes}
use Rattle.row_product.proofs.Filling.{no_length}
use Rattle.row_product.proofs.Parts.{ascends_wider, length_after, taking_all, taking_ascends}
use Rattle.row_product.proofs.StandIn.{ascends_now, below_listed, few_listed, length_listed, is_passing_starts, is_passing_more, is_passing_ends, taking_listed}
use Rattle.row_product.proofs.progress.Progress.add_columns.Goals as goal

pub add_to_each-requires-clause-few : goal.add_to_each-requires-clause-few
add_to_each-requires-clause-few g c =
    few_listed c.args.factors.now c.args.term.now.word c.args.columns.now c.requires.factors c.requires.apart

pub add_to_each-requires-clause-apart : goal.add_to_each-requires-clause-apart
add_to_each-requires-clause-apart g c =
    ascends_wider 0 _ _ (cells_with c.args.term.now.word c.args.columns.now) c.requires.ready.sums c.requires.apart

pub returns-then-not-masked-clause-added : goal.returns-then-not-masked-clause-added
returns-then-not-masked-clause-added g c =
    let items = c.args.self.now.allowed.items in
    let cells = cells_with c.args.term.now.word c.args.columns.now in
    let all = taking_all (takes c.args.masked items) cells (λ j. ap (λ m. takes m items j) c.if-not-masked.true) in
    subst (λ (us : List Cell). AddsCells c.args.factors.now c.args.term.now.x us c.args.self.now.sums c.add_to_each.new.self
    c.add_to_each.result) (sym all) c.add_to_each.ensures

pub returns-then-not-masked-clause-ready : goal.returns-then-not-masked-clause-ready
returns-then-not-masked-clause-ready g c =
    let r = c.requires.ready in
    let s = r.sums in
    let l = ap length c.add_to_each.ensures.sums
    ∙ length_after c.args.factors.now.add.now c.args.factors.now.mul.now c.args.term.now.x c.args.self.now.sums
    (cells_with c.args.term.now.word c.args.columns.now) in
    (record { sums = omega (arith, s, l); allowed = r.allowed; passing = r.passing; passing_columns = r.passing_columns }, refl)

pub loop-rest-init : goal.loop-rest-init
loop-rest-init g c = record {
  passing = is_passing_starts c.args.factors.now c.args.term.now.x c.args.term.now.word
      (takes c.args.masked c.args.self.now.allowed.items) (stands c.args.self.now) c.args.columns.now c.requires.apart;
  ready = c.requires.ready;
  allowed = refl;
}

pub choose_columns-count-requires-clause-within : goal.choose_columns-count-requires-clause-within
choose_columns-count-requires-clause-within g c =
    let f = c.args.factors.now in
    let w = c.args.term.now.word in
    let rest = c.loop-rest.rest.now in
    let now = c.split_at.result.0.now in
    let behind = c.split_at.result.1.now in
    let parts : rest ≡ now ++ behind =
    sym (ap (λ us. us ++ behind) c.split_at.ensures.front
    ∙ (ap (λ us. take c.min.result rest ++ us) c.split_at.ensures.back ∙ take-append-drop c.min.result rest)) in
    let a = c.loop-rest.invariant.ready.allowed in
    let d = ap length c.deref.ensures.value in
    below_listed w 0 f.b.now.columns _ now (omega (arith, a, d))
    (ascends_now f w rest now behind f.b.now.columns (omega arith) parts c.loop-rest.invariant.passing.ascends)

pub add_to_each-steps-requires-clause-apart : goal.add_to_each-steps-requires-clause-apart
add_to_each-steps-requires-clause-apart g c =
    let f = c.args.factors.now in
    let w = c.args.term.now.word in
    let rest = c.loop-rest.rest.now in
    let now = c.split_at.result.0.now in
    let behind = c.split_at.result.1.now in
    let parts : rest ≡ now ++ behind =
    sym (ap (λ us. us ++ behind) c.split_at.ensures.front
    ∙ (ap (λ us. take c.min.result rest ++ us) c.split_at.ensures.back ∙ take-append-drop c.min.result rest)) in
    let put = with_items_is c.loop-rest.self.passing_columns c.choose_columns-count.new.passing
    (c.choose_columns-count.ensures.capacity ∙ c.deref_mut.ensures.len) in
    let t = flag c.deref.result.now in
    let chosen = ap (take c.choose_columns-count.result) (c.deref-in-loop-rest.ensures.value ∙ put) ∙ c.choose_columns-count.ensures.taking in
    let alike = ap (λ (js : List ℕ). cells_with w js) chosen ∙ sym (taking_listed t w now) in
    subst (λ (cs : List Cell). Ascends 0 (length c.loop-rest.self.sums) cs) (sym alike)
    (taking_ascends t 0 f.b.now.columns _ (cells_with w now) c.loop-rest.invariant.ready.sums
    (ascends_now f w rest now behind f.b.now.columns (omega arith) parts c.loop-rest.invariant.passing.ascends))

pub overflow_add-steps : goal.overflow_add-steps
overflow_add-steps g c =
    let f = c.args.factors.now in
    let i = c.loop-rest.invariant.passing.few in
    let l = c.add_to_each-steps.ensures.little in
    let taken = take c.choose_columns-count.result c.deref-in-loop-rest.result.now in
    let n = length_listed c.args.term.now.word taken in
    let t = length-take-le c.choose_columns-count.result c.deref-in-loop-rest.result.now in
    let k = c.choose_columns-count.ensures.few in
    let now = c.split_at.ensures.front_len in
    let m = c.min.ensures in
    let few = few_listed f c.args.term.now.word c.args.columns.now c.requires.factors c.requires.apart in
    omega (arith, i, l, n, t, k, now, m, few)

pub loop-rest-preserved : goal.loop-rest-preserved
loop-rest-preserved g c =
    let f = c.args.factors.now in
    let x = c.args.term.now.x in
    let w = c.args.term.now.word in
    let rest = c.loop-rest.rest.now in
    let now = c.split_at.result.0.now in
    let behind = c.split_at.result.1.now in
    let items = c.args.self.now.allowed.items in
    let parts : rest ≡ now ++ behind =
    sym (ap (λ us. us ++ behind) c.split_at.ensures.front
    ∙ (ap (λ us. take c.min.result rest ++ us) c.split_at.ensures.back ∙ take-append-drop c.min.result rest)) in
    let put = with_items_is c.loop-rest.self.passing_columns c.choose_columns-count.new.passing
    (c.choose_columns-count.ensures.capacity ∙ c.deref_mut.ensures.len) in
    let chosen = ap (take c.choose_columns-count.result) (c.deref-in-loop-rest.ensures.value ∙ put) ∙ c.choose_columns-count.ensures.taking in
    let same = c.deref.ensures.value ∙ ap (λ v. v.items) c.loop-rest.invariant.allowed in
    let alike = ap (λ (js : List ℕ). cells_with w js) chosen ∙ (sym (taking_listed (flag c.deref.result.now) w now)
    ∙ (ap (λ fs. taking (flag fs) (cells_with w now)) same
    ∙ ap (λ m. taking (takes m items) (cells_with w now)) (sym c.if-not-masked.false))) in
    let was = stands c.loop-rest.self in
    let made = subst (λ (cs : List Cell). AddsCells f x cs was c.add_to_each-steps.new.self c.add_to_each-steps.result) alike
    c.add_to_each-steps.ensures in
    let r = c.loop-rest.invariant.ready in
    let s = r.sums in
    let p = r.passing_columns in
    let m = c.choose_columns-count.ensures.capacity ∙ ap length c.deref_mut.ensures.value in
    let q = ap length put in
    let l = ap length made.sums
    ∙ length_after f.add.now f.mul.now x was (taking (takes c.args.masked items) (cells_with w now)) in
    record {
      passing = is_passing_more f x w (takes c.args.masked items) (stands c.args.self.now) c.args.columns.now rest now behind was
          c.add_to_each-steps.new.self c.loop-rest.steps c.add_to_each-steps.result parts c.loop-rest.invariant.passing made;
      ready = record {
        sums = omega (arith, s, l);
        allowed = r.allowed;
        passing = r.passing;
        passing_columns = omega (arith, p, m, q);
      };
      allowed = c.loop-rest.invariant.allowed;
    }

pub returns-clause-added : goal.returns-clause-added
returns-clause-added g c =
    is_passing_ends c.args.factors.now c.args.term.now.x c.args.term.now.word (takes c.args.masked c.args.self.now.allowed.items)
    (stands c.args.self.now) c.args.columns.now c.loop-rest.rest.now (stands c.loop-rest.self) c.loop-rest.steps c.requires.factors
    c.loop-rest.invariant.passing
    (no_length c.loop-rest.rest.now (sym (ap not c.is_empty.ensures) ∙ ap not c.loop-rest-test.false))
