use Rattle.std.proofs.Common.{◌≡◌, ◌+◌, List, ◌∷◌, ◌++◌, [], drop, get_or, length, vec_capacity, sym, ap, ◌∙◌, append_assoc, arith}
use Rattle.std.proofs.lemmas.List.{drop_more, length_push}
use Rattle.std.specs.Global.{Vec}
use Rattle.bpf_insn.specs.declared.operands.Operands.TheVariants.{Binary}
use Rattle.bpf_run.specs.Calls.{steps_of}
use Rattle.bpf_run.specs.Meaning.{value_of}
use Rattle.bpf_run.proofs.Charging.{cost-few}
use Rattle.csr_store.specs.Grid.{Cell}
use Rattle.row_product.specs.inner.SortedAccumulator.{picked, folded_on, folded_calls_on}
use Rattle.row_product.proofs.Folded.{fold_same, fold_other, calls_same, calls_other}
use Rattle.row_product.proofs.folding.fold_behind.Goals as goal
use Rattle.row_product.proofs.folding.fold_behind.Goals.{then-column-so_far, else-column-so_far}

pub overflow_add-steps : goal.overflow_add-steps
overflow_add-steps g c =
    let f = c.loop-key.invariant.few in
    let s = c.make-sum.ensures.steps in
    let k = cost-few c.args.add.now (Binary c.loop-key.so_far.1 c.term-column.result.1) c.requires.may.may.accepted
    (sym c.requires.may.may.kind) in
    let r = c.requires.may.may.few in
    let t = c.loop-key-test.true in
    omega (arith, f, s, k, r, t)

pub loop-key-preserved : goal.loop-key-preserved
loop-key-preserved g c =
    let add = c.args.add.now in
    let listed = c.args.further.now.listed.now in
    let keys = c.args.further.now.keys.now in
    let k = c.loop-key.key-index in
    let key = get_or keys k 0 in
    let more = picked listed (drop (k + 1) keys) in
    let cell = c.term-column.result in
    let so_far = c.loop-key.so_far in
    let now = c.loop-key.sums.items in
    let inv = c.loop-key.invariant in
    let few = inv.few in
    let long = inv.long in
    let counted = inv.counted in
    let d : picked listed (drop k keys) ≡ cell ∷ more =
    ap (picked listed) (drop_more keys k 0 c.loop-key-test.true) ∙ ap (λ (e : Cell). e ∷ more) (sym c.term-column.ensures) in
    let made = ap (λ (us : List Cell). now ++ folded_on add so_far us) (sym d) ∙ inv.made in
    let before = ap (λ (us : List Cell). steps_of (folded_calls_on add so_far us)) d in
    elim c.if-column-so_far.branch [
      | then-column-so_far v ↦
          let e = v.if-column-so_far.true in
          let cost = v.make-sum.ensures.steps in
          let s = v.steps-is in
          let n : c.if-column-so_far.sums.items ≡ now = ap (λ (l : Vec Cell). l.items) v.sums-is in
          let l = ap length n in
          let o : c.if-column-so_far.so_far ≡ (so_far.0, value_of add (Binary so_far.1 cell.1)) =
          v.so_far-is ∙ ap (λ w. (so_far.0, w)) v.make-sum.ensures.value in
          let q = ap steps_of (calls_same add so_far cell more e) in
          let p = ap (λ w. steps_of (folded_calls_on add w more)) o in
          let u = cost-few add (Binary so_far.1 cell.1) c.requires.may.may.accepted (sym c.requires.may.may.kind) in
          record {
            made = ap (λ (us : List Cell). us ++ folded_on add c.if-column-so_far.so_far more) n
                ∙ (ap (λ w. now ++ folded_on add w more) o
                ∙ (ap (λ (us : List Cell). now ++ us) (sym (fold_same add so_far cell more e)) ∙ made));
            counted = omega (arith, counted, before, q, p, s, cost);
            few = omega (arith, few, s, cost, u);
            long = omega (arith, long, l);
            capacity = ap (λ (l : Vec Cell). vec_capacity l) v.sums-is ∙ inv.capacity;
          }
      | else-column-so_far v ↦
          let e = v.if-column-so_far.false in
          let s = v.steps-is in
          let n : c.if-column-so_far.sums.items ≡ now ++ so_far ∷ [] =
          ap (λ (l : Vec Cell). l.items) v.sums-is ∙ v.push_reserved.ensures.items in
          let l = ap length n in
          let m = length_push now so_far in
          let o : c.if-column-so_far.so_far ≡ cell = v.so_far-is in
          let q = ap steps_of (calls_other add so_far cell more e) in
          let p = ap (λ w. steps_of (folded_calls_on add w more)) o in
          record {
            made = ap (λ (us : List Cell). us ++ folded_on add c.if-column-so_far.so_far more) n
                ∙ (ap (λ w. (now ++ so_far ∷ []) ++ folded_on add w more) o
                ∙ (append_assoc now (so_far ∷ []) (folded_on add cell more)
                ∙ (ap (λ (us : List Cell). now ++ us) (sym (fold_other add so_far cell more e)) ∙ made)));
            counted = omega (arith, counted, before, q, p, s);
            few = omega (arith, few, s);
            long = omega (arith, long, l, m);
            capacity = ap (λ (l : Vec Cell). vec_capacity l) v.sums-is ∙ (v.push_reserved.ensures.capacity ∙ inv.capacity);
          }
    ]
