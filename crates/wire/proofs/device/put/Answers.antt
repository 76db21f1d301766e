use Rattle.std.proofs.lemmas.Bool.Decides.{eqb_tells}
use Rattle.std.proofs.Common.{◌≡◌, eqb, cond, true, false, Ok, inl, inr, refl, ◌-◌, ◌+◌, ℕ, List, length, take, drop, sym, ap, subst, arith, length-drop, Option}
use Rattle.std.specs.Io.KnownBytes.{Appends}
use Rattle.std.proofs.lemmas.List.{take-append-drop}
use Rattle.std.proofs.Math.Seq.{take-add}
use Rattle.wire.specs.Devices.{write_failures_in}
use Rattle.wire.proofs.Known.{appends_more, appends_kept, rest_all}
use Rattle.wire.proofs.device.put.Goals as goal

-- a write that took some bytes has not failed
wrote_some : (given took : ℕ) → (took ≡ 0 → ⊥) → write_failures_in {E = ℕ} given (Ok took) ≡ 0
wrote_some given took n = elim (eqb given 0) as (λ t. ◌≡◌ {A = ℕ} (cond t 0 (cond (eqb took 0) 1 0)) 0) [ true ↦ refl | false ↦ elim (eqb_tells took 0) [ inl w ↦ absurd (n w.1) | inr w ↦ ap {B = ℕ} (λ t. cond t 1 0) w.0 ] ]

-- more of the text was written
wrote_more : (i j k : Option (List ℕ)) (text : List ℕ) (at n : ℕ) → Appends i j (take at text) → Appends j k (take n (take (length text - at) (drop at text))) → Appends i k (take (at + n) text)
wrote_more i j k text at n a b =
    subst (Appends i k) (sym (take-add at n text))
    (appends_more i j k (take at text) (take n (drop at text)) a (subst (λ xs. Appends j k (take n xs)) (rest_all text at) b))

pub loop-at-preserved : goal.loop-at-preserved
loop-at-preserved g c = record {
  fine = let k = c.in-Ok.ensures.failures in let l = c.loop-at.invariant.fine in let z = wrote_some (length (take (length c.args.text.now - c.loop-at.at) (drop c.loop-at.at c.args.text.now))) c.in-Ok.n c.in-Ok.n-test.1 in omega arith;
  inside = let b = c.in-Ok.ensures.bound in omega (arith, ap length (rest_all c.args.text.now c.loop-at.at), length-drop c.loop-at.at c.args.text.now);
  written = wrote_more _ _ _ c.args.text.now c.loop-at.at c.in-Ok.n c.loop-at.invariant.written c.in-Ok.ensures.bytes;
}

pub returns-in-Ok-eq0-clause-cut : goal.returns-in-Ok-eq0-clause-cut
returns-in-Ok-eq0-clause-cut g c = (
  take (c.loop-at.at + c.in-Ok-eq0.field-0) c.args.text.now,
  (drop (c.loop-at.at + c.in-Ok-eq0.field-0) c.args.text.now, sym (take-append-drop _ c.args.text.now)),
  wrote_more _ _ _ c.args.text.now c.loop-at.at c.in-Ok-eq0.field-0 c.loop-at.invariant.written c.in-Ok-eq0.ensures.bytes,
)

pub returns-in-Err-clause-cut : goal.returns-in-Err-clause-cut
returns-in-Err-clause-cut g c = (take c.loop-at.at c.args.text.now, (drop c.loop-at.at c.args.text.now, sym (take-append-drop c.loop-at.at c.args.text.now)), appends_kept _ _ _ _ c.loop-at.invariant.written c.in-Err.ensures.bytes)
