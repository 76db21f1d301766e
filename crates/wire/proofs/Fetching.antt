-- How what is fetched adds up.
use Rattle.std.proofs.Common.{◌≡◌, ◌+◌, ℕ, Bool, true, false, List, [], ◌++◌, refl, sym, ap, ◌∙◌, subst, append_assoc, arith, ◌&&◌, ◌||◌, not}
use Rattle.wire.specs.Devices.{SourceState}
use Rattle.wire.specs.InputState.{InputState, Stream}
use Rattle.wire.specs.Fetching.{Follows, Fetched}
use Rattle.wire.proofs.Known.{append_nil, consumes_nothing, consumes_more}

-- nothing follows
pub nothing_follows : (ended : Bool) → Follows ended [] ended
nothing_follows true = (refl, refl)
nothing_follows false = tt

-- what has followed, and what may still
pub follows_more : (a b c : Bool) (xs ys : List ℕ) → Follows a xs b → Follows b ys c → Follows a (xs ++ ys) c
follows_more true b c xs ys f g =
    let h = subst (λ e. Follows e ys c) f.1 g in
    (ap (λ zs. zs ++ ys) f.0 ∙ h.0, h.1)
follows_more false b c xs ys f g = tt

-- the end is not told where nothing is read
told_nothing : (t e : Bool) → t ≡ (t || (e && not e))
told_nothing true e = refl
told_nothing false true = refl
told_nothing false false = refl

told_more : (t u v a b c : Bool) (xs ys : List ℕ) → Follows a xs b → Follows b ys c → u ≡ (t || (b && not a)) → v ≡ (u || (c && not b)) → v ≡ (t || (c && not a))
told_more true u v a b c xs ys f g p q = q ∙ ap (λ w. w || (c && not b)) p
told_more false u v true b c xs ys f g p q =
    let h = subst (λ e. Follows e ys c) f.1 g in
    q ∙ (ap (λ w. w || (c && not b)) (p ∙ ap (λ w. w && false) f.1) ∙ (ap (λ w. w && not b) h.1 ∙ (ap not f.1 ∙ ap (λ w. w && false) (sym h.1))))
told_more false u v false true c xs ys f g p q = q ∙ (ap (λ w. w || (c && false)) p ∙ ap (λ w. w && true) (sym g.1))
told_more false u v false false c xs ys f g p q = q ∙ ap (λ w. w || (c && true)) p

-- nothing was fetched, and P holds of what is held
pub fetched_here : (a : SourceState) (old new : InputState) (P : List ℕ → Type 0) → new.ended ≡ old.ended → new.reads_left ≡ old.reads_left → P old.bytes
    → Fetched 0 (record { source = a; held = old }) (record { source = a; held = new }) P
fetched_here a old new P e l p = record {
  got = [];
  consumed = consumes_nothing a.remaining;
  follows = subst (λ d. Follows old.ended [] d) (sym e) (nothing_follows old.ended);
  at_end = λ known k. known (sym e ∙ k);
  ends = told_nothing a.told_end old.ended ∙ ap (λ d. a.told_end || (d && not old.ended)) (sym e);
  reads = ap (λ n. a.reads + n) l;
  failures = omega arith;
  holds = subst P (sym (append_nil old.bytes)) p;
}

-- some was fetched, and then some more
pub fetched_on : (m n : ℕ) (a b c : Stream) (P Q R : List ℕ → Type 0) → (f : Fetched m a b P) → (g : Fetched n b c Q) → m ≡ 0
    → ((bytes : List ℕ) → P bytes → R (bytes ++ g.got)) → Fetched n a c R
fetched_on m n a b c P Q R f g zero then = record {
  got = f.got ++ g.got;
  consumed = consumes_more a.source.remaining b.source.remaining c.source.remaining f.got g.got f.consumed g.consumed;
  follows = follows_more a.held.ended b.held.ended c.held.ended f.got g.got f.follows g.follows;
  at_end = λ known e. g.at_end (f.at_end known) e;
  ends = told_more a.source.told_end b.source.told_end c.source.told_end a.held.ended b.held.ended c.held.ended f.got g.got f.follows g.follows f.ends g.ends;
  reads = let x = f.reads in let y = g.reads in omega arith;
  failures = let x = f.failures in let y = g.failures in omega arith;
  holds = subst R (append_assoc a.held.bytes f.got g.got) (then (a.held.bytes ++ f.got) f.holds);
}

-- what is held is all that was held and fetched, and then some more was fetched
pub fetched_then : (m n : ℕ) (a b c : Stream) (R : List ℕ → Type 0) → Fetched m a b (λ bytes. b.held.bytes ≡ bytes) → Fetched n b c R → m ≡ 0 → Fetched n a c R
fetched_then m n a b c R f g zero = fetched_on m n a b c (λ bytes. b.held.bytes ≡ bytes) R R f g zero (λ bytes e. subst (λ xs. R (xs ++ g.got)) e g.holds)

-- P is as good as Q
pub fetched_map : (n : ℕ) (a b : Stream) (P Q : List ℕ → Type 0) → Fetched n a b P → ((bytes : List ℕ) → P bytes → Q bytes) → Fetched n a b Q
fetched_map n a b P Q f map = record {
  got = f.got;
  consumed = f.consumed;
  follows = f.follows;
  at_end = f.at_end;
  ends = f.ends;
  reads = f.reads;
  failures = f.failures;
  holds = map (a.held.bytes ++ f.got) f.holds;
}

-- what is held changed behind all that was fetched
pub fetched_left : (n : ℕ) (a : Stream) (s : SourceState) (b c : InputState) (P Q : List ℕ → Type 0) → Fetched n a (record { source = s; held = b }) P → c.ended ≡ b.ended → c.reads_left ≡ b.reads_left
    → ((bytes : List ℕ) → P bytes → Q bytes) → Fetched n a (record { source = s; held = c }) Q
fetched_left n a s b c P Q f e l map = record {
  got = f.got;
  consumed = f.consumed;
  follows = subst (λ d. Follows a.held.ended f.got d) (sym e) f.follows;
  at_end = λ known k. f.at_end known (sym e ∙ k);
  ends = f.ends ∙ ap (λ d. a.source.told_end || (d && not a.held.ended)) (sym e);
  reads = ap (λ k. s.reads + k) l ∙ f.reads;
  failures = f.failures;
  holds = map (a.held.bytes ++ f.got) f.holds;
}

-- as many reads failed
pub fetched_as : (m n : ℕ) (a b : Stream) (P : List ℕ → Type 0) → Fetched m a b P → m ≡ n → Fetched n a b P
fetched_as m n a b P f e = subst (λ k. Fetched k a b P) e f
