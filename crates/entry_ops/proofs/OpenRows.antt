-- Open rows of a reduction: their lists, their columns, what a call of each leaves to come, and what a row that begins adds to it.
use Rattle.std.proofs.Common.{◌≡◌, ◌⊎◌, ◌≤◌, ◌<◌, ◌+◌, ℕ, zero, suc, List, [], ◌∷◌, ◌++◌, Option, None, Some, length, take, set, get_or, inl, inr, refl, sym, ap, ◌∙◌, subst, arith}
use Rattle.std.specs.List.{AllByRecursion}
use Rattle.std.proofs.lemmas.Bool.{cases_eq, cases_lt}
use Rattle.std.proofs.lemmas.List.{take_all, take_more, length-set, length_push, get_or_append_left, get_or-set_other, get_or-set_same}
use Rattle.bpf_insn.specs.declared.insn.Insn.{Insn}
use Rattle.bpf_insn.specs.declared.frame.Frame.{Frame}
use Rattle.bpf_insn.specs.Machine.{Running, Done}
use Rattle.bpf_insn.specs.Run.{Leads}
use Rattle.bpf_insn.specs.declared.operands.Operands.TheVariants.{Binary}
use Rattle.bpf_insn.specs.declared.operands.Kind.TheVariants as kinds
use Rattle.bpf_verify.specs.Accepted.{Accepted, IsAccepted}
use Rattle.csr_store.specs.Grid.{Cell}
use Rattle.bpf_run.specs.Meaning.{value_of, cost_of}
use Rattle.bpf_run.specs.Calls.{steps_of, calls_on, values_on, pairs_of}
use Rattle.bpf_run.proofs.Meaning.{has_value}
use Rattle.bpf_run.specs.Fold.{fold, fold_from, fold_calls, fold_calls_from}
use Rattle.entry_ops.specs.inner.Folding.{
  words,
  Open,
  in_columns,
  in_two_columns,
  Folding,
  ArePlaced,
  to_come,
  due,
  IsAmong,
  indices,
  LeadsTo,
  Gives,
  Goes,
  Begins,
}
use Rattle.entry_ops.specs.declared.open_rows.Lane.{Lane}

-- ---- lists of open rows

pub all_push : (P : Open → Type 0) (xs : List Open) (x : Open) → AllByRecursion P xs → P x → AllByRecursion P (xs ++ x ∷ [])
all_push P [] x h p = (p, tt)
all_push P (y ∷ xs) x h p = (h.0, all_push P xs x h.1 p)

-- one of them is gone
pub all_gone : (P : Open → Type 0) (xs : List Open) (x : Open) (ys : List Open) → AllByRecursion P (xs ++ x ∷ ys)
    → P x × AllByRecursion P (xs ++ ys)
all_gone P [] x ys h = (h.0, h.1)
all_gone P (z ∷ xs) x ys h = let r = all_gone P xs x ys h.1 in (r.0, (h.0, r.1))

pub among_gone : (k : ℕ) (xs : List Open) (x : Open) (ys : List Open) → IsAmong k (indices (xs ++ x ∷ ys))
    → (k ≡ x.number) ⊎ IsAmong k (indices (xs ++ ys))
among_gone k [] x ys h = h
among_gone k (z ∷ xs) x ys (inl e) = inr (inl e)
among_gone k (z ∷ xs) x ys (inr h) = elim (among_gone k xs x ys h) [ inl e ↦ inl e | inr r ↦ inr (inr r) ]

among_push : (k : ℕ) (xs : List Open) (x : Open) → IsAmong k (indices xs) → IsAmong k (indices (xs ++ x ∷ []))
among_push k [] x h = absurd h
among_push k (z ∷ xs) x (inl e) = inl e
among_push k (z ∷ xs) x (inr h) = inr (among_push k xs x h)

among_last : (k : ℕ) (xs : List Open) (x : Open) → k ≡ x.number → IsAmong k (indices (xs ++ x ∷ []))
among_last k [] x e = inl e
among_last k (z ∷ xs) x e = inr (among_last k xs x e)

pub due_append : (f : Accepted) (xs ys : List Open) → due f (xs ++ ys) ≡ due f xs + due f ys
due_append f [] ys = omega arith
due_append f (x ∷ xs) ys = let h = due_append f xs ys in omega arith

-- ---- columns

pub length_columns : (ls : List Lane) (vs ws : List ℕ) → length vs ≡ length ls → length ws ≡ length ls
    → length (in_columns ls vs ws) ≡ length ls
length_columns [] vs ws v w = refl
length_columns (l ∷ ls) [] ws v w = absurd (omega (arith, v))
length_columns (l ∷ ls) (x ∷ vs) [] v w = absurd (omega (arith, w))
length_columns (l ∷ ls) (x ∷ vs) (y ∷ ws) v w = ap suc (length_columns ls vs ws (omega (arith, v)) (omega (arith, w)))

pub columns_same_three : (ks ls : List Lane) (us vs ts ws : List ℕ) → ks ≡ ls → us ≡ vs → ts ≡ ws → in_columns ks us ts ≡ in_columns ls vs ws
columns_same_three ks ls us vs ts ws a b c =
    ap (λ (xs : List Lane). in_columns xs us ts) a ∙ ap (λ xs. in_columns ls xs ts) b ∙ ap (λ xs. in_columns ls vs xs) c

pub columns_push : (ls : List Lane) (vs ws : List ℕ) (l : Lane) (v w : ℕ) → length vs ≡ length ls → length ws ≡ length ls
    → in_columns (ls ++ l ∷ []) (vs ++ v ∷ []) (ws ++ w ∷ [])
    ≡ in_columns ls vs ws ++ record { number = l.number; so_far = v; terms = w ∷ words l.rest.now } ∷ []
columns_push [] [] [] l v w p q = refl
columns_push [] (x ∷ vs) ws l v w p q = absurd (omega (arith, p))
columns_push [] [] (y ∷ ws) l v w p q = absurd (omega (arith, q))
columns_push (k ∷ ls) [] ws l v w p q = absurd (omega (arith, p))
columns_push (k ∷ ls) (x ∷ vs) [] l v w p q = absurd (omega (arith, q))
columns_push (k ∷ ls) (x ∷ vs) (y ∷ ws) l v w p q =
    ap (λ os. record { number = k.number; so_far = x; terms = y ∷ words k.rest.now } ∷ os)
    (columns_push ls vs ws l v w (omega (arith, p)) (omega (arith, q)))

pub columns_pushed : (ls : List Lane) (vs ws : List ℕ) (l : Lane) (v w : ℕ) → length vs ≡ length ls → length ws ≡ length ls
    → (ks : List Lane) (us ts : List ℕ) → ks ≡ ls ++ l ∷ [] → us ≡ vs ++ v ∷ [] → ts ≡ ws ++ w ∷ []
    → in_columns ks us ts ≡ in_columns ls vs ws ++ record { number = l.number; so_far = v; terms = w ∷ words l.rest.now } ∷ []
columns_pushed ls vs ws l v w p q ks us ts a b c =
    ap (λ (xs : List Lane). in_columns xs us ts) a ∙ ap (λ xs. in_columns (ls ++ l ∷ []) xs ts) b
    ∙ ap (λ xs. in_columns (ls ++ l ∷ []) (vs ++ v ∷ []) xs) c ∙ columns_push ls vs ws l v w p q

pub two_columns_push : (ls : List Lane) (vs : List ℕ) (l : Lane) (v : ℕ) → length vs ≡ length ls
    → in_two_columns (ls ++ l ∷ []) (vs ++ v ∷ [])
    ≡ in_two_columns ls vs ++ record { number = l.number; so_far = v; terms = words l.rest.now } ∷ []
two_columns_push [] [] l v p = refl
two_columns_push [] (x ∷ vs) l v p = absurd (omega (arith, p))
two_columns_push (k ∷ ls) [] l v p = absurd (omega (arith, p))
two_columns_push (k ∷ ls) (x ∷ vs) l v p =
    ap (λ os. record { number = k.number; so_far = x; terms = words k.rest.now } ∷ os) (two_columns_push ls vs l v (omega (arith, p)))

pub take_columns : (n : ℕ) (ls : List Lane) (vs ws : List ℕ) → length vs ≡ length ls → length ws ≡ length ls
    → in_columns (take n ls) (take n vs) (take n ws) ≡ take n (in_columns ls vs ws)
take_columns zero ls vs ws p q = refl
take_columns (suc n) [] vs ws p q = refl
take_columns (suc n) (l ∷ ls) [] ws p q = absurd (omega (arith, p))
take_columns (suc n) (l ∷ ls) (x ∷ vs) [] p q = absurd (omega (arith, q))
take_columns (suc n) (l ∷ ls) (x ∷ vs) (y ∷ ws) p q =
    ap (λ os. record { number = l.number; so_far = x; terms = y ∷ words l.rest.now } ∷ os)
    (take_columns n ls vs ws (omega (arith, p)) (omega (arith, q)))

pub columns_taken : (n : ℕ) (ls : List Lane) (vs ws : List ℕ) → length vs ≡ length ls → length ws ≡ length ls
    → (ks : List Lane) (us ts : List ℕ) → ks ≡ take n ls → us ≡ take n vs → ts ≡ take n ws
    → in_columns ks us ts ≡ take n (in_columns ls vs ws)
columns_taken n ls vs ws p q ks us ts a b c =
    ap (λ (xs : List Lane). in_columns xs us ts) a ∙ ap (λ xs. in_columns (take n ls) xs ts) b
    ∙ ap (λ xs. in_columns (take n ls) (take n vs) xs) c ∙ take_columns n ls vs ws p q

pub same_take : {X Y : Type 0} (n : ℕ) (xs : List X) (ys : List Y) → length ys ≡ length xs → length (take n ys) ≡ length (take n xs)
same_take zero xs ys e = refl
same_take (suc n) [] [] e = refl
same_take (suc n) [] (y ∷ ys) e = absurd (omega (arith, e))
same_take (suc n) (x ∷ xs) [] e = absurd (omega (arith, e))
same_take (suc n) (x ∷ xs) (y ∷ ys) e = ap suc (same_take n xs ys (omega (arith, e)))

split_last : {X : Type 0} (n : ℕ) (xs : List X) (x : X) → n + 1 ≡ length xs → x ≡ get_or xs n x → xs ≡ take n xs ++ x ∷ []
split_last n xs x e here = sym (take_all (n + 1) xs (omega (arith, e))) ∙ take_more xs n x (omega (arith, e))
    ∙ ap (λ y. take n xs ++ y ∷ []) (sym here)

pub columns_last : (n : ℕ) (ls : List Lane) (vs ws : List ℕ) → length vs ≡ length ls → length ws ≡ length ls → n + 1 ≡ length ls
    → (l : Lane) (v w : ℕ) → l ≡ get_or ls n l → v ≡ get_or vs n v → w ≡ get_or ws n w
    → in_columns ls vs ws ≡ take n (in_columns ls vs ws) ++ record { number = l.number; so_far = v; terms = w ∷ words l.rest.now } ∷ []
columns_last n ls vs ws p q e l v w a b c =
    columns_pushed (take n ls) (take n vs) (take n ws) l v w (same_take n ls vs p) (same_take n ls ws q) ls vs ws
    (split_last n ls l e a) (split_last n vs v (omega (arith, e, p)) b) (split_last n ws w (omega (arith, e, q)) c)
    ∙ ap (λ os. os ++ record { number = l.number; so_far = v; terms = w ∷ words l.rest.now } ∷ []) (take_columns n ls vs ws p q)

-- ---- a call of each

-- the places stay
placed_called : (n : ℕ) (ls : List Lane) (vs ws us : List ℕ) → length vs ≡ length ls → length ws ≡ length ls → length us ≡ length ls
    → ArePlaced n (in_columns ls vs ws) → ArePlaced n (in_two_columns ls us)
placed_called n [] vs ws us p q r h = tt
placed_called n (l ∷ ls) [] ws us p q r h = absurd (omega (arith, p))
placed_called n (l ∷ ls) (x ∷ vs) [] us p q r h = absurd (omega (arith, q))
placed_called n (l ∷ ls) (x ∷ vs) (y ∷ ws) [] p q r h = absurd (omega (arith, r))
placed_called n (l ∷ ls) (x ∷ vs) (y ∷ ws) (u ∷ us) p q r h =
    (h.0, placed_called n ls vs ws us (omega (arith, p)) (omega (arith, q)) (omega (arith, r)) h.1)

module _ (f : Accepted) where
  pub length_called : (xs ys : List ℕ) → length ys ≡ length xs → length (values_on f (pairs_of xs ys)) ≡ length xs
  length_called [] ys e = refl
  length_called (x ∷ xs) [] e = absurd (omega (arith, e))
  length_called (x ∷ xs) (y ∷ ys) e = ap suc (length_called xs ys (omega (arith, e)))

  pub called_placed : (n : ℕ) (ls : List Lane) (vs ws : List ℕ) → length vs ≡ length ls → length ws ≡ length ls
      → ArePlaced n (in_columns ls vs ws) → ArePlaced n (in_two_columns ls (values_on f (pairs_of vs ws)))
  called_placed n ls vs ws p q h =
      let k = length_called vs ws (q ∙ sym p) in
      placed_called n ls vs ws (values_on f (pairs_of vs ws)) p q (k ∙ p) h

  called_places : (ls : List Lane) (vs ws : List ℕ) → length vs ≡ length ls → length ws ≡ length ls
      → indices (in_columns ls vs ws) ≡ indices (in_two_columns ls (values_on f (pairs_of vs ws)))
  called_places [] vs ws p q = refl
  called_places (l ∷ ls) [] ws p q = absurd (omega (arith, p))
  called_places (l ∷ ls) (x ∷ vs) [] p q = absurd (omega (arith, q))
  called_places (l ∷ ls) (x ∷ vs) (y ∷ ws) p q =
      ap (λ ps. l.number ∷ ps) (called_places ls vs ws (omega (arith, p)) (omega (arith, q)))

  called_opened : (target : ℕ → Option ℕ) (ls : List Lane) (vs ws : List ℕ) → length vs ≡ length ls → length ws ≡ length ls
      → AllByRecursion (λ (l : Open). Some (fold_from f l.so_far l.terms) ≡ target l.number) (in_columns ls vs ws)
      → AllByRecursion (λ (l : Open). Some (fold_from f l.so_far l.terms) ≡ target l.number)
      (in_two_columns ls (values_on f (pairs_of vs ws)))
  called_opened target [] vs ws p q h = tt
  called_opened target (l ∷ ls) [] ws p q h = absurd (omega (arith, p))
  called_opened target (l ∷ ls) (x ∷ vs) [] p q h = absurd (omega (arith, q))
  called_opened target (l ∷ ls) (x ∷ vs) (y ∷ ws) p q h =
      (h.0, called_opened target ls vs ws (omega (arith, p)) (omega (arith, q)) h.1)

  called_costs : (ls : List Lane) (vs ws : List ℕ) → length vs ≡ length ls → length ws ≡ length ls
      → steps_of (calls_on f (pairs_of vs ws)) + due f (in_two_columns ls (values_on f (pairs_of vs ws))) ≡ due f (in_columns ls vs ws)
  called_costs [] [] ws p q = refl
  called_costs [] (x ∷ vs) ws p q = absurd (omega (arith, p))
  called_costs (l ∷ ls) [] ws p q = absurd (omega (arith, p))
  called_costs (l ∷ ls) (x ∷ vs) [] p q = absurd (omega (arith, q))
  called_costs (l ∷ ls) (x ∷ vs) (y ∷ ws) p q =
      let h = called_costs ls vs ws (omega (arith, p)) (omega (arith, q)) in omega (arith, h)

  pub called : (ls : List Lane) (vs ws : List ℕ) → length vs ≡ length ls → length ws ≡ length ls → (results : List (Option ℕ))
      → Gives f (steps_of (calls_on f (pairs_of vs ws))) (in_columns ls vs ws) results
      (in_two_columns ls (values_on f (pairs_of vs ws))) results
  called ls vs ws p q results = record {
    rows = refl;
    leads = λ target h. record {
      opened = called_opened target ls vs ws p q h.opened;
      known = λ k b. subst (λ ps. (get_or results k None ≡ target k) ⊎ IsAmong k ps) (called_places ls vs ws p q) (h.known k b);
    };
    costs = called_costs ls vs ws p q;
  }

-- one after the other
pub gives_then : (f : Accepted) (m n : ℕ) (xs ys zs : List Open) (rs ss ts : List (Option ℕ)) → Gives f m xs rs ys ss → Gives f n ys ss zs ts
    → Gives f (m + n) xs rs zs ts
gives_then f m n xs ys zs rs ss ts g h =
    let a = g.costs in
    let b = h.costs in
    record { rows = h.rows ∙ g.rows; leads = λ target l. h.leads target (g.leads target l); costs = omega (arith, a, b) }

-- the calls are made, and then the next words are taken
module _ (f : Accepted) (ls : List Lane) (vs ws : List ℕ) (p : length vs ≡ length ls) (q : length ws ≡ length ls)
    (results : List (Option ℕ)) (old : List Open) (is : in_columns ls vs ws ≡ old) (ks : List Lane) (us : List ℕ) (k : ks ≡ ls)
    (u : us ≡ values_on f (pairs_of vs ws)) where
  columns_same : in_two_columns ls (values_on f (pairs_of vs ws)) ≡ in_two_columns ks us
  columns_same = ap (λ (xs : List Lane). in_two_columns xs (values_on f (pairs_of vs ws))) (sym k) ∙ ap (in_two_columns ks) (sym u)

  pub placed_for : ArePlaced (length results) old → ArePlaced (length results) (in_two_columns ks us)
  placed_for h = subst (ArePlaced (length results)) columns_same
      (called_placed f (length results) ls vs ws p q (subst (ArePlaced (length results)) (sym is) h))

  pub gives_called : (left then : List Open) (found : List (Option ℕ)) (steps : ℕ) → Gives f 0 (in_two_columns ks us) results left found
      → steps ≡ steps_of (calls_on f (pairs_of vs ws)) → then ≡ left → Gives f steps old results then found
  gives_called left then found steps g s t =
      let n : steps_of (calls_on f (pairs_of vs ws)) + 0 ≡ steps = omega (arith, s) in
      subst (λ k. Gives f k old results then found) n
      (subst (λ (os : List Open). Gives f (steps_of (calls_on f (pairs_of vs ws)) + 0) os results then found) is
      (subst (λ (os : List Open). Gives f (steps_of (calls_on f (pairs_of vs ws)) + 0) (in_columns ls vs ws) results os found) (sym t)
      (gives_then f (steps_of (calls_on f (pairs_of vs ws))) 0 (in_columns ls vs ws) (in_two_columns ks us) left results results found
      (subst (λ (os : List Open). Gives f (steps_of (calls_on f (pairs_of vs ws))) (in_columns ls vs ws) results os results) columns_same
      (called f ls vs ws p q results)) g)))

-- the row of a lane has its result
pub leads_found : (f : Accepted) (target : ℕ → Option ℕ) (xs : List Open) (x : Open) (ys : List Open) (results : List (Option ℕ))
    → LeadsTo f target (xs ++ x ∷ ys) results → x.number < length results → (v : ℕ)
    → Some v ≡ Some (fold_from f x.so_far x.terms) → LeadsTo f target (xs ++ ys) (set results x.number (Some v))
leads_found f target xs x ys results h within v e =
    let gone = all_gone (λ (l : Open). Some (fold_from f l.so_far l.terms) ≡ target l.number) xs x ys h.opened in
    record {
      opened = gone.1;
      known = λ k b. here (e ∙ gone.0) k (let n = length-set results x.number (Some v) in omega (arith, n, b)) (cases_eq k x.number);
    }
  where
    here : Some v ≡ target x.number → (k : ℕ) → k < length results → (k ≡ x.number) ⊎ (k ≡ x.number → ⊥)
        → (get_or (set results x.number (Some v)) k None ≡ target k) ⊎ IsAmong k (indices (xs ++ ys))
    here value k b (inl q) = inl (ap (λ j. get_or (set results x.number (Some v)) j None) q
        ∙ get_or-set_same results x.number (Some v) None within ∙ value ∙ ap target (sym q))
    here value k b (inr ne) = elim (h.known k b) [
      | inl q ↦ inl (get_or-set_other results x.number k (Some v) None ne ∙ q)
      | inr a ↦ elim (among_gone k xs x ys a) [ inl q ↦ absurd (ne q) | inr r ↦ inr r ]
    ]

-- ---- each takes a step at least

leads_some : (insns : List Insn) (c : ℕ) (g : Frame) (v : ℕ) → Leads insns c (Running g) (Done v) → 0 < c
leads_some insns zero g v l = absurd (cc)
leads_some insns (suc c) g v l = omega arith

pub next_some : (f : Accepted) (x y : ℕ) → IsAccepted f → f.kind ≡ kinds.Binary → 0 < cost_of f (Binary x y)
next_some f x y a k = leads_some f.insns (cost_of f (Binary x y)) _ (value_of f (Binary x y)) (has_value f (Binary x y) a (sym k)).0

pub next_more : (f : Accepted) (xs ys : List ℕ) → IsAccepted f → f.kind ≡ kinds.Binary → length ys ≡ length xs → 0 < length xs
    → 0 < steps_of (calls_on f (pairs_of xs ys))
next_more f [] ys a k e l = absurd (omega (arith, l))
next_more f (x ∷ xs) [] a k e l = absurd (omega (arith, e))
next_more f (x ∷ xs) (y ∷ ys) a k e l = let s = next_some f x y a k in omega (arith, s)

-- the open rows have made their calls
pub goes : (f : Accepted) (lanes then : List Open) (rs results found back : List (Option ℕ)) (made steps more : ℕ) (old : Folding)
    → record { lanes = lanes; results = rs; steps = steps } ≡ old → results ≡ rs → Gives f made lanes results then found → back ≡ found
    → more ≡ steps + made → Goes f old (record { lanes = then; results = back; steps = more })
goes f lanes then rs results found back made steps more old is r g b m =
    let h = subst (λ (os : List (Option ℕ)). Gives f made lanes os then found) r g in
    let c = h.costs in
    subst (λ (o : Folding). Goes f o (record { lanes = then; results = back; steps = more })) is
    (subst (λ (os : List (Option ℕ)). Goes f (record { lanes = lanes; results = rs; steps = steps }) (record { lanes = then; results = os; steps = more }))
    (sym b) (record { rows = h.rows; leads = h.leads; costs = omega (arith, c, m) }))

-- ---- a row begins

leads_open : (f : Accepted) (target : ℕ → Option ℕ) (lanes : List Open) (results : List (Option ℕ)) (r : Option ℕ) (x : Open)
    → LeadsTo f target lanes results → x.number ≡ length results → Some (fold_from f x.so_far x.terms) ≡ target (length results)
    → LeadsTo f target (lanes ++ x ∷ []) (results ++ r ∷ [])
leads_open f target lanes results r x h p e = record {
  opened = all_push (λ (l : Open). Some (fold_from f l.so_far l.terms) ≡ target l.number) lanes x h.opened (e ∙ ap target (sym p));
  known = λ k b. here k b (cases_lt k (length results));
}
  where
    here : (k : ℕ) → k < length (results ++ r ∷ []) → (k < length results) ⊎ (length results ≤ k)
        → (get_or (results ++ r ∷ []) k None ≡ target k) ⊎ IsAmong k (indices (lanes ++ x ∷ []))
    here k b (inl l) = elim (h.known k l) [
      | inl q ↦ inl (get_or_append_left results (r ∷ []) None k l ∙ q)
      | inr a ↦ inr (among_push k lanes x a)
    ]
    here k b (inr l) =
        let n = length_push results r in
        let same : k ≡ x.number = omega (arith, n, b, l, p) in
        inr (among_last k lanes x same)

module _ (lanes then : List Open) (results more : List (Option ℕ)) (steps : ℕ) (r : Option ℕ) (old : Folding)
    (is : record { lanes = lanes; results = results; steps = steps } ≡ old) (m : more ≡ results ++ r ∷ []) (cells : List Cell) where
  counted : length more ≡ length results + 1
  counted = ap (λ (rs : List (Option ℕ)). length rs) m ∙ length_push results r

  -- that has a lane
  pub begins_open : (x : Open) (c : Cell) (rest : List Cell) → then ≡ lanes ++ x ∷ [] → cells ≡ c ∷ rest → x.terms ≡ words rest
      → x.so_far ≡ c.1 → x.number ≡ length results
      → (f : Accepted) → Begins f cells old (record { lanes = then; results = more; steps = steps })
  begins_open x c rest t e ws s p f =
      let all : fold f (words cells) ≡ Some (fold_from f x.so_far x.terms) =
      ap (λ cs. fold f (words cs)) e ∙ ap (λ a. Some (fold_from f a (words rest))) (sym s)
      ∙ ap (λ us. Some (fold_from f x.so_far us)) (sym ws) in
      let k : steps_of (fold_calls f (words cells)) ≡ steps_of (to_come f x) =
      ap (λ cs. steps_of (fold_calls f (words cs))) e ∙ ap (λ a. steps_of (fold_calls_from f a (words rest))) (sym s)
      ∙ ap (λ us. steps_of (fold_calls_from f x.so_far us)) (sym ws) in
      let d = ap (due f) t in
      let g = due_append f lanes (x ∷ []) in
      subst (λ (o : Folding). Begins f cells o (record { lanes = then; results = more; steps = steps })) is (record {
        rows = counted;
        leads = λ target h q. subst (λ (ls : List Open). LeadsTo f target ls more) (sym t)
            (subst (λ (rs : List (Option ℕ)). LeadsTo f target (lanes ++ x ∷ []) rs) (sym m)
            (leads_open f target lanes results r x h p (sym all ∙ sym q)));
        costs = omega (arith, k, d, g);
      })

-- the open rows still stand among those that were begun

pub none_left : (cells : List Cell) → length cells ≡ 0 → cells ≡ []
none_left [] z = refl
none_left (c ∷ cs) z = absurd (omega arith)

pub no_lanes : (lanes : List Open) → length lanes ≡ 0 → lanes ≡ []
no_lanes [] z = refl
no_lanes (x ∷ xs) z = absurd (omega (arith, z))
