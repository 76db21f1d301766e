-- Entries that get the values of calls in their order: what is still to come completes them.
use Rattle.std.proofs.Common.{◌≡◌, ◌≤◌, ◌<◌, ◌+◌, ◌-◌, ◌^◌, ℕ, suc, List, [], ◌∷◌, ◌++◌, length, take, drop, refl, sym, ap, ◌∙◌, subst, arith, length-append, length-drop}
use Rattle.bpf_insn.specs.declared.operands.Operands.{Operands}
use Rattle.bpf_insn.specs.declared.operands.Operands.TheVariants.{Unary, Index}
use Rattle.std.proofs.lemmas.List.{take-append-drop, length-take-le, drop-drop}
use Rattle.bpf_verify.specs.Accepted.{Accepted}
use Rattle.csr_store.specs.Grid.{Cell}
use Rattle.csr_store.specs.Run.{Row}
use Rattle.csr_store.specs.Valued.{entries_of as entries_in_run, all_cells, valued, valued_from}
use Rattle.csr_store.proofs.Valuing.{alike_entries, alike_same, alike_then, entries_are, valued_behind}
use Rattle.bpf_run.specs.Calls.{calls_on, values_on, steps_of, words_of, entries_of}
use Rattle.bpf_run.proofs.Charging.{values_on-append, calls_on-append, steps-append}
use Rattle.entry_ops.specs.declared.mapping.Mapping.{Mapping}
use Rattle.entry_ops.specs.inner.Mapped.{HasEntries, IsFurther}

pub length_values : (f : Accepted) (os : List Operands) → length (values_on f os) ≡ length os
length_values f [] = refl
length_values f (o ∷ os) = ap suc (length_values f os)

pub valued_from-append : (k : ℕ) (xs ys : List ℕ) (cells : Row) → valued_from k (xs ++ ys) cells ≡ valued_from (k + length xs) ys (valued_from k xs cells)
valued_from-append k [] ys cells = let z : k + 0 ≡ k = omega arith in ap (λ n. valued_from n ys cells) (sym z)
valued_from-append k (x ∷ xs) ys cells =
    let z : suc k + length xs ≡ k + suc (length xs) = omega arith in
    valued_from-append (suc k) xs ys (valued k x cells) ∙ ap (λ n. valued_from n ys (valued_from (suc k) xs (valued k x cells))) z

module _ (f : Accepted) where
  pub steps_on-append : (os ps : List Operands) → steps_of (calls_on f (os ++ ps)) ≡ steps_of (calls_on f os) + steps_of (calls_on f ps)
  steps_on-append os ps = ap steps_of (calls_on-append f os ps) ∙ steps-append (calls_on f os) (calls_on f ps)

  -- no calls were made
  further-none : (m : Mapping) → IsFurther f [] m m
  further-none m = record { alike = alike_same m.rows.run; number = omega arith; cells = refl; steps = omega arith }

  further-then : (os ps : List Operands) (a b c : Mapping) → IsFurther f os a b → IsFurther f ps b c → IsFurther f (os ++ ps) a c
  further-then os ps a b c x y = record {
    alike = alike_then a.rows.run b.rows.run c.rows.run x.alike y.alike;
    number = let p = x.number in let q = y.number in omega (arith, p, q, length-append os ps);
    cells = y.cells
        ∙ (ap (λ n. valued_from n (values_on f ps) (all_cells b.rows.run)) x.number
        ∙ (ap (valued_from (a.rows.written + length os) (values_on f ps)) x.cells
        ∙ (ap (λ n. valued_from (a.rows.written + n) (values_on f ps) (valued_from a.rows.written (values_on f os) (all_cells a.rows.run))) (sym (length_values f os))
        ∙ (sym (valued_from-append a.rows.written (values_on f os) (values_on f ps) (all_cells a.rows.run))
        ∙ ap (λ vs. valued_from a.rows.written vs (all_cells a.rows.run)) (sym (values_on-append f os ps))))));
    steps = let p = x.steps in let q = y.steps in omega (arith, p, q, steps_on-append os ps);
  }

  -- ---- some calls were made, and others are to come

  pub record IsMapping (all : List Operands) (old : Mapping) (left : List Operands) (now : Mapping) : Type 0 where
    pub entries : HasEntries now (length left)
    pub capacity : now.steps + steps_of (calls_on f left) < 2 ^ 64
    pub ends : (n : Mapping) → IsFurther f left now n → IsFurther f all old n

  pub mapping-start : (all : List Operands) (old : Mapping) → HasEntries old (length all) → old.steps + steps_of (calls_on f all) < 2 ^ 64 → IsMapping all old all old
  mapping-start all old e r = record { entries = e; capacity = r; ends = λ n a. a }

  pub mapping-end : (all : List Operands) (old : Mapping) (left : List Operands) (now : Mapping) → IsMapping all old left now → left ≡ [] → IsFurther f all old now
  mapping-end all old left now i e = i.ends now (subst (λ os. IsFurther f os now now) (sym e) (further-none now))

  module _ (all : List Operands) (old : Mapping) (left first rest : List Operands) (now : Mapping) (i : IsMapping all old left now) (p : left ≡ first ++ rest) where
    many : length left ≡ length first + length rest
    many = ap (λ (os : List Operands). length os) p ∙ length-append first rest

    cost : steps_of (calls_on f left) ≡ steps_of (calls_on f first) + steps_of (calls_on f rest)
    cost = ap (λ os. steps_of (calls_on f os)) p ∙ steps_on-append first rest

    pub mapping-entries : HasEntries now (length first)
    mapping-entries = let e = i.entries in let n = many in omega (arith, e, n)

    pub mapping-room : now.steps + steps_of (calls_on f first) < 2 ^ 64
    mapping-room = let r = i.capacity in let s = cost in omega (arith, r, s)

    pub mapping-step : (m : Mapping) → IsFurther f first now m → IsMapping all old rest m
    mapping-step m a = record {
      entries = let e = i.entries in let l = a.number in let k = alike_entries now.rows.run m.rows.run a.alike in let n = many in omega (arith, e, l, k, n);
      capacity = let r = i.capacity in let t = a.steps in let s = cost in omega (arith, r, t, s);
      ends = λ q b. i.ends q (subst (λ os. IsFurther f os now q) (sym p) (further-then first rest now m q a b));
    }

-- ---- what is called for cells

pub length_entries : (i thunk : ℕ) (cs : List Cell) → length (entries_of i thunk cs) ≡ length cs
length_entries i thunk [] = refl
length_entries i thunk (c ∷ cs) = ap suc (length_entries i thunk cs)

pub entries_of-append : (i thunk : ℕ) (cs ds : List Cell) → entries_of i thunk (cs ++ ds) ≡ entries_of i thunk cs ++ entries_of i thunk ds
entries_of-append i thunk [] ds = refl
entries_of-append i thunk (c ∷ cs) ds = ap (λ os. Index c.1 i c.0 thunk ∷ os) (entries_of-append i thunk cs ds)

pub length_words : (cs : List Cell) → length (words_of cs) ≡ length cs
length_words [] = refl
length_words (c ∷ cs) = ap suc (length_words cs)

pub words_of-append : (cs ds : List Cell) → words_of (cs ++ ds) ≡ words_of cs ++ words_of ds
words_of-append [] ds = refl
words_of-append (c ∷ cs) ds = ap (λ os. Unary c.1 ∷ os) (words_of-append cs ds)

pub parts : (n : ℕ) (cs front back : List Cell) → front ≡ take n cs → back ≡ drop n cs → cs ≡ front ++ back
parts n cs front back f b = sym (ap (λ r. r ++ back) f ∙ (ap (λ r. take n cs ++ r) b ∙ take-append-drop n cs))

-- ---- all words, some at a time: the words of the next cells are called

module _ (f : Accepted) (all : List Operands) (old now : Mapping) (to : ℕ) (cells : List Cell) (operands : List Operands)
    (i : IsMapping f all old (words_of (drop now.rows.written (all_cells now.rows.run))) now) (e : now.rows.written ≤ to) (l : to ≤ entries_in_run now.rows.run)
    (c : cells ≡ take (to - now.rows.written) (drop now.rows.written (all_cells now.rows.run))) (gathered : operands ≡ words_of cells) where
  pub words-count : length operands ≡ to - now.rows.written
  words-count =
      ap (λ (os : List Operands). length os) gathered ∙ (length_words cells ∙ (ap (λ (cs : List Cell). length cs) c
      ∙ length-take-le (to - now.rows.written) (drop now.rows.written (all_cells now.rows.run)) (omega (arith, entries_are now.rows.run, length-drop now.rows.written (all_cells now.rows.run), e, l))))

  words-parts : words_of (drop now.rows.written (all_cells now.rows.run)) ≡ operands ++ words_of (drop to (all_cells now.rows.run))
  words-parts =
      let rest : drop to (all_cells now.rows.run) ≡ drop (to - now.rows.written) (drop now.rows.written (all_cells now.rows.run)) =
      ap (λ q. drop q (all_cells now.rows.run)) (let z : to ≡ now.rows.written + (to - now.rows.written) = omega arith in z) ∙ sym (drop-drop (to - now.rows.written) now.rows.written (all_cells now.rows.run)) in
      ap words_of (parts (to - now.rows.written) (drop now.rows.written (all_cells now.rows.run)) cells (drop to (all_cells now.rows.run)) c rest)
      ∙ (words_of-append cells (drop to (all_cells now.rows.run)) ∙ ap (λ os. os ++ words_of (drop to (all_cells now.rows.run))) (sym gathered))

  pub words-entries : HasEntries now (length operands)
  words-entries = mapping-entries f all old _ operands _ now i words-parts

  pub words-room : now.steps + steps_of (calls_on f operands) < 2 ^ 64
  words-room = mapping-room f all old _ operands _ now i words-parts

  pub words-made : (m : Mapping) → IsFurther f operands now m → IsMapping f all old (words_of (drop m.rows.written (all_cells m.rows.run))) m
  words-made m a =
      let at : m.rows.written ≡ to = let n = words-count in let p = a.number in omega (arith, p, n, e) in
      let rest : drop to (all_cells now.rows.run) ≡ drop m.rows.written (all_cells m.rows.run) =
      ap (λ q. drop q (all_cells now.rows.run)) (sym at)
      ∙ (sym (valued_behind now.rows.written m.rows.written (values_on f operands) (all_cells now.rows.run) (let p = a.number in omega (arith, length_values f operands, p)))
      ∙ ap (drop m.rows.written) (sym a.cells)) in
      subst (λ cs. IsMapping f all old (words_of cs) m) rest (mapping-step f all old _ operands _ now i words-parts m a)
