-- Where a reader stands in a text.
use Rattle.std.proofs.Common.{◌≡◌, ◌+◌, ◌-◌, ℕ, zero, suc, List, [], ◌∷◌, ◌++◌, true, false, nat_lt, cond, not, Option, Some, None, length, take, refl, sym, ap, ◌∙◌, arith, append_assoc, append-nil, length-append, inl, inr}
use Rattle.std.specs.Prelude.{slice_get}
use Rattle.std.proofs.lemmas.List.{take_at}
use Rattle.std.proofs.lemmas.List.Elements.{filter-append}
use Rattle.std.proofs.lemmas.Bool.{cases_lt}
use Rattle.std.specs.List.{AllByRecursion}
use Rattle.std.specs.Str.Lines.{lines}
use Rattle.matrix_market.specs.declared.rule.MarketRule.{MarketRule}
use Rattle.matrix_market.specs.declared.rule.MarketRule.TheVariants.{LineAfterLastEntry, LineTooLong, TooFewEntries}
use Rattle.matrix_market.specs.declared.kinds.Banner.{Banner}
use Rattle.matrix_market.specs.declared.kinds.Size.{Size}
use Rattle.text_words.specs.Words.{words}
use Rattle.matrix_market.specs.Market.{EntryLine, PastEntries, banner_of, tail, is_skipped, content, rules_at, first_rule, when, IsFault, role_after, role_sized, rules_in, size_words, entries_of, entry_rules, entry_words}
use Rattle.matrix_market.specs.inner.Rules.{rules_behind, sized_rules, later_rules, sized_end, end_rules}
use Rattle.matrix_market.specs.inner.Answers.{IsIdle}
use Rattle.matrix_market.specs.inner.Filling.{Clean, At}

get_there : (done rest : List (List ℕ)) (line : List ℕ) (n : ℕ) → length done ≡ n → slice_get (done ++ line ∷ rest) n ≡ Some line
get_there [] rest line zero e = refl
get_there [] rest line (suc n) e = absurd (omega arith)
get_there (d ∷ done) rest line zero e = absurd (omega arith)
get_there (d ∷ done) rest line (suc n) e = get_there done rest line n (omega arith)

get_behind : (done : List (List ℕ)) (n : ℕ) → length done ≡ n → slice_get done n ≡ None
get_behind [] zero e = refl
get_behind [] (suc n) e = absurd (omega arith)
get_behind (d ∷ done) zero e = absurd (omega arith)
get_behind (d ∷ done) (suc n) e = get_behind done n (omega arith)

pub rules_here : (ls done rest : List (List ℕ)) (line : List ℕ) (n : ℕ) → ls ≡ done ++ line ∷ rest → n ≡ length done + 1 → rules_at ls n ≡ rules_behind done (Some line)
rules_here ls done rest line n e c =
    let k : length done ≡ n - 1 = omega arith in
    ap (λ xs. rules_at xs n) e ∙ (ap (λ d. rules_behind d (slice_get (done ++ line ∷ rest) (n - 1))) (take_at done (line ∷ rest) (n - 1) k) ∙ ap (rules_behind done) (get_there done rest line (n - 1) k))

pub rules_end : (ls done : List (List ℕ)) (n : ℕ) → ls ≡ done → n ≡ length done + 1 → rules_at ls n ≡ rules_behind done None
rules_end ls done n e c =
    let k : length done ≡ n - 1 = omega arith in
    let t : take (n - 1) done ≡ done = ap (take (n - 1)) (sym (append-nil done)) ∙ take_at done [] (n - 1) k in
    ap (λ xs. rules_at xs n) e ∙ (ap (λ d. rules_behind d (slice_get done (n - 1))) t ∙ ap (rules_behind done) (get_behind done (n - 1) k))

pub clean_more : (ls : List (List ℕ)) (n m : ℕ) → Clean ls n → m ≡ n + 1 → rules_at ls m ≡ [] → Clean ls m
clean_more ls n m h e r k a b = elim (cases_lt n k) [
  | inr l ↦ h k a l
  | inl g ↦ (let s : k ≡ m = omega arith in rw s r)
]

-- ---- the rules by roles are those by what a reader knows
sized_same : (b : Banner) (ls : List (List ℕ)) (line : List ℕ) (o : Option Size)
    → rules_in (role_sized b ls o) (Some line) ≡ when (nat_lt 1024 (length line)) LineTooLong ++ cond (is_skipped line) [] (sized_rules b ls line o)
sized_same b ls line None = refl
sized_same b ls line (Some s) = elim (nat_lt (length (tail ls)) s.entries) as (λ t.
    rules_in (cond t (EntryLine b s (entries_of b.pattern ls)) PastEntries) (Some line)
    ≡ when (nat_lt 1024 (length line)) LineTooLong ++ cond (is_skipped line) [] (cond t (entry_rules b s (entries_of b.pattern ls) (entry_words b.pattern (words line))) (LineAfterLastEntry ∷ []))) [
      | true ↦ refl
      | false ↦ refl
    ]

later_same : (o : Option Banner) (ls : List (List ℕ)) (line : List ℕ)
    → rules_in (role_after o ls) (Some line) ≡ when (nat_lt 1024 (length line)) LineTooLong ++ later_rules o ls line
later_same None ls line = elim (is_skipped line) as (λ t.
    when (nat_lt 1024 (length line)) LineTooLong ++ cond t [] [] ≡ when (nat_lt 1024 (length line)) LineTooLong ++ []) [
      | true ↦ refl
      | false ↦ refl
    ]
later_same (Some b) [] line = refl
later_same (Some b) (l ∷ ls) line = sized_same b (l ∷ ls) line (size_words (words l))

sized_end_same : (b : Banner) (ls : List (List ℕ)) (o : Option Size) → rules_in (role_sized b ls o) None ≡ sized_end ls o
sized_end_same b ls None = refl
sized_end_same b ls (Some s) = elim (nat_lt (length (tail ls)) s.entries) as (λ t.
    rules_in (cond t (EntryLine b s (entries_of b.pattern ls)) PastEntries) None ≡ when t TooFewEntries) [
      | true ↦ refl
      | false ↦ refl
    ]

end_same : (o : Option Banner) (ls : List (List ℕ)) → rules_in (role_after o ls) None ≡ end_rules o ls
end_same None ls = refl
end_same (Some b) [] = refl
end_same (Some b) (l ∷ ls) = sized_end_same b (l ∷ ls) (size_words (words l))

pub next_rules : (ls : List (List ℕ)) (b : Banner) (cs rest : List (List ℕ)) (line : List ℕ) (n m : ℕ) → At ls b cs (line ∷ rest) n → m ≡ n + 1
    → rules_at ls m ≡ when (nat_lt 1024 (length line)) LineTooLong ++ later_rules (Some b) cs line
next_rules ls b cs rest line n m h e =
    let c = h.counts in
    rules_here ls (h.first ∷ h.done) rest line m h.split (omega arith)
    ∙ later_same (banner_of h.first) (content h.done) line
    ∙ (ap (λ o. when (nat_lt 1024 (length line)) LineTooLong ++ later_rules o (content h.done) line) h.banner_is ∙ ap (λ ds. when (nat_lt 1024 (length line)) LineTooLong ++ later_rules (Some b) ds line) h.content_is)

pub last_rules : (ls : List (List ℕ)) (b : Banner) (cs : List (List ℕ)) (n m : ℕ) → At ls b cs [] n → m ≡ n + 1 → rules_at ls m ≡ end_rules (Some b) cs
last_rules ls b cs n m h e =
    let c = h.counts in
    rules_end ls (h.first ∷ h.done) m (h.split ∙ append-nil (h.first ∷ h.done)) (omega arith)
    ∙ end_same (banner_of h.first) (content h.done)
    ∙ (ap (λ o. end_rules o (content h.done)) h.banner_is ∙ ap (λ ds. end_rules (Some b) ds) h.content_is)

-- one line on
step : (ls : List (List ℕ)) (b : Banner) (cs ds rest : List (List ℕ)) (line : List ℕ) (n m : ℕ) → (h : At ls b cs (line ∷ rest) n) → m ≡ n + 1 → rules_at ls m ≡ [] → content (h.done ++ line ∷ []) ≡ ds → At ls b ds rest m
step ls b cs ds rest line n m h e r k =
    let c = h.counts in
    record {
      first = h.first;
      done = h.done ++ line ∷ [];
      split = h.split ∙ ap (λ xs. h.first ∷ xs) (sym (append_assoc h.done (line ∷ []) rest));
      counts = omega (arith, length-append h.done (line ∷ []));
      clean = clean_more ls n m h.clean e r;
      banner_is = h.banner_is;
      content_is = k;
    }

content_more : (done : List (List ℕ)) (line : List ℕ) (cs : List (List ℕ)) → content done ≡ cs → content (done ++ line ∷ []) ≡ cs ++ cond (not (is_skipped line)) (line ∷ []) []
content_more done line cs e = filter-append (λ l. not (is_skipped l)) done (line ∷ []) ∙ ap (λ ds. ds ++ cond (not (is_skipped line)) (line ∷ []) []) e

pub idle_line : (ls : List (List ℕ)) (b : Banner) (cs rest : List (List ℕ)) (line : List ℕ) (n m : ℕ) → At ls b cs (line ∷ rest) n → m ≡ n + 1 → IsIdle line → At ls b cs rest m
idle_line ls b cs rest line n m h e i =
    step ls b cs cs rest line n m h e (next_rules ls b cs rest line n m h e ∙ rw (i.0, i.1) refl)
    (content_more h.done line cs h.content_is ∙ (ap (λ t. cs ++ cond (not t) (line ∷ []) []) i.0 ∙ append-nil cs))

pub idle_lines : (ls : List (List ℕ)) (b : Banner) (cs rest between : List (List ℕ)) (n m : ℕ) → At ls b cs (between ++ rest) n → m ≡ n + length between → AllByRecursion IsIdle between → At ls b cs rest m
idle_lines ls b cs rest [] n m h e i = let k : m ≡ n = omega arith in rw k h
idle_lines ls b cs rest (line ∷ between) n m h e i = idle_lines ls b cs rest between (n + 1) m (idle_line ls b cs (between ++ rest) line n (n + 1) h refl i.0) (omega arith) i.1

pub content_line : (ls : List (List ℕ)) (b : Banner) (cs rest : List (List ℕ)) (line : List ℕ) (n m : ℕ) → At ls b cs (line ∷ rest) n → m ≡ n + 1 → is_skipped line ≡ false → rules_at ls m ≡ [] → At ls b (cs ++ line ∷ []) rest m
content_line ls b cs rest line n m h e s r =
    step ls b cs (cs ++ line ∷ []) rest line n m h e r (content_more h.done line cs h.content_is ∙ ap (λ t. cs ++ cond (not t) (line ∷ []) []) s)

pub fault_next : (text : List ℕ) (b : Banner) (cs rest : List (List ℕ)) (n m : ℕ) (rule : MarketRule) → At (lines text) b cs rest n → m ≡ n + 1 → first_rule (rules_at (lines text) m) ≡ Some rule → IsFault text m rule
fault_next text b cs rest n m rule h e r =
    let c = h.counts in let s = ap length h.split in
    record {
      line = (omega arith, omega (arith, length-append h.done rest));
      fault = r;
      none_before = λ k a l. h.clean k a (omega arith);
    }
