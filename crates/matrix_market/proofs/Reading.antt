-- What the next line of a text does to what was read.
use Rattle.std.proofs.Common.{◌≡◌, ◌≤◌, ◌<◌, ◌+◌, ℕ, List, [], ◌∷◌, ◌++◌, Bool, true, false, not, nat_lt, ◌==◌, ◌||◌, ◌&&◌, cond, Option, Some, None, Ok, Err, length, refl, sym, ap, ◌∙◌, arith, append_assoc, append-nil, length-append}
use Rattle.std.proofs.lemmas.Bool.{lt-ltb, le-ltb, ltb-false}
use Rattle.std.proofs.lemmas.Bool.Decides.{nat_tests}
use Rattle.std.specs.List.{flat_map}
use Rattle.std.specs.Str.Lines.{lines}
use Rattle.std.specs.FinMap as fin
use Rattle.csr_store.specs.Grid.{Grid, Position, pos_cmp}
use Rattle.matrix_market.specs.declared.rule.MarketRule.{MarketRule}
use Rattle.matrix_market.specs.declared.rule.MarketRule.TheVariants.{MalformedBanner, MalformedSize, SizeAboveLimit, IndexOutsideMatrix, ValueOutOfRange, PositionGivenTwice, TooFewEntries, LineAfterLastEntry, LineTooLong, SymmetricNotSquare}
use Rattle.matrix_market.specs.declared.kinds.Banner.{Banner}
use Rattle.matrix_market.specs.declared.kinds.Size.{Size}
use Rattle.matrix_market.specs.declared.kinds.Found.{Found}
use Rattle.text_words.specs.Words.{words}
use Rattle.matrix_market.specs.Market.{WrittenEntry, IsFault, IsTextOf, is_skipped, is_banner, banner_words, tail, size_rules, size_words, entry_rules, entry_words, entries_of, option_list, is_large, word_of, is_repeated, places, words_at, at_most, rules_at, first_rule, when}
use Rattle.matrix_market.specs.inner.Answers.{
  Passes,
  banner_answer,
  known_banner,
  size_answer,
  entry_answer,
  spots,
  put_all,
  some_given,
}
use Rattle.matrix_market.specs.inner.Filling.{At, Filled}
use Rattle.matrix_market.specs.inner.Rules.{content_rules, end_rules}
use Rattle.matrix_market.proofs.Places.{rules_here, next_rules, last_rules, idle_lines, content_line, fault_next, clean_more}
use Rattle.matrix_market.proofs.Puts.{cells_more, repeated_is}

-- ---- the first line
banner_ok : (t : Bool) (o : Option Banner) (b : Banner) → Ok b ≡ cond t (known_banner o) (Err MalformedBanner) → (t ≡ true) × (o ≡ Some b)
banner_ok true None b h = absurd (cc)
banner_ok true (Some x) b h = (refl, cc)
banner_ok false o b h = absurd (cc)

pub begun : (text first rest : List ℕ) (b : Banner) → lines text ≡ first ∷ lines rest → nat_lt 1024 (length first) ≡ false → Ok b ≡ banner_answer (words first) → At (lines text) b [] (lines rest) 1
begun text first rest b e s k =
    let o = banner_ok (is_banner (words first)) (banner_words (tail (words first))) b k in
    let r : rules_at (lines text) 1 ≡ [] = rules_here (lines text) [] (lines rest) first 1 e refl ∙ rw (s, o.0, o.1) refl in
    record {
      first = first;
      done = [];
      split = e;
      counts = refl;
      clean = λ n a l. let q : n ≡ 1 = omega arith in rw q r;
      banner_is = rw o.0 o.1;
      content_is = refl;
    }

pub passed : (ls : List (List ℕ)) (b : Banner) (cs : List (List ℕ)) (rest : List ℕ) (more : List (List ℕ)) (n before : ℕ) → At ls b cs (lines rest) n → Passes rest n more before → At ls b cs more before
passed ls b cs rest more n before h p = idle_lines ls b cs more p.between n before (rw p.split at h) p.counts p.idle

pub long_fault : (text : List ℕ) (b : Banner) (cs rest : List (List ℕ)) (line : List ℕ) (n m : ℕ) → At (lines text) b cs (line ∷ rest) n → m ≡ n + 1 → nat_lt 1024 (length line) ≡ true → IsFault text m LineTooLong
long_fault text b cs rest line n m h e l =
    fault_next text b cs (line ∷ rest) n m LineTooLong h e (ap first_rule (next_rules (lines text) b cs rest line n m h e) ∙ rw l refl)

-- the rules of a line that is not passed over
line_rules : (ls : List (List ℕ)) (b : Banner) (cs rest : List (List ℕ)) (line : List ℕ) (n m : ℕ) → At ls b cs (line ∷ rest) n → m ≡ n + 1 → is_skipped line ≡ false → nat_lt 1024 (length line) ≡ false → rules_at ls m ≡ content_rules b cs line
line_rules ls b cs rest line n m h e s l = next_rules ls b cs rest line n m h e ∙ rw (l, s) refl

line_fault : (text : List ℕ) (b : Banner) (cs rest : List (List ℕ)) (line : List ℕ) (n m : ℕ) (rule : MarketRule) → At (lines text) b cs (line ∷ rest) n → m ≡ n + 1 → is_skipped line ≡ false → nat_lt 1024 (length line) ≡ false
    → first_rule (content_rules b cs line) ≡ Some rule → IsFault text m rule
line_fault text b cs rest line n m rule h e s l r =
    fault_next text b cs (line ∷ rest) n m rule h e (ap first_rule (line_rules (lines text) b cs rest line n m h e s l) ∙ r)

-- ---- the size line
pub no_size : (text : List ℕ) (b : Banner) (n m : ℕ) → At (lines text) b [] [] n → m ≡ n + 1 → IsFault text m MalformedSize
no_size text b n m h e = fault_next text b [] [] n m MalformedSize h e (ap first_rule (last_rules (lines text) b [] n m h e))

size_tests : (t u : Bool) (s : Size) (rule : MarketRule) → Err rule ≡ cond t (Err SizeAboveLimit) (cond u (Err SymmetricNotSquare) (Ok s)) → first_rule (when t SizeAboveLimit ++ when u SymmetricNotSquare) ≡ Some rule
size_tests true u s rule h = cc
size_tests false true s rule h = cc
size_tests false false s rule h = absurd (cc)

size_refused : (symmetric : Bool) (o : Option Size) (rule : MarketRule) → Err rule ≡ size_answer symmetric o → first_rule (size_rules symmetric o) ≡ Some rule
size_refused symmetric None rule h = cc
size_refused symmetric (Some s) rule h = size_tests _ _ s rule h

pub size_fault : (text : List ℕ) (b : Banner) (rest : List (List ℕ)) (line : List ℕ) (n m : ℕ) (rule : MarketRule) → At (lines text) b [] (line ∷ rest) n → m ≡ n + 1 → is_skipped line ≡ false → nat_lt 1024 (length line) ≡ false
    → Err rule ≡ size_answer b.symmetric (size_words (words line)) → IsFault text m rule
size_fault text b rest line n m rule h e s l k = line_fault text b [] rest line n m rule h e s l (size_refused b.symmetric (size_words (words line)) rule k)

size_passes : (t u : Bool) (s z : Size) → Ok z ≡ cond t (Err SizeAboveLimit) (cond u (Err SymmetricNotSquare) (Ok s)) → (t ≡ false) × (u ≡ false) × (z ≡ s)
size_passes true u s z h = absurd (cc)
size_passes false true s z h = absurd (cc)
size_passes false false s z h = (refl, refl, cc)

record Taken (symmetric : Bool) (o : Option Size) (s : Size) : Type 0 where
  is : o ≡ Some s
  clean : size_rules symmetric o ≡ []
  small : (is_large s.rows || is_large s.columns || is_large s.entries || (symmetric && nat_lt 8388608 s.entries)) ≡ false
  square : (symmetric && not (s.rows == s.columns)) ≡ false

size_taken : (symmetric : Bool) (o : Option Size) (s : Size) → Ok s ≡ size_answer symmetric o → Taken symmetric o s
size_taken symmetric None s h = absurd (cc)
size_taken symmetric (Some z) s h =
    let p = size_passes _ _ z s h in
    record {
      is = ap Some (sym p.2);
      clean = rw (p.0, p.1) refl;
      small = rw p.2 p.0;
      square = rw p.2 p.1;
    }

either_false : (a b : Bool) → (a || b) ≡ false → (a ≡ false) × (b ≡ false)
either_false true b e = absurd (cc)
either_false false b e = (refl, e)

second_false : (a b : Bool) → a ≡ true → (a && b) ≡ false → b ≡ false
second_false true b e h = h
second_false false b e h = absurd (cc)

same_sides : (r c : ℕ) → not (r == c) ≡ false → r ≡ c
same_sides r c h = grind (arith, nat_tests)

-- what a size line says of a symmetric matrix
pub size_halved : (b : Banner) (s : Size) (line : List ℕ) → Ok s ≡ size_answer b.symmetric (size_words (words line)) → b.symmetric ≡ true → s.entries ≤ 8388608
size_halved b s line a e =
    let t = size_taken b.symmetric (size_words (words line)) s a in
    let p = either_false (is_large s.rows || is_large s.columns || is_large s.entries) (b.symmetric && nat_lt 8388608 s.entries) t.small in
    ltb-false _ _ (second_false b.symmetric (nat_lt 8388608 s.entries) e p.1)

pub size_square : (b : Banner) (s : Size) (line : List ℕ) → Ok s ≡ size_answer b.symmetric (size_words (words line)) → b.symmetric ≡ true → s.rows ≡ s.columns
size_square b s line a e =
    let t = size_taken b.symmetric (size_words (words line)) s a in
    same_sides s.rows s.columns (second_false b.symmetric (not (s.rows == s.columns)) e t.square)

pub size_read : (text rest : List ℕ) (b : Banner) (s : Size) (line : List ℕ) (n m : ℕ) → At (lines text) b [] (line ∷ lines rest) n → m ≡ n + 1 → is_skipped line ≡ false → nat_lt 1024 (length line) ≡ false
    → Ok s ≡ size_answer b.symmetric (size_words (words line)) → Filled text b s (record { rows = s.rows; columns = s.columns; cells = fin.empty }) rest m 0
size_read text rest b s line n m h e k l a =
    let t = size_taken b.symmetric (size_words (words line)) s a in
    let p = either_false (is_large s.rows || is_large s.columns || is_large s.entries) (b.symmetric && nat_lt 8388608 s.entries) t.small in
    let q = either_false (is_large s.rows || is_large s.columns) (is_large s.entries) p.0 in
    let r = either_false (is_large s.rows) (is_large s.columns) q.0 in
    record {
      size_line = line;
      entry_lines = [];
      here = content_line (lines text) b [] (lines rest) line n m h e k (line_rules (lines text) b [] (lines rest) line n m h e k l ∙ t.clean);
      size_is = t.is;
      rows_small = ltb-false _ _ r.0;
      columns_small = ltb-false _ _ r.1;
      entries_small = ltb-false _ _ q.1;
      given_is = refl;
      rows_are = refl;
      columns_are = refl;
      cells_are = λ p. (let e : fin.get (fin.empty {K = Position} {X = ℕ} {R = pos_cmp}) p ≡ None = fin.get-empty pos_cmp p in sym (ap at_most e));
    }

-- ---- entry lines
entry_line_rules : (b : Banner) (s : Size) (z : List ℕ) (els : List (List ℕ)) (line : List ℕ) → size_words (words z) ≡ Some s
    → content_rules b (z ∷ els) line ≡ cond (nat_lt (length els) s.entries) (entry_rules b s (entries_of b.pattern (z ∷ els)) (entry_words b.pattern (words line))) (LineAfterLastEntry ∷ [])
entry_line_rules b s z els line e = rw e refl

in_entries : (b : Banner) (s : Size) (z : List ℕ) (els : List (List ℕ)) (line : List ℕ) → size_words (words z) ≡ Some s → nat_lt (length els) s.entries ≡ true
    → content_rules b (z ∷ els) line ≡ entry_rules b s (entries_of b.pattern (z ∷ els)) (entry_words b.pattern (words line))
in_entries b s z els line e t = entry_line_rules b s z els line e ∙ rw t refl

short_rules : (b : Banner) (s : Size) (z : List ℕ) (els : List (List ℕ)) → size_words (words z) ≡ Some s → end_rules (Some b) (z ∷ els) ≡ when (nat_lt (length els) s.entries) TooFewEntries
short_rules b s z els e = rw e refl

entry_tests : (t u v : Bool) (f : Found) (rule : MarketRule) → Err rule ≡ cond t (Err IndexOutsideMatrix) (cond u (Err ValueOutOfRange) (Ok f)) → first_rule (when t IndexOutsideMatrix ++ when u ValueOutOfRange ++ when v PositionGivenTwice) ≡ Some rule
entry_tests true u v f rule h = cc
entry_tests false true v f rule h = cc
entry_tests false false v f rule h = absurd (cc)

entry_refused : (b : Banner) (s : Size) (es : List WrittenEntry) (o : Option WrittenEntry) (rule : MarketRule) → Err rule ≡ entry_answer s o → first_rule (entry_rules b s es o) ≡ Some rule
entry_refused b s es None rule h = cc
entry_refused b s es (Some e) rule h = entry_tests _ _ _ _ rule h

entry_passes : (t u : Bool) (f g : Found) → Ok g ≡ cond t (Err IndexOutsideMatrix) (cond u (Err ValueOutOfRange) (Ok f)) → (t ≡ false) × (u ≡ false) × (g ≡ f)
entry_passes true u f g h = absurd (cc)
entry_passes false true f g h = absurd (cc)
entry_passes false false f g h = (refl, refl, cc)

-- an entry that was found: only its places remain to be looked at
record Entered (b : Banner) (s : Size) (o : Option WrittenEntry) (f : Found) : Type 0 where
  entry : WrittenEntry
  is : o ≡ Some entry
  places_are : places b.symmetric entry ≡ spots b.symmetric f
  word_is : word_of entry.value ≡ f.word
  rules : (es : List WrittenEntry) → entry_rules b s es o ≡ when (is_repeated b.symmetric entry es) PositionGivenTwice

entry_found : (b : Banner) (s : Size) (o : Option WrittenEntry) (f : Found) → Ok f ≡ entry_answer s o → Entered b s o f
entry_found b s None f h = absurd (cc)
entry_found b s (Some e) f h =
    let p = entry_passes _ _ _ f h in
    record {
      entry = e;
      is = refl;
      places_are = ap (λ g. spots b.symmetric g) (sym p.2);
      word_is = ap (λ (g : Found). g.word) (sym p.2);
      rules = λ es. rw (p.0, p.1) refl;
    }

-- a line that follows the entry lines so far
pub entry_fault : (text rest : List ℕ) (b : Banner) (s : Size) (g : Grid) (n before m given : ℕ) (line : List ℕ) (more : List (List ℕ)) (rule : MarketRule) → Filled text b s g rest n given → given < s.entries
    → Passes rest n (line ∷ more) before → m ≡ before + 1 → is_skipped line ≡ false → nat_lt 1024 (length line) ≡ false → Err rule ≡ entry_answer s (entry_words b.pattern (words line)) → IsFault text m rule
entry_fault text rest b s g n before m given line more rule h l p e k w a =
    let c = h.given_is in
    let t : nat_lt (length h.entry_lines) s.entries ≡ true = lt-ltb (length h.entry_lines) s.entries (omega arith) in
    line_fault text b (h.size_line ∷ h.entry_lines) more line before m rule (passed (lines text) b _ rest (line ∷ more) n before h.here p) e k w
    (ap first_rule (in_entries b s h.size_line h.entry_lines line h.size_is t) ∙ entry_refused b s (entries_of b.pattern (h.size_line ∷ h.entry_lines)) (entry_words b.pattern (words line)) rule a)

pub twice_fault : (text rest : List ℕ) (b : Banner) (s : Size) (g : Grid) (n before m given : ℕ) (line : List ℕ) (more : List (List ℕ)) (f : Found) → Filled text b s g rest n given → given < s.entries
    → Passes rest n (line ∷ more) before → m ≡ before + 1 → is_skipped line ≡ false → nat_lt 1024 (length line) ≡ false → Ok f ≡ entry_answer s (entry_words b.pattern (words line)) → some_given g.cells (spots b.symmetric f) ≡ true → IsFault text m PositionGivenTwice
twice_fault text rest b s g n before m given line more f h l p e k w a y =
    let c = h.given_is in
    let t : nat_lt (length h.entry_lines) s.entries ≡ true = lt-ltb (length h.entry_lines) s.entries (omega arith) in
    let d = entry_found b s (entry_words b.pattern (words line)) f a in
    let r : is_repeated b.symmetric d.entry (entries_of b.pattern (h.size_line ∷ h.entry_lines)) ≡ true = repeated_is b.symmetric _ d.entry g.cells h.cells_are ∙ (ap (some_given g.cells) d.places_are ∙ y) in
    line_fault text b (h.size_line ∷ h.entry_lines) more line before m PositionGivenTwice (passed (lines text) b _ rest (line ∷ more) n before h.here p) e k w
    (ap first_rule (entry_line_rules b s h.size_line h.entry_lines line h.size_is ∙ (rw t refl ∙ (d.rules _ ∙ ap (λ v. when v PositionGivenTwice) r))))

entries_push : (pattern : Bool) (els : List (List ℕ)) (line : List ℕ) (e : WrittenEntry) → entry_words pattern (words line) ≡ Some e
    → flat_map (λ l. option_list (entry_words pattern (words l))) (els ++ line ∷ []) ≡ flat_map (λ l. option_list (entry_words pattern (words l))) els ++ e ∷ []
entries_push pattern [] line e h = ap (λ o. option_list o ++ []) h
entries_push pattern (x ∷ els) line e h = ap (λ es. option_list (entry_words pattern (words x)) ++ es) (entries_push pattern els line e h) ∙ sym (append_assoc (option_list (entry_words pattern (words x))) (flat_map (λ l. option_list (entry_words pattern (words l))) els) (e ∷ []))

pub entry_read : (text rest more : List ℕ) (b : Banner) (s : Size) (g k : Grid) (n before m given : ℕ) (line : List ℕ) (f : Found) → Filled text b s g rest n given → given < s.entries
    → Passes rest n (line ∷ lines more) before → m ≡ before + 1 → is_skipped line ≡ false → nat_lt 1024 (length line) ≡ false → Ok f ≡ entry_answer s (entry_words b.pattern (words line))
    → some_given g.cells (spots b.symmetric f) ≡ false → k ≡ record g { cells = put_all g.cells (spots b.symmetric f) f.word } → Filled text b s k more m (given + 1)
entry_read text rest more b s g k n before m given line f h l p e i w a y u =
    let c = h.given_is in
    let t : nat_lt (length h.entry_lines) s.entries ≡ true = lt-ltb (length h.entry_lines) s.entries (omega arith) in
    let d = entry_found b s (entry_words b.pattern (words line)) f a in
    let y' : some_given g.cells (places b.symmetric d.entry) ≡ false = ap (some_given g.cells) d.places_are ∙ y in
    let r : is_repeated b.symmetric d.entry (entries_of b.pattern (h.size_line ∷ h.entry_lines)) ≡ false = repeated_is b.symmetric _ d.entry g.cells h.cells_are ∙ y' in
    let there = passed (lines text) b (h.size_line ∷ h.entry_lines) rest (line ∷ lines more) n before h.here p in
    record {
      size_line = h.size_line;
      entry_lines = h.entry_lines ++ line ∷ [];
      here = content_line (lines text) b (h.size_line ∷ h.entry_lines) (lines more) line before m there e i
          (line_rules (lines text) b (h.size_line ∷ h.entry_lines) (lines more) line before m there e i w
          ∙ (entry_line_rules b s h.size_line h.entry_lines line h.size_is ∙ (rw t refl ∙ (d.rules _ ∙ ap (λ v. when v PositionGivenTwice) r))));
      size_is = h.size_is;
      rows_small = h.rows_small;
      columns_small = h.columns_small;
      entries_small = h.entries_small;
      given_is = omega (arith, length-append h.entry_lines (line ∷ []));
      rows_are = ap (λ (q : Grid). q.rows) u ∙ h.rows_are;
      columns_are = ap (λ (q : Grid). q.columns) u ∙ h.columns_are;
      cells_are = λ q.
          ap (λ es. words_at b.symmetric es q) (entries_push b.pattern h.entry_lines line d.entry d.is)
          ∙ (cells_more b.symmetric (entries_of b.pattern (h.size_line ∷ h.entry_lines)) d.entry g.cells h.cells_are y' q
          ∙ (ap (λ ps. at_most (fin.get (put_all g.cells ps (word_of d.entry.value)) q)) d.places_are
          ∙ (ap (λ v. at_most (fin.get (put_all g.cells (spots b.symmetric f) v) q)) d.word_is
          ∙ ap (λ (x : Grid). at_most (fin.get x.cells q)) (sym u))));
    }

pub long_entry : (text rest : List ℕ) (b : Banner) (s : Size) (g : Grid) (n before m given : ℕ) (line : List ℕ) (more : List (List ℕ)) → Filled text b s g rest n given
    → Passes rest n (line ∷ more) before → m ≡ before + 1 → nat_lt 1024 (length line) ≡ true → IsFault text m LineTooLong
long_entry text rest b s g n before m given line more h p e l =
    long_fault text b (h.size_line ∷ h.entry_lines) more line before m (passed (lines text) b _ rest (line ∷ more) n before h.here p) e l

pub too_few : (text rest : List ℕ) (b : Banner) (s : Size) (g : Grid) (n at m given : ℕ) → Filled text b s g rest n given → given < s.entries → Passes rest n [] at → m ≡ at + 1 → IsFault text m TooFewEntries
too_few text rest b s g n at m given h l p e =
    let c = h.given_is in
    let t : nat_lt (length h.entry_lines) s.entries ≡ true = lt-ltb (length h.entry_lines) s.entries (omega arith) in
    let there = passed (lines text) b (h.size_line ∷ h.entry_lines) rest [] n at h.here p in
    fault_next text b (h.size_line ∷ h.entry_lines) [] at m TooFewEntries there e (ap first_rule (last_rules (lines text) b _ at m there e ∙ short_rules b s h.size_line h.entry_lines h.size_is) ∙ rw t refl)

pub too_many : (text rest : List ℕ) (b : Banner) (s : Size) (g : Grid) (n before m given : ℕ) (line : List ℕ) (more : List (List ℕ)) → Filled text b s g rest n given → s.entries ≤ given
    → Passes rest n (line ∷ more) before → m ≡ before + 1 → is_skipped line ≡ false → nat_lt 1024 (length line) ≡ false → IsFault text m LineAfterLastEntry
too_many text rest b s g n before m given line more h l p e k w =
    let c = h.given_is in
    let t : nat_lt (length h.entry_lines) s.entries ≡ false = le-ltb (length h.entry_lines) s.entries (omega arith) in
    line_fault text b (h.size_line ∷ h.entry_lines) more line before m LineAfterLastEntry (passed (lines text) b _ rest (line ∷ more) n before h.here p) e k w
    (ap first_rule (entry_line_rules b s h.size_line h.entry_lines line h.size_is) ∙ rw t refl)

pub whole : (text rest : List ℕ) (b : Banner) (s : Size) (g k : Grid) (n at given : ℕ) → Filled text b s g rest n given → s.entries ≤ given → Passes rest n [] at → k ≡ g → IsTextOf text k
whole text rest b s g k n at given h l p u =
    let c = h.given_is in
    let t : nat_lt (length h.entry_lines) s.entries ≡ false = le-ltb (length h.entry_lines) s.entries (omega arith) in
    let there = passed (lines text) b (h.size_line ∷ h.entry_lines) rest [] n at h.here p in
    let r : rules_at (lines text) (at + 1) ≡ [] = last_rules (lines text) b _ at (at + 1) there refl ∙ (short_rules b s h.size_line h.entry_lines h.size_is ∙ rw t refl) in
    let q = there.counts in let z = ap length there.split in
    record {
      faultless = λ i a d. clean_more (lines text) at (at + 1) there.clean refl r i a (omega (arith, length-append there.done []));
      first = there.first;
      others = there.done;
      lines_are = there.split ∙ append-nil (there.first ∷ there.done);
      banner = b;
      banner_is = there.banner_is;
      size = s;
      size_is = rw there.content_is h.size_is;
      rows = ap (λ (x : Grid). x.rows) u ∙ h.rows_are;
      columns = ap (λ (x : Grid). x.columns) u ∙ h.columns_are;
      cells = λ x. ap (λ cs. words_at b.symmetric (entries_of b.pattern cs) x) there.content_is ∙ (h.cells_are x ∙ ap (λ (y : Grid). at_most (fin.get y.cells x)) (sym u));
    }
