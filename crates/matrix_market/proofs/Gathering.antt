-- Entry lines in a list, and what a text with them has.
use Rattle.std.proofs.Common.{◌≡◌, ◌≤◌, ◌<◌, ◌+◌, ◌-◌, ◌^◌, ◌%◌, ℕ, zero, suc, List, [], ◌∷◌, ◌++◌, Bool, true, false, not, cond, ◌||◌, ◌*◌, Option, None, Some, Ok, Err, nat_lt, nat_eq, is_some, length, drop, refl, sym, ap, ◌∙◌, subst, arith, append_assoc, append-nil, length-append}
use Rattle.std.proofs.lemmas.Bool.{le-ltb}
use Rattle.std.proofs.lemmas.Bool.Decides.{nat_tests}
use Rattle.std.specs.Str.Lines.{lines}
use Rattle.std.specs.FinMap as fin
use Rattle.csr_store.specs.Grid.{Grid, Position, Entry, pos_cmp, limit}
use Rattle.csr_store.specs.ByRows.{grid}
use Rattle.csr_store.specs.Listed.{Listed, NoneTwice}
use Rattle.csr_store.proofs.Listing.{once_front, once_others, absent_others, map_with_entry}
use Rattle.matrix_market.specs.declared.kinds.Banner.{Banner}
use Rattle.matrix_market.specs.declared.kinds.Size.{Size}
use Rattle.matrix_market.specs.declared.kinds.Header.{Header}
use Rattle.matrix_market.specs.declared.kinds.Found.{Found}
use Rattle.matrix_market.specs.declared.cursor.Cursor.{Cursor}
use Rattle.matrix_market.specs.declared.usual.UsualLine.{UsualLine}
use Rattle.text_words.specs.Words.{words}
use Rattle.matrix_market.specs.declared.rule.MarketRule.TheVariants.{IndexOutsideMatrix, ValueOutOfRange}
use Rattle.matrix_market.specs.Market.{Value, WrittenEntry, is_skipped, entry_words, outside, is_word, word_of}
use Rattle.matrix_market.specs.inner.Answers.{Passes, entry_answer, entry_checked, spots, put_all, some_given}
use Rattle.matrix_market.specs.inner.Filling.{At, Filled}
use Rattle.matrix_market.specs.inner.Usual.{IsEntryLine}
use Rattle.matrix_market.specs.inner.Gathering.{Adds, Begun, HasRoom, Run, Taken, Takes, nothing, width, with_word}
use Rattle.matrix_market.proofs.Puts.{none_before}
use Rattle.matrix_market.proofs.Reading.{entry_read}

-- ---- the places of an entry

none_of_them : (m : fin.FinMap pos_cmp ℕ) (p : Position) (w : ℕ) (ps : List Position) → some_given (fin.insert m p w) ps ≡ false → some_given m ps ≡ false
none_of_them m p w [] h = refl
none_of_them m p w (q ∷ ps) h =
    let t = either_false (is_some (fin.get (fin.insert m p w) q)) (some_given (fin.insert m p w) ps) h in
    rw (none_before m p q w t.0, none_of_them m p w ps t.1) refl
  where
    either_false : (a b : Bool) → (a || b) ≡ false → (a ≡ false) × (b ≡ false)
    either_false true b e = absurd (cc)
    either_false false b e = (refl, e)

-- what a list with none twice says of its last entries
record Puts (es : List Entry) (ps : List Position) (w : ℕ) : Type 0 where
  once : NoneTwice es
  free : some_given (fin.from_entries es) ps ≡ false
  cells : fin.from_entries {R = pos_cmp} (es ++ with_word ps w) ≡ put_all (fin.from_entries es) ps w

puts : (es : List Entry) (ps : List Position) (w : ℕ) → NoneTwice (es ++ with_word ps w) → Puts es ps w
puts es [] w h =
    record {
      once = subst (λ (xs : List Entry). NoneTwice xs) (append-nil es) h;
      free = refl;
      cells = ap fin.from_entries (append-nil es);
    }
puts es (p ∷ ps) w h =
    let split : es ++ (p, w) ∷ with_word ps w ≡ (es ++ (p, w) ∷ []) ++ with_word ps w = sym (append_assoc es ((p, w) ∷ []) (with_word ps w)) in
    let r = puts (es ++ (p, w) ∷ []) ps w (subst (λ (xs : List Entry). NoneTwice xs) split h) in
    let put = map_with_entry es p w r.once in
    record {
      once = once_others es p w r.once;
      free = rw (absent_others es p w r.once) (none_of_them (fin.from_entries es) p w ps (subst (λ (m : fin.FinMap pos_cmp ℕ). some_given m ps ≡ false) put r.free));
      cells = ap fin.from_entries split ∙ r.cells ∙ ap (λ (m : fin.FinMap pos_cmp ℕ). put_all m ps w) put;
    }

-- ---- lines in a row

-- the same lines begin elsewhere
pub run_same : (b : Banner) (s : Size) (given : ℕ) (start rest : List ℕ) (many : ℕ) (es : List Entry) (end : List ℕ) → lines start ≡ lines rest → Run b s given rest many es end → Run b s given start many es end
run_same b s zero start rest many es end e r = (e ∙ r.0, r.1, r.2)
run_same b s (suc given) start rest many es end e r =
    let x = r.0 in
    let y : Taken b s start es = record { between = x.between; line = x.line; more = x.more; split = e ∙ x.split; idle = x.idle; content = x.content; short = x.short; found = x.found; answer = x.answer; entries = x.entries; entries_are = x.entries_are } in
    (y, r.1, r.2, r.3)

run_by : (b : Banner) (s : Size) (i j : ℕ) (rest : List ℕ) (m n : ℕ) (es fs : List Entry) (end : List ℕ) → i ≡ j → m ≡ n → es ≡ fs → Run b s i rest m es end → Run b s j rest n fs end
run_by b s i j rest m n es fs end p q e r =
    subst (λ (xs : List Entry). Run b s j rest n xs end) e (subst (λ (k : ℕ). Run b s j rest k es end) q (subst (λ (k : ℕ). Run b s k rest m es end) p r))

run_append : (b : Banner) (s : Size) (i j : ℕ) (start rest end : List ℕ) (many more : ℕ) (es fs : List Entry) → Run b s i start many es rest → Run b s j rest more fs end → Run b s (i + j) start (many + more) (es ++ fs) end
run_append b s zero j start rest end many more es fs r q =
    let n = r.1 in
    run_by b s j (zero + j) start more (many + more) fs (es ++ fs) end (omega arith) (omega arith) (sym (ap (λ (xs : List Entry). xs ++ fs) r.2)) (run_same b s j start rest more fs end r.0 q)
run_append b s (suc i) j start rest end many more es fs r q =
    let x = r.0 in
    let n = r.2 in
    let y : Taken b s start (es ++ fs) = record {
      between = x.between;
      line = x.line;
      more = x.more;
      split = x.split;
      idle = x.idle;
      content = x.content;
      short = x.short;
      found = x.found;
      answer = x.answer;
      entries = x.entries ++ fs;
      entries_are = ap (λ (xs : List Entry). xs ++ fs) x.entries_are ∙ append_assoc (with_word (spots b.symmetric x.found) x.found.word) x.entries fs;
    } in
    run_by b s (suc (i + j)) (suc i + j) start (many + more) (many + more) (es ++ fs) (es ++ fs) end (omega arith) refl refl
    (y, r.1 + more, (let k : many + more ≡ length x.between + 1 + (r.1 + more) = omega arith in k), run_append b s i j x.more rest end r.1 more x.entries fs r.3 q)

pub adds_none : (h : Header) (l : Listed) (rest : List ℕ) (at : ℕ) → Adds h l l rest at 0 rest at
adds_none h l rest at = record { entries = []; entries_are = sym (append-nil l.entries); rows_same = refl; columns_same = refl; many = 0; last_is = omega arith; run = (refl, refl, refl) }

pub adds_more : (h : Header) (old mid new : Listed) (start rest end : List ℕ) (first at last i j : ℕ) → Adds h old mid start first i rest at → Adds h mid new rest at j end last → Adds h old new start first (i + j) end last
adds_more h old mid new start rest end first at last i j a b =
    let m = a.last_is in let n = b.last_is in
    record {
      entries = a.entries ++ b.entries;
      entries_are = b.entries_are ∙ ap (λ (es : List Entry). es ++ b.entries) a.entries_are ∙ append_assoc old.entries a.entries b.entries;
      rows_same = b.rows_same ∙ a.rows_same;
      columns_same = b.columns_same ∙ a.columns_same;
      many = a.many + b.many;
      last_is = omega arith;
      run = run_append h.banner h.size i j start rest end a.many b.many a.entries b.entries a.run b.run;
    }

-- the same behind a line of another number
pub adds_at : (h : Header) (old new : Listed) (rest end : List ℕ) (at given last number : ℕ) → Adds h old new rest 0 given end last → number ≡ at + last → Adds h old new rest at given end number
adds_at h old new rest end at given last number a e =
    let m = a.last_is in
    record { entries = a.entries; entries_are = a.entries_are; rows_same = a.rows_same; columns_same = a.columns_same; many = a.many; last_is = omega arith; run = a.run }

-- a run of lines more
pub adds_run : (h : Header) (old mid new : Listed) (start rest end : List ℕ) (first at number given many next : ℕ) → Adds h old mid start first given rest at → Adds h mid new rest 0 many (drop next rest) many → end ≡ drop next rest → number ≡ at + many
    → Adds h old new start first (given + many) end number
adds_run h old mid new start rest end first at number given many next a b e n =
    adds_more h old mid new start rest end first at number given many a
    (adds_at h mid new rest end at many many number (subst (λ (xs : List ℕ). Adds h mid new rest 0 many xs many) (sym e) b) n)

-- one line
pub adds_line : (h : Header) (old new : Listed) (rest more : List ℕ) (at before last : ℕ) (line : List ℕ) (f : Found) → Passes rest at (line ∷ lines more) before → last ≡ before + 1 → is_skipped line ≡ false → nat_lt 1024 (length line) ≡ false
    → Ok f ≡ entry_answer h.size (entry_words h.banner.pattern (words line)) → Takes old h.banner.symmetric f new → Adds h old new rest at 1 more last
adds_line h old new rest more at before last line f p e k l a t =
    let c = p.counts in
    let x : Taken h.banner h.size rest (with_word (spots h.banner.symmetric f) f.word) = record {
      between = p.between;
      line = line;
      more = more;
      split = p.split;
      idle = p.idle;
      content = k;
      short = l;
      found = f;
      answer = a;
      entries = [];
      entries_are = sym (append-nil (with_word (spots h.banner.symmetric f) f.word));
    } in
    record {
      entries = with_word (spots h.banner.symmetric f) f.word;
      entries_are = t.entries_are;
      rows_same = t.rows_same;
      columns_same = t.columns_same;
      many = length p.between + 1;
      last_is = omega arith;
      run = (x, 0, (let q : length p.between + 1 ≡ length p.between + 1 + 0 = omega arith in q), (refl, refl, refl));
    }

-- ---- a line in its usual form

inside_one : (i n : ℕ) → 0 < i → i - 1 < n → outside i n ≡ false
inside_one i n p l = grind (arith, nat_tests)

answer_for : (s : Size) (f : Found) (i j : ℕ) (v : Value) → 0 < i → 0 < j → f.row ≡ i - 1 → f.column ≡ j - 1 → f.row < s.rows → f.column < s.columns → is_word v ≡ true → word_of v ≡ f.word → Ok f ≡ entry_checked s i j v
answer_for s f i j v p q fi fj r c w e = rw (inside_one i s.rows p (omega arith), inside_one j s.columns q (omega arith), w, e, sym fi, sym fj) refl

-- an index as written, counted from 1, by what is one less in 64 bits
written : (i k n : ℕ) → i < 2 ^ 64 → k ≡ (i + (2 ^ 64 - 1)) % 2 ^ 64 → k < n → n ≤ 16777216 → (0 < i) × (k ≡ i - 1)
written i k n b e l m = omega arith

pub usual_answer : (h : Header) (rest more : List ℕ) (u : UsualLine) (f : Found) → h.size.rows ≤ 16777216 → h.size.columns ≤ 16777216 → (line : IsEntryLine h.banner.pattern rest u more) → f.row < h.size.rows → f.column < h.size.columns
    → f.row ≡ (u.row + (2 ^ 64 - 1)) % 2 ^ 64 → f.column ≡ (u.column + (2 ^ 64 - 1)) % 2 ^ 64 → f.word ≡ u.word → Ok f ≡ entry_answer h.size (entry_words h.banner.pattern (words line.line))
usual_answer h rest more u f rows columns line row_in column_in row_is column_is word_is =
    let row = written u.row f.row h.size.rows line.small.0 row_is row_in rows in
    let column = written u.column f.column h.size.columns line.small.1 column_is column_in columns in
    answer_for h.size f u.row u.column line.value row.0 column.0 row.1 column.1 row_in column_in line.fits (line.word ∙ sym word_is) ∙ sym (ap (entry_answer h.size) line.entry)

pub adds_usual : (h : Header) (old new : Listed) (rest more : List ℕ) (at : ℕ) (u : UsualLine) (f : Found) → h.size.rows ≤ 16777216 → h.size.columns ≤ 16777216 → IsEntryLine h.banner.pattern rest u more → f.row < h.size.rows → f.column < h.size.columns
    → f.row ≡ (u.row + (2 ^ 64 - 1)) % 2 ^ 64 → f.column ≡ (u.column + (2 ^ 64 - 1)) % 2 ^ 64 → f.word ≡ u.word → Takes old h.banner.symmetric f new → Adds h old new rest at 1 more (at + 1)
adds_usual h old new rest more at u f rows columns line row_in column_in row_is column_is word_is t =
    adds_line h old new rest more at at (at + 1) line.line f (record { between = []; split = line.first; counts = (let q : at ≡ at + 0 = omega arith in q); idle = tt }) refl line.content (le-ltb 1024 (length line.line) line.short)
    (usual_answer h rest more u f rows columns line row_in column_in row_is column_is word_is) t

-- ---- what a text has

filled_same : (text : List ℕ) (b : Banner) (s : Size) (rest end : List ℕ) (n m i j : ℕ) (es fs : List Entry) → Filled text b s (grid s.rows s.columns es) rest n i → lines rest ≡ lines end → n ≡ m → i ≡ j → es ≡ fs → Filled text b s (grid s.rows s.columns fs) end m j
filled_same text b s rest end n m i j es fs h e p q k =
    subst (λ (xs : List Entry). Filled text b s (grid s.rows s.columns xs) end m j) k
    (subst (λ (x : ℕ). Filled text b s (grid s.rows s.columns es) end m x) q
    (subst (λ (x : ℕ). Filled text b s (grid s.rows s.columns es) end x i) p
    (record {
      size_line = h.size_line;
      entry_lines = h.entry_lines;
      here = subst (λ (ls : List (List ℕ)). At (lines text) b (h.size_line ∷ h.entry_lines) ls n) e h.here;
      size_is = h.size_is;
      rows_small = h.rows_small;
      columns_small = h.columns_small;
      entries_small = h.entries_small;
      given_is = h.given_is;
      rows_are = h.rows_are;
      columns_are = h.columns_are;
      cells_are = h.cells_are;
    })))

-- one entry line more
pub filled_line : (text : List ℕ) (b : Banner) (s : Size) (before : List Entry) (rest more : List ℕ) (n at m given : ℕ) (line : List ℕ) (f : Found) → Filled text b s (grid s.rows s.columns before) rest n given → given < s.entries
    → Passes rest n (line ∷ lines more) at → m ≡ at + 1 → is_skipped line ≡ false → nat_lt 1024 (length line) ≡ false → Ok f ≡ entry_answer s (entry_words b.pattern (words line)) → NoneTwice (before ++ with_word (spots b.symmetric f) f.word)
    → Filled text b s (grid s.rows s.columns (before ++ with_word (spots b.symmetric f) f.word)) more m (given + 1)
filled_line text b s before rest more n at m given line f h few p e k l a once =
    let q = puts before (spots b.symmetric f) f.word once in
    entry_read text rest more b s (grid s.rows s.columns before) (grid s.rows s.columns (before ++ with_word (spots b.symmetric f) f.word)) n at m given line f h few p e k l a q.free
    (ap (λ (c : fin.FinMap pos_cmp ℕ). let x : Grid = record { rows = s.rows; columns = s.columns; cells = c } in x) q.cells)

filled_run : (text : List ℕ) (b : Banner) (s : Size) (before es : List Entry) (rest end : List ℕ) (n given j many : ℕ) → Filled text b s (grid s.rows s.columns before) rest n given → given + j ≤ s.entries → Run b s j rest many es end → NoneTwice (before ++ es)
    → Filled text b s (grid s.rows s.columns (before ++ es)) end (n + many) (given + j)
filled_run text b s before es rest end n given zero many h few r once =
    let m = r.1 in
    filled_same text b s rest end n (n + many) given (given + zero) before (before ++ es) h r.0 (omega arith) (omega arith) (sym (append-nil before) ∙ ap (λ (xs : List Entry). before ++ xs) (sym r.2))
filled_run text b s before es rest end n given (suc j) many h few r once =
    let x = r.0 in
    let m = r.2 in
    let own = with_word (spots b.symmetric x.found) x.found.word in
    let split : before ++ es ≡ (before ++ own) ++ x.entries = ap (λ (xs : List Entry). before ++ xs) x.entries_are ∙ sym (append_assoc before own x.entries) in
    let all = subst (λ (xs : List Entry). NoneTwice xs) split once in
    let p : Passes rest n (x.line ∷ lines x.more) (n + length x.between) = record { between = x.between; split = x.split; counts = refl; idle = x.idle } in
    let next = filled_line text b s before rest x.more n (n + length x.between) (n + length x.between + 1) given x.line x.found h (omega arith) p refl x.content x.short x.answer (once_front (before ++ own) x.entries all) in
    let rest_filled = filled_run text b s (before ++ own) x.entries x.more end (n + length x.between + 1) (given + 1) j r.1 next (omega arith) r.3 all in
    filled_same text b s end end (n + length x.between + 1 + r.1) (n + many) (given + 1 + j) (given + suc j) ((before ++ own) ++ x.entries) (before ++ es) rest_filled refl (omega arith) (omega arith) (sym split)

-- the lines of a list that has none twice break no rule
pub adds_filled : (text : List ℕ) (h : Header) (start : Cursor) (l : Listed) (end : List ℕ) (last given : ℕ) → Begun text h start → given ≤ h.size.entries → Adds h (nothing h) l start.rest.now start.at given end last → NoneTwice l.entries
    → Filled text h.banner h.size (grid l.rows l.columns l.entries) end last given
adds_filled text h start l end last given begun few a once =
    let m = a.last_is in
    let whole = filled_run text h.banner h.size [] a.entries start.rest.now end start.at 0 given a.many begun (omega arith) a.run (subst (λ (xs : List Entry). NoneTwice xs) a.entries_are once) in
    let there = filled_same text h.banner h.size end end (start.at + a.many) last (0 + given) given a.entries l.entries whole refl (omega arith) (omega arith) (sym a.entries_are) in
    subst (λ (i : ℕ). Filled text h.banner h.size (grid i l.columns l.entries) end last given) (sym a.rows_same)
    (subst (λ (i : ℕ). Filled text h.banner h.size (grid h.size.rows i l.entries) end last given) (sym a.columns_same) there)

-- ---- room for entries

pub width_some : (symmetric : Bool) → 1 ≤ width symmetric * 1
width_some true = omega arith
width_some false = omega arith

pub width_two : (symmetric : Bool) → symmetric ≡ true → width symmetric * 1 ≡ 2
width_two true e = refl
width_two false e = absurd (cc)

few_spots : (symmetric : Bool) (f : Found) (w : ℕ) → length (with_word (spots symmetric f) w) ≤ width symmetric
few_spots true f w = elim (nat_eq f.row f.column) as (λ t. length (with_word (cond (not t) ((f.row, f.column) ∷ (f.column, f.row) ∷ []) ((f.row, f.column) ∷ [])) w) ≤ 2) [
  | true ↦ omega arith
  | false ↦ omega arith
]
few_spots false f w = omega arith

run_few : (b : Banner) (s : Size) (given : ℕ) (rest : List ℕ) (many : ℕ) (es : List Entry) (end : List ℕ) → Run b s given rest many es end → length es ≤ width b.symmetric * given
run_few b s zero rest many es end r = let e = ap length r.2 in omega (arith, e)
run_few b s (suc given) rest many es end r =
    let x = r.0 in
    let own = with_word (spots b.symmetric x.found) x.found.word in
    let e : length es ≡ length own + length x.entries = ap length x.entries_are ∙ length-append own x.entries in
    let o = few_spots b.symmetric x.found x.found.word in
    let t = run_few b s given x.more r.1 x.entries end r.3 in
    let m : width b.symmetric * suc given ≡ width b.symmetric + width b.symmetric * given = omega arith in
    omega (arith, e, o, t, m)

-- behind so many lines there is room for those that are left
pub room_behind : (h : Header) (old new : Listed) (rest end : List ℕ) (at given last most more : ℕ) → HasRoom h old most → Adds h old new rest at given end last → given + more ≤ most → HasRoom h new more
room_behind h old new rest end at given last most more r a l =
    let e : length new.entries ≡ length old.entries + length a.entries = ap length a.entries_are ∙ length-append old.entries a.entries in
    let t = run_few h.banner h.size given rest a.many a.entries end a.run in
    record {
      rows_same = a.rows_same ∙ r.rows_same;
      columns_same = a.columns_same ∙ r.columns_same;
      capacity = wide h.banner.symmetric (length old.entries) (length a.entries) (length new.entries) e t r.capacity;
    }
  where
    wide : (symmetric : Bool) (m n k : ℕ) → k ≡ m + n → n ≤ width symmetric * given → m + width symmetric * most ≤ limit → k + width symmetric * more ≤ limit
    wide true m n k e t r = omega (arith, e, t, r, l)
    wide false m n k e t r = omega (arith, e, t, r, l)

-- a list without an entry has room for all lines of a text
pub room_at_first : (h : Header) (l : Listed) → l ≡ nothing h → HasRoom h l h.size.entries
room_at_first h l e = rw e (record { rows_same = refl; columns_same = refl; capacity = all h.banner.symmetric h.entries_small h.halved })
  where
    all : (symmetric : Bool) → h.size.entries ≤ 16777216 → (symmetric ≡ true → h.size.entries ≤ 8388608) → 0 + width symmetric * h.size.entries ≤ limit
    all true a b = let c = b refl in omega (arith, c)
    all false a b = omega (arith, a)

-- what an entry line says is inside the sizes
outside_not : (i n : ℕ) → outside i n ≡ false → i - 1 < n
outside_not i n h = grind (arith, nat_tests)

entry_passes : (t u : Bool) (f g : Found) → Ok f ≡ cond t (Err IndexOutsideMatrix) (cond u (Err ValueOutOfRange) (Ok g)) → (t ≡ false) × (f ≡ g)
entry_passes true u f g h = absurd (cc)
entry_passes false true f g h = absurd (cc)
entry_passes false false f g h = (refl, cc)

either_of : (a b : Bool) → (a || b) ≡ false → (a ≡ false) × (b ≡ false)
either_of true b e = absurd (cc)
either_of false b e = (refl, e)

pub found_inside : (s : Size) (o : Option WrittenEntry) (f : Found) → Ok f ≡ entry_answer s o → (f.row < s.rows) × (f.column < s.columns)
found_inside s None f h = absurd (cc)
found_inside s (Some e) f h =
    let p = entry_passes (outside e.row s.rows || outside e.column s.columns) (not (is_word e.value)) f (record { row = e.row - 1; column = e.column - 1; word = word_of e.value }) h in
    let q = either_of (outside e.row s.rows) (outside e.column s.columns) p.0 in
    rw p.1 (outside_not e.row s.rows q.0, outside_not e.column s.columns q.1)
