-- The line that gives a position again.
use Rattle.std.proofs.Common.{◌≡◌, ◌≤◌, ◌<◌, ◌+◌, ◌-◌, ◌^◌, ◌%◌, ℕ, zero, suc, List, [], ◌∷◌, ◌++◌, Bool, true, false, ◌&&◌, ◌||◌, not, nat_eq, cond, None, Some, is_some, Option, Result, Ok, Err, nat_lt, length, refl, sym, ap, ◌∙◌, subst, arith, append_assoc, append-nil}
use Rattle.std.specs.Prelude.{if◌then◌else◌}
use Rattle.std.proofs.lemmas.Bool.{le-ltb}
use Rattle.std.proofs.lemmas.Bool.Decides.{nat_tests}
use Rattle.std.specs.List.{AllByRecursion}
use Rattle.std.specs.Str.Lines.{lines}
use Rattle.std.specs.FinMap as fin
use Rattle.csr_store.specs.Grid.{Position, Entry, pos_cmp}
use Rattle.csr_store.specs.ByRows.{grid}
use Rattle.csr_store.specs.Listed.{NoneTwice}
use Rattle.csr_store.specs.Repeated.{Marks, is_met, met_at}
use Rattle.csr_store.proofs.Repeating.{met_again, met_first, met_then, once-none}
use Rattle.csr_store.proofs.Listing.{once_front, once_more, map_with_entry}
use Rattle.matrix_market.specs.declared.kinds.Banner.{Banner}
use Rattle.matrix_market.specs.declared.kinds.Size.{Size}
use Rattle.matrix_market.specs.declared.kinds.Header.{Header}
use Rattle.matrix_market.specs.declared.kinds.Found.{Found}
use Rattle.matrix_market.specs.declared.cursor.Cursor.{Cursor}
use Rattle.matrix_market.specs.declared.usual.UsualLine.{UsualLine}
use Rattle.matrix_market.specs.declared.rule.MarketRule.{MarketRule}
use Rattle.matrix_market.specs.declared.rule.MarketRule.TheVariants.{PositionGivenTwice}
use Rattle.text_words.specs.Words.{words}
use Rattle.matrix_market.specs.Market.{mirrored, is_skipped, entry_words, IsFault}
use Rattle.matrix_market.specs.inner.Answers.{Passes, IsIdle, entry_answer, spots, some_given}
use Rattle.matrix_market.specs.inner.Filling.{Filled}
use Rattle.matrix_market.specs.inner.Gathering.{Begun, Run, Taken, with_word}
use Rattle.matrix_market.specs.inner.Usual.{IsEntryLine}
use Rattle.matrix_market.specs.inner.Repeating.{HaveMet, IsEntry, IsRepeating, LacksEntry, own_entries}
use Rattle.matrix_market.proofs.Gathering.{run_same, filled_line, found_inside, usual_answer}
use Rattle.matrix_market.proofs.Puts.{get_put}
use Rattle.matrix_market.proofs.Reading.{twice_fault}

-- ---- the line that comes next

record SameNext (between more others rest : List (List ℕ)) (line other : List ℕ) : Type 0 where
  between_are : between ≡ others
  line_is : line ≡ other
  more_are : more ≡ rest

-- two lists of lines that are passed over, each before one that is not
same_next : (between more others rest : List (List ℕ)) (line other : List ℕ) → AllByRecursion IsIdle between → AllByRecursion IsIdle others → (IsIdle line → ⊥) → (IsIdle other → ⊥) → between ++ line ∷ more ≡ others ++ other ∷ rest
    → SameNext between more others rest line other
same_next [] more [] rest line other a b p q e = record { between_are = refl; line_is = cc; more_are = cc }
same_next [] more (o ∷ others) rest line other a b p q e = absurd (p (subst IsIdle (let k : o ≡ line = cc in k) b.0))
same_next (x ∷ between) more [] rest line other a b p q e = absurd (q (subst IsIdle (let k : x ≡ other = cc in k) a.0))
same_next (x ∷ between) more (o ∷ others) rest line other a b p q e =
    let t = same_next between more others rest line other a.1 b.1 p q cc in
    let k : x ≡ o = cc in
    record { between_are = ap (λ ls. x ∷ ls) t.between_are ∙ ap (λ l. l ∷ others) k; line_is = t.line_is; more_are = t.more_are }

none_next : (between more others : List (List ℕ)) (line : List ℕ) → AllByRecursion IsIdle others → (IsIdle line → ⊥) → between ++ line ∷ more ≡ others ++ [] → ⊥
none_next [] more [] line b p e = cc
none_next [] more (o ∷ others) line b p e = p (subst IsIdle (let k : o ≡ line = cc in k) b.0)
none_next (x ∷ between) more [] line b p e = cc
none_next (x ∷ between) more (o ∷ others) line b p e = none_next between more others line b.1 p cc

not_idle : (line : List ℕ) → is_skipped line ≡ false → IsIdle line → ⊥
not_idle line s i = let a = i.0 in cc

long_not_idle : (line : List ℕ) → nat_lt 1024 (length line) ≡ true → IsIdle line → ⊥
long_not_idle line s i = let a = i.1 in cc

-- a line in its usual form is the next
pub entry_usual : (h : Header) (cursor : Cursor) (u : UsualLine) (f : Found) (behind : Cursor) → IsEntryLine h.banner.pattern cursor.rest.now u behind.rest.now → f.row < h.size.rows → f.column < h.size.columns
    → f.row ≡ (u.row + (2 ^ 64 - 1)) % 2 ^ 64 → f.column ≡ (u.column + (2 ^ 64 - 1)) % 2 ^ 64 → f.word ≡ u.word → behind.at ≡ cursor.at + 1 → behind.at + length behind.rest.now ≤ cursor.at + length cursor.rest.now → IsEntry h cursor f behind
entry_usual h cursor u f behind line row column row_is column_is word_is at shorter =
    record {
      between = [];
      line = line.line;
      split = line.first;
      idle = tt;
      content = line.content;
      short = le-ltb 1024 (length line.line) line.short;
      answer = usual_answer h cursor.rest.now behind.rest.now u f h.rows_small h.columns_small line row column row_is column_is word_is;
      at_is = omega (arith, at);
      shorter = shorter;
    }

-- ---- what comes next is no entry line

pub lacks_end : (h : Header) (cursor : Cursor) (last : ℕ) → Passes cursor.rest.now cursor.at [] last → LacksEntry h cursor
lacks_end h cursor last p es x = none_next x.between (lines x.more) p.between x.line p.idle (not_idle x.line x.content) (sym x.split ∙ p.split)

pub lacks_long : (h : Header) (cursor : Cursor) (line : List ℕ) (ls : List (List ℕ)) (last : ℕ) → Passes cursor.rest.now cursor.at (line ∷ ls) last → nat_lt 1024 (length line) ≡ true → LacksEntry h cursor
lacks_long h cursor line ls last p s es x =
    let same = same_next p.between ls x.between (lines x.more) line x.line p.idle x.idle (long_not_idle line s) (not_idle x.line x.content) (sym p.split ∙ x.split) in
    let e : nat_lt 1024 (length line) ≡ false = ap (λ (y : List ℕ). nat_lt 1024 (length y)) same.line_is ∙ x.short in
    cc

pub lacks_faulty : (h : Header) (cursor : Cursor) (line : List ℕ) (ls : List (List ℕ)) (last : ℕ) (rule : MarketRule) → Passes cursor.rest.now cursor.at (line ∷ ls) last → is_skipped line ≡ false
    → Err rule ≡ entry_answer h.size (entry_words h.banner.pattern (words line)) → LacksEntry h cursor
lacks_faulty h cursor line ls last rule p k a es x =
    let same = same_next p.between ls x.between (lines x.more) line x.line p.idle x.idle (not_idle line k) (not_idle x.line x.content) (sym p.split ∙ x.split) in
    no_answer x.found rule (x.answer ∙ ap (λ (y : List ℕ). entry_answer h.size (entry_words h.banner.pattern (words y))) (sym same.line_is) ∙ sym a)
  where
    no_answer : (f : Found) (r : MarketRule) → (let o : Result Found MarketRule = Ok f in o) ≡ Err r → ⊥
    no_answer f r e = cc

-- ---- the entries of a line and those before

none_from : (o : Option ℕ) → is_some o ≡ false → o ≡ None
none_from None e = refl
none_from (Some x) e = absurd (cc)

mirror_apart : (r c : ℕ) → nat_eq r c ≡ false → (nat_eq c r && nat_eq r c) ≡ false
mirror_apart r c h = grind (arith, nat_tests)

no_either : (a b : Bool) → (a || b) ≡ false → (a ≡ false) × (b ≡ false)
no_either true b e = absurd (cc)
no_either false b e = (refl, e)

apart_of : (s e : Bool) → (s && not e) ≡ true → e ≡ false
apart_of true true h = absurd (cc)
apart_of true false h = refl
apart_of false e h = absurd (cc)

-- entries with a word at places that none of them has
once_spots : (symmetric : Bool) (r c w : ℕ) (es : List Entry) → NoneTwice es → some_given (fin.from_entries es) (mirrored symmetric (r, c)) ≡ false → NoneTwice (es ++ with_word (mirrored symmetric (r, c)) w)
once_spots symmetric r c w es h n =
    elim (symmetric && not (nat_eq r c)) as (λ t. (symmetric && not (nat_eq r c)) ≡ t → some_given (fin.from_entries es) (cond t ((r, c) ∷ (c, r) ∷ []) ((r, c) ∷ [])) ≡ false → NoneTwice (es ++ with_word (cond t ((r, c) ∷ (c, r) ∷ []) ((r, c) ∷ [])) w)) [
      | false ↦ λ t k. one k
      | true ↦ λ t k. two (apart_of symmetric (nat_eq r c) t) k
    ] refl n
  where
    one : some_given (fin.from_entries es) ((r, c) ∷ []) ≡ false → NoneTwice (es ++ ((r, c), w) ∷ [])
    one k = once_more es (r, c) w h (none_from _ (no_either (is_some (fin.get (fin.from_entries {R = pos_cmp} es) (r, c))) false k).0)

    two : nat_eq r c ≡ false → some_given (fin.from_entries es) ((r, c) ∷ (c, r) ∷ []) ≡ false → NoneTwice (es ++ ((r, c), w) ∷ ((c, r), w) ∷ [])
    two e k =
        let a = no_either (is_some (fin.get (fin.from_entries {R = pos_cmp} es) (r, c))) (is_some (fin.get (fin.from_entries {R = pos_cmp} es) (c, r)) || false) k in
        let b = no_either (is_some (fin.get (fin.from_entries {R = pos_cmp} es) (c, r))) false a.1 in
        let front = once_more es (r, c) w h (none_from _ a.0) in
        let absent : fin.get (fin.from_entries {R = pos_cmp} (es ++ ((r, c), w) ∷ [])) (c, r) ≡ None =
        ap (λ (m : fin.FinMap pos_cmp ℕ). fin.get m (c, r)) (map_with_entry es (r, c) w front) ∙ get_put (fin.from_entries es) (r, c) w (c, r)
        ∙ ap (λ t. cond t (Some w) (fin.get (fin.from_entries {R = pos_cmp} es) (c, r))) (mirror_apart r c e) ∙ none_from _ b.0 in
        subst (λ (xs : List Entry). NoneTwice xs) (append_assoc es (((r, c), w) ∷ []) (((c, r), w) ∷ [])) (once_more (es ++ ((r, c), w) ∷ []) (c, r) w front absent)

-- ---- the entries of a line are met

one_met : (es done left : List Entry) (p : Position) (w : ℕ) (old new : Marks) → HaveMet es done ((p, w) ∷ left) old → is_met (fin.get old p) ≡ false → ((q : Position) → fin.get new q ≡ met_at p q (fin.get old q)) → HaveMet es (done ++ (p, w) ∷ []) left new
one_met es done left p w old new h n m =
    record {
      split = h.split ∙ sym (append_assoc done ((p, w) ∷ []) left);
      repeats = met_then es done left p w old h.split h.repeats new m;
      once = met_first es done left p w old h.split h.repeats n h.once;
    }

module _ (symmetric : Bool) (r c w : ℕ) where
  abbrev twin : Bool
  twin = symmetric && not (nat_eq r c)

  abbrev own : List Entry
  own = with_word (mirrored symmetric (r, c)) w

  abbrev given : Bool → List Entry
  given t = with_word (if t then (r, c) ∷ (c, r) ∷ [] else (r, c) ∷ []) w

  -- the entry was met before
  pub entry_again : (es done left : List Entry) (old : Marks) → is_met (fin.get old (r, c)) ≡ true → HaveMet es done (own ++ left) old → NoneTwice (done ++ own) → ⊥
  entry_again es done left old m = elim twin as (λ t. HaveMet es done (given t ++ left) old → NoneTwice (done ++ given t) → ⊥) [
    | false ↦ λ h once. met_again es done left (r, c) w old h.split h.repeats m once
    | true ↦ λ h once. met_again es done (((c, r), w) ∷ left) (r, c) w old h.split h.repeats m
        (once_front (done ++ ((r, c), w) ∷ []) (((c, r), w) ∷ []) (subst (λ (xs : List Entry). NoneTwice xs) (sym (append_assoc done (((r, c), w) ∷ []) (((c, r), w) ∷ []))) once))
  ]

  -- it was not, and has no mirror
  pub entry_first : (es done left : List Entry) (old new : Marks) → twin ≡ false → is_met (fin.get old (r, c)) ≡ false → ((q : Position) → fin.get new q ≡ met_at (r, c) q (fin.get old q)) → HaveMet es done (own ++ left) old → HaveMet es (done ++ own) left new
  entry_first es done left old new t n m h =
      subst (λ b. HaveMet es done (given b ++ left) old → HaveMet es (done ++ given b) left new) (sym t) (λ k. one_met es done left (r, c) w old new k n m) h

  module _ (es done left : List Entry) (old mid : Marks) (t : twin ≡ true) (n : is_met (fin.get old (r, c)) ≡ false) (m : (q : Position) → fin.get mid q ≡ met_at (r, c) q (fin.get old q)) where
    halfway : HaveMet es done (given true ++ left) old → HaveMet es (done ++ ((r, c), w) ∷ []) (((c, r), w) ∷ left) mid
    halfway h = one_met es done (((c, r), w) ∷ left) (r, c) w old mid h n m

    both : (done ++ ((r, c), w) ∷ []) ++ ((c, r), w) ∷ [] ≡ done ++ given true
    both = append_assoc done (((r, c), w) ∷ []) (((c, r), w) ∷ [])

    -- the mirror was met before
    pub mirror_again : is_met (fin.get mid (c, r)) ≡ true → HaveMet es done (own ++ left) old → NoneTwice (done ++ own) → ⊥
    mirror_again g = subst (λ b. HaveMet es done (given b ++ left) old → NoneTwice (done ++ given b) → ⊥) (sym t) (λ h once.
        let k = halfway h in
        met_again es (done ++ ((r, c), w) ∷ []) left (c, r) w mid k.split k.repeats g (subst (λ (xs : List Entry). NoneTwice xs) (sym both) once))

    -- neither was
    pub mirror_first : (new : Marks) → is_met (fin.get mid (c, r)) ≡ false → ((q : Position) → fin.get new q ≡ met_at (c, r) q (fin.get mid q)) → HaveMet es done (own ++ left) old → HaveMet es (done ++ own) left new
    mirror_first new g u = subst (λ b. HaveMet es done (given b ++ left) old → HaveMet es (done ++ given b) left new) (sym t) (λ h.
        subst (λ (xs : List Entry). HaveMet es xs left new) both (one_met es (done ++ ((r, c), w) ∷ []) left (c, r) w mid new (halfway h) g u))

-- ---- going along the lines

-- so far the lines give no position again, and the entries of those that follow are the list's that are left
pub record Walk (h : Header) (start : Cursor) (marks : Marks) (rest : List ℕ) (at : ℕ) : Type 0 where
  pub entries : List Entry
  pub twice : NoneTwice entries → ⊥
  pub done : List Entry
  pub todo : List Entry
  pub met : HaveMet entries done todo marks
  pub left : ℕ
  pub many : ℕ
  pub end : List ℕ
  pub run : Run h.banner h.size left rest many todo end
  pub filled : (text : List ℕ) → Begun text h start → (given : ℕ) × (given + left ≤ h.size.entries) × Filled text h.banner h.size (grid h.size.rows h.size.columns done) rest at given

pub walk_start : (h : Header) (start : Cursor) (marks : Marks) → IsRepeating h start marks → Walk h start marks start.rest.now start.at
walk_start h start marks r =
    let few = r.read.few in
    record {
      entries = r.list.entries;
      twice = r.twice;
      done = [];
      todo = r.list.entries;
      met = record { split = refl; repeats = r.repeats; once = once-none };
      left = r.read.given;
      many = r.read.adds.many;
      end = r.read.end;
      run = subst (λ (es : List Entry). Run h.banner h.size r.read.given start.rest.now r.read.adds.many es r.read.end) (sym r.read.adds.entries_are) r.read.adds.run;
      filled = λ text begun. (0, omega arith, begun);
    }

pub record Head (b : Banner) (s : Size) (left : ℕ) (rest : List ℕ) (es : List Entry) (end : List ℕ) : Type 0 where
  pub taken : Taken b s rest es
  pub fewer : ℕ
  pub many : ℕ
  pub is : left ≡ suc fewer
  pub run : Run b s fewer taken.more many taken.entries end

head_of : (b : Banner) (s : Size) (left : ℕ) (rest : List ℕ) (many : ℕ) (es : List Entry) (end : List ℕ) → Run b s left rest many es end → (es ≡ [] → ⊥) → Head b s left rest es end
head_of b s zero rest many es end r l = absurd (l r.2)
head_of b s (suc left) rest many es end r l = record { taken = r.0; fewer = left; many = r.1; is = refl; run = r.3 }

module _ (h : Header) (start : Cursor) (marks : Marks) (cursor : Cursor) (walk : Walk h start marks cursor.rest.now cursor.at) where
  some_left : walk.todo ≡ [] → ⊥
  some_left e = walk.twice (subst (λ (xs : List Entry). NoneTwice xs) (sym (walk.met.split ∙ ap (λ (xs : List Entry). walk.done ++ xs) e ∙ append-nil walk.done)) walk.met.once)

  pub head : Head h.banner h.size walk.left cursor.rest.now walk.todo walk.end
  head = head_of h.banner h.size walk.left cursor.rest.now walk.many walk.todo walk.end walk.run some_left

  -- there is a line
  pub walk_lacks : LacksEntry h cursor → ⊥
  walk_lacks l = l walk.todo head.taken

  module _ (f : Found) (behind : Cursor) (e : IsEntry h cursor f behind) where
    same : SameNext e.between (lines behind.rest.now) head.taken.between (lines head.taken.more) e.line head.taken.line
    same = same_next e.between (lines behind.rest.now) head.taken.between (lines head.taken.more) e.line head.taken.line e.idle head.taken.idle (not_idle e.line e.content) (not_idle head.taken.line head.taken.content) (sym e.split ∙ head.taken.split)

    found_is : head.taken.found ≡ f
    found_is = one_found head.taken.found f (head.taken.answer ∙ ap (λ (y : List ℕ). entry_answer h.size (entry_words h.banner.pattern (words y))) (sym same.line_is) ∙ sym e.answer)
      where
        one_found : (x y : Found) → (let r : Result Found MarketRule = Ok x in r) ≡ Ok y → x ≡ y
        one_found x y q = cc

    -- the list goes on with what the line gives
    todo_is : walk.todo ≡ own_entries h f ++ head.taken.entries
    todo_is = head.taken.entries_are ∙ ap (λ (x : Found). own_entries h x ++ head.taken.entries) found_is

    pub walk_met : HaveMet walk.entries walk.done (own_entries h f ++ head.taken.entries) marks
    walk_met = subst (λ (xs : List Entry). HaveMet walk.entries walk.done xs marks) todo_is walk.met

    passes : Passes cursor.rest.now cursor.at (e.line ∷ lines behind.rest.now) (cursor.at + length e.between)
    passes = record { between = e.between; split = e.split; counts = refl; idle = e.idle }

    pub walk_inside : (f.row < h.size.rows) × (f.column < h.size.columns)
    walk_inside = found_inside h.size (entry_words h.banner.pattern (words e.line)) f e.answer

    given_again : (NoneTwice (walk.done ++ own_entries h f) → ⊥) → some_given (fin.from_entries walk.done) (spots h.banner.symmetric f) ≡ true
    given_again g = elim (some_given (fin.from_entries walk.done) (spots h.banner.symmetric f)) as (λ t. some_given (fin.from_entries walk.done) (spots h.banner.symmetric f) ≡ t → t ≡ true) [
      | true ↦ λ t. refl
      | false ↦ λ t. absurd (g (once_spots h.banner.symmetric f.row f.column f.word walk.done walk.met.once t))
    ] refl

    -- the line gives a position again
    pub walk_here : (NoneTwice (walk.done ++ own_entries h f) → ⊥) → (text : List ℕ) → Begun text h start → IsFault text behind.at PositionGivenTwice
    walk_here g text begun =
        let filled = walk.filled text begun in
        let i = head.is in
        let few = filled.1 in
        twice_fault text cursor.rest.now h.banner h.size (grid h.size.rows h.size.columns walk.done) cursor.at (cursor.at + length e.between) behind.at filled.0 e.line (lines behind.rest.now) f filled.2 (omega arith) passes e.at_is e.content e.short e.answer (given_again g)

    -- it gives none again
    pub walk_on : (new : Marks) → HaveMet walk.entries (walk.done ++ own_entries h f) head.taken.entries new → Walk h start new behind.rest.now behind.at
    walk_on new m =
        let i = head.is in
        record {
          entries = walk.entries;
          twice = walk.twice;
          done = walk.done ++ own_entries h f;
          todo = head.taken.entries;
          met = m;
          left = head.fewer;
          many = head.many;
          end = walk.end;
          run = run_same h.banner h.size head.fewer behind.rest.now head.taken.more head.many head.taken.entries walk.end same.more_are head.run;
          filled = λ text begun.
              let filled = walk.filled text begun in
              let few = filled.1 in (
                filled.0 + 1,
                omega arith,
                filled_line text h.banner h.size walk.done cursor.rest.now behind.rest.now cursor.at (cursor.at + length e.between) behind.at filled.0 e.line f filled.2 (omega arith) passes e.at_is e.content e.short e.answer m.once,
              );
        }
