-- The first commands of two sessions, of which one reads more than the other.
use Rattle.std.proofs.Common.{◌≡◌, ◌≤◌, ◌<◌, ◌⊎◌, ◌-◌, ℕ, suc, Bool, true, false, cond, List, [], ◌∷◌, ◌++◌, length, take, drop, slice_index, Option, inl, inr, refl, sym, ap, ◌∙◌, subst, arith, ltb, eqb, length-append, length-take, append-nil}
use Rattle.std.proofs.lemmas.Bool.{ltb-false, lt-ltb, le-ltb}
use Rattle.std.specs.List.{flat_map}
use Rattle.std.specs.Str.Lines.{strip_carriage_return}
use Rattle.wire.specs.Fetching.{Follows}
use Rattle.wire.specs.Lines.{Cut, Uncut, At, after_front, cut_line, first, first_of, measured, unfinished, Partial, Over, Line, Nothing}
use Rattle.wire.proofs.Stays.{ended_same}
use Rattle.text_words.specs.Words.{words}
use Rattle.command_text.specs.Requests.{Command, Blank, Matrix, Op, Asm, Dis, Submit, Run, Show, Types, Budget, Quit, Refuse, Break, Request, Plain, Body, Fatal, request, with_body}
use Rattle.step_purse.specs.declared.dealings.Dealing.{Dealing}
use Rattle.workspace.specs.State.{State, empty}
use Rattle.workspace.specs.Turn.{Turn}
use Rattle.session.specs.NextCommand.{Waits, Goes, Stops, next, next_of, next_plain, next_request}
use Rattle.session.specs.Talk.{Talk, leave, wait, finish, stop, go}
use Rattle.session.specs.declared.end.End.{End}
use Rattle.session.proofs.Grammar.{next-more, next_behind}
use Rattle.session_laws.specs.Laws.{Exchange, exchanges, replies_to, budget_replies, TellNoWant, SameFirst, SaidByCommands}
use Rattle.session_laws.proofs.Alike.{AreAlike, alike_empty}
use Rattle.session_laws.proofs.Talks.{budget_replies-append, same_go, same_stop, stops_or_goes}
use Rattle.session_laws.proofs.Turns.{same_turn}

-- ---- what stands next stays so, whatever follows

cut_line-append : (bs more line rest : List ℕ) → cut_line bs ≡ At line rest → cut_line (bs ++ more) ≡ At line (rest ++ more)
cut_line-append [] more line rest e = absurd (cc)
cut_line-append (b ∷ bs) more line rest e =
    elim (eqb b 10) as (λ t. cond t (At [] bs) (after_front (b ∷ []) (cut_line bs)) ≡ At line rest → cond t (At [] (bs ++ more)) (after_front (b ∷ []) (cut_line (bs ++ more))) ≡ At line (rest ++ more)) [
      | true ↦ λ q. cc
      | false ↦ λ q. elim (cut_line bs) as (λ o. cut_line bs ≡ o → after_front (b ∷ []) o ≡ At line rest → after_front (b ∷ []) (cut_line (bs ++ more)) ≡ At line (rest ++ more)) [
        | Uncut ↦ λ r k. absurd (cc)
        | At l m ↦ λ r k. rw (cut_line-append bs more l m r) (cc)
      ] refl q
    ] e

cut_same : (xs ys ms ns : List ℕ) → At xs ms ≡ At ys ns → xs ≡ ys
cut_same xs ys ms ns e = cc

uncut_behind : (b : ℕ) (c : Cut) → after_front (b ∷ []) c ≡ Uncut → c ≡ Uncut
uncut_behind b Uncut e = refl
uncut_behind b (At l m) e = absurd (cc)

-- bytes with no LF all stand in the line that they begin
uncut_within : (bs more line rest : List ℕ) → cut_line bs ≡ Uncut → cut_line (bs ++ more) ≡ At line rest → length bs ≤ length line
uncut_within [] more line rest u e = omega arith
uncut_within (b ∷ bs) more line rest u e =
    elim (eqb b 10) as (λ t. cond t (At [] bs) (after_front (b ∷ []) (cut_line bs)) ≡ Uncut → cond t (At [] (bs ++ more)) (after_front (b ∷ []) (cut_line (bs ++ more))) ≡ At line rest → suc (length bs) ≤ length line) [
      | true ↦ λ q k. absurd (cc)
      | false ↦ λ q k. elim (cut_line (bs ++ more)) as (λ o. cut_line (bs ++ more) ≡ o → after_front (b ∷ []) o ≡ At line rest → suc (length bs) ≤ length line) [
        | Uncut ↦ λ r j. absurd (cc)
        | At l m ↦ λ r j.
            let inside = uncut_within bs more l m (uncut_behind b (cut_line bs) q) r in
            let line_is : b ∷ l ≡ line = cut_same (b ∷ l) line m rest j in
            subst (λ (xs : List ℕ). suc (length bs) ≤ length xs) line_is (omega (arith, inside))
      ] refl k
    ] u e

long_measured : (xs rest : List ℕ) → 1024 < length xs → measured xs rest ≡ Over
long_measured xs rest l = rw (lt-ltb 1024 (length xs) l) refl

-- a CR at the end is one byte
stripped_length : (xs : List ℕ) → length xs ≤ suc (length (strip_carriage_return xs))
stripped_length xs =
    elim (eqb (slice_index xs (length xs - 1)) 13) as (λ t. length xs ≤ suc (length (cond t (take (length xs - 1) xs) xs))) [
      | true ↦ omega (arith, length-take (length xs - 1) xs)
      | false ↦ omega arith
    ]

long_unfinished : (e : Bool) (bs : List ℕ) → 1026 ≤ length bs → unfinished e bs ≡ Over
long_unfinished false bs l = rw (le-ltb (length bs) 1026 l) refl
long_unfinished true [] l = absurd (omega (arith, l))
long_unfinished true (b ∷ bs) l = long_measured (b ∷ bs) [] (omega (arith, l))

uncut_long : (bs : List ℕ) → unfinished false bs ≡ Over → 1026 ≤ length bs
uncut_long bs h =
    elim (ltb (length bs) 1026) as (λ t. ltb (length bs) 1026 ≡ t → cond t Partial Over ≡ Over → 1026 ≤ length bs) [
      | true ↦ λ t k. absurd (cc)
      | false ↦ λ t k. ltb-false (length bs) 1026 t
    ] refl h

measured_over : (xs rest more : List ℕ) → measured xs rest ≡ Over → measured xs more ≡ Over
measured_over xs rest more h =
    elim (ltb 1024 (length xs)) as (λ t. cond t Over (Line xs rest) ≡ Over → cond t Over (Line xs more) ≡ Over) [
      | true ↦ λ k. refl
      | false ↦ λ k. absurd (cc)
    ] h

-- a line that is too long stays so
over-more : (e : Bool) (bytes more : List ℕ) → first false bytes ≡ Over → first e (bytes ++ more) ≡ Over
over-more e bytes more h =
    elim (cut_line bytes) as (λ o. cut_line bytes ≡ o → first_of false bytes o ≡ Over → first e (bytes ++ more) ≡ Over) [
      | Uncut ↦ λ r k.
          let long = uncut_long bytes k in
          elim (cut_line (bytes ++ more)) as (λ o. cut_line (bytes ++ more) ≡ o → first_of e (bytes ++ more) o ≡ Over) [
            | Uncut ↦ λ u. long_unfinished e (bytes ++ more) (omega (arith, long, length-append bytes more))
            | At l m ↦ λ u. long_measured (strip_carriage_return l) m (omega (arith, long, uncut_within bytes more l m r u, stripped_length l))
          ] refl
      | At l m ↦ λ r k. rw (cut_line-append bytes more l m r) (measured_over (strip_carriage_return l) m (m ++ more) k)
    ] refl h

plain_stops : (d c : Command) (x : End) (rest others : List ℕ) → next_plain d rest ≡ Stops c x → next_plain d others ≡ Stops c x
plain_stops Blank c x rest others h = absurd (cc)
plain_stops (Matrix name body) c x rest others h = absurd (cc)
plain_stops (Op name kind body) c x rest others h = absurd (cc)
plain_stops (Asm name kind body) c x rest others h = absurd (cc)
plain_stops (Dis name) c x rest others h = absurd (cc)
plain_stops (Submit submission) c x rest others h = absurd (cc)
plain_stops Run c x rest others h = absurd (cc)
plain_stops (Show name) c x rest others h = absurd (cc)
plain_stops (Types name) c x rest others h = absurd (cc)
plain_stops Budget c x rest others h = absurd (cc)
plain_stops Quit c x rest others h = h
plain_stops (Refuse rule) c x rest others h = absurd (cc)
plain_stops (Break rule) c x rest others h = absurd (cc)

request_stops : (e : Bool) (r : Request) (c : Command) (x : End) (rest others : List ℕ) → next_request false r rest ≡ Stops c x → next_request e r others ≡ Stops c x
request_stops e (Plain d) c x rest others h = plain_stops d c x rest others h
request_stops e (Fatal rule) c x rest others h = h
request_stops e (Body head len) c x rest others h =
    absurd (elim (ltb (length rest) len) as (λ t. cond t Waits (Goes (with_body head (take len rest)) (drop len rest)) ≡ Stops c x → ⊥) [ true ↦ λ q. cc | false ↦ λ q. cc ] h)

stops-more : (known e : Bool) (bytes more : List ℕ) (c : Command) (x : End) → next known bytes ≡ Stops c x → Follows known more e → next e (bytes ++ more) ≡ Stops c x
stops-more true e bytes more c x n f = rw (f.1, ended_same more bytes f.0) n
stops-more false e bytes more c x n f =
    elim (first false bytes) as (λ o. first false bytes ≡ o → next_of false o ≡ Stops c x → next e (bytes ++ more) ≡ Stops c x) [
      | Partial ↦ λ r k. absurd (cc)
      | Over ↦ λ r k. ap (next_of e) (over-more e bytes more r) ∙ k
      | Line l m ↦ λ r k. next_behind false e bytes more l m r f ∙ request_stops e (request (words l)) c x m (m ++ more) k
      | Nothing ↦ λ r k. absurd (cc)
    ] refl n

-- ---- a command, and those behind it

-- a command has others behind it
record HasGoneOn (cut : Bool) (mid : State) (bytes : List ℕ) (ended : Bool) (c : Command) (xs : List Exchange) : Type 0 where
  rest : List ℕ
  is : next ended bytes ≡ Goes c rest
  later : List Dealing
  text : List ℕ
  end : Option End
  last : State
  talk : Talk cut mid rest ended later text end last
  behind : exchanges talk ≡ xs

-- a talk begins with this command, and has these behind it
record HasBegun (cut : Bool) (s : State) (bytes : List ℕ) (ended : Bool) (x : Exchange) (xs : List Exchange) : Type 0 where
  command : Command
  mid : State
  turn : Turn s command x.dealings x.reply mid
  then : ((e : End) × (next ended bytes ≡ Stops command e) × (xs ≡ [])) ⊎ HasGoneOn cut mid bytes ended command xs

first_same : (x y : Exchange) (xs ys : List Exchange) → x ∷ xs ≡ y ∷ ys → x ≡ y
first_same x y xs ys e = cc

others_same : (x y : Exchange) (xs ys : List Exchange) → x ∷ xs ≡ y ∷ ys → xs ≡ ys
others_same x y xs ys e = cc

none_first : (y : Exchange) (ys : List Exchange) → [] ≡ y ∷ ys → ⊥
none_first y ys e = cc

begins : (cut : Bool) (s u : State) (bytes : List ℕ) (ended : Bool) (ds : List Dealing) (text : List ℕ) (end : Option End) (a : Talk cut s bytes ended ds text end u)
    (x : Exchange) (xs : List Exchange) → exchanges a ≡ x ∷ xs → HasBegun cut s bytes ended x xs
begins cut s u bytes ended ds text end (leave s0 bs e) x xs h = absurd (none_first x xs h)
begins cut s u bytes ended ds text end (wait k s0 bs e w) x xs h = absurd (none_first x xs h)
begins cut s u bytes ended ds text end (finish k s0 bs e w) x xs h = absurd (none_first x xs h)
begins cut s u bytes ended ds text end (stop k s0 u0 bs e c f ds0 reply w turn) x xs h =
    let own : Exchange = record { reply = reply; dealings = ds0 } in
    record {
      command = c;
      mid = u0;
      turn = subst (λ (y : Exchange). Turn s0 c y.dealings y.reply u0) (first_same own x [] xs h) turn;
      then = inl (f, w, sym (others_same own x [] xs h));
    }
begins cut s u bytes ended ds text end (go k s0 m u0 bs rest e c ds0 fs reply more f w turn talk) x xs h =
    let own : Exchange = record { reply = reply; dealings = ds0 } in
    record {
      command = c;
      mid = m;
      turn = subst (λ (y : Exchange). Turn s0 c y.dealings y.reply m) (first_same own x (exchanges talk) xs h) turn;
      then = inr (record { rest = rest; is = w; later = fs; text = more; end = f; last = u0; talk = talk; behind = others_same own x (exchanges talk) xs h });
    }

-- ---- the first commands

front_empty : (xs ys : List Exchange) → xs ++ ys ≡ [] → xs ≡ []
front_empty [] ys e = refl
front_empty (x ∷ xs) ys e = absurd (cc)

not_so_long : (x : Exchange) (xs : List Exchange) → 0 ≡ suc (length xs) → ⊥
not_so_long x xs e = omega (arith, e)

same_exchange : (x y : Exchange) → x.reply ≡ y.reply → x.dealings ≡ y.dealings → x ≡ y
same_exchange x y p q = λ i. record { reply = p i; dealings = q i }

one_less : (m n : ℕ) → suc m ≡ suc n → m ≡ n
one_less m n e = omega (arith, e)

replies_to-cons : (x : Exchange) (xs : List Exchange) → replies_to (x ∷ xs) ≡ budget_replies x.dealings ++ replies_to xs
replies_to-cons x xs = budget_replies-append x.dealings (flat_map (λ (y : Exchange). y.dealings) xs)

same_beginning : (xs ys : List Exchange) (cut broken : Bool) (s t u v : State) (bytes more : List ℕ) (ended over : Bool) (ds es : List Dealing) (text other : List ℕ) (end last : Option End)
    (a : Talk cut s bytes ended ds text end u) (b : Talk broken t (bytes ++ more) over es other last v) (later rest : List Exchange)
    → Follows ended more over → exchanges a ≡ xs ++ later → exchanges b ≡ ys ++ rest → length xs ≡ length ys → TellNoWant xs → TellNoWant ys → AreAlike s t → replies_to xs ≡ replies_to ys → xs ≡ ys
same_beginning [] [] cut broken s t u v bytes more ended over ds es text other end last a b later rest f p q n well good alike heard = refl
same_beginning [] (y ∷ ys) cut broken s t u v bytes more ended over ds es text other end last a b later rest f p q n well good alike heard = absurd (not_so_long y ys n)
same_beginning (x ∷ xs) [] cut broken s t u v bytes more ended over ds es text other end last a b later rest f p q n well good alike heard = absurd (not_so_long x xs (sym n))
same_beginning (x ∷ xs) (y ∷ ys) cut broken s t u v bytes more ended over ds es text other end last a b later rest f p q n well good alike heard =
    let h = begins cut s u bytes ended ds text end a x (xs ++ later) p in
    let k = begins broken t v (bytes ++ more) over es other last b y (ys ++ rest) q in
    let both = sym (replies_to-cons x xs) ∙ (heard ∙ replies_to-cons y ys) in
    let turns = λ (c : h.command ≡ k.command). same_turn s t h.mid k.mid x.dealings y.dealings x.reply y.reply (replies_to xs) (replies_to ys) alike both well.0 good.0 h.command h.turn
    (subst (λ (d : Command). Turn t d y.dealings y.reply k.mid) (sym c) k.turn) in
    elim h.then [
      | inl g ↦ elim k.then [
        | inl j ↦
            let same = turns (same_stop (next over (bytes ++ more)) h.command k.command g.0 j.0 (stops-more ended over bytes more h.command g.0 g.1 f) j.1).0 in
            let one = same_exchange x y same.replies same.dealings in
            let others : xs ≡ ys = front_empty xs later g.2 ∙ sym (front_empty ys rest j.2) in
            λ i. one i ∷ others i
        | inr j ↦ absurd (stops_or_goes (next over (bytes ++ more)) h.command k.command g.0 j.rest (stops-more ended over bytes more h.command g.0 g.1 f) j.is)
      ]
      | inr g ↦ elim k.then [
        | inl j ↦ absurd (stops_or_goes (next over (bytes ++ more)) k.command h.command j.0 (g.rest ++ more) j.1 (next-more ended over bytes more g.rest h.command g.is f))
        | inr j ↦
            let next_same = same_go (next over (bytes ++ more)) h.command k.command (g.rest ++ more) j.rest (next-more ended over bytes more g.rest h.command g.is f) j.is in
            let same = turns next_same.0 in
            let one = same_exchange x y same.replies same.dealings in
            let there : (z : Talk broken k.mid (g.rest ++ more) over j.later j.text j.end j.last) × (exchanges z ≡ ys ++ rest) =
            subst (λ (r : List ℕ). (z : Talk broken k.mid r over j.later j.text j.end j.last) × (exchanges z ≡ ys ++ rest)) (sym next_same.1) (j.talk, j.behind) in
            let others = same_beginning xs ys cut broken h.mid k.mid g.last j.last g.rest more ended over g.later j.later g.text j.text g.end j.end g.talk there.0 later rest f g.behind there.1 (one_less (length xs) (length ys) n) well.1 good.1 same.states same.rest in
            λ i. one i ∷ others i
      ]
    ]

pub same_first : SameFirst
same_first m n cut broken bytes more ended over ds es text other end last s t first second later rest a b f p q len well good heard =
    same_beginning first second cut broken (empty m) (empty n) s t bytes more ended over ds es text other end last a b later rest f p q len well good (alike_empty m n) heard

-- ---- what a talk says

pub said_by_commands : SaidByCommands
said_by_commands cut s t bytes text ended ds end (leave s0 bs e) = record { text_is = refl; dealings_are = refl }
said_by_commands cut s t bytes text ended ds end (wait k s0 bs e w) = record { text_is = refl; dealings_are = refl }
said_by_commands cut s t bytes text ended ds end (finish k s0 bs e w) = record { text_is = refl; dealings_are = refl }
said_by_commands cut s t bytes text ended ds end (stop k s0 u bs e c f ds0 reply w turn) =
    record { text_is = sym (append-nil reply); dealings_are = sym (append-nil ds0) }
said_by_commands cut s t bytes text ended ds end (go k s0 m u bs rest e c ds0 fs reply more f w turn talk) =
    let others = said_by_commands k m u rest more e fs f talk in
    record { text_is = ap (λ xs. reply ++ xs) others.text_is; dealings_are = ap (λ xs. ds0 ++ xs) others.dealings_are }
