-- Two sessions over the same bytes.
use Rattle.std.proofs.Common.{◌≡◌, ℕ, Bool, true, false, List, [], ◌∷◌, ◌++◌, map, Option, None, Some, refl, sym, ap, ◌∙◌, subst}
use Rattle.std.proofs.lemmas.List.{append-nil}
use Rattle.step_purse.specs.declared.dealings.Dealing.{Dealing}
use Rattle.step_purse.specs.declared.dealings.Dealing.TheVariants.{Reserved, Settled, Observed}
use Rattle.command_text.specs.Requests.{Command}
use Rattle.job_plan.specs.Job.{Job}
use Rattle.workspace.specs.State.{State, empty}
use Rattle.workspace.specs.Turn.{Turn, released}
use Rattle.session.specs.NextCommand.{NextCommand, Waits, Ends, Goes, Stops, next}
use Rattle.session.specs.Talk.{Talk, leave, wait, finish, stop, go}
use Rattle.session.specs.declared.end.End.{End}
use Rattle.session.specs.declared.end.End.TheVariants.{InputEnd}
use Rattle.session_laws.specs.Laws.{ToReserve, ToTotals, budget_replies, TellsWant, exchanges, TellNoWant, SameText}
use Rattle.session_laws.proofs.Bare.{bare_job, price_bare}
use Rattle.session_laws.proofs.Alike.{AreAlike, alike_empty}
use Rattle.session_laws.proofs.Turns.{same_turn}

-- ---- what stands next

waits_or_ends : (x : NextCommand) → x ≡ Waits → x ≡ Ends → ⊥
waits_or_ends x p q = cc

waits_or_stops : (x : NextCommand) (c : Command) (e : End) → x ≡ Waits → x ≡ Stops c e → ⊥
waits_or_stops x c e p q = cc

waits_or_goes : (x : NextCommand) (c : Command) (rest : List ℕ) → x ≡ Waits → x ≡ Goes c rest → ⊥
waits_or_goes x c rest p q = cc

ends_or_stops : (x : NextCommand) (c : Command) (e : End) → x ≡ Ends → x ≡ Stops c e → ⊥
ends_or_stops x c e p q = cc

ends_or_goes : (x : NextCommand) (c : Command) (rest : List ℕ) → x ≡ Ends → x ≡ Goes c rest → ⊥
ends_or_goes x c rest p q = cc

pub stops_or_goes : (x : NextCommand) (c d : Command) (e : End) (rest : List ℕ) → x ≡ Stops c e → x ≡ Goes d rest → ⊥
stops_or_goes x c d e rest p q = cc

pub same_stop : (x : NextCommand) (c d : Command) (e f : End) → x ≡ Stops c e → x ≡ Stops d f → (c ≡ d) × (e ≡ f)
same_stop x c d e f p q = (cc, cc)

pub same_go : (x : NextCommand) (c d : Command) (rest more : List ℕ) → x ≡ Goes c rest → x ≡ Goes d more → (c ≡ d) × (rest ≡ more)
same_go x c d rest more p q = (cc, cc)

not_cut : true ≡ false → ⊥
not_cut e = cc

-- ---- what a talk is, by what stands next

record HasStopped (t : State) (c : Command) (e : End) (es : List Dealing) (other : List ℕ) (last : Option End) (v : State) : Type 0 where
  turn : Turn t c es other v
  ending : last ≡ Some e
  good : TellsWant other → ⊥

record HasGone (t : State) (ended : Bool) (c : Command) (rest : List ℕ) (es : List Dealing) (other : List ℕ) (last : Option End) (v : State) : Type 0 where
  mid : State
  first : List Dealing
  later : List Dealing
  reply : List ℕ
  text : List ℕ
  dealings : es ≡ first ++ later
  texts : other ≡ reply ++ text
  turn : Turn t c first reply mid
  good : TellsWant reply → ⊥
  talk : Talk false mid rest ended later text last v
  wants_nothing : TellNoWant (exchanges talk)

waited : (cut : Bool) (t v : State) (bytes : List ℕ) (ended : Bool) (es : List Dealing) (other : List ℕ) (last : Option End) → Talk cut t bytes ended es other last v
    → cut ≡ false → next ended bytes ≡ Waits → (es ≡ []) × (other ≡ []) × (last ≡ None) × (v ≡ t)
waited cut t v bytes ended es other last (leave s bs e) f n = absurd (not_cut f)
waited cut t v bytes ended es other last (wait k s bs e w) f n = (refl, refl, refl, refl)
waited cut t v bytes ended es other last (finish k s bs e w) f n = absurd (waits_or_ends (next e bs) n w)
waited cut t v bytes ended es other last (stop k s u bs e c x ds reply w turn) f n = absurd (waits_or_stops (next e bs) c x n w)
waited cut t v bytes ended es other last (go k s m u bs rest e c ds fs reply text end w turn talk) f n = absurd (waits_or_goes (next e bs) c rest n w)

finished : (cut : Bool) (t v : State) (bytes : List ℕ) (ended : Bool) (es : List Dealing) (other : List ℕ) (last : Option End) → Talk cut t bytes ended es other last v
    → cut ≡ false → next ended bytes ≡ Ends → (es ≡ []) × (other ≡ []) × (last ≡ Some InputEnd) × (v ≡ t)
finished cut t v bytes ended es other last (leave s bs e) f n = absurd (not_cut f)
finished cut t v bytes ended es other last (wait k s bs e w) f n = absurd (waits_or_ends (next e bs) w n)
finished cut t v bytes ended es other last (finish k s bs e w) f n = (refl, refl, refl, refl)
finished cut t v bytes ended es other last (stop k s u bs e c x ds reply w turn) f n = absurd (ends_or_stops (next e bs) c x n w)
finished cut t v bytes ended es other last (go k s m u bs rest e c ds fs reply text end w turn talk) f n = absurd (ends_or_goes (next e bs) c rest n w)

stopped : (cut : Bool) (t v : State) (bytes : List ℕ) (ended : Bool) (es : List Dealing) (other : List ℕ) (last : Option End) (b : Talk cut t bytes ended es other last v)
    → cut ≡ false → TellNoWant (exchanges b) → (c : Command) (x : End) → next ended bytes ≡ Stops c x → HasStopped t c x es other last v
stopped cut t v bytes ended es other last (leave s bs e) f good c x n = absurd (not_cut f)
stopped cut t v bytes ended es other last (wait k s bs e w) f good c x n = absurd (waits_or_stops (next e bs) c x w n)
stopped cut t v bytes ended es other last (finish k s bs e w) f good c x n = absurd (ends_or_stops (next e bs) c x w n)
stopped cut t v bytes ended es other last (stop k s u bs e d y ds reply w turn) f good c x n =
    let same = same_stop (next e bs) d c y x w n in
    record { turn = subst (λ (z : Command). Turn s z ds reply u) same.0 turn; ending = ap Some same.1; good = good.0 }
stopped cut t v bytes ended es other last (go k s m u bs rest e d ds fs reply text end w turn talk) f good c x n =
    absurd (stops_or_goes (next e bs) c d x rest n w)

gone : (cut : Bool) (t v : State) (bytes : List ℕ) (ended : Bool) (es : List Dealing) (other : List ℕ) (last : Option End) (b : Talk cut t bytes ended es other last v)
    → cut ≡ false → TellNoWant (exchanges b) → (c : Command) (rest : List ℕ) → next ended bytes ≡ Goes c rest → HasGone t ended c rest es other last v
gone cut t v bytes ended es other last (leave s bs e) f good c rest n = absurd (not_cut f)
gone cut t v bytes ended es other last (wait k s bs e w) f good c rest n = absurd (waits_or_goes (next e bs) c rest w n)
gone cut t v bytes ended es other last (finish k s bs e w) f good c rest n = absurd (ends_or_goes (next e bs) c rest w n)
gone cut t v bytes ended es other last (stop k s u bs e d y ds reply w turn) f good c rest n = absurd (stops_or_goes (next e bs) d c y rest w n)
gone cut t v bytes ended es other last (go k s m u bs more e d ds fs reply text end w turn talk) f good c rest n =
    let same = same_go (next e bs) d c more rest w n in
    let there : (x : Talk k m rest e fs text end u) × TellNoWant (exchanges x) = subst (λ (r : List ℕ). (x : Talk k m r e fs text end u) × TellNoWant (exchanges x)) same.1 (talk, good.1) in
    let whole : (x : Talk false m rest e fs text end u) × TellNoWant (exchanges x) = subst (λ (z : Bool). (x : Talk z m rest e fs text end u) × TellNoWant (exchanges x)) f there in
    record {
      mid = m;
      first = ds;
      later = fs;
      reply = reply;
      text = text;
      dealings = refl;
      texts = refl;
      turn = subst (λ (z : Command). Turn s z ds reply m) same.0 turn;
      good = good.0;
      talk = whole.0;
      wants_nothing = whole.1;
    }

-- ---- whole talks

pub budget_replies-append : (ds es : List Dealing) → budget_replies (ds ++ es) ≡ budget_replies ds ++ budget_replies es
budget_replies-append [] es = refl
budget_replies-append (Reserved amount reply ∷ ds) es = ap (λ xs. ToReserve reply ∷ xs) (budget_replies-append ds es)
budget_replies-append (Settled amount spent ∷ ds) es = budget_replies-append ds es
budget_replies-append (Observed totals ∷ ds) es = ap (λ xs. ToTotals totals ∷ xs) (budget_replies-append ds es)

record IsSame (ds es : List Dealing) (text other : List ℕ) (end last : Option End) (u v : State) : Type 0 where
  dealings : ds ≡ es
  texts : text ≡ other
  ends : end ≡ last
  states : AreAlike u v

same_talk : (cut : Bool) (s u : State) (bytes : List ℕ) (ended : Bool) (ds : List Dealing) (text : List ℕ) (end : Option End) (a : Talk cut s bytes ended ds text end u)
    → cut ≡ false → TellNoWant (exchanges a)
    → (t v : State) (es : List Dealing) (other : List ℕ) (last : Option End) (b : Talk false t bytes ended es other last v) → TellNoWant (exchanges b)
    → AreAlike s t → budget_replies ds ≡ budget_replies es → IsSame ds es text other end last u v
same_talk cut s u bytes ended ds text end (leave s0 bs e) f well t v es other last b good alike heard = absurd (not_cut f)
same_talk cut s u bytes ended ds text end (wait k s0 bs e w) f well t v es other last b good alike heard =
    let h = waited false t v bs e es other last b refl w in
    record { dealings = sym h.0; texts = sym h.1; ends = sym h.2; states = subst (AreAlike s0) (sym h.3) alike }
same_talk cut s u bytes ended ds text end (finish k s0 bs e w) f well t v es other last b good alike heard =
    let h = finished false t v bs e es other last b refl w in
    record { dealings = sym h.0; texts = sym h.1; ends = sym h.2; states = subst (AreAlike s0) (sym h.3) alike }
same_talk cut s u bytes ended ds text end (stop k s0 u0 bs e c x ds0 reply w turn) f well t v es other last b good alike heard =
    let h = stopped false t v bs e es other last b refl good c x w in
    let same = same_turn s0 t u0 v ds0 es reply other [] [] alike (append-nil (budget_replies ds0) ∙ (heard ∙ sym (append-nil (budget_replies es)))) well.0 h.good c turn h.turn in
    record { dealings = same.dealings; texts = same.replies; ends = sym h.ending; states = same.states }
same_talk cut s u bytes ended ds text end (go k s0 m u0 bs rest e c ds0 fs reply more x w turn talk) f well t v es other last b good alike heard =
    let h = gone false t v bs e es other last b refl good c rest w in
    let both = sym (budget_replies-append ds0 fs) ∙ (heard ∙ (ap budget_replies h.dealings ∙ budget_replies-append h.first h.later)) in
    let same = same_turn s0 t m h.mid ds0 h.first reply h.reply (budget_replies fs) (budget_replies h.later) alike both well.0 h.good c turn h.turn in
    let then = same_talk k m u0 rest e fs more x talk f well.1 h.mid v h.later h.text last h.talk h.wants_nothing same.states same.rest in
    record {
      dealings = (λ i. same.dealings i ++ then.dealings i) ∙ sym h.dealings;
      texts = (λ i. same.replies i ++ then.texts i) ∙ sym h.texts;
      ends = then.ends;
      states = then.states;
    }

-- what is released at the end
released_bare : (jobs : List Job) → released (map bare_job jobs) ≡ released jobs
released_bare [] = refl
released_bare (j ∷ js) = λ i. Settled (price_bare j i) 0 ∷ released_bare js i

same_released : (jobs others : List Job) → map bare_job jobs ≡ map bare_job others → released jobs ≡ released others
same_released jobs others e = sym (released_bare jobs) ∙ (ap released e ∙ released_bare others)

pub same_text : SameText
same_text m n bytes ended ds es text other end last s t a b well good heard =
    let same = same_talk false (empty m) s bytes ended ds text end a refl well (empty n) t es other last b good (alike_empty m n) heard in
    let held = same_released s.queue t.queue same.states.queue in
    (same.texts, same.ends, λ i. same.dealings i ++ held i)
