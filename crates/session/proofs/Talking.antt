-- What was said so far, and whatever comes.
use Rattle.std.proofs.Common.{◌≡◌, ◌+◌, ◌&&◌, ◌||◌, not, ℕ, Bool, true, false, List, [], ◌∷◌, ◌++◌, map, Option, None, Some, Result, Ok, Err, refl, sym, ap, ◌∙◌, subst, append_assoc, arith}
use Rattle.std.specs.Io.KnownBytes.{Consumes, Appends, IsAtEnd}
use Rattle.wire.specs.Devices.{SourceState, SinkState}
use Rattle.wire.specs.Prefixes.{IsPrefixOf}
use Rattle.wire.specs.Sending.{Sent, IsWritten, failed_writes}
use Rattle.wire.proofs.Sending.{sent_nothing, sent_then}
use Rattle.wire.specs.Fetching.{Follows}
use Rattle.wire.proofs.Known.{append_nil, consumes_nothing, consumes_more}
use Rattle.wire.proofs.Fetching.{follows_more}
use Rattle.session.proofs.Asking.{open_follows}
use Rattle.step_purse.specs.declared.dealings.Dealing.{Dealing}
use Rattle.step_budget.specs.Budget.{Deals, amounts_taken, amounts_settled}
use Rattle.job_plan.specs.Price.{price_of}
use Rattle.workspace.specs.State.{State, empty}
use Rattle.workspace.specs.Turn.{released}
use Rattle.session.specs.NextCommand.{next}
use Rattle.session.specs.Sessions.{SessionState}
use Rattle.session.specs.Talk.{Talk, leave, wait, finish, stop, go, Outside, Said, SaidAll, Counts, Outcome, MayAskWhenAnswered}
use Rattle.session.specs.Exchange.{IsLast, waiting, ending, stopping, going, leaving, Scene, Went, Final, FinalWhole, Exchanged}
use Rattle.session.specs.inner.Exchange.{Spoken, SpokenWhole, Conversed, MayAwaitNext}
use Rattle.session.specs.declared.end.End.{End}
use Rattle.session.specs.declared.end.ServeFault.{ServeFault}
use Rattle.session.specs.declared.end.ServeFault.TheVariants.{Read, Write, Turns, Memory}
use Rattle.session.proofs.Grammar.{next-more}
use Rattle.session.proofs.Matching.{turn_matched, last_matched, matched_more, matched_last}

-- what is said where the last thing stands next
last_said : (cut : Bool) (s t : State) (bytes : List ℕ) (ended : Bool) (ds : List Dealing) (text : List ℕ) (end : Option End) → IsLast cut (next ended bytes) s ds text end t → Talk cut s bytes ended ds text end t
last_said cut s t bytes ended ds text end (waiting k is u w) = wait cut s bytes ended w
last_said cut s t bytes ended ds text end (ending k is u w) = finish cut s bytes ended w
last_said cut s t bytes ended ds text end (stopping k is u v c e es reply w turn) = stop cut s t bytes ended c e ds text w turn
last_said cut s t bytes ended ds text end (going is u v c rest es reply w turn) =
    let whole = go true s t t bytes rest ended c ds [] text [] None w turn (leave t rest ended) in
    subst (λ xs. Talk true s bytes ended xs text None t) (append_nil ds) (subst (λ xs. Talk true s bytes ended (ds ++ []) xs None t) (append_nil text) whole)
last_said cut s t bytes ended ds text end (leaving is u) = leave s bytes ended

-- what the source told, over two stretches
told_so_far : (t u v a b : Bool) (xs : List ℕ) → Follows a xs b → u ≡ (t || a) → v ≡ (u || (b && not a)) → v ≡ (t || b)
told_so_far true u v a b xs f p q = q ∙ ap (λ w. w || (b && not a)) p
told_so_far false u v true b xs f p q = q ∙ (ap (λ w. w || (b && false)) p ∙ sym f.1)
told_so_far false u v false true xs f p q = q ∙ ap (λ w. w || true) p
told_so_far false u v false false xs f p q = q ∙ ap (λ w. w || false) p

-- what was written of a text, where nothing waited before it, is a front part of it
front_of : (well : Bool) (due text written waits : List ℕ) → due ≡ [] → IsWritten well (due ++ text) written waits → IsPrefixOf written text
front_of true due text written waits none w = (waits, ap (λ xs. xs ++ text) (sym none) ∙ w)
front_of false due text written waits none w = (w.0, ap (λ xs. xs ++ text) (sym none) ∙ w.1)

-- all of it was, where none waits
all_written : (due text written waits : List ℕ) → due ≡ [] → waits ≡ [] → due ++ text ≡ written ++ waits → written ≡ text
all_written due text written waits none left w =
    sym (append_nil written) ∙ ap (λ xs. written ++ xs) (sym left) ∙ sym w ∙ ap (λ xs. xs ++ text) none

pub record SoFar {S : Type 0} (leads : S → Dealing → S → Type 0) (old now : Scene S) : Type 0 where
  pub read : List ℕ
  pub dealings : List Dealing
  pub text : List ℕ
  pub consumed : Consumes old.stream.source.remaining now.stream.source.remaining read
  pub ends : now.stream.source.told_end ≡ (old.stream.source.told_end || now.stream.held.ended)
  pub at_end : now.stream.held.ended ≡ true → IsAtEnd now.stream.source.remaining
  pub reads : now.stream.source.reads + now.stream.held.reads_left ≡ old.stream.source.reads + old.stream.held.reads_left
  pub no_failed_read : now.stream.source.failures ≡ old.stream.source.failures
  pub sent : Sent true text old.touched.out now.touched.out
  -- what was taken is what was settled, and then the prices of the jobs that wait
  pub matched : amounts_taken dealings ≡ amounts_settled dealings ++ map price_of now.touched.state.queue
  -- what the budget does next comes after what it did
  pub dealt : (es : List Dealing) (last : S) → Deals leads now.touched.budget es last → Deals leads old.touched.budget (dealings ++ es) last
  -- what is said to what is left is said after what was said
  pub goes_on : (cut : Bool) (more : List ℕ) (e : Bool) (es : List Dealing) (text_of_more : List ℕ) (end : Option End) (last : State) → Follows now.stream.held.ended more e
      → Talk cut now.touched.state (now.stream.held.bytes ++ more) e es text_of_more end last → Talk cut (empty old.touched.state.workers) (read ++ more) e (dealings ++ es) (text ++ text_of_more) end last

or_false : (t : Bool) → t ≡ (t || false)
or_false true = refl
or_false false = refl

module _ {S : Type 0} (leads : S → Dealing → S → Type 0) where
  deals_more : (old mid : S) (ds es : List Dealing) (new : S) → Deals leads old ds mid → Deals leads mid es new → Deals leads old (ds ++ es) new
  deals_more old mid [] es new a b = subst (λ s. Deals leads s es new) a b
  deals_more old mid (d ∷ ds) es new a b = (a.0, a.1, deals_more a.0 mid ds es new a.2 b)

  -- nothing was said
  pub so_far_nothing : (old : Scene S) → old.stream.held.bytes ≡ [] → old.stream.held.ended ≡ false → old.touched.state ≡ empty old.touched.state.workers → SoFar leads old old
  so_far_nothing old none fresh start = record {
    read = [];
    dealings = [];
    text = [];
    consumed = consumes_nothing old.stream.source.remaining;
    ends = or_false old.stream.source.told_end ∙ ap (λ e. old.stream.source.told_end || e) (sym fresh);
    at_end = λ e. absurd (let bad : true ≡ false = sym e ∙ fresh in cc);
    reads = refl;
    no_failed_read = refl;
    sent = sent_nothing old.touched.out;
    matched = ap (λ (s : State). map price_of s.queue) (sym start);
    dealt = λ es last d. d;
    goes_on = λ cut more e es t end last f k. subst (λ s. Talk cut s more e es t end last) start (subst (λ bs. Talk cut old.touched.state (bs ++ more) e es t end last) none k);
  }

  module _ (old now new : Scene S) (so : SoFar leads old now) where
    -- an exchange was made
    pub so_far_went : Went next leads now new → SoFar leads old new
    so_far_went w =
        let s = now.touched.state in
        let t = new.touched.state in
        let h0 = now.stream.held in
        let h1 = new.stream.held in
        record {
          read = so.read ++ w.fetched.got;
          dealings = so.dealings ++ w.dealings;
          text = so.text ++ w.reply;
          consumed = consumes_more old.stream.source.remaining now.stream.source.remaining new.stream.source.remaining so.read w.fetched.got so.consumed w.fetched.consumed;
          ends = told_so_far old.stream.source.told_end now.stream.source.told_end new.stream.source.told_end h0.ended h1.ended w.fetched.got w.fetched.follows so.ends w.fetched.ends;
          at_end = w.fetched.at_end so.at_end;
          reads = w.fetched.reads ∙ so.reads;
          no_failed_read = let a = so.no_failed_read in let b = w.fetched.failures in omega arith;
          sent = sent_then true so.text w.reply old.touched.out now.touched.out new.touched.out so.sent w.sent;
          matched = matched_more s t so.dealings w.dealings so.matched (turn_matched s t w.dealings w.command w.reply w.turn);
          dealt = λ es last d. subst (λ fs. Deals leads old.touched.budget fs last) (sym (append_assoc so.dealings w.dealings es)) (so.dealt (w.dealings ++ es) last (deals_more now.touched.budget new.touched.budget w.dealings es last w.dealt d));
          goes_on = λ cut more e es text end last f talk.
              let got = w.fetched.got in
              let whole_next = next-more h1.ended e (h0.bytes ++ got) more h1.bytes w.command w.fetched.holds f in
              let one = go cut s t last ((h0.bytes ++ got) ++ more) (h1.bytes ++ more) e w.command w.dealings es w.reply text end whole_next w.turn talk in
              let all = so.goes_on cut (got ++ more) e (w.dealings ++ es) (w.reply ++ text) end last (follows_more h0.ended h1.ended e got more w.fetched.follows f)
              (subst (λ bs. Talk cut s bs e (w.dealings ++ es) (w.reply ++ text) end last) (append_assoc h0.bytes got more) one) in
              subst (λ bs. Talk cut (empty old.touched.state.workers) bs e ((so.dealings ++ w.dealings) ++ es) ((so.text ++ w.reply) ++ text) end last) (sym (append_assoc so.read got more))
              (subst (λ fs. Talk cut (empty old.touched.state.workers) (so.read ++ (got ++ more)) e fs ((so.text ++ w.reply) ++ text) end last) (sym (append_assoc so.dealings w.dealings es))
              (subst (λ xs. Talk cut (empty old.touched.state.workers) (so.read ++ (got ++ more)) e (so.dealings ++ (w.dealings ++ es)) xs end last) (sym (append_assoc so.text w.reply text)) all));
        }

    -- where nothing waits and no command is whole, all that was read is answered
    pub so_far_asked : (may : SourceState → SinkState → Type 0) → old.touched.out.waits ≡ []
        → MayAskWhenAnswered may old.touched.state.workers old.stream.source old.touched.out.sink → MayAwaitNext may next now
    so_far_asked may fresh asked = λ p emptied source got going consumed failures waits.
        let s = now.touched.state in
        let h = now.stream.held in
        let sent = sent_then true so.text [] old.touched.out now.touched.out p so.sent emptied.0 in
        asked source p.sink (record {
          read = so.read ++ got;
          text = so.text ++ [];
          dealings = so.dealings ++ [];
          held = s;
          consumed = consumes_more old.stream.source.remaining now.stream.source.remaining source.remaining so.read got so.consumed consumed;
          appended = subst (λ xs. Appends old.touched.out.sink.contents p.sink.contents xs)
              (all_written old.touched.out.waits (so.text ++ []) sent.written p.waits fresh emptied.1 sent.is_written) sent.appended;
          failed_reads = failures ∙ so.no_failed_read;
          failed_writes = let none = sent.failures in omega arith;
          talk = so.goes_on false got false [] [] None s (open_follows h.ended got going) (wait false s (h.bytes ++ got) false waits);
        })

    -- the last exchange was made
    spoken_last : (fresh : old.touched.out.waits ≡ []) (cut : Bool) (m : ℕ) (well : Bool) (end : Option End)
        → Final next cut leads m well now new end → Spoken cut leads m (failed_writes well) old new end
    spoken_last fresh cut m well end w =
        let s = now.touched.state in
        let t = new.touched.state in
        let h0 = now.stream.held in
        let h1 = new.stream.held in
        let got = w.fetched.got in
        let said = last_said cut s t (h0.bytes ++ got) h1.ended w.dealings w.text end w.fetched.holds in
        let sent = sent_then well so.text w.text old.touched.out now.touched.out new.touched.out so.sent w.sent in
        record {
          read = so.read ++ got;
          ended = h1.ended;
          dealings = so.dealings ++ w.dealings;
          text = so.text ++ w.text;
          written = sent.written;
          consumed = consumes_more old.stream.source.remaining now.stream.source.remaining new.stream.source.remaining so.read got so.consumed w.fetched.consumed;
          ends = told_so_far old.stream.source.told_end now.stream.source.told_end new.stream.source.told_end h0.ended h1.ended got w.fetched.follows so.ends w.fetched.ends;
          at_end = w.fetched.at_end so.at_end;
          reads = w.fetched.reads ∙ so.reads;
          failed_reads_are = let a = so.no_failed_read in let b = w.fetched.failures in omega arith;
          failed_writes_are = sent.failures;
          appended = sent.appended;
          in_front = front_of well old.touched.out.waits (so.text ++ w.text) sent.written new.touched.out.waits fresh sent.is_written;
          dealt = so.dealt w.dealings new.touched.budget w.dealt;
          matched = matched_more s t so.dealings w.dealings so.matched (last_matched s t w.dealings cut (next h1.ended (h0.bytes ++ got)) w.text end w.fetched.holds);
          talk = so.goes_on cut got h1.ended w.dealings w.text end t w.fetched.follows said;
        }

    -- all of it was written
    spoken_whole : (fresh : old.touched.out.waits ≡ []) (m : ℕ) (end : Option End) → FinalWhole next leads m now new end → SpokenWhole leads m old new end
    unfolding spoken_last
    spoken_whole fresh m end w = (
      spoken_last fresh false m true end w.0,
      all_written old.touched.out.waits (so.text ++ w.0.text) _ new.touched.out.waits fresh w.1
          (sent_then true so.text w.0.text old.touched.out now.touched.out new.touched.out so.sent w.0.sent).is_written,
    )

    -- the session ended
    pub conversed_end : old.touched.out.waits ≡ [] → (end : End) → Exchanged next leads now new (Ok (Some end)) → Conversed leads old new (Ok end)
    conversed_end fresh end w = spoken_whole fresh 0 (Some end) w

    -- the session broke off
    pub conversed_fault : old.touched.out.waits ≡ [] → (fault : ServeFault) → Exchanged next leads now new (Err fault) → Conversed leads old new (Err fault)
    conversed_fault fresh Read w = spoken_whole fresh 1 None w
    conversed_fault fresh Turns w = (spoken_whole fresh 0 None w.0, w.1)
    conversed_fault fresh Write w = (w.0, spoken_last fresh true 0 false w.0 w.1)
    conversed_fault fresh Memory w = absurd w

module _ {S : Type 0} (leads : S → Dealing → S → Type 0) (session : SessionState) (old mid : Scene S) (last : S) (start : old.stream.held.reads_left ≡ session.reads)
    (crew : old.touched.state.workers ≡ session.workers)
    (end_of : Deals leads mid.touched.budget (released mid.touched.state.queue) last) where
  abbrev given : Outside S
  given = record { budget = old.touched.budget; source = old.stream.source; sink = old.touched.out.sink }

  abbrev left : Outside S
  left = record { budget = last; source = mid.stream.source; sink = mid.touched.out.sink }

  -- what is still held was settled
  said_last : (cut : Bool) (m n : ℕ) (end : Option End) → Spoken cut leads m n old mid end → Said session.workers cut leads given left end
  said_last cut m n end s = record {
    read = s.read;
    ended = s.ended;
    dealings = s.dealings;
    text = s.text;
    written = s.written;
    held = mid.touched.state;
    consumed = s.consumed;
    ends = s.ends;
    at_end = s.at_end;
    appended = s.appended;
    in_front = s.in_front;
    dealt = deals_more leads old.touched.budget mid.touched.budget s.dealings (released mid.touched.state.queue) last s.dealt end_of;
    matched = matched_last mid.touched.state s.dealings s.matched;
    talk = subst (λ n. Talk cut (empty n) s.read s.ended s.dealings s.text end mid.touched.state) crew s.talk;
  }

  counts_of : (cut : Bool) (m n : ℕ) (end : Option End) → Spoken cut leads m n old mid end → Counts session.reads m n given left
  counts_of cut m n end s = record {
    reads = let a = s.reads in omega arith;
    failed_reads = s.failed_reads_are;
    failed_writes = s.failed_writes_are;
  }

  said_whole : (m : ℕ) (end : Option End) → SpokenWhole leads m old mid end → SaidAll session.workers leads given left end × Counts session.reads m 0 given left
  unfolding said_last
  said_whole m end s = ((said_last false m 0 end s.0, s.1), counts_of false m 0 end s.0)

  pub outcome_of : (result : Result End ServeFault) → Conversed leads old mid result → Outcome leads session given left result
  outcome_of (Ok end) s = said_whole 0 (Some end) s
  outcome_of (Err Read) s = said_whole 1 None s
  outcome_of (Err Turns) s = let w = said_whole 0 None s.0 in (w.0, (w.1, let a = s.0.0.reads in let b = s.1 in omega arith))
  outcome_of (Err Write) s = ((s.0, said_last true 0 1 s.0 s.1), counts_of true 0 1 s.0 s.1)
  outcome_of (Err Memory) s = absurd s
