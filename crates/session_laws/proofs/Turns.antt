-- One command of two sessions that hold the same: where the budget says the same to both and neither lacks memory or a thread,
-- both reply the same, and hold the same after it.
use Rattle.std.proofs.Common.{◌≡◌, ◌⊎◌, ◌+◌, ℕ, Bool, true, false, nat_lt, List, [], ◌∷◌, ◌++◌, map, length, codes, Option, Some, None, option_map, Result, Ok, Err, MatchBool, inl, inr, refl, sym, ap, ◌∙◌, subst, subst₂}
use Rattle.std.proofs.lemmas.List.{map-append}
use Rattle.std.specs.FinMap as fin
use Rattle.hex.specs.Hex.{decode_of}
use Rattle.hex.specs.declared.error.FromHexError.{FromHexError}
use Rattle.csr_store.specs.Grid.{Grid}
use Rattle.matrix_market.specs.CanonicalText.{canonical_text}
use Rattle.matrix_market.proofs.Unique.{same_matrix, never_both}
use Rattle.bpf_insn.specs.declared.insn.Insn.{Insn}
use Rattle.bpf_insn.specs.declared.operands.Kind.{Kind}
use Rattle.bpf_insn.proofs.OneReading.{Spells-one, Spells-no_fault, IsCodeFault-one}
use Rattle.bpf_text.proofs.OneReading.{one_reading}
use Rattle.bpf_text.specs.Canonical.{canonical_text as assembly_text}
use Rattle.bpf_verify.specs.Accepted.{Accepted, IsAcceptable}
use Rattle.step_purse.specs.declared.dealings.Reply.TheVariants.{Took, NotEnough}
use Rattle.step_purse.specs.declared.dealings.Totals.{Totals}
use Rattle.step_purse.specs.declared.dealings.Dealing.{Dealing}
use Rattle.step_purse.specs.declared.dealings.Dealing.TheVariants.{Reserved, Observed}
use Rattle.job_plan.specs.Job.{Job}
use Rattle.job_plan.specs.Price.{price_of}
use Rattle.job_plan.specs.Refusal.{job_fault}
use Rattle.job_plan.specs.declared.error.JobError.{JobError}
use Rattle.job_runner.specs.declared.answer.Cause.{Cause}
use Rattle.job_runner.specs.declared.answer.Cause.TheVariants as cause
use Rattle.command_text.specs.declared.rules.SessionRule.TheVariants.{MalformedName}
use Rattle.command_text.specs.declared.refusal.Refusal.TheVariants as no
use Rattle.command_text.specs.Words.{is_name, kind_of_word}
use Rattle.command_text.specs.Hexadecimal.{without_gaps}
use Rattle.command_text.specs.Replies.{refusal_text, matrix_text, queued_text, run_text, show_text, list_text, budget_text}
use Rattle.command_text.specs.Requests.{Command, Blank, Matrix, Op, Asm, Dis, Submit, Run, Show, Types, Budget, Quit, Refuse, Break}
use Rattle.workspace.specs.State.{State}
use Rattle.workspace.specs.Found.{job_found}
use Rattle.workspace.specs.Types.{types_text}
use Rattle.workspace.specs.Turn.{Turn, Replies, Refuses, TakesMatrix, TakesProgram, TakesOperator, TakesDigits, TakesKind, TakesAssembly, Submits, Prices, Finds, Gives, RunTurn, batch_refusal, Tells, BudgetTurn}
use Rattle.session_laws.specs.Laws.{BudgetReply, ToReserve, ToTotals, budget_replies, TellsWant}
use Rattle.session_laws.proofs.Bare.{bare, bare_job, price_bare, fault_bare}
use Rattle.session_laws.proofs.OneFault.{one_market_fault, no_operator_fault, one_operator_fault}
use Rattle.session_laws.proofs.Alike.{AreAlike, AcceptedIn, alike_matrix, alike_operator, same_found, length_bare, same_results, no_budget_replies, same_settled, same_total, same_lines, same_bound, same_types}

-- what two turns then have in common; the budget says the same to what follows
pub record AreSame (ds es : List Dealing) (reply other : List ℕ) (u v : State) (xs ys : List BudgetReply) : Type 0 where
  pub dealings : ds ≡ es
  pub replies : reply ≡ other
  pub states : AreAlike u v
  pub rest : xs ≡ ys

first_said : (x y : BudgetReply) (xs ys : List BudgetReply) → x ∷ xs ≡ y ∷ ys → x ≡ y
first_said x y xs ys e = cc

then_said : (x y : BudgetReply) (xs ys : List BudgetReply) → x ∷ xs ≡ y ∷ ys → xs ≡ ys
then_said x y xs ys e = cc

not_both_said : (a b : ℕ) → ToReserve (Took a) ≡ ToReserve (NotEnough b) → ⊥
not_both_said a b e = cc

same_left : (a b : ℕ) → ToReserve (NotEnough a) ≡ ToReserve (NotEnough b) → a ≡ b
same_left a b e = cc

same_totals : (a b : Totals) → ToTotals a ≡ ToTotals b → a ≡ b
same_totals a b e = cc

none_some : {X : Type 0} (x : X) → None ≡ Some x → ⊥
none_some x e = cc

some_same : {X : Type 0} (x y : X) → Some x ≡ Some y → x ≡ y
some_same x y e = cc

break_want : (why : Cause) (spent : ℕ) (text : List ℕ) → text ≡ refusal_text (batch_refusal why spent) → TellsWant text
break_want cause.Memory spent text e = inr (inl (spent, e))
break_want cause.Thread spent text e = inr (inr (spent, e))

both_match : {R : Type 0} (b : Bool) (P Q V W : Type 0) → MatchBool b P Q → MatchBool b V W → (P → V → R) → (Q → W → R) → R
both_match true P Q V W x y f g = f x y
both_match false P Q V W x y f g = g x y

module _ (s t u v : State) (ds es : List Dealing) (reply other : List ℕ) (xs ys : List BudgetReply) (alike : AreAlike s t)
    (heard : budget_replies ds ++ xs ≡ budget_replies es ++ ys) (well : TellsWant reply → ⊥) (good : TellsWant other → ⊥) where
  abbrev Same : Type 0
  Same = AreSame ds es reply other u v xs ys

  -- the budget said nothing to either
  quiet : ds ≡ es → budget_replies ds ≡ [] → budget_replies es ≡ [] → reply ≡ other → AreAlike u v → Same
  quiet e a b r k = record {
    dealings = e;
    replies = r;
    states = k;
    rest = sym (ap (λ z. z ++ xs) a) ∙ (heard ∙ ap (λ z. z ++ ys) b);
  }

  no_call : ds ≡ [] → es ≡ [] → reply ≡ other → AreAlike u v → Same
  no_call a b r k = quiet (a ∙ sym b) (ap budget_replies a) (ap budget_replies b) r k

  stay : u ≡ s → v ≡ t → AreAlike u v
  stay a b = subst₂ AreAlike (sym a) (sym b) alike

  says : (said text : List ℕ) → said ≡ text → Replies said s ds reply u → Replies text t es other v → Same
  says said text e a b = no_call a.0 b.0 (a.1 ∙ (e ∙ sym b.1)) (stay a.2 b.2)

  -- ---- commands with a body

  takes_matrix : (name body : List ℕ) → TakesMatrix s name body ds reply u → TakesMatrix t name body es other v → Same
  takes_matrix name body a b = elim a [
    | inl g ↦ elim b [
      | inl h ↦
          let same : g.0 ≡ h.0 = same_matrix body g.0 h.0 g.2 h.2 in
          no_call g.3 h.3 (g.4 ∙ (ap (λ (x : Grid). matrix_text x.rows x.columns (fin.len x.cells)) same ∙ sym h.4))
          (subst₂ AreAlike (sym g.5) (sym h.5) (alike_matrix s t alike name g.0 h.0 same))
      | inr y ↦ absurd (never_both body g.0 y.1 y.0 g.2 y.2)
    ]
    | inr x ↦ elim b [
      | inl h ↦ absurd (never_both body h.0 x.1 x.0 h.2 x.2)
      | inr y ↦
          let same = one_market_fault body x.1 y.1 x.0 y.0 x.2 y.2 in
          says (refusal_text (no.Market x.0 x.1)) (refusal_text (no.Market y.0 y.1)) (λ i. refusal_text (no.Market (same.1 i) (same.0 i))) x.3 y.3
    ]
  ]

  takes_program : (name : List ℕ) (kind : Kind) (program : List Insn) → TakesProgram s name kind program ds reply u → TakesProgram t name kind program es other v → Same
  takes_program name kind program a b = elim a [
    | inl x ↦ elim b [
      | inl y ↦
          let kinds : x.0.kind ≡ y.0.kind = x.2 ∙ sym y.2 in
          let insns : x.0.insns ≡ y.0.insns = x.3 ∙ sym y.3 in
          let same : bare x.0 ≡ bare y.0 = λ i. record { kind = kinds i; insns = insns i; table = [] } in
          no_call x.4 y.4 (x.5 ∙ sym y.5) (subst₂ AreAlike (sym x.6) (sym y.6) (alike_operator s t alike name x.0 y.0 same x.1 y.1))
      | inr y ↦ absurd (no_operator_fault kind program y.0 (subst₂ IsAcceptable x.2 x.3 x.1.acceptable) y.1)
    ]
    | inr x ↦ elim b [
      | inl y ↦ absurd (no_operator_fault kind program x.0 (subst₂ IsAcceptable y.2 y.3 y.1.acceptable) x.1)
      | inr y ↦
          says (refusal_text (no.Code x.0)) (refusal_text (no.Code y.0)) (ap (λ f. refusal_text (no.Code f)) (one_operator_fault kind program x.0 y.0 x.1 y.1)) x.2 y.2
    ]
  ]

  takes_operator : (name : List ℕ) (kind : Kind) (code : List ℕ) → TakesOperator s name kind code ds reply u → TakesOperator t name kind code es other v → Same
  takes_operator name kind code a b = elim a [
    | inl x ↦ elim b [
      | inl y ↦
          takes_program name kind y.0 (subst (λ (p : List Insn). TakesProgram s name kind p ds reply u) (Spells-one code x.0 y.0 x.1 y.1) x.2) y.2
      | inr y ↦ absurd (Spells-no_fault code x.0 y.0 x.1 y.1)
    ]
    | inr x ↦ elim b [
      | inl y ↦ absurd (Spells-no_fault code y.0 x.0 y.1 x.1)
      | inr y ↦ says (refusal_text (no.Code x.0)) (refusal_text (no.Code y.0)) (ap (λ f. refusal_text (no.Code f)) (IsCodeFault-one code x.0 y.0 x.1 y.1)) x.2 y.2
    ]
  ]

  takes_digits : (name : List ℕ) (kind : Kind) (r : Result (List ℕ) FromHexError) → TakesDigits s name kind r ds reply u → TakesDigits t name kind r es other v → Same
  takes_digits name kind (Err e) a b = says _ _ refl a b
  takes_digits name kind (Ok code) a b = takes_operator name kind code a b

  takes_kind : (name : List ℕ) (kind : Option Kind) (P Q : Kind → List Dealing → List ℕ → State → Type 0)
      → ((k : Kind) → P k ds reply u → Q k es other v → Same) → TakesKind s name kind P ds reply u → TakesKind t name kind Q es other v
      → Same
  takes_kind name None P Q f a b = says _ _ refl a b
  takes_kind name (Some kind) P Q f a b =
      both_match (is_name name) (P kind ds reply u) (Refuses (no.Session MalformedName) s ds reply u)
      (Q kind es other v) (Refuses (no.Session MalformedName) t es other v) a b (λ x y. f kind x y)
      (λ x y. says (refusal_text (no.Session MalformedName)) (refusal_text (no.Session MalformedName)) refl x y)

  takes_assembly : (name : List ℕ) (kind : Kind) (body : List ℕ) → TakesAssembly s name kind body ds reply u → TakesAssembly t name kind body es other v → Same
  takes_assembly name kind body a b =
      let reading = one_reading body in
      elim a [
        | inl x ↦ elim b [
          | inl y ↦
              takes_program name kind y.0 (subst (λ (p : List Insn). TakesProgram s name kind p ds reply u) (reading.one_program x.0 y.0 x.1 y.1) x.2) y.2
          | inr y ↦ absurd (reading.no_fault x.0 y.0 x.1 y.1)
        ]
        | inr x ↦ elim b [
          | inl y ↦ absurd (reading.no_fault y.0 x.0 y.1 x.1)
          | inr y ↦
              says (refusal_text (no.Assembly x.0)) (refusal_text (no.Assembly y.0)) (ap (λ f. refusal_text (no.Assembly f)) (reading.one_fault x.0 y.0 x.1 y.1)) x.2 y.2
        ]
      ]

  -- where neither lacks memory
  with_memory : {P Q : Type 0} → Refuses no.Memory s ds reply u ⊎ P → Refuses no.Memory t es other v ⊎ Q → (P → Q → Same) → Same
  with_memory a b f = elim a [
    | inl x ↦ absurd (well (inl x.1))
    | inr x ↦ elim b [
      | inl y ↦ absurd (good (inl y.1))
      | inr y ↦ f x y
    ]
  ]

  -- ---- jobs

  module _ (j k : Job) (e : bare_job j ≡ bare_job k) where
    same_price : price_of j ≡ price_of k
    same_price = sym (price_bare j) ∙ (ap price_of e ∙ price_bare k)

    same_length : length s.queue ≡ length t.queue
    same_length = sym (length_bare s.queue) ∙ (ap length alike.queue ∙ length_bare t.queue)

    queued : map bare_job (s.queue ++ j ∷ []) ≡ map bare_job (t.queue ++ k ∷ [])
    queued = map-append bare_job s.queue (j ∷ []) ∙ ((λ i. alike.queue i ++ e i ∷ []) ∙ sym (map-append bare_job t.queue (k ∷ [])))

    alike_job : AreAlike (record s { queue = s.queue ++ j ∷ [] }) (record t { queue = t.queue ++ k ∷ [] })
    alike_job = record { matrices = alike.matrices; operators = alike.operators; queue = queued; accepted = alike.accepted; others = alike.others }

    submits : Submits s j ds reply u → Submits t k es other v → Same
    submits a b = elim a [
      | inl x ↦ elim b [
        | inl y ↦
            let said : ToReserve (Took (price_of j)) ∷ xs ≡ ToReserve (Took (price_of k)) ∷ ys = sym (ap (λ z. budget_replies z ++ xs) x.0) ∙ (heard ∙ ap (λ z. budget_replies z ++ ys) y.0) in
            record {
              dealings = x.0 ∙ ((λ i. Reserved (same_price i) (Took (same_price i)) ∷ []) ∙ sym y.0);
              replies = x.1 ∙ ((λ i. queued_text (same_length i + 1) (same_price i)) ∙ sym y.1);
              states = subst₂ AreAlike (sym x.2) (sym y.2) alike_job;
              rest = then_said (ToReserve (Took (price_of j))) (ToReserve (Took (price_of k))) xs ys said;
            }
        | inr y ↦
            let said : ToReserve (Took (price_of j)) ∷ xs ≡ ToReserve (NotEnough y.0) ∷ ys = sym (ap (λ z. budget_replies z ++ xs) x.0) ∙ (heard ∙ ap (λ z. budget_replies z ++ ys) y.1) in
            absurd (not_both_said (price_of j) y.0 (first_said (ToReserve (Took (price_of j))) (ToReserve (NotEnough y.0)) xs ys said))
      ]
      | inr x ↦ elim b [
        | inl y ↦
            let said : ToReserve (NotEnough x.0) ∷ xs ≡ ToReserve (Took (price_of k)) ∷ ys = sym (ap (λ z. budget_replies z ++ xs) x.1) ∙ (heard ∙ ap (λ z. budget_replies z ++ ys) y.0) in
            absurd (not_both_said (price_of k) x.0 (sym (first_said (ToReserve (NotEnough x.0)) (ToReserve (Took (price_of k))) xs ys said)))
        | inr y ↦
            let said : ToReserve (NotEnough x.0) ∷ xs ≡ ToReserve (NotEnough y.0) ∷ ys = sym (ap (λ z. budget_replies z ++ xs) x.1) ∙ (heard ∙ ap (λ z. budget_replies z ++ ys) y.1) in
            let left : x.0 ≡ y.0 = same_left x.0 y.0 (first_said (ToReserve (NotEnough x.0)) (ToReserve (NotEnough y.0)) xs ys said) in
            record {
              dealings = x.1 ∙ ((λ i. Reserved (same_price i) (NotEnough (left i)) ∷ []) ∙ sym y.1);
              replies = x.2 ∙ ((λ i. refusal_text (no.Budget (same_price i) (left i))) ∙ sym y.2);
              states = stay x.3 y.3;
              rest = then_said (ToReserve (NotEnough x.0)) (ToReserve (NotEnough y.0)) xs ys said;
            }
      ]
    ]

    prices : (f : Option JobError) → Prices s j f ds reply u → Prices t k f es other v → Same
    prices None a b = submits a b
    prices (Some fault) a b = says _ _ refl a b

    priced : Prices s j (job_fault j) ds reply u → Prices t k (job_fault k) es other v → Same
    priced a b =
        let same : job_fault j ≡ job_fault k = sym (fault_bare j) ∙ (ap job_fault e ∙ fault_bare k) in
        prices (job_fault k) (subst (λ (f : Option JobError). Prices s j f ds reply u) same a) b

    waits : Finds s (Some j) ds reply u → Finds t (Some k) es other v → Same
    waits a b =
        let P = Refuses no.Memory s ds reply u ⊎ Prices s j (job_fault j) ds reply u in
        let V = Refuses no.Memory t es other v ⊎ Prices t k (job_fault k) es other v in
        both_match (nat_lt (length t.queue) 64) P (Refuses no.QueueFull s ds reply u) V (Refuses no.QueueFull t es other v)
        (subst (λ n. MatchBool (nat_lt n 64) P (Refuses no.QueueFull s ds reply u)) same_length a) b
        (λ x y. with_memory x y priced) (λ x y. says (refusal_text no.QueueFull) (refusal_text no.QueueFull) refl x y)

  finds : (o p : Option Job) → option_map bare_job o ≡ option_map bare_job p → Finds s o ds reply u → Finds t p es other v → Same
  finds None None e a b = says _ _ refl a b
  finds None (Some k) e a b = absurd (none_some (bare_job k) e)
  finds (Some j) None e a b = absurd (none_some (bare_job j) (sym e))
  finds (Some j) (Some k) e a b = waits j k (some_same (bare_job j) (bare_job k) e) a b

  -- ---- `run`

  gives : Gives s ds reply u → Gives t es other v → Same
  gives a b =
      let e = alike.queue in
      let same : a.0 ≡ b.0 = same_results s.queue t.queue a.0 b.0 e a.1 b.1 in
      let lines = same_lines s.queue t.queue a.0 b.0 e same in
      let total = same_total s.queue t.queue a.0 b.0 e same in
      let after : AreAlike (record s { matrices = _; queue = [] }) (record t { matrices = _; queue = [] }) = record {
        matrices = same_bound s.queue t.queue a.0 b.0 e same s.matrices t.matrices alike.matrices;
        operators = alike.operators;
        queue = refl;
        accepted = alike.accepted;
        others = alike.others;
      } in
      quiet (a.3 ∙ (same_settled s.queue t.queue a.0 b.0 e same ∙ sym b.3)) (ap budget_replies a.3 ∙ no_budget_replies s.queue a.0) (ap budget_replies b.3 ∙ no_budget_replies t.queue b.0)
      (a.4 ∙ ((λ i. run_text (total i) (lines i)) ∙ sym b.4)) (subst₂ AreAlike (sym a.5) (sym b.5) after)

  runs : RunTurn s ds reply u → RunTurn t es other v → Same
  runs a b = elim a [
    | inl x ↦ elim b [
      | inl y ↦ gives x y
      | inr w ↦ elim w [
        | inl y ↦ absurd (good (break_want y.0 y.1 other y.3.1))
        | inr y ↦ absurd (good (inr (inl (0, y.1))))
      ]
    ]
    | inr w ↦ elim w [
      | inl x ↦ absurd (well (break_want x.0 x.1 reply x.3.1))
      | inr x ↦ absurd (well (inr (inl (0, x.1))))
    ]
  ]

  -- ---- `show`, `types`, `dis`, `budget`

  abbrev shown : Grid → List ℕ
  shown g = show_text (canonical_text g)

  abbrev typed : Accepted → List ℕ
  typed o = list_text (codes "types") (length o.insns) (types_text o)

  abbrev disassembled : Accepted → List ℕ
  disassembled o = list_text (codes "dis") (length o.insns) (assembly_text o.insns)

  shows : (g : Option Grid) → Tells s g shown ds reply u → Tells t g shown es other v → Same
  shows None a b = says _ _ refl a b
  shows (Some g) a b = with_memory a b (λ x y. says (shown g) (shown g) refl x y)

  tells_types : (o p : Option Accepted) → option_map bare o ≡ option_map bare p → AcceptedIn o → AcceptedIn p → Tells s o typed ds reply u → Tells t p typed es other v → Same
  tells_types None None e f g a b = says _ _ refl a b
  tells_types None (Some p) e f g a b = absurd (none_some (bare p) e)
  tells_types (Some o) None e f g a b = absurd (none_some (bare o) (sym e))
  tells_types (Some o) (Some p) e f g a b =
      let same = some_same (bare o) (bare p) e in
      let lines = same_types o p same f g in
      with_memory a b (λ x y. says (typed o) (typed p)
      (λ i. list_text (codes "types") (length ((same i).insns)) (lines i)) x y)

  tells_assembly : (o p : Option Accepted) → option_map bare o ≡ option_map bare p → Tells s o disassembled ds reply u → Tells t p disassembled es other v → Same
  tells_assembly None None e a b = says _ _ refl a b
  tells_assembly None (Some p) e a b = absurd (none_some (bare p) e)
  tells_assembly (Some o) None e a b = absurd (none_some (bare o) (sym e))
  tells_assembly (Some o) (Some p) e a b =
      let same = some_same (bare o) (bare p) e in
      with_memory a b (λ x y. says (disassembled o) (disassembled p)
      (λ i. list_text (codes "dis") (length ((same i).insns)) (assembly_text ((same i).insns))) x y)

  budgets : BudgetTurn s ds reply u → BudgetTurn t es other v → Same
  budgets a b =
      let said : ToTotals a.0 ∷ xs ≡ ToTotals b.0 ∷ ys = sym (ap (λ z. budget_replies z ++ xs) a.1) ∙ (heard ∙ ap (λ z. budget_replies z ++ ys) b.1) in
      let same : a.0 ≡ b.0 = same_totals a.0 b.0 (first_said (ToTotals a.0) (ToTotals b.0) xs ys said) in
      record {
        dealings = a.1 ∙ (ap (λ x. Observed x ∷ []) same ∙ sym b.1);
        replies = a.2 ∙ (ap (λ (x : Totals). budget_text x.left x.reserved x.spent) same ∙ sym b.2);
        states = stay a.3 b.3;
        rest = then_said (ToTotals a.0) (ToTotals b.0) xs ys said;
      }

  -- ---- each command

  pub same_turn : (c : Command) → Turn s c ds reply u → Turn t c es other v → Same
  same_turn Blank a b = says _ _ refl a b
  same_turn (Matrix name body) a b =
      with_memory a b (λ x y. both_match (is_name name) (TakesMatrix s name body ds reply u) (Refuses (no.Session MalformedName) s ds reply u)
      (TakesMatrix t name body es other v) (Refuses (no.Session MalformedName) t es other v) x y (takes_matrix name body)
      (says (refusal_text (no.Session MalformedName)) (refusal_text (no.Session MalformedName)) refl))
  same_turn (Op name kind body) a b =
      with_memory a b (takes_kind name (kind_of_word kind) (λ (k : Kind). TakesDigits s name k (decode_of (without_gaps body)))
      (λ (k : Kind). TakesDigits t name k (decode_of (without_gaps body))) (λ k x y. takes_digits name k (decode_of (without_gaps body)) x y))
  same_turn (Asm name kind body) a b =
      with_memory a b (takes_kind name (kind_of_word kind) (λ (k : Kind). TakesAssembly s name k body) (λ (k : Kind). TakesAssembly t name k body)
      (λ k x y. takes_assembly name k body x y))
  same_turn (Dis name) a b = tells_assembly (s.operators name) (t.operators name) (λ i. alike.operators i name) a b
  same_turn (Submit x) a b = finds (job_found s x) (job_found t x) (same_found s t x alike) a b
  same_turn Run a b = runs a b
  same_turn (Show name) a b = shows (t.matrices name) (subst (λ (g : Option Grid). Tells s g shown ds reply u) (λ i. alike.matrices i name) a) b
  same_turn (Types name) a b =
      tells_types (s.operators name) (t.operators name) (λ i. alike.operators i name) (alike.accepted name) (alike.others name) a b
  same_turn Budget a b = budgets a b
  same_turn Quit a b = says _ _ refl a b
  same_turn (Refuse rule) a b = says _ _ refl a b
  same_turn (Break rule) a b = says _ _ refl a b
