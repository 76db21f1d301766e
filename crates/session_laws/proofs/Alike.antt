-- States that hold the same, but for the tables of their operators and the number of workers.
use Rattle.std.proofs.Common.{◌≡◌, ◌+◌, ℕ, zero, suc, true, false, cond, if◌then◌else◌, List, [], ◌∷◌, ◌++◌, map, length, codes, decimal, Option, Some, None, option_map, bytes_eq, refl, sym, ap, ◌∙◌, subst}
use Rattle.bpf_insn.specs.Program.{slot_count}
use Rattle.bpf_insn.specs.Machine.{begins}
use Rattle.bpf_verify.specs.declared.tag.Tag.{Tag}
use Rattle.bpf_verify.specs.Tags.{Types}
use Rattle.bpf_verify.specs.Accepted.{Accepted, IsAccepted, IsTyping, entry_tags, typing}
use Rattle.std.specs.List.{flat_map}
use Rattle.csr_store.specs.Grid.{Grid}
use Rattle.job_plan.specs.Form.{found, mask_found}
use Rattle.job_plan.specs.Job.{Form, Job}
use Rattle.job_runner.specs.Batch as batch
use Rattle.job_runner.specs.Batch.{AreResultsOf, total_steps}
use Rattle.command_text.specs.Requests.{Submission}
use Rattle.step_purse.specs.declared.dealings.Dealing.TheVariants.{Settled}
use Rattle.workspace.specs.State.{State, bound, empty}
use Rattle.workspace.specs.Types.{tag_text, known_text, slot_text, lines_below, types_text}
use Rattle.workspace.specs.Found.{joined, job_found}
use Rattle.workspace.specs.Turn.{settled, all_bound, job_line, job_lines}
use Rattle.session_laws.specs.Laws.{budget_replies}
use Rattle.session_laws.proofs.Bare.{bare, bare_form, bare_job, price_bare, steps_bare, matrix_bare, one_matrix, found_bare}
use Rattle.session_laws.proofs.OneFault.{typing_one}

abbrev pub bare_names : (List ℕ → Option Accepted) → List ℕ → Option Accepted
bare_names names name = option_map bare (names name)

-- what stands there, if anything does, was accepted
abbrev pub AcceptedIn : Option Accepted → Type 0
AcceptedIn None = Unit {0}
AcceptedIn (Some o) = IsAccepted o

pub record AreAlike (s t : State) : Type 0 where
  pub matrices : s.matrices ≡ t.matrices
  pub operators : bare_names s.operators ≡ bare_names t.operators
  pub queue : map bare_job s.queue ≡ map bare_job t.queue
  pub accepted : (name : List ℕ) → AcceptedIn (s.operators name)
  pub others : (name : List ℕ) → AcceptedIn (t.operators name)

pub alike_empty : (m n : ℕ) → AreAlike (empty m) (empty n)
alike_empty m n = record { matrices = refl; operators = refl; queue = refl; accepted = λ name. tt; others = λ name. tt }

-- ---- names

bare_bound : (names : List ℕ → Option Accepted) (name : List ℕ) (o : Accepted) → bare_names (bound names name o) ≡ bound (bare_names names) name (bare o)
bare_bound names name o = λ i other. at other i
  where
    at : (other : List ℕ) → bare_names (bound names name o) other ≡ bound (bare_names names) name (bare o) other
    at other =
        elim (bytes_eq name other) as (λ b. option_map bare (cond b (Some o) (names other)) ≡ cond b (Some (bare o)) (option_map bare (names other))) [ true ↦ refl | false ↦ refl ]

accepted_bound : (names : List ℕ → Option Accepted) (name : List ℕ) (o : Accepted) → IsAccepted o → ((n : List ℕ) → AcceptedIn (names n)) → (n : List ℕ) → AcceptedIn (bound names name o n)
accepted_bound names name o is all n = elim (bytes_eq name n) as (λ b. AcceptedIn (cond b (Some o) (names n))) [ true ↦ is | false ↦ all n ]

module _ (s t : State) (alike : AreAlike s t) where
  pub alike_matrix : (name : List ℕ) (g h : Grid) → g ≡ h
      → AreAlike (record s { matrices = bound s.matrices name g }) (record t { matrices = bound t.matrices name h })
  alike_matrix name g h e = record {
    matrices = λ i. bound (alike.matrices i) name (e i);
    operators = alike.operators;
    queue = alike.queue;
    accepted = alike.accepted;
    others = alike.others;
  }

  pub alike_operator : (name : List ℕ) (o p : Accepted) → bare o ≡ bare p → IsAccepted o → IsAccepted p
      → AreAlike (record s { operators = bound s.operators name o }) (record t { operators = bound t.operators name p })
  alike_operator name o p e is other = record {
    matrices = alike.matrices;
    operators = bare_bound s.operators name o ∙ ((λ i. bound (alike.operators i) name (e i)) ∙ sym (bare_bound t.operators name p));
    queue = alike.queue;
    accepted = accepted_bound s.operators name o is alike.accepted;
    others = accepted_bound t.operators name p other alike.others;
  }

-- ---- jobs

joined_bare : (output : List ℕ) (f : Option Form) (m : Option (Option Grid)) → option_map bare_job (joined output f m) ≡ joined output (option_map bare_form f) m
joined_bare output (Some f) (Some m) = refl
joined_bare output (Some f) None = refl
joined_bare output None m = refl

found_alike : (s : State) (x : Submission) → option_map bare_job (job_found s x) ≡ joined x.output (found (bare_names s.operators) s.matrices x.form) (mask_found s.matrices x.mask)
found_alike s x =
    joined_bare x.output (found s.operators s.matrices x.form) (mask_found s.matrices x.mask)
    ∙ ap (λ f. joined x.output f (mask_found s.matrices x.mask)) (found_bare s.operators s.matrices x.form)

pub same_found : (s t : State) (x : Submission) → AreAlike s t → option_map bare_job (job_found s x) ≡ option_map bare_job (job_found t x)
same_found s t x alike =
    found_alike s x
    ∙ ((λ i. joined x.output (found (alike.operators i) (alike.matrices i) x.form) (mask_found (alike.matrices i) x.mask)) ∙ sym (found_alike t x))

pub length_bare : (jobs : List Job) → length (map bare_job jobs) ≡ length jobs
length_bare [] = refl
length_bare (j ∷ js) = ap suc (length_bare js)

-- ---- results

results_bare : (jobs : List Job) (rs : List batch.Result) → AreResultsOf jobs rs → AreResultsOf (map bare_job jobs) rs
results_bare [] [] a = a
results_bare [] (r ∷ rs) a = absurd a
results_bare (j ∷ js) [] a = absurd a
results_bare (j ∷ js) (r ∷ rs) a =
    (record { matrix = matrix_bare j r.matrix a.0.matrix; steps = a.0.steps ∙ sym (steps_bare j) }, results_bare js rs a.1)

one_results : (jobs : List Job) (rs qs : List batch.Result) → AreResultsOf jobs rs → AreResultsOf jobs qs → rs ≡ qs
one_results [] [] [] a b = refl
one_results [] [] (q ∷ qs) a b = absurd b
one_results [] (r ∷ rs) qs a b = absurd a
one_results (j ∷ js) [] qs a b = absurd a
one_results (j ∷ js) (r ∷ rs) [] a b = absurd b
one_results (j ∷ js) (r ∷ rs) (q ∷ qs) a b =
    let matrix = one_matrix j r.matrix q.matrix a.0.matrix b.0.matrix in
    let steps : r.steps ≡ q.steps = a.0.steps ∙ sym b.0.steps in
    λ i. record { matrix = matrix i; steps = steps i } ∷ one_results js rs qs a.1 b.1 i

pub same_results : (jobs others : List Job) (rs qs : List batch.Result) → map bare_job jobs ≡ map bare_job others → AreResultsOf jobs rs → AreResultsOf others qs → rs ≡ qs
same_results jobs others rs qs e a b =
    one_results (map bare_job jobs) rs qs (results_bare jobs rs a) (subst (λ js. AreResultsOf js qs) (sym e) (results_bare others qs b))

settled_bare : (jobs : List Job) (rs : List batch.Result) → settled (map bare_job jobs) rs ≡ settled jobs rs
settled_bare [] rs = refl
settled_bare (j ∷ js) [] = refl
settled_bare (j ∷ js) (r ∷ rs) = λ i. Settled (price_bare j i) r.steps ∷ settled_bare js rs i

total_bare : (jobs : List Job) → total_steps (map bare_job jobs) ≡ total_steps jobs
total_bare [] = refl
total_bare (j ∷ js) = λ i. steps_bare j i + total_bare js i

lines_bare : (jobs : List Job) (rs : List batch.Result) → job_lines (map bare_job jobs) rs ≡ job_lines jobs rs
lines_bare [] rs = refl
lines_bare (j ∷ js) [] = refl
lines_bare (j ∷ js) (r ∷ rs) = ap (λ ls. job_line j r ∷ ls) (lines_bare js rs)

bound_bare : (names : List ℕ → Option Grid) (jobs : List Job) (rs : List batch.Result) → all_bound names (map bare_job jobs) rs ≡ all_bound names jobs rs
bound_bare names [] rs = refl
bound_bare names (j ∷ js) [] = refl
bound_bare names (j ∷ js) (r ∷ rs) = bound_bare (bound names j.output r.matrix) js rs

pub no_budget_replies : (jobs : List Job) (rs : List batch.Result) → budget_replies (settled jobs rs) ≡ []
no_budget_replies [] rs = refl
no_budget_replies (j ∷ js) [] = refl
no_budget_replies (j ∷ js) (r ∷ rs) = no_budget_replies js rs

module _ (jobs others : List Job) (rs qs : List batch.Result) (e : map bare_job jobs ≡ map bare_job others) (same : rs ≡ qs) where
  pub same_settled : settled jobs rs ≡ settled others qs
  same_settled = sym (settled_bare jobs rs) ∙ ((λ i. settled (e i) (same i)) ∙ settled_bare others qs)

  pub same_total : total_steps jobs ≡ total_steps others
  same_total = sym (total_bare jobs) ∙ (ap total_steps e ∙ total_bare others)

  pub same_lines : job_lines jobs rs ≡ job_lines others qs
  same_lines = sym (lines_bare jobs rs) ∙ ((λ i. job_lines (e i) (same i)) ∙ lines_bare others qs)

  pub same_bound : (names more : List ℕ → Option Grid) → names ≡ more → all_bound names jobs rs ≡ all_bound more others qs
  same_bound names more m = sym (bound_bare names jobs rs) ∙ ((λ i. all_bound (m i) (e i) (same i)) ∙ bound_bare more others qs)

-- ---- the lines of `types`

abbrev tags_text : Option (List Tag) → List ℕ
tags_text None = codes " -"
tags_text (Some tags) = flat_map tag_text tags

known_by_tags : (o : Option Types) → known_text o ≡ tags_text (option_map (λ (k : Types). k.tags) o)
known_by_tags None = refl
known_by_tags (Some k) = refl

module _ (o p : Accepted) (e : bare o ≡ bare p) (a : IsAccepted o) (b : IsAccepted p) where
  same_known : (slot : ℕ) → known_text (typing o slot) ≡ known_text (typing p slot)
  same_known slot =
      let other = subst (λ (x : Accepted). IsTyping x.insns (entry_tags x.kind) slot (typing p slot)) (sym e) (b.typed slot) in
      known_by_tags (typing o slot)
      ∙ (ap tags_text (typing_one o.insns (entry_tags o.kind) slot (typing o slot) (typing p slot) (a.typed slot) other) ∙ sym (known_by_tags (typing p slot)))

  same_slot : (slot : ℕ) → slot_text o slot ≡ slot_text p slot
  same_slot slot =
      let known = same_known slot in
      λ i. if begins ((e i).insns) slot then decimal slot ++ (known i ++ codes "\n") else []

  same_below : (n : ℕ) → lines_below o n ≡ lines_below p n
  same_below zero = refl
  same_below (suc n) = let line = same_slot n in λ i. same_below n i ++ line i

  pub same_types : types_text o ≡ types_text p
  same_types = same_below (slot_count o.insns) ∙ ap (λ (x : Accepted). lines_below p (slot_count x.insns)) e
