-- The command `run`: declared are made, outputs are bound, and the batch is told.
use Rattle.std.proofs.Common.{Bor, Iter, suc, ◌≡◌, ◌<◌, ◌≤◌, ◌+◌, ◌*◌, ◌⊎◌, inl, inr, ℕ, true, false, cond, List, [], ◌∷◌, Option, None, Some, IsTrue, map, length, get_or, refl, sym, ap, ◌∙◌, subst, arith, below_more}
use Rattle.std.proofs.Math.Path.{fun_ext}
use Rattle.std.proofs.lemmas.List.{get_or_default, length-map, nil_from_length}
use Rattle.std.specs.Iterator.Adapters.{zip_first, zip_second, zip_steps}
use Rattle.std.specs.Slice.Iter.{iter_rest, iter_steps}
use Rattle.std.specs.Vec.Iter.{into_iter_items, into_iter_len, into_iter_steps}
use Rattle.std.specs.declared.iter.Zip.{Zip}
use Rattle.std.specs.declared.vec.IntoIter.{IntoIter}
use Rattle.std.specs.Arc.{arc_value}
use Rattle.std.specs.declared.sync.Arc.{Arc}
use Rattle.std.specs.Map.{update}
use Rattle.std.specs.Option.{option_map}
use Rattle.std.specs.Str.{bytes_eq}
use Rattle.std.specs.declared.alloc.Global.{Global}
use Rattle.csr_store.specs.Grid.{Grid}
use Rattle.workspace.specs.Names.{Declared, value_at}
use Rattle.workspace.specs.inner.Names.{is_declared}
use Rattle.workspace.specs.inner.Outputs.{AreDeclared, grid_at}
use Rattle.workspace.specs.State.{State, bound}
use Rattle.bpf_verify.specs.Accepted.{Accepted}
use Rattle.job_plan.specs.Job.{Job}
use Rattle.job_runner.specs.Batch as batch
use Rattle.job_plan.specs.Meaning.{row_count}
use Rattle.job_plan.specs.Price.{IsWithinPrice}
use Rattle.job_plan.specs.Refusal.{IsPriced}
use Rattle.job_plan.proofs.Faults.{low_price}
use Rattle.std.specs.Prelude.{Result, Ok, Err, IfOk}
use Rattle.command_text.specs.Replies.{job_text, refusal_text, run_text}
use Rattle.command_text.specs.declared.refusal.Refusal.TheVariants as no
use Rattle.step_budget.specs.Budget.{Deals}
use Rattle.step_purse.specs.declared.dealings.Dealing.{Dealing}
use Rattle.std.specs.List.{AllByRecursion}
use Rattle.workspace.specs.Queued.{AreNamed}
use Rattle.workspace.specs.inner.Queued.{AreCheap, AreWithin, steps_sum}
use Rattle.job_runner.specs.Batch.{AreResultsOf, result_of, total_steps}
use Rattle.job_runner.specs.Answers.{IsBatch, MaySay, Gave, Broke, said_of}
use Rattle.job_runner.specs.declared.answer.BatchAnswer.{BatchAnswer}
use Rattle.job_runner.specs.declared.answer.BatchFault.{BatchFault}
use Rattle.job_runner.specs.declared.answer.Cause.{Cause}
use Rattle.std.specs.List.{flat_map}
use Rattle.std.proofs.Common.{append_assoc, ◌++◌}
use Rattle.command_text.specs.ReplyText.{ReplyText}
use Rattle.workspace.specs.inner.Concluding.{dealings_of, text_of, state_after}
use Rattle.workspace.specs.Turn.{RunTurn, all_bound, batch_refusal, charged, job_line, job_lines, settled}
use Rattle.job_runner.specs.declared.answer.JobResult.{JobResult}

-- what holds of each of the first i elements, and of the next one, holds of one more
pub each_more : {A : Type 0} (P : A → Type 0) (xs : List A) (i : ℕ) (x : A) → i < length xs → x ≡ get_or xs i x
    → ((k : ℕ) → k < i → (d : A) → P (get_or xs k d)) → P x → (k : ℕ) → k < i + 1 → (d : A) → P (get_or xs k d)
each_more P xs i x here is before p =
    below_more (λ k. (d : _) → P (get_or xs k d)) i before (λ d. subst P (is ∙ get_or_default xs i x d here) p)

module _ {V : Type 0} (m n : Declared V) (kept : (name : List ℕ) → IsTrue (is_declared m name) → IsTrue (is_declared n name)) where
  -- declared that are kept are still there for the jobs behind the first
  pub declared_behind : (job : Job) (all jobs : List Job) → all ≡ job ∷ jobs → AreDeclared m all → AreDeclared n jobs
  declared_behind job all jobs e h k d q =
      let declared : AreDeclared m (job ∷ jobs) = subst (AreDeclared m) e h in
      kept (get_or jobs k d).output (declared (suc k) d (omega arith))

-- there is one for the first
pub declared_first : {V : Type 0} (m : Declared V) (job : Job) (all jobs : List Job) → all ≡ job ∷ jobs → AreDeclared m all → IsTrue (is_declared m job.output)
declared_first m job all jobs e h =
    let declared : AreDeclared m (job ∷ jobs) = subst (AreDeclared m) e h in
    declared 0 job (omega arith)

-- a name that was bound, as matrices
pub grid_bound : (m n : Declared (Arc Grid Global)) (name : List ℕ) (version : Arc Grid Global)
    → ((other : List ℕ) → value_at n other ≡ update bytes_eq (value_at m) name (Some version) other) → grid_at n ≡ bound (grid_at m) name (arc_value version)
grid_bound m n name version at =
    fun_ext (λ other. ap (option_map arc_value) (at other)
    ∙ elim (bytes_eq name other) as (λ b. option_map arc_value (cond b (Some version) (value_at m other)) ≡ cond b (Some (arc_value version)) (grid_at m other)) [ true ↦ refl | false ↦ refl ])

-- nothing is bound where no job is left
pub none_bound : (names : List ℕ → Option Grid) (jobs : List Job) (results : List JobResult) → jobs ≡ [] → all_bound names jobs (map result_of results) ≡ names
none_bound names [] results h = refl
none_bound names (job ∷ jobs) results h = absurd (cc)

-- the first job's output is bound, and then the others
pub next_bound : (m n : Declared (Arc Grid Global)) (job : Job) (all jobs : List Job) (end : JobResult) (ends results : List JobResult)
    → all ≡ job ∷ jobs → ends ≡ end ∷ results
    → ((other : List ℕ) → value_at n other ≡ update bytes_eq (value_at m) job.output (Some end.version) other)
    → all_bound (grid_at n) jobs (map result_of results) ≡ all_bound (grid_at m) all (map result_of ends)
next_bound m n job all jobs end ends results e f at =
    ap (λ names. all_bound names jobs (map result_of results)) (grid_bound m n job.output end.version at)
    ∙ (ap (λ xs. all_bound (grid_at m) xs (map result_of (end ∷ results))) (sym e)
    ∙ ap (λ ys. all_bound (grid_at m) all (map result_of ys)) (sym f))

-- there are as many results as jobs
pub same_length : (jobs : List Job) (results : List batch.Result) → AreResultsOf jobs results → length jobs ≡ length results
same_length [] [] h = refl
same_length [] (r ∷ rs) h = absurd h
same_length (job ∷ jobs) [] h = absurd h
same_length (job ∷ jobs) (r ∷ rs) h = ap suc (same_length jobs rs h.1)

-- the same, of jobs and results as they are kept
pub as_many : (jobs : List Job) (results : List JobResult) → AreResultsOf jobs (map result_of results) → length jobs ≡ length results
as_many jobs results h = same_length jobs (map result_of results) h ∙ length-map results result_of

-- one turn of a `for` over jobs and what came of them
pub zip_next : (s t : Zip (Iter Job) (IntoIter JobResult Global)) (r : Option (Bor Job × JobResult)) (job : Bor Job) (end : JobResult) → r ≡ Some (job, end) → zip_steps iter_steps into_iter_steps s r t
    → (iter_rest (zip_first s) ≡ job.now ∷ iter_rest (zip_first t)) × (into_iter_items (zip_second s) ≡ end ∷ into_iter_items (zip_second t)) × (into_iter_len (zip_second t) + 1 ≡ into_iter_len (zip_second s))
zip_next s t r job end e h =
    let both : iter_steps (zip_first s) (Some job) (zip_first t) × into_iter_steps (zip_second s) (Some end) (zip_second t) = subst (λ o. zip_steps iter_steps into_iter_steps s o t) e h in
    (both.0, both.1.0, both.1.1)

-- its end, where there are as many of both
pub zip_done : (s t : Zip (Iter Job) (IntoIter JobResult Global)) (r : Option (Bor Job × JobResult)) → r ≡ None → zip_steps iter_steps into_iter_steps s r t
    → length (iter_rest (zip_first s)) ≡ into_iter_len (zip_second s) → iter_rest (zip_first s) ≡ []
zip_done s t r e h same = by (subst (λ o. zip_steps iter_steps into_iter_steps s o t) e h)
  where
    by : ((u : Iter Job) × iter_steps (zip_first s) None u) ⊎ ((u : IntoIter JobResult Global) × into_iter_steps (zip_second s) None u) → iter_rest (zip_first s) ≡ []
    by (inl a) = nil_from_length _ a.1.0
    by (inr b) = nil_from_length _ (same ∙ b.1.0)

-- a state of these parts
abbrev state_with : (List ℕ → Option Grid) → (List ℕ → Option Accepted) → List Job → ℕ → State
state_with matrices operators queue workers = record { matrices = matrices; operators = operators; queue = queue; workers = workers }

-- states are the same, where what they hold is
pub same_state : (f g : List ℕ → Option Grid) (operators : List ℕ → Option Accepted) (queue rest : List Job) (workers : ℕ) → f ≡ g → queue ≡ rest
    → state_with f operators queue workers ≡ state_with g operators rest workers
same_state f g operators queue rest workers e q =
    ap (λ names. state_with names operators queue workers) e ∙ ap (λ jobs. state_with g operators jobs workers) q

-- no job took more than its price
pub within_prices : (jobs : List Job) (results : List batch.Result) → AreResultsOf jobs results → AllByRecursion IsWithinPrice jobs → AreWithin jobs results
within_prices [] results h w = tt
within_prices (job ∷ jobs) [] h w = tt
within_prices (job ∷ jobs) (r ∷ rs) h w =
    let s = h.0.steps in
    let below = w.0.steps 0 (row_count job) in
    let bound = w.0.bound 0 (row_count job) in
    (omega (arith, s, below, bound), within_prices jobs rs h.1 w.1)

-- the steps of all results are those of all jobs
pub total_is : (jobs : List Job) (results : List batch.Result) → AreResultsOf jobs results → steps_sum results ≡ total_steps jobs
total_is [] [] h = refl
total_is [] (r ∷ rs) h = absurd h
total_is (job ∷ jobs) [] h = absurd h
total_is (job ∷ jobs) (r ∷ rs) h = let s = h.0.steps in let t = total_is jobs rs h.1 in omega (arith, s, t)

-- the output of the first of jobs is a name, and so are those behind it
pub named_first : (job : Job) (all jobs : List Job) → all ≡ job ∷ jobs → AreNamed all → length job.output ≤ 32
named_first job all jobs e named =
    let here : AreNamed (job ∷ jobs) = subst AreNamed e named in
    here 0 job (omega arith)

pub named_behind : (job : Job) (all jobs : List Job) → all ≡ job ∷ jobs → AreNamed all → AreNamed jobs
named_behind job all jobs e named k d q =
    let here : AreNamed (job ∷ jobs) = subst AreNamed e named in
    here (suc k) d (omega arith)

-- one turn of a `for` over jobs and results that are lent
pub zip_slices : (s t : Zip (Iter Job) (Iter JobResult)) (r : Option (Bor Job × Bor JobResult)) (job : Bor Job) (end : Bor JobResult) → r ≡ Some (job, end)
    → zip_steps iter_steps iter_steps s r t
    → (iter_rest (zip_first s) ≡ job.now ∷ iter_rest (zip_first t)) × (iter_rest (zip_second s) ≡ end.now ∷ iter_rest (zip_second t))
zip_slices s t r job end e h =
    let both : iter_steps (zip_first s) (Some job) (zip_first t) × iter_steps (zip_second s) (Some end) (zip_second t) = subst (λ o. zip_steps iter_steps iter_steps s o t) e h in
    (both.0, both.1)

-- the text of jobs and what came of them
abbrev lines_text : List Job → List JobResult → List ℕ
lines_text jobs results = flat_map job_text (job_lines jobs (map result_of results))

-- one line more is written
pub line_more : (old new : ReplyText) (jobs rest : List Job) (results ends : List JobResult) (job : Job) (r : JobResult) (text : List ℕ)
    → new ≡ record old { line = old.line ++ job_text (job_line job (result_of r)) } → jobs ≡ job ∷ rest → results ≡ r ∷ ends
    → old.line ++ lines_text jobs results ≡ text → new.line ++ lines_text rest ends ≡ text
line_more old new jobs rest results ends job r text e je re h =
    ap (λ (x : ReplyText). x.line ++ lines_text rest ends) e
    ∙ append_assoc old.line (job_text (job_line job (result_of r))) (lines_text rest ends)
    ∙ ap (λ js. old.line ++ lines_text js (r ∷ ends)) (sym je)
    ∙ ap (λ rs. old.line ++ lines_text jobs rs) (sym re)
    ∙ h

-- the steps of the first results, and of those that are left
pub record IsTotalling (all left : List batch.Result) (steps count : ℕ) : Type 0 where
  pub sum : steps + steps_sum left ≡ steps_sum all
  pub cheap : AreCheap left
  pub few : steps ≤ count * 4294967296

pub totalling_begins : (all : List batch.Result) → AreCheap all → IsTotalling all all 0 0
totalling_begins all c = record { sum = omega arith; cheap = c; few = omega arith }

pub totalling_more : (all left rest : List batch.Result) (r : batch.Result) (steps count : ℕ) → left ≡ r ∷ rest → IsTotalling all left steps count
    → IsTotalling all rest (steps + r.steps) (count + 1)
totalling_more all left rest r steps count e t =
    let c : AreCheap (r ∷ rest) = subst AreCheap e t.cheap in
    let first = c.0 in
    let s = ap steps_sum e in
    let sum = t.sum in
    let few = t.few in
    record { sum = omega (arith, s, sum); cheap = c.1; few = omega (arith, first, few) }

-- results of priced jobs are cheap
pub cheap_results : (jobs : List Job) (results : List batch.Result) → AreResultsOf jobs results → AllByRecursion IsWithinPrice jobs → AllByRecursion IsPriced jobs → AreCheap results
cheap_results [] [] h w p = tt
cheap_results [] (r ∷ rs) h w p = absurd h
cheap_results (job ∷ jobs) [] h w p = absurd h
cheap_results (job ∷ jobs) (r ∷ rs) h w p =
    let s = h.0.steps in
    let below = w.0.steps 0 (row_count job) in
    let bound = w.0.bound 0 (row_count job) in
    let low = low_price job p.0 in
    (omega (arith, s, below, bound, low), cheap_results jobs rs h.1 w.1 p.1)

-- what is declared for the jobs of a queue is declared for the plan of them
pub declared_plan : {V : Type 0} {E : Type 0} (m : Declared V) (r : Result (List Job) E) (queue jobs : List Job) → IfOk r (λ p. p ≡ queue) → jobs ≡ queue
    → AreDeclared m jobs → IfOk r (λ p. (p ≡ queue) × AreDeclared m p)
declared_plan m (Ok p) queue jobs e h d = (e, subst (AreDeclared m) (h ∙ sym e) d)
declared_plan m (Err x) queue jobs e h d = tt

module _ {S : Type 0} (leads : S → Dealing → S → Type 0) (s t : S) where
  -- a batch that there was no memory to begin is a turn of `run`
  pub refused_before : (old mid : State) (jobs queue : List Job) (reply : List ℕ) → mid ≡ old → jobs ≡ mid.queue → queue ≡ []
      → reply ≡ refusal_text (no.BatchMemory 0) → Deals leads s (charged jobs 0) t
      → (ds : List Dealing) × RunTurn old ds reply (record mid { queue = queue }) × Deals leads s ds t
  refused_before old mid jobs queue reply e h q r d =
      let same : jobs ≡ old.queue = h ∙ ap (λ (x : State). x.queue) e in (
        charged old.queue 0,
        inr (inr (refl, r, ap (λ js. record mid { queue = js }) q ∙ ap (λ (x : State). record x { queue = [] }) e)),
        subst (λ js. Deals leads s (charged js 0) t) same d,
      )

  -- the batch of a plan gave all, which is a turn of `run`
  pub ran : (old mid new : State) (jobs : List Job) (results : List batch.Result) (reply : List ℕ) → jobs ≡ old.queue
      → mid ≡ record old { queue = [] } → AreResultsOf jobs results → MaySay mid.workers jobs (Gave results)
      → Deals leads s (settled jobs results) t → reply ≡ run_text (total_steps jobs) (job_lines jobs results)
      → new ≡ record mid { matrices = all_bound mid.matrices jobs results }
      → (ds : List Dealing) × RunTurn old ds reply new × Deals leads s ds t
  ran old mid new jobs results reply q m are say d r n = (
    settled old.queue results,
    inl (
      results,
      subst (λ js. AreResultsOf js results) q are,
      subst (λ js. MaySay old.workers js (Gave results)) q (subst (λ (x : State). MaySay x.workers jobs (Gave results)) m say),
      refl,
      r ∙ ap (λ js. run_text (total_steps js) (job_lines js results)) q,
      n ∙ ap (λ (x : State). record x { matrices = all_bound x.matrices jobs results }) m
          ∙ ap (λ js. record old { matrices = all_bound old.matrices js results; queue = [] }) q,
    ),
    subst (λ js. Deals leads s (settled js results) t) q d,
  )

  -- the batch of a plan broke off, which is a turn of `run`
  pub broke_off : (old mid : State) (jobs : List Job) (why : Cause) (spent : ℕ) (reply : List ℕ) → jobs ≡ old.queue
      → mid ≡ record old { queue = [] } → MaySay mid.workers jobs (Broke why spent)
      → Deals leads s (charged jobs spent) t → reply ≡ refusal_text (batch_refusal why spent)
      → (ds : List Dealing) × RunTurn old ds reply mid × Deals leads s ds t
  broke_off old mid jobs why spent reply q m say d r = (
    charged old.queue spent,
    inr (inl (why, spent, subst (λ js. MaySay old.workers js (Broke why spent)) q (subst (λ (x : State). MaySay x.workers jobs (Broke why spent)) m say), (refl, r, m))),
    subst (λ js. Deals leads s (charged js spent) t) q d,
  )

  -- the batch of a plan was concluded as it said, which is a turn of `run`
  pub concluded : (old mid new : State) (jobs : List Job) (answer : Result BatchAnswer BatchFault) (reply : List ℕ) → jobs ≡ old.queue
      → mid ≡ record old { queue = [] } → IsBatch mid.workers jobs answer
      → Deals leads s (dealings_of jobs (said_of answer)) t → reply ≡ text_of jobs (said_of answer)
      → new ≡ state_after mid jobs (said_of answer)
      → (ds : List Dealing) × RunTurn old ds reply new × Deals leads s ds t
  concluded old mid new jobs (Ok a) reply q m is d r n = ran old mid new jobs (map result_of a.results.items) reply q m is.results is.reported d r n
  concluded old mid new jobs (Err f) reply q m is d r n =
      broke_off old new jobs f.cause f.spent reply q (n ∙ m) (subst (λ (x : State). MaySay x.workers jobs (Broke f.cause f.spent)) (sym n) is.reported) d r
