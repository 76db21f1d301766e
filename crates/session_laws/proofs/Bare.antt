-- Of an operator's record a job's meaning, its price and its faults need the kind and the instructions alone, and not the table.
use Rattle.std.proofs.Common.{◌≡◌, ◌+◌, ◌*◌, ◌⊎◌, ℕ, zero, suc, true, false, not, nat_eq, nat_lt, if◌then◌else◌, List, [], ◌∷◌, ◌++◌, Option, Some, None, IsSome, option_map, inl, inr, refl, sym, ap, ◌∙◌, arith}
use Rattle.std.proofs.lemmas.Bool.{cases_lt}
use Rattle.std.specs.FinMap as fin
use Rattle.bpf_insn.specs.declared.operands.Operands.{Operands}
use Rattle.bpf_insn.specs.declared.operands.Operands.TheVariants.{Binary, Index}
use Rattle.bpf_verify.specs.Accepted.{Accepted}
use Rattle.bpf_run.specs.Meaning.{value_of, cost_of}
use Rattle.bpf_run.specs.Calls.{Call, steps_of}
use Rattle.bpf_run.specs.Fold.{fold, fold_from, fold_calls, fold_calls_from}
use Rattle.bpf_run.proofs.Charging.{steps-append}
use Rattle.csr_store.specs.Grid.{Grid, Position, Cell, IsInside, row_of, limit}
use Rattle.csr_store.specs.Along.{along, summed}
use Rattle.csr_store.specs.Mask.{passes, cut_list, listed_under, all_listed_under}
use Rattle.csr_store.proofs.Laws.{same_values}
use Rattle.job_forms.specs.Forms.{operands_at, applied, apply_calls, selected, united, joint, joint_calls, row_words}
use Rattle.job_forms.specs.Product.{term, term_calls, terms, mul_calls}
use Rattle.job_plan.specs.declared.form.Form as declared
use Rattle.job_plan.specs.declared.error.JobError.TheVariants.{WrongKind, WrongShapes, WrongMask, ResultTooLarge, PriceTooHigh}
use Rattle.job_plan.specs.declared.form.Form.TheVariants.{Apply, Select, Union, Both, Product, Reduce}
use Rattle.job_plan.specs.Job.{Form, Job}
use Rattle.job_plan.specs.Form.{mapped, found, of_one, of_two, of_product}
use Rattle.job_plan.specs.Forms.{operation}
use Rattle.job_plan.specs.Costing.{costing}
use Rattle.job_plan.specs.Meaning.{IsMatrixOf, row_count, column_count, steps_of_job}
use Rattle.job_plan.specs.Price.{price_of}
use Rattle.job_plan.specs.Refusal.{job_fault, has_shape, price_limit}

abbrev pub bare : Accepted → Accepted
bare o = record { kind = o.kind; insns = o.insns; table = [] }

abbrev pub bare_form : Form → Form
bare_form form = mapped bare (λ g. g) form

abbrev pub bare_job : Job → Job
bare_job job = record { form = bare_form job.form; mask = job.mask; output = job.output }

-- ---- calls

value_bare : (f : Accepted) (x : Operands) → value_of (bare f) x ≡ value_of f x
unfolding value_of
value_bare f x = refl

cost_bare : (f : Accepted) (x : Operands) → cost_of (bare f) x ≡ cost_of f x
unfolding cost_of
cost_bare f x = refl

-- ---- what stands at a position

applied_bare : (f : Accepted) (thunk : Option ℕ) (at : Position) (o : Option ℕ) → applied (bare f) thunk at o ≡ applied f thunk at o
applied_bare f thunk at None = refl
applied_bare f thunk at (Some x) = ap Some (value_bare f (operands_at thunk at x))

selected_bare : (f : Accepted) (thunk : ℕ) (at : Position) (o : Option ℕ) → selected (bare f) thunk at o ≡ selected f thunk at o
selected_bare f thunk at None = refl
selected_bare f thunk at (Some x) = ap (λ v. if nat_eq v 0 then None else Some x) (value_bare f (Index x at.0 at.1 thunk))

united_bare : (f : Accepted) (o p : Option ℕ) → united (bare f) o p ≡ united f o p
united_bare f (Some x) (Some y) = ap Some (value_bare f (Binary x y))
united_bare f (Some x) None = refl
united_bare f None y = refl

joint_bare : (f : Accepted) (o p : Option ℕ) → joint (bare f) o p ≡ joint f o p
joint_bare f (Some x) (Some y) = ap Some (value_bare f (Binary x y))
joint_bare f (Some x) None = refl
joint_bare f None y = refl

fold_from_bare : (f : Accepted) (so_far : ℕ) (ts : List ℕ) → fold_from (bare f) so_far ts ≡ fold_from f so_far ts
fold_from_bare f so_far [] = refl
fold_from_bare f so_far (t ∷ ts) =
    fold_from_bare f (value_of (bare f) (Binary so_far t)) ts ∙ ap (λ v. fold_from f v ts) (value_bare f (Binary so_far t))

fold_bare : (f : Accepted) (ts : List ℕ) → fold (bare f) ts ≡ fold f ts
fold_bare f [] = refl
fold_bare f (t ∷ ts) = ap Some (fold_from_bare f t ts)

term_bare : (mul : Accepted) (x : ℕ) (o : Option ℕ) → term (bare mul) x o ≡ term mul x o
term_bare mul x None = refl
term_bare mul x (Some y) = ap (λ v. v ∷ []) (value_bare mul (Binary x y))

terms_bare : (mul : Accepted) (b : Grid) (cells : List Cell) (j : ℕ) → terms (bare mul) b cells j ≡ terms mul b cells j
terms_bare mul b [] j = refl
terms_bare mul b (c ∷ cs) j = λ i. term_bare mul c.1 (fin.get b.cells (c.0, j)) i ++ terms_bare mul b cs j i

values_bare : (form : Form) (at : Position) → (operation (bare_form form)).value_at at ≡ (operation form).value_at at
values_bare (Apply f thunk a) at = applied_bare f thunk at (fin.get a.cells at)
values_bare (Select f thunk a) at = selected_bare f thunk at (fin.get a.cells at)
values_bare (Union f a b) at = united_bare f (fin.get a.cells at) (fin.get b.cells at)
values_bare (Both f a b) at = joint_bare f (fin.get a.cells at) (fin.get b.cells at)
values_bare (Product add mul a b) at =
    fold_bare add (terms (bare mul) b (row_of a at.0) at.1) ∙ ap (fold add) (terms_bare mul b (row_of a at.0) at.1)
values_bare (Reduce f a) at = fold_bare f (row_words a at.0)

-- ---- the steps of calls

apply_steps : (f : Accepted) (thunk : Option ℕ) (at : Position) (o : Option ℕ)
    → steps_of (apply_calls (bare f) thunk at o) ≡ steps_of (apply_calls f thunk at o)
apply_steps f thunk at None = refl
apply_steps f thunk at (Some x) = ap (λ n. n + 0) (cost_bare f (operands_at thunk at x))

joint_steps : (f : Accepted) (o p : Option ℕ) → steps_of (joint_calls (bare f) o p) ≡ steps_of (joint_calls f o p)
joint_steps f (Some x) (Some y) = ap (λ n. n + 0) (cost_bare f (Binary x y))
joint_steps f (Some x) None = refl
joint_steps f None y = refl

fold_steps_from : (f : Accepted) (so_far : ℕ) (ts : List ℕ)
    → steps_of (fold_calls_from (bare f) so_far ts) ≡ steps_of (fold_calls_from f so_far ts)
fold_steps_from f so_far [] = refl
fold_steps_from f so_far (t ∷ ts) =
    λ i. cost_bare f (Binary so_far t) i
    + (fold_steps_from f (value_of (bare f) (Binary so_far t)) ts ∙ ap (λ v. steps_of (fold_calls_from f v ts)) (value_bare f (Binary so_far t))) i

fold_steps : (f : Accepted) (ts : List ℕ) → steps_of (fold_calls (bare f) ts) ≡ steps_of (fold_calls f ts)
fold_steps f [] = refl
fold_steps f (t ∷ ts) = fold_steps_from f t ts

term_steps : (mul : Accepted) (x : ℕ) (o : Option ℕ) → steps_of (term_calls (bare mul) x o) ≡ steps_of (term_calls mul x o)
term_steps mul x None = refl
term_steps mul x (Some y) = ap (λ n. n + 0) (cost_bare mul (Binary x y))

mul_steps : (mul : Accepted) (b : Grid) (cells : List Cell) (j : ℕ)
    → steps_of (mul_calls (bare mul) b cells j) ≡ steps_of (mul_calls mul b cells j)
mul_steps mul b [] j = refl
mul_steps mul b (c ∷ cs) j =
    let o = fin.get b.cells (c.0, j) in
    steps-append (term_calls (bare mul) c.1 o) (mul_calls (bare mul) b cs j)
    ∙ ((λ i. term_steps mul c.1 o i + mul_steps mul b cs j i) ∙ sym (steps-append (term_calls mul c.1 o) (mul_calls mul b cs j)))

product_steps : (add mul : Accepted) (b : Grid) (cells : List Cell) (j : ℕ)
    → steps_of (mul_calls (bare mul) b cells j ++ fold_calls (bare add) (terms (bare mul) b cells j))
    ≡ steps_of (mul_calls mul b cells j ++ fold_calls add (terms mul b cells j))
product_steps add mul b cells j =
    steps-append (mul_calls (bare mul) b cells j) (fold_calls (bare add) (terms (bare mul) b cells j))
    ∙ ((λ i. mul_steps mul b cells j i
    + (fold_steps add (terms (bare mul) b cells j) ∙ ap (λ ts. steps_of (fold_calls add ts)) (terms_bare mul b cells j)) i)
    ∙ sym (steps-append (mul_calls mul b cells j) (fold_calls add (terms mul b cells j))))

calls_bare : (form : Form) (at : Position) → steps_of ((operation (bare_form form)).calls_at at) ≡ steps_of ((operation form).calls_at at)
calls_bare (Apply f thunk a) at = apply_steps f thunk at (fin.get a.cells at)
calls_bare (Select f thunk a) at = apply_steps f (Some thunk) at (fin.get a.cells at)
calls_bare (Union f a b) at = joint_steps f (fin.get a.cells at) (fin.get b.cells at)
calls_bare (Both f a b) at = joint_steps f (fin.get a.cells at) (fin.get b.cells at)
calls_bare (Product add mul a b) at = product_steps add mul b (row_of a at.0) at.1
calls_bare (Reduce f a) at = fold_steps f (row_words a at.0)

-- lists of calls that take the same steps, position by position, take the same together
cut_steps : (mask : Option Grid) (g h : Position → List Call) → ((at : Position) → steps_of (g at) ≡ steps_of (h at))
    → (at : Position) → steps_of (cut_list mask g at) ≡ steps_of (cut_list mask h at)
cut_steps mask g h e at =
    elim (passes mask at) as (λ b. steps_of (if b then g at else []) ≡ steps_of (if b then h at else [])) [ true ↦ e at | false ↦ refl ]

along_steps : (g h : ℕ → List Call) → ((i : ℕ) → steps_of (g i) ≡ steps_of (h i)) → (from n : ℕ)
    → steps_of (along g from n) ≡ steps_of (along h from n)
along_steps g h e from zero = refl
along_steps g h e from (suc n) =
    steps-append (g from) (along g (suc from) n)
    ∙ ((λ i. e from i + along_steps g h e (suc from) n i) ∙ sym (steps-append (h from) (along h (suc from) n)))

all_steps : (mask : Option Grid) (columns : ℕ) (g h : Position → List Call) → ((at : Position) → steps_of (g at) ≡ steps_of (h at))
    → (first n : ℕ) → steps_of (all_listed_under mask columns g first n) ≡ steps_of (all_listed_under mask columns h first n)
all_steps mask columns g h e =
    along_steps (λ i. listed_under mask columns g i) (λ i. listed_under mask columns h i)
    (λ i. along_steps (λ j. cut_list mask g (i, j)) (λ j. cut_list mask h (i, j)) (λ j. cut_steps mask g h e (i, j)) 0 columns)

-- ---- sizes, prices and faults

rows_bare : (form : Form) → (operation (bare_form form)).rows ≡ (operation form).rows
rows_bare (Apply f thunk a) = refl
rows_bare (Select f thunk a) = refl
rows_bare (Union f a b) = refl
rows_bare (Both f a b) = refl
rows_bare (Product add mul a b) = refl
rows_bare (Reduce f a) = refl

columns_bare : (form : Form) → (operation (bare_form form)).columns ≡ (operation form).columns
columns_bare (Apply f thunk a) = refl
columns_bare (Select f thunk a) = refl
columns_bare (Union f a b) = refl
columns_bare (Both f a b) = refl
columns_bare (Product add mul a b) = refl
columns_bare (Reduce f a) = refl

kinds_bare : (form : Form) → (operation (bare_form form)).kinds ≡ (operation form).kinds
kinds_bare (Apply f thunk a) = refl
kinds_bare (Select f thunk a) = refl
kinds_bare (Union f a b) = refl
kinds_bare (Both f a b) = refl
kinds_bare (Product add mul a b) = refl
kinds_bare (Reduce f a) = refl

shapes_bare : (form : Form) → (operation (bare_form form)).shapes ≡ (operation form).shapes
shapes_bare (Apply f thunk a) = refl
shapes_bare (Select f thunk a) = refl
shapes_bare (Union f a b) = refl
shapes_bare (Both f a b) = refl
shapes_bare (Product add mul a b) = refl
shapes_bare (Reduce f a) = refl

costing_bare : (form : Form) → costing (bare_form form) ≡ costing form
costing_bare (Apply f thunk a) = refl
costing_bare (Select f thunk a) = refl
costing_bare (Union f a b) = refl
costing_bare (Both f a b) = refl
costing_bare (Product add mul a b) = refl
costing_bare (Reduce f a) = refl

pub steps_bare : (job : Job) → steps_of_job (bare_job job) ≡ steps_of_job job
steps_bare job =
    let h = (operation job.form).calls_at in
    all_steps job.mask (column_count (bare_job job)) (operation (bare_form job.form)).calls_at h (calls_bare job.form) 0 (row_count (bare_job job))
    ∙ (λ i. steps_of (all_listed_under job.mask (columns_bare job.form i) h 0 (rows_bare job.form i)))

pub price_bare : (job : Job) → price_of (bare_job job) ≡ price_of job
price_bare job =
    λ i. summed (λ r. (costing_bare job.form i).rounds job.mask r * (costing_bare job.form i).round) 0 (rows_bare job.form i)

pub fault_bare : (job : Job) → job_fault (bare_job job) ≡ job_fault job
fault_bare job = λ i.
    if not (kinds_bare job.form i) then Some WrongKind
    else if not (shapes_bare job.form i) then Some WrongShapes
    else if not (has_shape (rows_bare job.form i) (columns_bare job.form i) job.mask) then Some WrongMask
    else if nat_lt limit ((costing_bare job.form i).entries job.mask) then Some ResultTooLarge
    else if nat_lt price_limit (price_bare job i) then Some PriceTooHigh
    else None

-- ---- matrices

pub matrix_bare : (job : Job) (g : Grid) → IsMatrixOf job g → IsMatrixOf (bare_job job) g
matrix_bare job g m = record {
  grid = m.grid;
  rows = m.rows ∙ sym (rows_bare job.form);
  columns = m.columns ∙ sym (columns_bare job.form);
  values = λ at inside. m.values at inside ∙ sym (λ i. if passes job.mask at then values_bare job.form at i else None);
}

inside_or : (g : Grid) (at : Position) → IsInside g at ⊎ (IsInside g at → ⊥)
inside_or g at = elim (cases_lt at.0 g.rows) [
  | inl a ↦ elim (cases_lt at.1 g.columns) [
    | inl b ↦ inl (a, b)
    | inr b ↦ inr (λ h. let x = h.1 in absurd (omega (arith, b, x)))
  ]
  | inr a ↦ inr (λ h. let x = h.0 in absurd (omega (arith, a, x)))
]

not_some : (o : Option ℕ) → (IsSome o → ⊥) → o ≡ None
not_some None f = refl
not_some (Some x) f = absurd (f refl)

-- a job has one matrix
pub one_matrix : (job : Job) (g h : Grid) → IsMatrixOf job g → IsMatrixOf job h → g ≡ h
one_matrix job g h m n =
    let rows : g.rows ≡ h.rows = m.rows ∙ sym n.rows in
    let columns : g.columns ≡ h.columns = m.columns ∙ sym n.columns in
    let across : (at : Position) → IsInside h at → IsInside g at = λ at x. let a = x.0 in let b = x.1 in (omega (arith, rows, a), omega (arith, columns, b)) in
    let back : (at : Position) → IsInside g at → IsInside h at = λ at x. let a = x.0 in let b = x.1 in (omega (arith, rows, a), omega (arith, columns, b)) in
    let cell : (at : Position) → fin.get g.cells at ≡ fin.get h.cells at = λ at. elim (inside_or g at) [
      | inl x ↦ m.values at x ∙ sym (n.values at (back at x))
      | inr x ↦ not_some (fin.get g.cells at) (λ s. x (m.grid.inside at s)) ∙ sym (not_some (fin.get h.cells at) (λ s. x (across at (n.grid.inside at s))))
    ] in
    λ i. record { rows = rows i; columns = columns i; cells = same_values g.cells h.cells cell i }

-- ---- what names stand for

one_found : {M : Type 0} (c : Accepted → M → Form) → ((f : Accepted) (a : M) → bare_form (c f a) ≡ c (bare f) a) → (o : Option Accepted) (m : Option M)
    → option_map bare_form (of_one c o m) ≡ of_one c (option_map bare o) m
one_found c e (Some f) (Some a) = ap Some (e f a)
one_found c e (Some f) None = refl
one_found c e None m = refl

two_found : (c : Accepted → Grid → Grid → Form) → ((f : Accepted) (a b : Grid) → bare_form (c f a b) ≡ c (bare f) a b) → (o : Option Accepted) (m n : Option Grid)
    → option_map bare_form (of_two c o m n) ≡ of_two c (option_map bare o) m n
two_found c e (Some f) (Some a) (Some b) = ap Some (e f a b)
two_found c e (Some f) (Some a) None = refl
two_found c e (Some f) None n = refl
two_found c e None m n = refl

product_found : (o p : Option Accepted) (m n : Option Grid) → option_map bare_form (of_product o p m n) ≡ of_product (option_map bare o) (option_map bare p) m n
product_found (Some f) (Some h) (Some a) (Some b) = refl
product_found (Some f) (Some h) (Some a) None = refl
product_found (Some f) (Some h) None n = refl
product_found (Some f) None m n = refl
product_found None p m n = refl

pub found_bare : (operators : List ℕ → Option Accepted) (matrices : List ℕ → Option Grid) (form : declared.Form (List ℕ) (List ℕ))
    → option_map bare_form (found operators matrices form) ≡ found (λ n. option_map bare (operators n)) matrices form
found_bare operators matrices (Apply f thunk a) = one_found (λ g b. Apply g thunk b) (λ g b. refl) (operators f) (matrices a)
found_bare operators matrices (Select f thunk a) = one_found (λ g b. Select g thunk b) (λ g b. refl) (operators f) (matrices a)
found_bare operators matrices (Union f a b) = two_found Union (λ g m n. refl) (operators f) (matrices a) (matrices b)
found_bare operators matrices (Both f a b) = two_found Both (λ g m n. refl) (operators f) (matrices a) (matrices b)
found_bare operators matrices (Product add mul a b) = product_found (operators add) (operators mul) (matrices a) (matrices b)
found_bare operators matrices (Reduce f a) = one_found Reduce (λ g b. refl) (operators f) (matrices a)
