-- What a job keeps that was not refused.
use Rattle.std.proofs.Common.{◌≡◌, ◌≤◌, ℕ, true, false, not, cond, nat_eq, nat_lt, Bool, length, Option, Some, None, refl, arith}
use borrow.Author.Tests.{ltb-false}
use Rattle.std.proofs.lemmas.Bool.{eqb-true}
use Rattle.csr_store.specs.Grid.{Grid, limit}
use Rattle.csr_store.specs.Run.{numbered}
use Rattle.csr_store.specs.Mask.{rows_under}
use Rattle.csr_store.proofs.Order.{both_true}
use Rattle.job_forms.specs.Forms as entry
use Rattle.job_plan.specs.declared.error.JobError.TheVariants.{WrongKind, WrongShapes, WrongMask, ResultTooLarge, PriceTooHigh}
use Rattle.job_plan.specs.Job.{Form, Job}
use Rattle.job_plan.specs.declared.form.Form.TheVariants.{Apply, Select, Union, Both, Product, Reduce}
use Rattle.job_plan.specs.Forms.{operation}
use Rattle.job_plan.specs.Costing.{costing}
use Rattle.job_plan.specs.Kept.{IsForm}
use Rattle.job_plan.specs.Meaning.{row_count, column_count, rows_in}
use Rattle.job_plan.specs.Price.{price_of}
use Rattle.job_plan.specs.Refusal.{has_shape, price_limit, IsPriced}
use Rattle.job_runner.proofs.Entries.{
  within_one,
  within_two,
  within_column,
  within_mults,
  applied_count,
  selected_count,
  united_count,
  joint_count,
}

pub record IsFaultless (job : Job) : Type 0 where
  pub kinds : (operation job.form).kinds ≡ true
  pub shapes : (operation job.form).shapes ≡ true
  pub mask : has_shape (row_count job) (column_count job) job.mask ≡ true
  pub entries : (costing job.form).entries job.mask ≤ limit
  pub price : price_of job ≤ price_limit

no_fault : (a b c d e : Bool)
    → cond (not a) (Some WrongKind) (cond (not b) (Some WrongShapes) (cond (not c) (Some WrongMask) (cond d (Some ResultTooLarge)
    (cond e (Some PriceTooHigh) None)))) ≡ None
    → (a ≡ true) × (b ≡ true) × (c ≡ true) × (d ≡ false) × (e ≡ false)
no_fault true true true false false h = (refl, refl, refl, refl, refl)
no_fault true true true false true h = absurd (cc)
no_fault true true true true e h = absurd (cc)
no_fault true true false d e h = absurd (cc)
no_fault true false c d e h = absurd (cc)
no_fault false b c d e h = absurd (cc)

pub faultless : (job : Job) → IsPriced job → IsFaultless job
faultless job p =
    let t = no_fault (operation job.form).kinds (operation job.form).shapes (has_shape (row_count job) (column_count job) job.mask)
    (nat_lt limit ((costing job.form).entries job.mask)) (nat_lt price_limit (price_of job)) p.faultless in
    record {
      kinds = t.0;
      shapes = t.1;
      mask = t.2;
      entries = ltb-false limit ((costing job.form).entries job.mask) t.3;
      price = ltb-false price_limit (price_of job) t.4;
    }

-- the entries of all rows
abbrev entries_in : Form → Option Grid → ℕ
entries_in form mask = length (numbered 0 (rows_under mask (operation form).columns (operation form).value_at 0
    (operation form).rows))

form_entries : (form : Form) (mask : Option Grid) → IsForm form → (operation form).shapes ≡ true
    → (costing form).entries mask ≤ limit
    → entries_in form mask ≤ limit
form_entries (Apply f thunk a) mask h s e =
    let w = within_one a mask (entry.apply_at f thunk a) a.rows h.1.0 (applied_count f thunk a) in let l = h.1.0.entries_small in
    omega (arith, w, l)
form_entries (Select f thunk a) mask h s e =
    let w = within_one a mask (entry.select_at f thunk a) a.rows h.1.0 (selected_count f thunk a) in let l = h.1.0.entries_small in
    omega (arith, w, l)
form_entries (Union f a b) mask h s e =
    let same = eqb-true a.columns b.columns (both_true (nat_eq a.rows b.rows) (nat_eq a.columns b.columns) s).1 in
    let w = within_two a b mask (entry.union_at f a b) a.rows h.1.0 h.1.1.0 same (united_count f a b) in omega (arith, w, e)
form_entries (Both f a b) mask h s e =
    let w = within_one a mask (entry.both_at f a b) a.rows h.1.0 (joint_count f a b) in let l = h.1.0.entries_small in
    omega (arith, w, l)
form_entries (Product add mul a b) mask h s e = let w = within_mults add mul a b mask a.rows h.1.1.0 in omega (arith, w, e)
form_entries (Reduce f a) mask h s e = let w = within_column mask (entry.reduce_at f a) a.rows in let l = h.1.0.rows_small in
    omega (arith, w, l)

-- a job's matrix has no more entries than a matrix may have
pub job_entries : (job : Job) → IsPriced job → length (numbered 0 (rows_in job 0 (row_count job))) ≤ limit
job_entries job p = let f = faultless job p in form_entries job.form job.mask p.form f.shapes f.entries
