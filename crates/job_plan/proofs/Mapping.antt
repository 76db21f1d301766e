-- What is found for each operator and each matrix of a form.
use Rattle.std.proofs.Common.{◌≡◌, Option, None, Some, refl, sym, ap, ◌∙◌}
use Rattle.std.specs.List.{AllByRecursion}
use Rattle.std.specs.Option.{option_map}
use Rattle.job_plan.specs.Form.{IsMapped, all_some, found, mapped, matrices_of, operators_of}
use Rattle.job_plan.specs.declared.form.Form.{Form}
use Rattle.job_plan.specs.declared.form.Form.TheVariants.{Apply, Select, Union, Both, Product, Reduce}

-- what is there stands for other operators and matrices
all_mapped : {O P M N : Type 0} (op : O → P) (m : M → N) (form : Form (Option O) (Option M))
    → option_map (mapped op m) (all_some form) ≡ all_some (mapped (option_map op) (option_map m) form)
all_mapped op m (Apply None thunk a) = refl
all_mapped op m (Apply (Some f) thunk None) = refl
all_mapped op m (Apply (Some f) thunk (Some a)) = refl
all_mapped op m (Select None thunk a) = refl
all_mapped op m (Select (Some f) thunk None) = refl
all_mapped op m (Select (Some f) thunk (Some a)) = refl
all_mapped op m (Union None a b) = refl
all_mapped op m (Union (Some f) None b) = refl
all_mapped op m (Union (Some f) (Some a) None) = refl
all_mapped op m (Union (Some f) (Some a) (Some b)) = refl
all_mapped op m (Both None a b) = refl
all_mapped op m (Both (Some f) None b) = refl
all_mapped op m (Both (Some f) (Some a) None) = refl
all_mapped op m (Both (Some f) (Some a) (Some b)) = refl
all_mapped op m (Product None mul a b) = refl
all_mapped op m (Product (Some add) None a b) = refl
all_mapped op m (Product (Some add) (Some mul) None b) = refl
all_mapped op m (Product (Some add) (Some mul) (Some a) None) = refl
all_mapped op m (Product (Some add) (Some mul) (Some a) (Some b)) = refl
all_mapped op m (Reduce None a) = refl
all_mapped op m (Reduce (Some f) None) = refl
all_mapped op m (Reduce (Some f) (Some a)) = refl

module _ {O P M N X Y V W : Type 0} (p : O → Option P → Type 0) (q : M → Option N → Type 0) (s : O → X) (t : M → Y)
    (f : X → Option V) (g : Y → Option W) (h : P → V) (k : N → W)
    (operator : (x : O) (y : Option P) → p x y → option_map h y ≡ f (s x))
    (matrix : (x : M) (y : Option N) → q x y → option_map k y ≡ g (t x)) where
  same_pairs : (pairs : Form (O × Option P) (M × Option N)) → AllByRecursion (λ x. p x.0 x.1) (operators_of pairs)
      → AllByRecursion (λ x. q x.0 x.1) (matrices_of pairs)
      → mapped (option_map h) (option_map k) (mapped (λ x. x.1) (λ x. x.1) pairs)
      ≡ mapped f g (mapped s t (mapped (λ x. x.0) (λ x. x.0) pairs))
  same_pairs (Apply o thunk a) u v = rw (operator o.0 o.1 u.0, matrix a.0 a.1 v.0) refl
  same_pairs (Select o thunk a) u v = rw (operator o.0 o.1 u.0, matrix a.0 a.1 v.0) refl
  same_pairs (Union o a b) u v = rw (operator o.0 o.1 u.0, matrix a.0 a.1 v.0, matrix b.0 b.1 v.1.0) refl
  same_pairs (Both o a b) u v = rw (operator o.0 o.1 u.0, matrix a.0 a.1 v.0, matrix b.0 b.1 v.1.0) refl
  same_pairs (Product o m a b) u v =
      rw (operator o.0 o.1 u.0, operator m.0 m.1 u.1.0, matrix a.0 a.1 v.0, matrix b.0 b.1 v.1.0) refl
  same_pairs (Reduce o a) u v = rw (operator o.0 o.1 u.0, matrix a.0 a.1 v.0) refl

  -- what was found for each is what stands for it
  pub found_all : (before : Form O M) (after : Form (Option P) (Option N)) → IsMapped p q before after
      → option_map (mapped h k) (all_some after) ≡ found f g (mapped s t before)
  found_all before after i =
      all_mapped h k after
      ∙ (ap (λ form. all_some (mapped (option_map h) (option_map k) form)) i.after_is
      ∙ (ap all_some (same_pairs i.pairs i.operators i.matrices)
      ∙ sym (ap (λ form. found f g (mapped s t form)) i.before_is)))
