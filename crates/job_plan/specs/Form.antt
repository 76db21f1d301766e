-- The six forms of jobs, generic over their operators and matrices: in a line names, in a job what these name. This
-- project's own.
use denote.Ref.{Bor}
use Rattle.std.specs.Prelude.{◌≡◌, List, [], ◌∷◌, Option, None, Some}
use Rattle.std.specs.List.{AllByRecursion}
use Rattle.std.specs.Option.{option_map}
use Rattle.job_plan.specs.declared.form.Form.{Form}
use Rattle.job_plan.specs.declared.form.Form.TheVariants.{Apply, Select, Union, Both, Product, Reduce}

-- the operators of a form, and its matrices
abbrev pub operators_of : {O M : Type 0} → Form O M → List O
operators_of (Apply f thunk a) = f ∷ []
operators_of (Select f thunk a) = f ∷ []
operators_of (Union f a b) = f ∷ []
operators_of (Both f a b) = f ∷ []
operators_of (Product add mul a b) = add ∷ mul ∷ []
operators_of (Reduce f a) = f ∷ []

abbrev pub matrices_of : {O M : Type 0} → Form O M → List M
matrices_of (Apply f thunk a) = a ∷ []
matrices_of (Select f thunk a) = a ∷ []
matrices_of (Union f a b) = a ∷ b ∷ []
matrices_of (Both f a b) = a ∷ b ∷ []
matrices_of (Product add mul a b) = a ∷ b ∷ []
matrices_of (Reduce f a) = a ∷ []

-- the same form, of other operators and matrices
abbrev pub mapped : {O P M N : Type 0} → (O → P) → (M → N) → Form O M → Form P N
mapped op m (Apply f thunk a) = Apply (op f) thunk (m a)
mapped op m (Select f thunk a) = Select (op f) thunk (m a)
mapped op m (Union f a b) = Union (op f) (m a) (m b)
mapped op m (Both f a b) = Both (op f) (m a) (m b)
mapped op m (Product add mul a b) = Product (op add) (op mul) (m a) (m b)
mapped op m (Reduce f a) = Reduce (op f) (m a)

-- two are of one form, each operator of the first has this relation to that of the second, and each matrix that one
pub record IsMapped {O P M N : Type 0} (op : O → P → Type 0) (m : M → N → Type 0) (before : Form O M) (after : Form P N)
    : Type 0 where
  pub pairs : Form (O × P) (M × N)
  pub before_is : before ≡ mapped (λ p. p.0) (λ p. p.0) pairs
  pub after_is : after ≡ mapped (λ p. p.1) (λ p. p.1) pairs
  pub operators : AllByRecursion (λ p. op p.0 p.1) (operators_of pairs)
  pub matrices : AllByRecursion (λ p. m p.0 p.1) (matrices_of pairs)

-- ---- each operator and each matrix is there, or the form isn't

abbrev pub of_one : {O M F : Type 0} → (O → M → F) → Option O → Option M → Option F
of_one form (Some f) (Some a) = Some (form f a)
of_one form (Some f) None = None
of_one form None a = None

abbrev pub of_two : {O M F : Type 0} → (O → M → M → F) → Option O → Option M → Option M → Option F
of_two form (Some f) a b = of_one (form f) a b
of_two form None a b = None

abbrev pub of_product : {O M : Type 0} → Option O → Option O → Option M → Option M → Option (Form O M)
of_product (Some add) mul a b = of_two (Product add) mul a b
of_product None mul a b = None

abbrev pub all_some : {O M : Type 0} → Form (Option O) (Option M) → Option (Form O M)
all_some (Apply f thunk a) = of_one (λ g b. Apply g thunk b) f a
all_some (Select f thunk a) = of_one (λ g b. Select g thunk b) f a
all_some (Union f a b) = of_two Union f a b
all_some (Both f a b) = of_two Both f a b
all_some (Product add mul a b) = of_product add mul a b
all_some (Reduce f a) = of_one Reduce f a

-- the form of what is found for its operators and matrices, if something is found for each
abbrev pub found : {O P M N : Type 0} → (O → Option P) → (M → Option N) → Form O M → Option (Form P N)
found op m form = all_some (mapped op m form)

-- of a mask, where there is one
abbrev pub mask_found : {M N : Type 0} → (M → Option N) → Option M → Option (Option N)
mask_found m None = Some None
mask_found m (Some mask) = option_map Some (m mask)

-- one, and a second one if it is there
abbrev pub first_and_second : {T : Type 0} → Bor T × Option (Bor T) → List T
first_and_second (first, None) = first.now ∷ []
first_and_second (first, Some second) = first.now ∷ second.now ∷ []
