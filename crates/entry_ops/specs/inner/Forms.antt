-- The results of words: entry by entry, or those that an operator selects. This project's own.
use Rattle.std.specs.Prelude.{ℕ, Option}
use Rattle.entry_ops.specs.declared.form.EntryForm.{EntryForm}
use Rattle.entry_ops.specs.declared.form.EntryForm.TheVariants.{Apply as EachApply, Union as EachUnion, Both as EachBoth}

-- the forms that are defined position by position
pub data Form : Type 0 where
  Apply : Option ℕ → Form
  Select : ℕ → Form
  Union : Form
  Both : Form

-- one of those that are computed entry by entry
abbrev pub form_of : EntryForm → Form
form_of (EachApply thunk) = Apply thunk
form_of EachUnion = Union
form_of EachBoth = Both
