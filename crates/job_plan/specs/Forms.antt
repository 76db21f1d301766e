-- The six forms of jobs, in one table: GrB_apply, GrB_select, GrB_eWiseAdd (union), GrB_eWiseMult (both), GrB_mxm (product) and
-- GrB_reduce of a matrix by rows, of the GraphBLAS C API Specification 2.0 ("Operations"). The entry at each position, and which
-- calls it takes, is said in `Forms` and `Product` of job_forms.
use Rattle.std.specs.Prelude.{ℕ, Bool, true, false, ◌&&◌, nat_eq, List, Option, None, Some}
use Rattle.bpf_insn.specs.declared.operands.Kind.{Kind}
use Rattle.bpf_insn.specs.declared.operands.Kind.TheVariants.{Unary, Binary, Index}
use Rattle.bpf_verify.specs.Accepted.{Accepted}
use Rattle.csr_store.specs.Grid.{Grid, Position}
use Rattle.bpf_run.specs.Calls.{Call}
use Rattle.job_forms.specs.Forms as entry
use Rattle.job_forms.specs.Product as by_row
use Rattle.job_plan.specs.Job.{Form, Apply, Select, Union, Both, Product, Reduce}

abbrev pub same_kind : Kind → Kind → Bool
same_kind Unary Unary = true
same_kind Binary Binary = true
same_kind Index Index = true
same_kind Unary Binary = false
same_kind Unary Index = false
same_kind Binary Unary = false
same_kind Binary Index = false
same_kind Index Unary = false
same_kind Index Binary = false

abbrev pub is_of : Kind → Accepted → Bool
is_of kind f = same_kind kind f.kind

-- an index operator where there is a thunk, else a unary one
abbrev pub kind_with : Option ℕ → Kind
kind_with None = Unary
kind_with (Some thunk) = Index

abbrev pub same_shape : Grid → Grid → Bool
same_shape a b = nat_eq a.rows b.rows && nat_eq a.columns b.columns

-- what is said of a form with its operators and operands
pub record Operation : Type 0 where
  -- the operators are of the kinds that the form takes, and the operands have shapes that fit one another
  pub kinds : Bool
  pub shapes : Bool
  -- the sizes of the result; the entry at each position, and the calls for it, if all positions pass
  pub rows : ℕ
  pub columns : ℕ
  pub value_at : Position → Option ℕ
  pub calls_at : Position → List Call

abbrev pub operation : Form → Operation
operation (Apply f thunk a) = record {
  kinds = is_of (kind_with thunk) f;
  shapes = true;
  rows = a.rows;
  columns = a.columns;
  value_at = entry.apply_at f thunk a;
  calls_at = entry.apply_calls_at f thunk a;
}
operation (Select f thunk a) = record {
  kinds = is_of Index f;
  shapes = true;
  rows = a.rows;
  columns = a.columns;
  value_at = entry.select_at f thunk a;
  calls_at = entry.select_calls_at f thunk a;
}
operation (Union f a b) = record {
  kinds = is_of Binary f;
  shapes = same_shape a b;
  rows = a.rows;
  columns = a.columns;
  value_at = entry.union_at f a b;
  calls_at = entry.joint_calls_at f a b;
}
operation (Both f a b) = record {
  kinds = is_of Binary f;
  shapes = same_shape a b;
  rows = a.rows;
  columns = a.columns;
  value_at = entry.both_at f a b;
  calls_at = entry.joint_calls_at f a b;
}
operation (Product add mul a b) = record {
  kinds = is_of Binary add && is_of Binary mul;
  shapes = nat_eq a.columns b.rows;
  rows = a.rows;
  columns = b.columns;
  value_at = by_row.product_at add mul a b;
  calls_at = by_row.product_calls_at add mul a b;
}
operation (Reduce f a) = record {
  kinds = is_of Binary f;
  shapes = true;
  rows = a.rows;
  columns = 1;
  value_at = entry.reduce_at f a;
  calls_at = entry.reduce_calls_at f a;
}
