use Rattle.std.proofs.Common.{arith, ltb, rules}
use Rattle.std.proofs.lemmas.List.Sorted.{IsPartitionPoint-from_clause, IsPartitionedBy-ltb}
use borrow.Author.Tests.{ltb-true, ltb-false}
use Rattle.csr_store.specs.Grid.{Cell}
use Rattle.csr_store.proofs.InRow.{columns_rise, column_at}
use Rattle.csr_store.proofs.row.cells_before.Goals as goal

pub returns-clause-before : goal.returns-clause-before
returns-clause-before c =
    let p = IsPartitionPoint-from_clause (λ (y : Cell). ltb y.0 c.args.j) c.args.row.now c.partition_point.result c.partition_point.ensures.partitioned (IsPartitionedBy-ltb (λ (x : Cell). x.0) c.args.row.now c.args.j (columns_rise c.args.row.now c.requires)) (λ a r g q. search rules) in
    λ k h. let e = column_at c.args.row.now k (0, 0) (let w = c.partition_point.ensures.bound in omega arith) in let t = ltb-true _ _ (p.0 k (0, 0) (omega arith) h) in omega arith

pub returns-clause-behind : goal.returns-clause-behind
returns-clause-behind c =
    let p = IsPartitionPoint-from_clause (λ (y : Cell). ltb y.0 c.args.j) c.args.row.now c.partition_point.result c.partition_point.ensures.partitioned (IsPartitionedBy-ltb (λ (x : Cell). x.0) c.args.row.now c.args.j (columns_rise c.args.row.now c.requires)) (λ a r g q. search rules) in
    λ k h l. let e = column_at c.args.row.now k (0, 0) l in let t = ltb-false _ _ (p.1 k (0, 0) h l) in omega arith
