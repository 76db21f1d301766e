use Rattle.std.proofs.Common.{length, ap, ◌∙◌, arith, length-append}
use Rattle.csr_store.specs.Listed.{Listed}
use Rattle.matrix_market.proofs.Gathering.{width_two, width_some}
use Rattle.matrix_market.proofs.gather.push_entry.Goals as goal

pub add-requires-clause-row : goal.add-requires-clause-row
add-requires-clause-row c = let same = c.requires.capacity.rows_same in let row = c.requires.row in omega arith

pub add-requires-clause-column : goal.add-requires-clause-column
add-requires-clause-column c = let same = c.requires.capacity.columns_same in let column = c.requires.column in omega arith

pub add-requires-clause-few : goal.add-requires-clause-few
add-requires-clause-few c =
    let some = width_some c.args.header.banner.symmetric in
    let capacity = c.requires.capacity.capacity in
    omega (arith, capacity, some)

pub add-requires-then-found-clause-row : goal.add-requires-then-found-clause-row
add-requires-then-found-clause-row c =
    let same = ap (λ (l : Listed). l.rows) c.in_ok-add.ensures.added ∙ c.requires.capacity.rows_same in
    let square = c.args.header.square (cc) in
    let column = c.requires.column in
    omega (arith, same, square, column)

pub add-requires-then-found-clause-column : goal.add-requires-then-found-clause-column
add-requires-then-found-clause-column c =
    let same = ap (λ (l : Listed). l.columns) c.in_ok-add.ensures.added ∙ c.requires.capacity.columns_same in
    let square = c.args.header.square (cc) in
    let row = c.requires.row in
    omega (arith, same, square, row)

pub add-requires-then-found-clause-few : goal.add-requires-then-found-clause-few
add-requires-then-found-clause-few c =
    let two = width_two c.args.header.banner.symmetric (cc) in
    let capacity = c.requires.capacity.capacity in
    let many = ap (λ (l : Listed). length l.entries) c.in_ok-add.ensures.added ∙ length-append c.args.list.now.entries _ in
    omega (arith, capacity, two, many)
