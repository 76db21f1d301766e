use Rattle.std.proofs.Common.{◌≡◌, ◌-◌, Some, None, arith}
use Rattle.csr_store.specs.Mask.{mask_of}
use Rattle.job_forms.specs.Forms.{apply_at, select_at, union_at, both_at, reduce_at}
use Rattle.form_tests.proofs.Pieces.{piece}
use Rattle.form_tests.proofs.forms.rows_of.Goals as goal

pub returns-in-Reduce : goal.returns-in-Reduce
returns-in-Reduce c =
    let same : 1 ≡ c.args.columns = omega arith in
    piece (mask_of c.args.mask) 1 c.args.columns (reduce_at c.args.operator.now c.args.a.now) c.args.range.start
    (c.args.range.end - c.args.range.start)
    c.reduce_region.result.result same c.reduce_region.ensures.rows

pub returns-in-Apply-None-Unary : goal.returns-in-Apply-None-Unary
returns-in-Apply-None-Unary c =
    let same : c.args.a.now.columns ≡ c.args.columns = omega arith in
    piece (mask_of c.args.mask) c.args.a.now.columns c.args.columns (apply_at c.args.operator.now None c.args.a.now)
    c.args.range.start (c.args.range.end - c.args.range.start)
    c.apply_region.result.result same c.apply_region.ensures.rows

pub returns-in-Apply-Some-Index : goal.returns-in-Apply-Some-Index
returns-in-Apply-Some-Index c =
    let same : c.args.a.now.columns ≡ c.args.columns = omega arith in
    piece (mask_of c.args.mask) c.args.a.now.columns c.args.columns (apply_at c.args.operator.now (Some
    c.in-Apply-Some-Index.thunk) c.args.a.now) c.args.range.start (c.args.range.end - c.args.range.start)
    c.apply_region-in-Apply-Some-Index.result.result same c.apply_region-in-Apply-Some-Index.ensures.rows

pub returns-in-Select-Index : goal.returns-in-Select-Index
returns-in-Select-Index c =
    let same : c.args.a.now.columns ≡ c.args.columns = omega arith in
    piece (mask_of c.args.mask) c.args.a.now.columns c.args.columns (select_at c.args.operator.now c.in-Select-Index.thunk
    c.args.a.now) c.args.range.start (c.args.range.end - c.args.range.start)
    c.select_region.result.result same c.select_region.ensures.rows

pub returns-in-Union-Binary : goal.returns-in-Union-Binary
returns-in-Union-Binary c =
    let same : c.args.a.now.columns ≡ c.args.columns = omega arith in
    piece (mask_of c.args.mask) c.args.a.now.columns c.args.columns (union_at c.args.operator.now c.args.a.now c.args.b.now)
    c.args.range.start (c.args.range.end - c.args.range.start)
    c.union_region.result.result same c.union_region.ensures.rows

pub returns-in-Both-Binary : goal.returns-in-Both-Binary
returns-in-Both-Binary c =
    let same : c.args.a.now.columns ≡ c.args.columns = omega arith in
    piece (mask_of c.args.mask) c.args.a.now.columns c.args.columns (both_at c.args.operator.now c.args.a.now c.args.b.now)
    c.args.range.start (c.args.range.end - c.args.range.start)
    c.both_region.result.result same c.both_region.ensures.rows
