use Rattle.std.proofs.Common.{sym, arith}
use Rattle.std.proofs.lemmas.List.{length-take-le}
use Rattle.csr_store.proofs.Alike.{starts_count}
use Rattle.csr_store.proofs.growing.first_starts.Goals as goal

pub slice_bounds-extend_from_slice-end : goal.slice_bounds-extend_from_slice-end
slice_bounds-extend_from_slice-end c =
    let n = starts_count c.args.matrix.now c.starts.result.now c.starts.ensures in
    sym (length-take-le c.args.count c.starts.result.now (let r = c.requires in omega (arith, n, r)))
