use Rattle.std.proofs.Common.{length, ap, ◌∙◌, get_or, List, arith}
use Rattle.job_plan.specs.declared.plan.ChunkRows.{ChunkRows}
use Rattle.job_plan.specs.inner.Chunks.{rows_from}
use Rattle.job_plan.proofs.Covering.{kept_at, rows_count}
use Rattle.job_plan.proofs.plan.Plan.chunk_rows.Goals as goal

pub index-chunk-requires : goal.index-chunk-requires
index-chunk-requires c =
    let same = ap length (c.self.invariant.2 ∙ ap (rows_from 0) c.self.view_is) in
    let all = rows_count c.args.self.now in
    let inside = c.requires in
    omega (arith, same, all, inside)

pub returns : goal.returns
returns c =
    let found = c.index-chunk.result.now in
    let same = c.self.invariant.2 ∙ ap (rows_from 0) c.self.view_is in
    let is = c.index-chunk.ensures ∙ ap (λ (cs : List ChunkRows). get_or cs c.args.c found) same in
    kept_at c.args.self.now c.args.c found c.requires is
