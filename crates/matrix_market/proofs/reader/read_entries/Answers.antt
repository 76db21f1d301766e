use Rattle.std.proofs.Common.{◌≡◌}
use Rattle.csr_store.specs.Grid.{Grid}
use Rattle.csr_store.specs.ByRows.{grid}
use Rattle.csr_store.specs.Listed.{NoneTwice}
use Rattle.matrix_market.proofs.Telling.{answers_fault, answers_matrix, answers_memory, ok_case, on_ok}
use Rattle.matrix_market.proofs.reader.read_entries.Goals as goal

pub returns-in-None-repeats : goal.returns-in-None-repeats
returns-in-None-repeats c =
    answers_fault c.args.header c.args.start c.in-Ok.gathering.list c.in-Ok.gathering.fault c.in-Some.fault c.in-Ok.ensures.reported
    c.in-Some.is c.in-None-repeats.ensures.once

pub returns-in-Ok-Ok : goal.returns-in-Ok-Ok
returns-in-Ok-Ok c =
    let l = c.in-Ok.gathering.list in
    answers_matrix c.args.header c.args.start l c.in-Ok.gathering.fault c.in-Ok-Ok.matrix c.in-Ok.ensures.reported c.in-None.is
    (on_ok (NoneTwice l.entries) c.in-Ok-Ok.field-0 c.in-Ok-Ok.matrix c.in-Ok-Ok.field-0-is c.in-Ok-Ok.ensures.once)
    (ok_case (λ (m : Grid). m ≡ grid l.rows l.columns l.entries) c.in-Ok-Ok.field-0 c.in-Ok-Ok.matrix c.in-Ok-Ok.field-0-is c.in-Ok-Ok.ensures.built)

pub returns-in-Err-settle : goal.returns-in-Err-settle
returns-in-Err-settle c =
    answers_memory c.args.header c.args.start c.in-Ok.gathering.list c.in-Ok.gathering.fault c.in-Err-settle.refused c.in-Ok.ensures.reported
    c.in-None.is c.in-Err-settle.ensures.refused
