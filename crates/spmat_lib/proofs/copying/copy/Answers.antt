use Rattle.std.proofs.Common.{◌≡◌, ◌+◌, ◌++◌, List, length, map, take, refl, sym, ap, ◌∙◌, arith}
use Rattle.std.proofs.lemmas.List.{map-append, take_all}
use Rattle.std.specs.FinMap.{entries, len-entries}
use Rattle.csr_store.specs.Grid.{Cell, Entry, at_row, row_of, row_start}
use Rattle.csr_store.proofs.ByRow.{row_start-zero, row_start-next, row_start-within, row_start-all, take_next}
use Rattle.spmat_lib.specs.Answer.{part_of}
use Rattle.spmat_lib.proofs.copying.copy.Goals as goal

pub loop-row-init : goal.loop-row-init
loop-row-init c = record {
  place = sym (row_start-zero c.args.matrix.now);
  copied = refl;
}

pub copy_row-at-requires : goal.copy_row-at-requires
copy_row-at-requires c =
    let g = c.args.matrix.now in
    let cells : length c.row.result.now ≡ length (row_of g c.loop-row.row) = ap (λ (cs : List Cell). length cs) c.row.ensures in
    let next = row_start-next g c.loop-row.row in
    let within = row_start-within g (c.loop-row.row + 1) in
    let place = c.loop-row.invariant.place in
    let count = c.entries.ensures.entries ∙ len-entries g.cells in omega arith

pub loop-row-preserved : goal.loop-row-preserved
loop-row-preserved c =
    let g = c.args.matrix.now in
    let i = c.loop-row.row in
    let at = c.loop-row.at in
    let all = entries g.cells in
    let part = part_of c.args.part in
    let row = at_row i (row_of g i) in
    let place = c.loop-row.invariant.place in
    let cells : length c.row.result.now ≡ length (row_of g i) = ap (λ (cs : List Cell). length cs) c.row.ensures in
    let next = row_start-next g i in
    let end : c.copy_row-at.result ≡ row_start g (i + 1) = omega arith in
    record {
      place = end;
      copied = c.copy_row-at.ensures.copied
          ∙ ap (λ (cs : List Cell). take at c.loop-row.out ++ map part (at_row i cs)) c.row.ensures
          ∙ ap (λ t. t ++ map part row) c.loop-row.invariant.copied
          ∙ sym (map-append part (take at all) row)
          ∙ ap (λ (es : List Entry). map part es)
          (ap (λ n. take n all ++ row) place ∙ sym (take_next g i) ∙ ap (λ n. take n all) (sym end));
    }

pub returns : goal.returns
returns c fits =
    let g = c.args.matrix.now in
    let last : c.loop-row.row ≡ g.rows = omega arith in
    let end : c.loop-row.at ≡ length (entries g.cells) = c.loop-row.invariant.place ∙ ap (row_start g) last ∙ row_start-all g c.rows-row-end.ensures.is_grid in
    ap (λ n. take n c.loop-row.out) (len-entries g.cells ∙ sym end) ∙ c.loop-row.invariant.copied
    ∙ ap (λ (es : List Entry). map (part_of c.args.part) es) (take_all c.loop-row.at (entries g.cells) (omega arith))
