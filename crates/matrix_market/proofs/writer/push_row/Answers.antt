use Rattle.std.proofs.Common.{◌≡◌, ◌<◌, ◌++◌, All, List, ap, sym, ◌∙◌, subst, append_assoc, ◌-◌, take, drop, length-drop, arith}
use Rattle.std.proofs.lemmas.List.{take_all}
use Rattle.std.proofs.lemmas.List.Elements.{All-drop}
use Rattle.csr_store.specs.Grid.{Cell, at_row, limit}
use Rattle.matrix_market.specs.CanonicalText.{entry_lines}
use Rattle.matrix_market.proofs.LineParts.{lines_cut}
use Rattle.matrix_market.proofs.writer.push_row.Goals as goal

pub loop-left-preserved : goal.loop-left-preserved
loop-left-preserved c =
    let row = c.args.row in
    let out = c.loop-left.out.items in
    let now = c.split_at.result.0.now in
    let later = c.split_at.result.1.now in
    let lines = entry_lines (at_row row now) in
    let rest = entry_lines (at_row row later) in
    let written = c.write_lines-start.ensures.written ∙ ap (λ r. entry_lines (at_row r now)) c.label_of-label.ensures in
    let start = c.write_lines-start.result in
    let buffer = c.write_lines-start.new.buffer in
    let behind : take (2576 - start) (drop start buffer) ≡ drop start buffer = take_all (2576 - start) (drop start buffer) (omega (arith, length-drop start buffer)) in
    let added = c.in_ok-extend_from_slice.ensures.items ∙ ap (λ t. out ++ t) (behind ∙ written) in
    let cut = lines_cut row c.min.result c.loop-left.left.now now later c.split_at.ensures.front c.split_at.ensures.back in
    record {
      columns = subst (λ (cs : List Cell). All (λ (c : Cell). c.0 < limit) cs) (sym c.split_at.ensures.back)
          (All-drop (λ (c : Cell). c.0 < limit) c.min.result c.loop-left.left.now c.loop-left.invariant.columns);
      same = ap (λ t. t ++ rest) added ∙ append_assoc out lines rest ∙ ap (λ t. out ++ t) (sym cut) ∙ c.loop-left.invariant.same;
    }
