use Rattle.std.proofs.Common.{List, length, ap, sym, ◌∙◌, arith}
use Rattle.std.proofs.lemmas.List.{drop_all}
use Rattle.csr_store.specs.Grid.{Cell, at_row}
use Rattle.matrix_market.specs.CanonicalText.{entry_lines}
use Rattle.matrix_market.proofs.line_writer.write_lines.Goals as goal

pub loop-left-init : goal.loop-left-init
loop-left-init c = record {
  few = omega arith;
  above = let f = c.requires.few in omega arith;
  within = omega arith;
  written = drop_all 2576 c.args.buffer.now (omega arith)
      ∙ sym (ap (λ (cs : List Cell). entry_lines (at_row c.args.label.now.row cs)) (drop_all (length c.args.cells.now) c.args.cells.now (omega arith)));
}
