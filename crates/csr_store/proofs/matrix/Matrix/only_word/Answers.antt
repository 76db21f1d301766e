use Rattle.csr_store.specs.inner.Cells.{joined_cells}
use Rattle.csr_store.proofs.Narrowing.{narrow_of, only_word_of}
use Rattle.csr_store.proofs.matrix.Matrix.only_word.Goals as goal

pub returns-in-Some : goal.returns-in-Some
returns-in-Some c =
    let s = c.self.inside in
    let n = narrow_of s.narrow c.in-Some.narrow (joined_cells s.cells) c.in-Some.is c.self.invariant.4 in
    only_word_of s.rows s.columns s.starts (joined_cells s.cells) c.self.invariant.1 c.args.self.now c.in-Some.narrow.only
    c.self.view_is c.self.invariant.0 n.only
