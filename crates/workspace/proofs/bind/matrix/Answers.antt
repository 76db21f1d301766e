use Rattle.std.proofs.Common.{rules, subst}
use Rattle.matrix_market.specs.declared.rule.MarketError.{MarketError}
use Rattle.matrix_market.specs.Refusal.{ExplainsRefusal, IsText}
use Rattle.workspace.specs.Workspace.{state_of}
use Rattle.workspace.proofs.Turning.{matrix_taken, matrix_memory}
use Rattle.workspace.proofs.bind.matrix.Goals as goal

pub returns-else-is_err-clause-binds : goal.returns-else-is_err-clause-binds
returns-else-is_err-clause-binds c =
    matrix_taken (state_of c.args.workspace.now) (state_of c.bind_matrix.new.self) c.args.name.now c.in-Some.name.now c.args.body.now _ c.in-Ok.matrix
    c.in-Some.ensures.0 c.in-Some.ensures.1 c.rows-rows.ensures.is_grid c.in-Ok.ensures.text (search rules) (search rules)

pub returns-then-is_err-clause-binds : goal.returns-then-is_err-clause-binds
returns-then-is_err-clause-binds c =
    matrix_memory (state_of c.args.workspace.now) (state_of c.bind_matrix.new.self) c.args.name.now c.args.body.now _ c.in-Ok.matrix
    c.in-Some.ensures.0 c.in-Ok.ensures.text (search rules) (search rules)

-- the text breaks no rule
pub returns-in-Err-Memory-clause-binds : goal.returns-in-Err-Memory-clause-binds
returns-in-Err-Memory-clause-binds c =
    let text : IsText c.args.body.now = subst (λ (e : MarketError). ExplainsRefusal c.args.body.now e) c.in-Err-Memory.field-0-is c.in-Err-Memory.ensures.refusal in
    matrix_memory (state_of c.args.workspace.now) (state_of c.args.workspace.now) c.args.name.now c.args.body.now _ text.0
    c.in-Some.ensures.0 text.1 (search rules) (search rules)
