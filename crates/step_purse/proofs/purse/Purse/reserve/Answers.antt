use Rattle.std.proofs.Common.{arith}
use Rattle.step_purse.proofs.Chains.{owes_most}
use Rattle.step_purse.proofs.purse.Purse.reserve.Goals as goal

pub overflow_add-pass : goal.overflow_add-pass
overflow_add-pass g c =
    let made = c.in-Took.ensures.recorded.1 in
    let most = owes_most _ _ made.sound in
    let owes = made.owes in
    let small = c.self.inside.account.small in
    let owed = c.pass.invariant.1 in
    omega arith
