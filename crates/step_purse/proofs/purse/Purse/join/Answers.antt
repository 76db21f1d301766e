use Rattle.std.proofs.Common.{arith}
use Rattle.step_purse.proofs.Chains.{owes_most}
use Rattle.step_purse.proofs.purse.Purse.join.Goals as goal

pub overflow_add-result : goal.overflow_add-result
overflow_add-result g c =
    let learned = c.gather-seat.ensures.learned in
    let most = owes_most _ _ learned.sound in
    let owes = learned.owes in
    let same = learned.allowance in
    let agrees = c.gather-seat.ensures.own.allowance in
    let small = c.self.inside.account.small in
    let first = c.first.invariant.1 in
    let second = c.second.invariant.1 in
    omega arith
