use Rattle.step_purse.proofs.account.Account.open.Given as goal

abbrev pub ghosts-begin : goal.ghosts-begin
ghosts-begin a = record { allowance = a.allowance }
