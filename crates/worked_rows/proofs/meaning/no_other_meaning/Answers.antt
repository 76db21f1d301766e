use Rattle.worked_rows.proofs.meaning.no_other_meaning.Goals as goal

pub returns : goal.returns
returns c = λ operator agrees value cost are operands kind. (agrees operands kind).1 (value operands) (cost operands) (are operands kind)
