use Rattle.std.proofs.Common.{refl}
use Rattle.job_plan.specs.declared.form.Form.TheVariants as f
use Rattle.job_plan.proofs.form.Form.map.Goals as goal

pub returns-in-Apply : goal.returns-in-Apply
returns-in-Apply g c = record {
  pairs = f.Apply (c.in-Apply.operator, c.of_operator.result) c.in-Apply.thunk (c.in-Apply.operand, c.of_matrix.result);
  before_is = c.in-Apply.is;
  after_is = refl;
  operators = (c.of_operator.ensures, tt);
  matrices = (c.of_matrix.ensures, tt);
}

pub returns-in-Select : goal.returns-in-Select
returns-in-Select g c = record {
  pairs = f.Select (c.in-Select.operator, c.of_operator-in-Select.result) c.in-Select.thunk
      (c.in-Select.operand, c.of_matrix-in-Select.result);
  before_is = c.in-Select.is;
  after_is = refl;
  operators = (c.of_operator-in-Select.ensures, tt);
  matrices = (c.of_matrix-in-Select.ensures, tt);
}

pub returns-in-Union : goal.returns-in-Union
returns-in-Union g c = record {
  pairs = f.Union (c.in-Union.operator, c.of_operator-in-Union.result) (c.in-Union.left, c.of_matrix-in-Union.result)
      (c.in-Union.right, c.of_matrix-in-Union-2.result);
  before_is = c.in-Union.is;
  after_is = refl;
  operators = (c.of_operator-in-Union.ensures, tt);
  matrices = (c.of_matrix-in-Union.ensures, (c.of_matrix-in-Union-2.ensures, tt));
}

pub returns-in-Both : goal.returns-in-Both
returns-in-Both g c = record {
  pairs = f.Both (c.in-Both.operator, c.of_operator-in-Both.result) (c.in-Both.left, c.of_matrix-in-Both.result)
      (c.in-Both.right, c.of_matrix-in-Both-2.result);
  before_is = c.in-Both.is;
  after_is = refl;
  operators = (c.of_operator-in-Both.ensures, tt);
  matrices = (c.of_matrix-in-Both.ensures, (c.of_matrix-in-Both-2.ensures, tt));
}

pub returns-in-Product : goal.returns-in-Product
returns-in-Product g c = record {
  pairs = f.Product (c.in-Product.add, c.of_operator-in-Product.result) (c.in-Product.mul, c.of_operator-in-Product-2.result)
      (c.in-Product.left, c.of_matrix-in-Product.result) (c.in-Product.right, c.of_matrix-in-Product-2.result);
  before_is = c.in-Product.is;
  after_is = refl;
  operators = (c.of_operator-in-Product.ensures, (c.of_operator-in-Product-2.ensures, tt));
  matrices = (c.of_matrix-in-Product.ensures, (c.of_matrix-in-Product-2.ensures, tt));
}

pub returns : goal.returns
returns g c = record {
  pairs = f.Reduce (c.in-Reduce.operator, c.of_operator-in-Reduce.result) (c.in-Reduce.operand, c.of_matrix-in-Reduce.result);
  before_is = c.in-Reduce.is;
  after_is = refl;
  operators = (c.of_operator-in-Reduce.ensures, tt);
  matrices = (c.of_matrix-in-Reduce.ensures, tt);
}
