use Rattle.std.specs.Bool.{one_answer}
use Rattle.core_expr.specs.Terms.{same}
use Rattle.core_expr.specs.Keys.{same-Decides}
use Rattle.core_expr.proofs.compare.ExprPartialEq.eq.Goals as goal

pub returns : goal.returns
returns c = one_answer c.same.result (same c.args.self.now c.args.other.now) c.same.ensures (same-Decides c.args.self.now c.args.other.now)
