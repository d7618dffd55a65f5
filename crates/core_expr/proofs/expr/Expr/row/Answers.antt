use Rattle.core_expr.proofs.PlaceLaws.{root_at}
use Rattle.core_expr.proofs.expr.Expr.row.Goals as goal

pub returns-clause-root : goal.returns-clause-root
returns-clause-root c = root_at c.args.self.now c.args.i c.requires
