use Rattle.std.proofs.Common.{◌∙◌, ap}
use Rattle.core_expr.specs.declared.row.Row.{Row}
use Rattle.core_expr.proofs.expr.Expr.kind.Goals as goal

pub returns-clause-tree : goal.returns-clause-tree
returns-clause-tree c = ap (λ (r : Row). r.kind) c.row.ensures.row ∙ c.row.ensures.root.kind_is
