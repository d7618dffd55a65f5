use Rattle.std.proofs.Common.{◌∙◌, ap}
use Rattle.core_expr.specs.declared.row.Row.{Row}
use Rattle.core_expr.proofs.expr.Expr.parts.Goals as goal

pub returns-clause-tree : goal.returns-clause-tree
returns-clause-tree c = ap (λ (r : Row). r.parts) c.row.ensures.row ∙ c.row.ensures.root.parts_are
