use Rattle.std.proofs.Common.{◌∙◌, ap}
use Rattle.core_expr.specs.declared.row.Row.{Row}
use Rattle.core_expr.proofs.expr.Expr.numbers.Goals as goal

pub returns-clause-tree : goal.returns-clause-tree
returns-clause-tree c = c.as_slice.ensures ∙ ap (λ (r : Row). r.numbers) c.row.ensures.row ∙ c.row.ensures.root.numbers_are
