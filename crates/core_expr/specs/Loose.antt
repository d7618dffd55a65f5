-- How far the loose variables of an expression go.
use Rattle.std.specs.Prelude.{ℕ, suc, pred, max}
use Rattle.core_expr.specs.Tree.{Tree, Parts}
use Rattle.core_expr.specs.Tree.Tree.{bound, app, node, bind}
use Rattle.core_expr.specs.Tree.Parts.{end, part}

-- one more than the greatest loose variable, 0 where there is none
abbrev mutual
  pub loose : Tree → ℕ
  loose (bound i) = suc i
  loose (app f ps) = loose_all ps
  loose (node h ns ps) = loose_all ps
  loose (bind b ps e) = max (loose_all ps) (pred (loose e))

  pub loose_all : Parts → ℕ
  loose_all end = 0
  loose_all (part e ps) = max (loose e) (loose_all ps)
