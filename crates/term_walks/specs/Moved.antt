-- Putting terms in for others, all at once.
use Rattle.std.specs.Prelude.{Option, Some, None}
use Rattle.core_expr.specs.Tree.{Tree, Parts}
use Rattle.core_expr.specs.Tree.Tree.{bound, app, node, bind}
use Rattle.core_expr.specs.Tree.Parts.{end, part}

-- the answer, or x where there is none
abbrev pub or_self : Option Tree → Tree → Tree
or_self None x = x
or_self (Some y) x = y

abbrev mutual
  -- e with what r gives for each subterm for which it gives something, the outermost first
  pub moved : (Tree → Option Tree) → Tree → Tree
  moved r (bound i) = or_self (r (bound i)) (bound i)
  moved r (app f ps) = or_self (r (app f ps)) (app f (moved_parts r ps))
  moved r (node h ns ps) = or_self (r (node h ns ps)) (node h ns (moved_parts r ps))
  moved r (bind b ps e) = or_self (r (bind b ps e)) (bind b (moved_parts r ps) (moved r e))

  -- so for each part
  pub moved_parts : (Tree → Option Tree) → Parts → Parts
  moved_parts r end = end
  moved_parts r (part e ps) = part (moved r e) (moved_parts r ps)
