-- A term with a variable for another.
use Rattle.std.specs.Prelude.{ℕ, suc}
use Rattle.core_expr.specs.Tree.{Tree, Parts}
use Rattle.core_expr.specs.Tree.Tree.{bound, app, node, bind}
use Rattle.core_expr.specs.Tree.Parts.{end, part}
use Rattle.core_expr.specs.Terms.{same}
use Rattle.search_definition.specs.Terms.{if_so}

-- the variable d stands for the closed term s
abbrev mutual
  pub abstracted : Tree → ℕ → Tree → Tree
  abstracted s d (bound i) = bound i
  abstracted s d (app f ps) = if_so (same s (app f ps)) (bound d) (app f (abstracteds s d ps))
  abstracted s d (node h ns ps) = if_so (same s (node h ns ps)) (bound d) (node h ns (abstracteds s d ps))
  abstracted s d (bind b ps e) = if_so (same s (bind b ps e)) (bound d) (bind b (abstracteds s d ps) (abstracted s (suc d) e))

  pub abstracteds : Tree → ℕ → Parts → Parts
  abstracteds s d end = end
  abstracteds s d (part e ps) = part (abstracted s d e) (abstracteds s d ps)
