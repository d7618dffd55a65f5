-- Canonical forms that the search can take.
use Rattle.std.specs.Prelude.{Bool, true, ◌&&◌, List, [], ◌∷◌}
use Rattle.core_expr.specs.declared.canon.Canon.{Canon}
use Rattle.core_expr.specs.Tree.{Tree}
use Rattle.core_expr.specs.Heads.{is_canonical}
use Rattle.core_expr.specs.Terms.{is_scoped}

-- a closed formula whose symbols are canonical, without a temporal mark
abbrev pub is_form_part : Tree → Bool
is_form_part e = is_canonical e && is_scoped 0 e

abbrev pub are_form_parts : List Tree → Bool
are_form_parts [] = true
are_form_parts (e ∷ es) = is_form_part e && are_form_parts es

-- the facts and the goal are such formulas
abbrev pub is_form : Canon → Bool
is_form c = are_form_parts c.facts && is_form_part c.goal
