-- What is said under items: for all values of new names, or for some.
use Rattle.std.specs.Prelude.{Bool, true, false, List, [], ◌∷◌}
use Rattle.core_expr.specs.Tree.{Tree, and_, imp_, all_, ex_, in_}
use Rattle.proof_contexts.specs.Expansion.{abstract, name}
use Rattle.proof_contexts.specs.Steps.{Item}
use Rattle.proof_contexts.specs.Steps.Item.{New, NewIn, Given}
use Rattle.known_facts.specs.declared.item.Quantifier.{Quantifier}
use Rattle.known_facts.specs.declared.item.Quantifier.TheVariants.{All, Exists}

abbrev pub is_all : Quantifier → Bool
is_all All = true
is_all Exists = false

abbrev pub over : Quantifier → Tree → Tree
over All p = all_ p
over Exists p = ex_ p

abbrev pub restricted : Quantifier → Tree → Tree → Tree
restricted All a b = imp_ a b
restricted Exists a b = and_ a b

abbrev pub under : Quantifier → Item → Tree → Tree
under q (New x) e = over q (abstract x e)
under q (NewIn x s) e = over q (abstract x (restricted q (in_ (name x) s) e))
under q (Given a) e = restricted q a e

abbrev pub over_items : Quantifier → List Item → Tree → Tree
over_items q [] g = g
over_items q (i ∷ is) g = under q i (over_items q is g)
