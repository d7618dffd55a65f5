-- Forms of goals with a set: the body of a quantifier over it.
use Rattle.std.specs.Prelude.{Bool, false, ◌&&◌, Option, List}
use Rattle.core_expr.specs.Tree.{Tree}
use Rattle.core_expr.specs.Tree.Tree.{bound}
use Rattle.core_expr.specs.Terms.{same}
use Rattle.obligation.specs.declared.obligation.Definition.{Definition}
use Rattle.known_facts.specs.declared.item.Quantifier.{Quantifier}
use Rattle.known_facts.specs.declared.item.Quantifier.TheVariants.{All, Exists}
use Rattle.proof_contexts.specs.Contexts.{Context, as_in, given, same_set, all_in, ex_in}

module _ (table : List Definition) where
  -- the formula says that the bound variable is in the set, once the usable definitions are unfolded
  abbrev pub is_domain : Context → Tree → Tree → Bool
  is_domain c s d = given (as_in d) false (λ m. same m.first (bound 0) && same_set table c m.second s)

  -- the P of \A x \in s : P, or of \E x \in s : P
  abbrev pub body_over : Quantifier → Context → Tree → Tree → Option Tree
  body_over All c s e = all_in table c s e
  body_over Exists c s e = ex_in table c s e
