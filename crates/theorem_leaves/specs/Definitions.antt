-- The definitions of a part of a module, as the code walks over it.
use Rattle.std.specs.Prelude.{Bool, List, [], ◌∷◌, ◌++◌}
use Rattle.tla_ast.specs.declared.tree.Def.{Def, out-Def}
use Rattle.tla_ast.specs.declared.unit.Step.{Step, out-Step}
use Rattle.obligation.specs.declared.obligation.Definition.{Definition}
use Rattle.plain_syntax.specs.Syntax.{term_of, move_of, proof_of}
use Rattle.prime_expand.specs.Bodies.{symbol_in, body_in}
use Rattle.usable_facts.specs.Definitions.{numbered, in_move, in_proof}
use Rattle.theorem_leaves.specs.declared.home.Home.{Home}
use Rattle.theorem_leaves.specs.Homes.{means, entries}

module _ (h : Home) where
  -- the symbol and the body of a definition of the source, or those of its prime
  abbrev pub made : Bool → Def → Definition
  made p d = record { symbol = symbol_in h.scoped.now h.module p d; body = body_in h.scoped.now h.module p d }

  -- what a definition of the source is: nothing where its name has no number, else its symbol and body, and those of its prime
  abbrev pub own : Def → List Definition
  own d = numbered (entries h) (means h) (means h (out-Def d).place) (out-Def d).params (term_of (out-Def d).body)

  abbrev pub in_step : Step → List Definition
  in_step x = in_move (entries h) (means h) (move_of (out-Step x).kind) ++ in_proof (entries h) (means h) (proof_of (out-Step x).proof)

  abbrev pub in_each : List Step → List Definition
  in_each [] = []
  in_each (x ∷ xs) = in_step x ++ in_each xs
