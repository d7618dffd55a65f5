-- Equations of subterms by numbers.
use Rattle.std.specs.Prelude.{◌≡◌, ℕ, Option, Some, None, List, [], ◌∷◌}
use Rattle.core_expr.specs.Tree.{Tree}
use Rattle.core_expr.specs.Put.{IsScoped}
use Rattle.term_bank.specs.Banks.{tree_at}
use Rattle.search_definition.specs.declared.rule.Rule.TheVariants.{Rewritten}
use Rattle.search_definition.specs.Terms.{replace}
use Rattle.search_definition.specs.Rules.{Result}
use Rattle.search_definition.specs.Rules.Sides.{Alone as One}
use Rattle.search_definition.specs.Plain.{Rewrite}
use Rattle.tableau_search.specs.declared.finder.Found.{Found}
use Rattle.tableau_search.specs.declared.finder.Found.TheVariants.{Alone, Splits}
use Rattle.formula_rules.specs.declared.rewriting.Equation.{Equation}
use Rattle.formula_rules.specs.Answers.{IsEquation}

-- the equation by numbers is this rewriting, of a closed term
pub record IsRewrite (ts : List Tree) (e : Equation) (o : Option Rewrite) : Type 0 where
  pub rewriting : Rewrite
  pub is : o ≡ Some rewriting
  pub equation : IsEquation ts e rewriting
  pub closed : IsScoped 0 (tree_at ts e.from)

-- an equation by numbers exactly where the definition has a rewriting, and it is that one
abbrev pub HasRewrite : List Tree → Option Rewrite → Option Equation → Type 0
HasRewrite ts o None = o ≡ None
HasRewrite ts o (Some e) = IsRewrite ts e o

-- the result of an equation at the i-th entry, of the formula f
abbrev pub rewritten_result : List Tree → ℕ → ℕ → Equation → Result
rewritten_result ts i f e =
    record { entry = i; step = record { rule = Rewritten e.schema; named = tree_at ts f ∷ []; terms = tree_at ts e.from ∷ tree_at ts e.to ∷ []; sides = One (replace (tree_at ts e.from) (tree_at ts e.to) (tree_at ts f) ∷ []) } }

-- the entry of what was found, or n where nothing was
abbrev pub place_of : Option Found → ℕ → ℕ
place_of None n = n
place_of (Some (Alone u ns)) n = u.entry
place_of (Some (Splits u ns ms)) n = u.entry
