-- How a literal is split at a subterm, and the step by the value of the formula that decides.
use Rattle.std.specs.Prelude.{◌≡◌, ◌<◌, Option, Some, None, List, [], ◌∷◌, length}
use Rattle.core_expr.specs.Tree.{Tree, not_, in_, apply_, if_, fun_}
use Rattle.core_expr.specs.Put.{inst}
use Rattle.core_expr.specs.Nodes.{AreBelow}
use Rattle.term_bank.specs.Banks.{tree_at}
use Rattle.search_definition.specs.declared.rule.Rule.{Rule}
use Rattle.search_definition.specs.declared.rule.Rule.TheVariants.{Conditional, Application}
use Rattle.search_definition.specs.Terms.{replace}
use Rattle.search_definition.specs.Branches.{Branch}
use Rattle.search_definition.specs.Values.{truth, grounds}
use Rattle.search_definition.specs.Rules.{Step}
use Rattle.search_definition.specs.Splits.{split_by}
use Rattle.formula_rules.specs.Answers.{trees_at}
use Rattle.literal_ranks.specs.declared.division.Division.{Division}

-- How a literal is split at a subterm: the rule, the formula whose value decides which side there is, and the formulas of the two sides.
pub record Dividing : Type 0 where
  pub rule : Rule
  pub condition : Tree
  pub left : List Tree
  pub right : List Tree

-- f at IF p THEN x ELSE y: p with x put for it, or ~p with y
abbrev pub at_if : Tree → Tree → Tree → Tree → Dividing
at_if f p x y = record { rule = Conditional; condition = p; left = p ∷ replace (if_ p x y) x f ∷ []; right = not_ p ∷ replace (if_ p x y) y f ∷ [] }

-- f at [x \in s |-> e][a]: a \in s with e[a] put for it, or ~(a \in s)
abbrev pub at_application : Tree → Tree → Tree → Tree → Dividing
at_application f s e a =
    record { rule = Application; condition = in_ a s; left = in_ a s ∷ replace (apply_ (fun_ s e) a) (inst e a) f ∷ []; right = not_ (in_ a s) ∷ [] }

-- how f is split at a subterm
abbrev pub dividing : Tree → Tree → Option Dividing
dividing f (if_ p x y) = Some (at_if f p x y)
dividing f (apply_ (fun_ s e) a) = Some (at_application f s e a)
dividing f _ = None

-- what f gives that is so split at u: the left side where the formula that decides is true, the right where it is false, both where its value is not known
abbrev pub divided : Branch → Tree → Tree → Dividing → Option Step
divided b f u d = split_by (truth b d.condition) d.rule f (grounds b d.condition) u d.left d.right

-- what a division by indices stands for
abbrev pub dividing_of : List Tree → Division → Dividing
dividing_of ts d = record { rule = d.rule; condition = tree_at ts d.condition; left = trees_at ts d.left.items; right = trees_at ts d.right.items }

-- the indices of a division are those of the bank
pub record IsWithin (ts : List Tree) (d : Division) : Type 0 where
  pub condition : d.condition < length ts
  pub left : AreBelow (length ts) d.left.items
  pub right : AreBelow (length ts) d.right.items

-- a division in the bank is this one
pub record HasDivision (ts : List Tree) (d : Division) (s : Dividing) : Type 0 where
  pub within : IsWithin ts d
  pub is : dividing_of ts d ≡ s

-- there is a division exactly where the definition has one, and it is that one
abbrev pub HasDivisions : List Tree → Option Division → Option Dividing → Type 0
HasDivisions ts None None = Unit {0}
HasDivisions ts (Some d) (Some s) = HasDivision ts d s
HasDivisions ts None (Some s) = ⊥
HasDivisions ts (Some d) None = ⊥
