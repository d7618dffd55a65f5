-- What a rule does, and the rule at the oldest entry that it fits.
use Rattle.std.specs.Prelude.{ℕ, suc, ◌+◌, Bool, true, false, Option, Some, None, List, [], ◌∷◌}
use Rattle.core_expr.specs.Tree.{Tree}
use Rattle.search_definition.specs.declared.rule.Rank.{Rank}
use Rattle.search_definition.specs.declared.rule.Rule.{Rule}
use Rattle.search_definition.specs.declared.rule.Rank.TheVariants as rank
use Rattle.search_definition.specs.declared.rule.Rule.TheVariants.{DoubleNot, Conjunction, DeniedDisjunction, DeniedImplication, FunctionSet, LeftSide, DeniedLeftSide, Rewritten, SameMembers, FunctionValues, OtherFunction, Replaced, TrueSide, FalseLeft, FalseRight, Witness, Counterexample, Disjunction, DeniedConjunction, Implication, Equivalence, DeniedEquivalence, Conditional, Application, Members, Instance, Spare, TakenUp}
use Rattle.search_definition.specs.Terms.{or_else}
use Rattle.search_definition.specs.Branches.{Branch}

-- The formulas that a rule adds: on one resulting branch, or on the first and on the second side of a split.
pub data Sides : Type 0 where
  Alone : List Tree → Sides
  Both : List Tree → List Tree → Sides

-- What a rule does to its formula: which rule it is; the formulas that it names (the used entry's, then its equation or second entry, then the grounds of a value that it rests on); the terms that it works with, which steer nothing (the replaced subterm and its other side; the function; the instance's term; the body of a CHOOSE); and what it adds.
pub record Step : Type 0 where
  pub rule : Rule
  pub named : List Tree
  pub terms : List Tree
  pub sides : Sides

-- A rule that applies: the index of the used entry on the branch, from 0, and what the rule does.
pub record Result : Type 0 where
  pub entry : ℕ
  pub step : Step

-- the rule adds fs on one branch
abbrev pub gives : Rule → List Tree → List Tree → List Tree → Option Step
gives r names terms fs = Some (record { rule = r; named = names; terms = terms; sides = Alone fs })

-- the rule splits the branch: fs on the first side, gs on the second
abbrev pub splits : Rule → List Tree → List Tree → List Tree → List Tree → Option Step
splits r names terms fs gs = Some (record { rule = r; named = names; terms = terms; sides = Both fs gs })

-- the rank of a rule
abbrev pub rank_of : Rule → Rank
rank_of DoubleNot = rank.Plain
rank_of Conjunction = rank.Plain
rank_of DeniedDisjunction = rank.Plain
rank_of DeniedImplication = rank.Plain
rank_of FunctionSet = rank.Plain
rank_of (LeftSide k) = rank.Plain
rank_of (DeniedLeftSide k) = rank.Plain
rank_of (Rewritten k) = rank.Rewrite
rank_of SameMembers = rank.Derive
rank_of FunctionValues = rank.Derive
rank_of OtherFunction = rank.Derive
rank_of Replaced = rank.Replace
rank_of TrueSide = rank.Settle
rank_of FalseLeft = rank.Settle
rank_of FalseRight = rank.Settle
rank_of Witness = rank.Choice
rank_of Counterexample = rank.Choice
rank_of Disjunction = rank.Split
rank_of DeniedConjunction = rank.Split
rank_of Implication = rank.Split
rank_of Equivalence = rank.Split
rank_of DeniedEquivalence = rank.Split
rank_of Conditional = rank.TermSplit
rank_of Application = rank.TermSplit
rank_of Members = rank.Extension
rank_of Instance = rank.Instance
rank_of Spare = rank.Spare
rank_of TakenUp = rank.TakeUp

-- the number of a rank, 1 to 12
abbrev pub rank_code : Rank → ℕ
rank_code rank.Plain = 1
rank_code rank.Rewrite = 2
rank_code rank.Derive = 3
rank_code rank.Replace = 4
rank_code rank.Settle = 5
rank_code rank.Choice = 6
rank_code rank.Split = 7
rank_code rank.TermSplit = 8
rank_code rank.Extension = 9
rank_code rank.Instance = 10
rank_code rank.Spare = 11
rank_code rank.TakeUp = 12

-- the number of a rule within its rank
abbrev pub kind_code : Rule → ℕ
kind_code DoubleNot = 0
kind_code Conjunction = 1
kind_code DeniedDisjunction = 2
kind_code DeniedImplication = 3
kind_code FunctionSet = 4
kind_code (LeftSide k) = 100 + k
kind_code (DeniedLeftSide k) = 200 + k
kind_code (Rewritten k) = 100 + k
kind_code SameMembers = 0
kind_code FunctionValues = 1
kind_code OtherFunction = 2
kind_code Replaced = 0
kind_code TrueSide = 0
kind_code FalseLeft = 1
kind_code FalseRight = 2
kind_code Witness = 0
kind_code Counterexample = 1
kind_code Disjunction = 0
kind_code DeniedConjunction = 1
kind_code Implication = 2
kind_code Equivalence = 3
kind_code DeniedEquivalence = 4
kind_code Conditional = 0
kind_code Application = 1
kind_code Members = 0
kind_code Instance = 0
kind_code Spare = 0
kind_code TakenUp = 0

-- whether the used entry stays live on the one side or the first
abbrev pub stays : Rule → Bool
stays SameMembers = true
stays FunctionValues = true
stays OtherFunction = true
stays Instance = true
stays Spare = true
stays TakenUp = true
stays _ = false

-- whether the used entry stays live on the second side
abbrev pub stays_second : Rule → Bool
stays_second Application = true
stays_second TakenUp = true
stays_second _ = false

-- whether the used entry's count of instances rises
abbrev pub rises : Rule → Bool
rises Instance = true
rises Spare = true
rises _ = false

-- the step at the entry with the index i
abbrev pub at_entry : ℕ → Option Step → Option Result
at_entry i None = None
at_entry i (Some s) = Some (record { entry = i; step = s })

-- the rule at a formula, where its entry is live
abbrev pub at_live : (Tree → Option Step) → Bool → Tree → Option Step
at_live rule true f = rule f
at_live rule false f = None

-- the rule at the oldest live entry that it fits, of the entries from the start on; the first of them has the index start
abbrev pub oldest : (Tree → Option Step) → ℕ → Branch → Option Result
oldest rule start [] = None
oldest rule start (e ∷ b) = or_else (at_entry start (at_live rule e.live e.formula)) (oldest rule (suc start) b)
