-- The schemas as nodes over their parameters.
use Rattle.std.specs.Prelude.{◌≡◌, ℕ, ◌-◌, Bool, true, false, cond, nat_eq, nat_lt, Option, Some, None, List, [], ◌∷◌, ◌++◌, length, map}
use Rattle.std.proofs.Common.{get_or}
use Rattle.core_expr.specs.Tree.{Tree, true_, choose_}
use Rattle.core_expr.specs.Tree.Tree.{bound}
use Rattle.core_expr.specs.Put.{inst, IsScoped}
use Rattle.core_expr.specs.Nodes.{Node, picked, trees_from}
use Rattle.proof_checker.specs.Tables.{ArePlaced, cells_of}
use Rattle.term_bank.specs.Banks.{HasTree, HasNode}
use Rattle.seq_calculus.specs.Schemas.{instance_of}
use Rattle.proof_checker.specs.declared.nodes.Cell.{Cell}
use Rattle.proof_checker.specs.declared.pattern.Opening.{Opening}
use Rattle.proof_checker.specs.declared.pattern.Opening.TheVariants.{Nothing, Chosen, Last}
use Rattle.proof_checker.specs.declared.pattern.TheConstants.{COUNTS, SUBJECTS, CELLS}

-- A schema's formula as nodes over its parameters, an instance of one of them, and the variable of the innermost binder. At
-- `subject` each parameter stands under as many binders as it may have loose variables.
pub record Pattern : Type 0 where
  pub count : ℕ
  pub opening : Opening
  pub subject : ℕ
  pub nodes : List Node

abbrev pub opening_at : ℕ → Opening
opening_at i = cond (nat_eq i 5) Last (cond (nat_eq i 14) Last (cond (nat_eq i 10) Chosen Nothing))

abbrev pub cell_list : ℕ → List Cell
cell_list i = get_or (map (λ r. r.now) CELLS) i []

-- the pattern of the schema i + 2
abbrev pub pattern_at : ℕ → Pattern
pattern_at i = record { count = get_or COUNTS i 0; opening = opening_at i; subject = get_or SUBJECTS i 0; nodes = cells_of (cell_list i) }

-- the instance that a formula has: of the last parameter by the first, or of a body by what satisfies it
abbrev pub opened : Opening → List Tree → List Tree
opened Nothing es = []
opened Chosen es = inst (get_or es 0 true_) (choose_ (get_or es 0 true_)) ∷ []
opened Last es = inst (get_or es 2 true_) (get_or es 0 true_) ∷ []

-- it has no other variables than it may have
abbrev pub IsOpen : Opening → List Tree → Type 0
IsOpen Nothing es = Unit {0}
IsOpen Chosen es = IsScoped 1 (get_or es 0 true_)
IsOpen Last es = IsScoped 0 (get_or es 0 true_) × IsScoped 1 (get_or es 2 true_)

-- the trees of a pattern's nodes, behind those that they are over
abbrev pub trees_in : Pattern → List Tree → List Tree
trees_in p es = trees_from (es ++ opened p.opening es ++ bound 0 ∷ []) p.nodes

abbrev pub subject_in : Pattern → List Tree → Tree
subject_in p es = get_or (trees_in p es) p.subject true_

abbrev pub last : List Tree → Tree
last ts = get_or ts (length ts - 1) true_

abbrev pub formula_in : Pattern → List Tree → Tree
formula_in p es = last (trees_in p es)

-- each parameter has no other loose variables than it may have
abbrev pub IsProper : Pattern → List Tree → Type 0
IsProper p es = (length es ≡ p.count) × IsOpen p.opening es × IsScoped 0 (subject_in p es)

-- the pattern's formula stands in the bank; or a parameter has other variables
abbrev pub HasPattern : List Tree → Pattern → List Tree → Option ℕ → Type 0
HasPattern ts p es (Some j) = IsProper p es × HasTree ts j (formula_in p es)
HasPattern ts p es None = IsProper p es → ⊥

-- the formula of a schema stands in the bank; or it has no closed instance
abbrev pub IsInstance : List Tree → ℕ → ℕ → List Tree → Option ℕ → Type 0
IsInstance ts k z es (Some j) = (i : Tree) × (instance_of k z es ≡ Some i) × HasTree ts j i
IsInstance ts k z es None = (i : Tree) → instance_of k z es ≡ Some i → IsScoped 0 i → ⊥

-- there are as many parameters as the instance needs
abbrev pub takes_opening : Opening → ℕ → Bool
takes_opening Nothing n = true
takes_opening Chosen n = nat_lt 0 n
takes_opening Last n = nat_lt 2 n

-- what is asked holds, and these trees follow; or it does not hold
abbrev pub AreOpened : List Tree → List Tree → Type 0 → List Tree → List ℕ → List ℕ → Bool → Type 0
AreOpened ts ts' P es old new true = P × ArePlaced ts' (picked ts old ++ es) new
AreOpened ts ts' P es old new false = P → ⊥

-- the head number of the node of the tree at i
pub record HasHead (ts : List Tree) (i h : ℕ) : Type 0 where
  pub node : Node
  pub has : HasNode ts i node
  pub head : node.head ≡ h

-- the trees of a pattern stand at these places
pub record IsBuilt (ts : List Tree) (p : Pattern) (es : List Tree) (values : List ℕ) : Type 0 where
  pub opened_is : IsOpen p.opening es
  pub placed : ArePlaced ts (trees_in p es) values
