-- Answers of rules by indices, and the steps of the search's definition that they stand for.
use Rattle.std.specs.Prelude.{◌≡◌, ◌⊎◌, ℕ, ◌+◌, ◌<◌, Bool, true, false, nat_eq, Option, Some, None, List, [], ◌∷◌, length, map}
use Rattle.std.proofs.Common.{get_or}
use Rattle.core_expr.specs.Tree.{Tree, true_, false_, not_, and_, or_, num_, str_}
use Rattle.core_expr.specs.Heads.{kind_number}
use Rattle.core_expr.specs.Places.{kind_of}
use Rattle.core_expr.specs.Tree.Tree.{bound}
use Rattle.core_expr.specs.Put.{IsScoped}
use Rattle.core_expr.specs.Nodes.{AreBelow}
use Rattle.term_bank.specs.Banks.{HasTree, tree_at}
use Rattle.seq_calculus.specs.Schemas.{join, equal_pairs}
use Rattle.search_definition.specs.declared.rule.Rule.{Rule}
use Rattle.search_definition.specs.Terms.{if_so}
use Rattle.search_definition.specs.Rules.{Step, Sides as Parted}
use Rattle.search_definition.specs.Rules.Sides.{Alone, Both}
use Rattle.search_definition.specs.Plain.{Left, Rewrite}
use Rattle.search_definition.specs.Splits.{Splitting}
use Rattle.search_definition.specs.Instances.{Universal}
use Rattle.formula_rules.specs.declared.given.Given.{Given}
use Rattle.formula_rules.specs.declared.given.Sides.{Sides}
use Rattle.formula_rules.specs.declared.given.Sides.TheVariants.{Alone as One, Both as Two}
use Rattle.formula_rules.specs.declared.left.LeftSide.{LeftSide}
use Rattle.formula_rules.specs.declared.parting.Parting.{Parting}
use Rattle.formula_rules.specs.declared.quantified.Quantified.{Quantified}
use Rattle.formula_rules.specs.declared.rewriting.Equation.{Equation}
use Rattle.formula_rules.specs.declared.join.Join.{Join}
use Rattle.formula_rules.specs.declared.join.Join.TheVariants.{And, Or}

-- the trees at these indices
abbrev pub trees_at : List Tree → List ℕ → List Tree
trees_at ts is = map (tree_at ts) is

-- the indices at these places
abbrev pub gathered : List ℕ → List ℕ → List ℕ
gathered places at = map (λ i. get_or places i 0) at

-- the rule names these formulas, works with these terms, and adds these formulas on one branch
abbrev pub alone_step : Rule → List Tree → List Tree → List Tree → Step
alone_step r named terms fs = record { rule = r; named = named; terms = terms; sides = Alone fs }

-- the rule names these formulas, works with these terms, and splits the branch into these sides
abbrev pub both_step : Rule → List Tree → List Tree → List Tree → List Tree → Step
both_step r named terms fs gs = record { rule = r; named = named; terms = terms; sides = Both fs gs }

-- the rule adds these formulas to f on one branch
abbrev pub alone : Rule → Tree → List Tree → Step
alone r f fs = alone_step r (f ∷ []) [] fs

-- the formulas that an answer adds
abbrev pub sides_of : List Tree → Sides → Parted
sides_of ts (One fs) = Alone (trees_at ts fs.items)
sides_of ts (Two fs gs) = Both (trees_at ts fs.items) (trees_at ts gs.items)

-- the step of an answer
abbrev pub step_of : List Tree → Given → Step
step_of ts g = record { rule = g.rule; named = trees_at ts g.named.items; terms = trees_at ts g.terms.items; sides = sides_of ts g.added }

-- the step of an answer, if there is one
abbrev pub answer_of : List Tree → Option Given → Option Step
answer_of ts None = None
answer_of ts (Some g) = Some (step_of ts g)

abbrev pub SidesBelow : ℕ → Sides → Type 0
SidesBelow n (One fs) = AreBelow n fs.items
SidesBelow n (Two fs gs) = AreBelow n fs.items × AreBelow n gs.items

-- all indices of an answer are below n
abbrev pub GivenBelow : ℕ → Given → Type 0
GivenBelow n g = AreBelow n g.named.items × AreBelow n g.terms.items × SidesBelow n g.added

-- an answer in the bank is this step
pub record HasStep (ts : List Tree) (g : Given) (s : Step) : Type 0 where
  pub below : GivenBelow (length ts) g
  pub is : step_of ts g ≡ s

-- there is an answer exactly where the definition has one, and it is that one
abbrev pub HasAnswer : List Tree → Option Given → Option Step → Type 0
HasAnswer ts None None = Unit {0}
HasAnswer ts (Some g) (Some s) = HasStep ts g s
HasAnswer ts None (Some s) = ⊥
HasAnswer ts (Some g) None = ⊥

-- a right side by its index
pub record IsRight (ts : List Tree) (l : LeftSide) (m : Left) : Type 0 where
  pub schema : l.schema ≡ m.schema
  pub right : HasTree ts l.right m.right

-- a left side exactly where the definition has one, with its schema and its right side
abbrev pub SaysLeft : List Tree → Option LeftSide → Option Left → Type 0
SaysLeft ts None None = Unit {0}
SaysLeft ts (Some l) (Some m) = IsRight ts l m
SaysLeft ts None (Some m) = ⊥
SaysLeft ts (Some l) None = ⊥

-- a closed term, or the variable of the innermost binder
abbrev pub IsSubject : Tree → Type 0
IsSubject t = IsScoped 0 t ⊎ (t ≡ bound 0)

-- two formulas joined by the connective
abbrev pub joined : Join → Tree → Tree → Tree
joined And a b = and_ a b
joined Or a b = or_ a b

-- what joins no formula
abbrev pub join_none : Join → Tree
join_none And = true_
join_none Or = false_

-- when tuples with these entries are equal: each two entries are, or FALSE where they are not as many
abbrev pub tuples_mean : List Tree → List Tree → Tree
tuples_mean as' bs = if_so (nat_eq (length as') (length bs)) (join (λ a b. and_ a b) true_ (equal_pairs as' bs)) false_

-- a splitting by this rule into these sides
abbrev pub parted : Rule → List Tree → List Tree → Splitting
parted r ls rs = record { rule = r; left = ls; right = rs }

-- the splitting that a parting stands for
abbrev pub splitting_of : List Tree → Parting → Splitting
splitting_of ts p = parted p.rule (trees_at ts p.left.items) (trees_at ts p.right.items)

-- a parting in the bank is this splitting
pub record HasParting (ts : List Tree) (p : Parting) (s : Splitting) : Type 0 where
  pub left : AreBelow (length ts) p.left.items
  pub right : AreBelow (length ts) p.right.items
  pub is : splitting_of ts p ≡ s

-- there is a parting exactly where the definition has a splitting, and it is that one
abbrev pub HasPartings : List Tree → Option Parting → Option Splitting → Type 0
HasPartings ts None None = Unit {0}
HasPartings ts (Some p) (Some s) = HasParting ts p s
HasPartings ts None (Some s) = ⊥
HasPartings ts (Some p) None = ⊥

-- a term exactly where the definition has one, and it is that one
abbrev pub HasTerm : List Tree → Option ℕ → Option Tree → Type 0
HasTerm ts None None = Unit {0}
HasTerm ts (Some k) (Some t) = HasTree ts k t
HasTerm ts None (Some t) = ⊥
HasTerm ts (Some k) None = ⊥

-- the universal that a quantified formula stands for
abbrev pub universal_of : List Tree → Quantified → Universal
universal_of ts u = record { holds = u.holds; body = tree_at ts u.body }

-- a universal in the bank is this one
pub record IsUniversal (ts : List Tree) (u : Quantified) (v : Universal) : Type 0 where
  pub within : u.body < length ts
  pub is : universal_of ts u ≡ v

-- a universal exactly where the definition has one, and it is that one
abbrev pub HasUniversal : List Tree → Option Quantified → Option Universal → Type 0
HasUniversal ts None None = Unit {0}
HasUniversal ts (Some u) (Some v) = IsUniversal ts u v
HasUniversal ts None (Some v) = ⊥
HasUniversal ts (Some u) None = ⊥

-- an equation by the indices of its sides is that of a rewriting
pub record IsEquation (ts : List Tree) (e : Equation) (r : Rewrite) : Type 0 where
  pub schema : e.schema ≡ r.schema
  pub from : HasTree ts e.from r.from
  pub to : HasTree ts e.to r.to

-- an equation exactly where the definition has one, and it is that one
abbrev pub HasEquation : List Tree → Option Equation → Option Rewrite → Type 0
HasEquation ts None None = Unit {0}
HasEquation ts (Some e) (Some r) = IsEquation ts e r
HasEquation ts None (Some r) = ⊥
HasEquation ts (Some e) None = ⊥

-- the class of a formula: its head number, or 34 more than that of what it denies
abbrev pub class_of : Tree → ℕ
class_of (not_ a) = 34 + kind_number (kind_of a)
class_of t = kind_number (kind_of t)

-- the answer is this index
abbrev pub names : Option ℕ → ℕ → Bool
names None g = false
names (Some k) g = nat_eq g k

-- a numeral
abbrev pub is_number : Tree → Bool
is_number (num_ a b) = true
is_number _ = false

-- a string
abbrev pub is_text : Tree → Bool
is_text (str_ s) = true
is_text _ = false
