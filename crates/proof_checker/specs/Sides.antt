-- The sides of a sequent as numbers of a bank.
use Rattle.std.specs.Prelude.{◌≡◌, ℕ, ◌<◌, ◌≤◌, List, [], ◌∷◌, ◌++◌, length, take, drop}
use Rattle.core_expr.specs.Tree.{Tree}
use Rattle.core_expr.specs.Put.{IsScoped}
use Rattle.term_bank.specs.Banks.{tree_at}
use Rattle.proof_checker.specs.declared.side.Side.{Side}
use Rattle.proof_checker.specs.declared.task.Adds.{Adds}
use Rattle.proof_checker.specs.declared.task.Adds.TheVariants.{Nothing, One, Both}
use Rattle.proof_checker.specs.declared.task.Part.{Part}

-- the trees of these numbers, the newest first, before g
abbrev pub side_from : List Tree → List Tree → List ℕ → List Tree
side_from ts g [] = g
side_from ts g (x ∷ xs) = side_from ts (tree_at ts x ∷ g) xs

abbrev pub side : List Tree → List ℕ → List Tree
side ts xs = side_from ts [] xs

-- a side of the sequent: what stands on its trail from its base on
abbrev pub seen : List Tree → Side → List Tree
seen ts s = side ts (drop s.base s.trail)

-- closed trees of the bank
abbrev pub AreFormulas : List Tree → List ℕ → Type 0
AreFormulas ts [] = Unit {0}
AreFormulas ts (x ∷ xs) = ((x < length ts) × IsScoped 0 (tree_at ts x)) × AreFormulas ts xs

-- a side with what a premise adds
abbrev pub added : List Tree → Adds → List Tree → List Tree
added ts Nothing g = g
added ts (One a) g = tree_at ts a ∷ g
added ts (Both a b) g = tree_at ts a ∷ tree_at ts b ∷ g

-- what a premise puts on a trail, the newest last
abbrev pub adds_list : Adds → List ℕ
adds_list Nothing = []
adds_list (One a) = a ∷ []
adds_list (Both a b) = b ∷ a ∷ []

abbrev pub AddsBelow : ℕ → Adds → Type 0
AddsBelow n Nothing = Unit {0}
AddsBelow n (One a) = a < n
AddsBelow n (Both a b) = (a < n) × (b < n)

abbrev pub AddsClosed : List Tree → Adds → Type 0
AddsClosed ts Nothing = Unit {0}
AddsClosed ts (One a) = IsScoped 0 (tree_at ts a)
AddsClosed ts (Both a b) = IsScoped 0 (tree_at ts a) × IsScoped 0 (tree_at ts b)

-- the side that a part stands for over a trail
abbrev pub part_side : List Tree → Part → List ℕ → List Tree
part_side ts p l = added ts p.adds (side ts (drop p.base (take p.count l)))

-- a part over a trail of which the numbers below `low` belong to other tasks
pub record IsPart (n low : ℕ) (p : Part) : Type 0 where
  pub base : p.base ≤ p.count
  pub above : low ≤ p.count
  pub adds : AddsBelow n p.adds

-- the trail has what a part says, and no more
pub record IsEntered (p : Part) (before : List ℕ) (s : Side) : Type 0 where
  pub base : s.base ≡ p.base
  pub trail : s.trail ≡ take p.count before ++ adds_list p.adds
