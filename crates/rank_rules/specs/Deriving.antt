-- Formulas that say which function constructor some function is, by numbers.
use Rattle.std.specs.Prelude.{◌≡◌, ◌<◌, Bool, true, false, Option, Some, None, List, length}
use Rattle.core_expr.specs.Tree.{Tree}
use Rattle.term_bank.specs.Banks.{tree_at}
use Rattle.search_definition.specs.Equations.{Described}
use Rattle.rank_rules.specs.declared.derivation.Telling.{Telling}

-- what the numbers stand for
abbrev pub described_of : List Tree → Telling → Described
described_of ts x = record { formula = tree_at ts x.formula; function = tree_at ts x.function }

-- the numbers are those of this formula and function
pub record IsTold (ts : List Tree) (x : Telling) (d : Described) : Type 0 where
  pub formula : x.formula < length ts
  pub function : x.function < length ts
  pub is : described_of ts x ≡ d

-- there are numbers exactly where there is such a formula
abbrev pub IsDescribed : List Tree → Option Telling → Option Described → Type 0
IsDescribed ts None None = Unit {0}
IsDescribed ts (Some x) (Some d) = IsTold ts x d
IsDescribed ts None (Some d) = ⊥
IsDescribed ts (Some x) None = ⊥

-- the answer, where the entry is live
abbrev pub where_live : {A : Type 0} → Bool → Option A → Option A
where_live true o = o
where_live false o = None
