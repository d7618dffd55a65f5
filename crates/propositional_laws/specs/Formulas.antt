-- Propositional formulas: what they are built of, their connectives, and the numbers of their symbols.
use Rattle.std.specs.Prelude.{◌≡◌, ◌<◌, ◌+◌, ℕ, suc, Bool, ◌&&◌, max, List, [], ◌∷◌}
use Rattle.core_expr.specs.declared.canon.Canon.{Canon}
use Rattle.core_expr.specs.declared.head.Sym.{Sym}
use Rattle.core_expr.specs.Tree.{Tree, Parts, true_, false_, not_, and_, or_, imp_, iff_}
use Rattle.core_expr.specs.Tree.Tree.{bound, app, node, bind}
use Rattle.core_expr.specs.Tree.Parts.{end, part}
use Rattle.core_expr.specs.Nodes.{canon_sym}
use Rattle.valuation.specs.Truth.{is_propositional, are_propositional}

-- A propositional formula: it is built of TRUE, FALSE and symbols without arguments by the five connectives.
pub data Formula : Tree → Type 0 where
  f_true : Formula true_
  f_false : Formula false_
  f_symbol : (s : Sym) → Formula (app s end)
  f_not : {a : Tree} → Formula a → Formula (not_ a)
  f_and : {a b : Tree} → Formula a → Formula b → Formula (and_ a b)
  f_or : {a b : Tree} → Formula a → Formula b → Formula (or_ a b)
  f_imp : {a b : Tree} → Formula a → Formula b → Formula (imp_ a b)
  f_iff : {a b : Tree} → Formula a → Formula b → Formula (iff_ a b)

-- each is a propositional formula
abbrev pub Formulas : List Tree → Type 0
Formulas [] = Unit {0}
Formulas (f ∷ fs) = Formula f × Formulas fs

-- the number of nodes with a connective on top
abbrev pub connectives : Tree → ℕ
connectives (not_ a) = suc (connectives a)
connectives (and_ a b) = suc (connectives a + connectives b)
connectives (or_ a b) = suc (connectives a + connectives b)
connectives (imp_ a b) = suc (connectives a + connectives b)
connectives (iff_ a b) = suc (connectives a + connectives b)
connectives _ = 0

-- those of facts and a goal together
abbrev pub all_connectives : List Tree → Tree → ℕ
all_connectives [] goal = connectives goal
all_connectives (f ∷ facts) goal = connectives f + all_connectives facts goal

-- the symbol of a canonical form with this number, without arguments
abbrev pub numbered : ℕ → Sym
numbered n = canon_sym n 0

-- the symbols without arguments are among the first n of a canonical form
abbrev pub IsNumbered : ℕ → Tree → Type 0
IsNumbered n (app s end) = (s ≡ numbered s.number) × (s.number < n)
IsNumbered n (not_ a) = IsNumbered n a
IsNumbered n (and_ a b) = IsNumbered n a × IsNumbered n b
IsNumbered n (or_ a b) = IsNumbered n a × IsNumbered n b
IsNumbered n (imp_ a b) = IsNumbered n a × IsNumbered n b
IsNumbered n (iff_ a b) = IsNumbered n a × IsNumbered n b
IsNumbered n _ = Unit {0}

-- so it is of each
abbrev pub AreNumbered : ℕ → List Tree → Type 0
AreNumbered n [] = Unit {0}
AreNumbered n (f ∷ fs) = IsNumbered n f × AreNumbered n fs

-- the facts and the goal are built of TRUE, FALSE, symbols without arguments and the five connectives
abbrev pub is_propositional_canon : Canon → Bool
is_propositional_canon c = are_propositional c.facts && is_propositional c.goal

abbrev mutual
  -- the least number from n on that is above those of the symbols
  pub above : Tree → ℕ → ℕ
  above (bound i) n = n
  above (app f ps) n = all_above ps (max n (suc f.number))
  above (node h ns ps) n = all_above ps n
  above (bind b ps e) n = above e (all_above ps n)

  -- the same for parts
  pub all_above : Parts → ℕ → ℕ
  all_above end n = n
  all_above (part e ps) n = all_above ps (above e n)

-- the same for a list
abbrev pub each_above : List Tree → ℕ → ℕ
each_above [] n = n
each_above (e ∷ es) n = each_above es (above e n)

-- how many symbols a canonical form has: they have the numbers from 0 on
abbrev pub symbol_count : Canon → ℕ
symbol_count c = above c.goal (each_above c.facts 0)

-- the formulas' symbols are canonical ones without arguments, with numbers below their count
abbrev pub HasNumbers : Canon → Type 0
HasNumbers c = AreNumbered (symbol_count c) c.facts × IsNumbered (symbol_count c) c.goal
