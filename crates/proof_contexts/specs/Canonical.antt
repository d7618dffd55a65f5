-- The canonical form of an obligation: its different facts and its goal, with symbols numbered by first occurrence.
use Rattle.std.specs.Prelude.{ℕ, suc, Bool, false, ◌||◌, cond, List, [], ◌∷◌, ◌++◌, map}
use Rattle.core_expr.specs.declared.head.Sym.{Sym}
use Rattle.core_expr.specs.declared.canon.Canon.{Canon}
use Rattle.core_expr.specs.Tree.{Tree, Parts, size}
use Rattle.core_expr.specs.Tree.Tree.{bound, app, node, bind}
use Rattle.core_expr.specs.Tree.Parts.{end, part}
use Rattle.core_expr.specs.Nodes.{canon_sym}
use Rattle.core_expr.specs.Terms.{same, same_sym}
use Rattle.obligation.specs.declared.obligation.Obligation.{Obligation}
use Rattle.obligation.specs.Unfolding.{unfolded}

-- the symbol, of this kind, number and arity, is one of these
abbrev pub is_listed : List Sym → Sym → Bool
is_listed [] f = false
is_listed (x ∷ xs) f = same_sym x f || is_listed xs f

-- a symbol behind others, where it is none of them
abbrev pub with_symbol : Sym → List Sym → List Sym
with_symbol f xs = cond (is_listed xs f) xs (xs ++ f ∷ [])

-- the symbols of an expression behind others, each once, by first occurrence in prefix order
abbrev mutual
  pub gathered : Tree → List Sym → List Sym
  gathered (bound i) xs = xs
  gathered (app f ps) xs = all_gathered ps (with_symbol f xs)
  gathered (node h ns ps) xs = all_gathered ps xs
  gathered (bind b ps e) xs = gathered e (all_gathered ps xs)

  pub all_gathered : Parts → List Sym → List Sym
  all_gathered end xs = xs
  all_gathered (part e ps) xs = all_gathered ps (gathered e xs)

-- the same of expressions, one after another
abbrev pub each_gathered : List Tree → List Sym → List Sym
each_gathered [] xs = xs
each_gathered (e ∷ es) xs = each_gathered es (gathered e xs)

-- the symbols of facts and then of a goal, each once, by first occurrence: the symbol of each number of the canonical form
abbrev pub symbols_of : List Tree → Tree → List Sym
symbols_of fs g = gathered g (each_gathered fs [])

-- the place of a symbol in the list
abbrev pub place_of : List Sym → Sym → ℕ
place_of [] f = 0
place_of (x ∷ xs) f = cond (same_sym x f) 0 (suc (place_of xs f))

-- each symbol as the canonical symbol of its place, whose arity is the number of its arguments
abbrev mutual
  pub numbered : List Sym → Tree → Tree
  numbered xs (bound i) = bound i
  numbered xs (app f ps) = app (canon_sym (place_of xs f) (size ps)) (all_numbered xs ps)
  numbered xs (node h ns ps) = node h ns (all_numbered xs ps)
  numbered xs (bind b ps e) = bind b (all_numbered xs ps) (numbered xs e)

  pub all_numbered : List Sym → Parts → Parts
  all_numbered xs end = end
  all_numbered xs (part e ps) = part (numbered xs e) (all_numbered xs ps)

-- one of the formulas is equal to this one
abbrev pub has_equal : List Tree → Tree → Bool
has_equal [] f = false
has_equal (x ∷ xs) f = same x f || has_equal xs f

-- the formulas that are equal to none of those seen and to none before them
abbrev pub distinct : List Tree → List Tree → List Tree
distinct seen [] = []
distinct seen (f ∷ fs) = cond (has_equal seen f) (distinct seen fs) (f ∷ distinct (f ∷ seen) fs)

-- different facts and a goal, over the symbols with these numbers
abbrev pub numbered_canon : List Sym → List Tree → Tree → Canon
numbered_canon xs fs g = record { facts = map (numbered xs) fs; goal = numbered xs g }

-- the canonical form of facts and a goal
abbrev pub canon_of : List Tree → Tree → Canon
canon_of fs g = numbered_canon (symbols_of (distinct [] fs) g) (distinct [] fs) g

-- that of an obligation, whose definitions are unfolded everywhere
abbrev pub obligation_canon : Obligation → Canon
obligation_canon o = canon_of (map (unfolded o.defs) o.facts) (unfolded o.defs o.goal)
