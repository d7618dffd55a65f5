-- Definitions unfolded, those of some numbers or all, and a symbol turned into a bound variable.
use Rattle.std.specs.Prelude.{ℕ, suc, ◌<◌, Bool, false, ◌||◌, cond, nat_eq, List, [], ◌∷◌}
use Rattle.core_expr.specs.declared.head.Sym.{Sym}
use Rattle.core_expr.specs.Tree.{Tree, Parts}
use Rattle.core_expr.specs.Tree.Tree.{bound, app, node, bind}
use Rattle.core_expr.specs.Tree.Parts.{end, part}
use Rattle.core_expr.specs.Put.{put}
use Rattle.core_expr.specs.Terms.{same_sym}
use Rattle.obligation.specs.declared.obligation.Definition.{Definition}
use Rattle.obligation.specs.Unfolding.{unfolded}

-- the number is one of these
abbrev pub has_number : List ℕ → ℕ → Bool
has_number [] k = false
has_number (x ∷ xs) k = nat_eq x k || has_number xs k

-- of definitions in order of declaration, those whose symbols have one of these numbers
abbrev pub chosen : List ℕ → List Definition → List Definition
chosen u [] = []
chosen u (d ∷ ds) = cond (has_number u d.symbol.number) (d ∷ chosen u ds) (chosen u ds)

-- the body of a definition over the arguments, where its symbol is the head of the expression
abbrev pub unfold_top : Definition → Tree → Tree
unfold_top d (app f ps) = cond (same_sym d.symbol f) (put 0 ps d.body) (app f ps)
unfold_top d (bound i) = bound i
unfold_top d (node h ns ps) = node h ns ps
unfold_top d (bind b ps e) = bind b ps e

-- the head unfolded, the last definition first, until it is the symbol of none of these
abbrev pub unfold_head : List Definition → Tree → Tree
unfold_head [] e = e
unfold_head (d ∷ ds) e = unfold_top d (unfold_head ds e)

-- the full expansion: every definition of the table unfolded
abbrev pub full : List Definition → Tree → Tree
full table e = unfolded table e

-- a symbol without arguments, as an expression
abbrev pub name : Sym → Tree
name c = app c end

-- the symbol c without arguments becomes the variable of a binder that is put round the closed expression, d binders inside it
abbrev mutual
  pub abstract_at : Sym → ℕ → Tree → Tree
  abstract_at c d (bound i) = bound i
  abstract_at c d (app f end) = cond (same_sym c f) (bound d) (app f end)
  abstract_at c d (app f (part e ps)) = app f (part (abstract_at c d e) (abstracts_at c d ps))
  abstract_at c d (node h ns ps) = node h ns (abstracts_at c d ps)
  abstract_at c d (bind b ps e) = bind b (abstracts_at c d ps) (abstract_at c (suc d) e)

  pub abstracts_at : Sym → ℕ → Parts → Parts
  abstracts_at c d end = end
  abstracts_at c d (part e ps) = part (abstract_at c d e) (abstracts_at c d ps)

-- the body of a binder over the closed expression, with its variable for the symbol
abbrev pub abstract : Sym → Tree → Tree
abstract c e = abstract_at c 0 e

-- ---- ranks: an order in which symbols are declared

module _ (rank : Sym → ℕ) where
  -- every symbol has a rank below n
  abbrev mutual
    pub IsBelow : ℕ → Tree → Type 0
    IsBelow n (bound i) = Unit {0}
    IsBelow n (app f ps) = (rank f < n) × AreBelow n ps
    IsBelow n (node h ns ps) = AreBelow n ps
    IsBelow n (bind b ps e) = AreBelow n ps × IsBelow n e

    pub AreBelow : ℕ → Parts → Type 0
    AreBelow n end = Unit {0}
    AreBelow n (part e ps) = IsBelow n e × AreBelow n ps
