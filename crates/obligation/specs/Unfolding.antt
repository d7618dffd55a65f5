-- Definitions unfolded in an expression.
use Rattle.std.specs.Prelude.{◌≡◌, Bool, false, ◌||◌, List, [], ◌∷◌}
use Rattle.core_expr.specs.declared.head.Sym.{Sym}
use Rattle.core_expr.specs.Tree.{Tree, Parts}
use Rattle.core_expr.specs.Tree.Tree.{bound, app, node, bind}
use Rattle.core_expr.specs.Tree.Parts.{end, part}
use Rattle.core_expr.specs.Terms.{same_sym}
use Rattle.core_expr.specs.Put.{sub}
use Rattle.core_expr.specs.Rename.{named}
use Rattle.obligation.specs.declared.obligation.Definition.{Definition}

-- the body of a definition for its symbol
abbrev pub put_in : Definition → Tree → Tree
put_in d e = sub (named ((d.symbol, d.body) ∷ [])) e

-- the definitions unfolded, the last of them first
abbrev pub unfolded : List Definition → Tree → Tree
unfolded [] e = e
unfolded (d ∷ ds) e = put_in d (unfolded ds e)

-- ---- what it comes to

-- one of the definitions has this symbol
abbrev pub is_defined : List Definition → Sym → Bool
is_defined [] f = false
is_defined (d ∷ ds) f = same_sym d.symbol f || is_defined ds f

-- none of these symbols stands in the expression
module _ (among : Sym → Bool) where
  abbrev mutual
    pub Avoids : Tree → Type 0
    Avoids (bound i) = Unit {0}
    Avoids (app f ps) = (among f ≡ false) × AllAvoid ps
    Avoids (node h ns ps) = AllAvoid ps
    Avoids (bind b ps e) = AllAvoid ps × Avoids e

    pub AllAvoid : Parts → Type 0
    AllAvoid end = Unit {0}
    AllAvoid (part e ps) = Avoids e × AllAvoid ps

-- each body mentions definitions before it alone, of these
abbrev pub InOrder : List Definition → Type 0
InOrder [] = Unit {0}
InOrder (d ∷ ds) = Avoids (is_defined (d ∷ ds)) d.body × InOrder ds

-- of definitions in such an order, unfolding leaves no symbol
abbrev pub NoneIsLeft : Type 0
NoneIsLeft = (ds : List Definition) (e : Tree) → InOrder ds → Avoids (is_defined ds) (unfolded ds e)
