-- Metavariables by their numbers.
use Rattle.std.specs.Prelude.{◌≡◌, ℕ, Option, Some, None, List, [], ◌∷◌}
use Rattle.core_expr.specs.declared.head.Sym.{Sym}
use Rattle.core_expr.specs.Tree.{Tree}
use Rattle.core_expr.specs.Tree.Tree.{app}
use Rattle.core_expr.specs.Tree.Parts.{end}
use Rattle.core_expr.specs.Nodes.{canon_sym}
use Rattle.unifier_definition.specs.Metas.{meta_of}

-- the constants with these numbers
abbrev pub symbols : List ℕ → List Sym
symbols [] = []
symbols (n ∷ ns) = canon_sym n 0 ∷ symbols ns

-- the number of the metavariable that the term is
abbrev pub IsMeta : List Sym → Tree → Option ℕ → Type 0
IsMeta ms t None = meta_of ms t ≡ None
IsMeta ms t (Some n) = (meta_of ms t ≡ Some (canon_sym n 0)) × (t ≡ app (canon_sym n 0) end)
