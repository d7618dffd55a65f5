-- One job for each different canonical form, in order of the first leaf.
use Rattle.std.specs.Prelude.{◌≡◌, ℕ, List, map, Some, slice_get}
use Rattle.std.specs.List.{AllZip}
use Rattle.core_expr.specs.declared.head.Sym.{Sym}
use Rattle.core_expr.specs.declared.canon.Canon.{Canon}
use Rattle.canonical_form.specs.declared.form.Named.{Named}

-- the canonical forms of leaves
abbrev pub canons_of : List Named → List Canon
canons_of = map (λ (l : Named). l.canon)

-- the names of leaves
abbrev pub names_of : List Named → List (List Sym)
names_of = map (λ (l : Named). l.names)

-- each leaf's number is the place of its canonical form among the jobs
abbrev pub ArePlaces : List Canon → List Canon → List ℕ → Type 0
ArePlaces jobs leaves places = AllZip (λ c j. slice_get jobs j ≡ Some c) leaves places
