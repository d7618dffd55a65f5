-- What the code keeps of the names that are seen.
use Rattle.std.specs.Prelude.{◌≡◌, ℕ, Bool, nat_eq, ◌&&◌, List, [], ◌∷◌, ◌++◌, map}
use Rattle.std.specs.Borrow.{Bor}
use Rattle.std.specs.Cmp.Lexicographic.{pointwise}
use Rattle.indexmap.specs.IndexMap.{IndexMap, get}
use Rattle.proof_outline.specs.declared.scope.Named.{Named}
use Rattle.proof_outline.specs.Outline.{Name, Seen, found}

-- a name whose label is borrowed
abbrev pub Key : Type 0
Key = ℕ × Bor (List ℕ)

abbrev pub name_of : Key → Name
name_of k = (k.0, k.1.now)

-- the names as the definitions see them
abbrev pub in_scope : List Named → Seen
in_scope es = map (λ e. (name_of e.name, e.number)) es

-- each name with the step that it meant before
abbrev pub Shadows : Seen → List Named → Type 0
Shadows before [] = Unit {0}
Shadows before (e ∷ es) = (e.shadowed ≡ found (name_of e.name) before) × Shadows (before ++ (name_of e.name, e.number) ∷ []) es

abbrev pub same_key : Key → Key → Bool
same_key x y = nat_eq x.0 y.0 && pointwise nat_eq x.1.now y.1.now

-- the table has the newest step of each name, and each name what it meant before
abbrev pub Kept : {S : Type 0} → IndexMap Key ℕ S → List Named → Type 0
Kept m es = ((q : Key) → get same_key m q ≡ found (name_of q) (in_scope es)) × Shadows [] es
