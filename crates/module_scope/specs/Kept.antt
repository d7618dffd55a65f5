-- What the code keeps of a scope.
use Rattle.std.specs.Prelude.{◌≡◌, ℕ, Bool, nat_eq, List, [], ◌∷◌, ◌++◌, map}
use Rattle.std.specs.Borrow.{Bor}
use Rattle.std.specs.Cmp.Lexicographic.{pointwise}
use Rattle.indexmap.specs.IndexMap.{IndexMap, get}
use Rattle.module_scope.specs.declared.scope.Named.{Named}
use Rattle.module_scope.specs.Scope.{Scope, found}

-- the names as the definitions see them
abbrev pub in_scope : List Named → Scope
in_scope es = map (λ e. (e.name.now, e.number)) es

-- each name with what it meant before
abbrev pub Shadows : Scope → List Named → Type 0
Shadows before [] = Unit {0}
Shadows before (e ∷ es) = (e.shadowed ≡ found e.name.now before) × Shadows (before ++ (e.name.now, e.number) ∷ []) es

abbrev pub same_name : Bor (List ℕ) → Bor (List ℕ) → Bool
same_name x y = pointwise nat_eq x.now y.now

-- the table has the newest number of each name, and each name what it meant before
abbrev pub Kept : {S : Type 0} → IndexMap (Bor (List ℕ)) ℕ S → List Named → Type 0
Kept m es = ((q : Bor (List ℕ)) → get same_name m q ≡ found q.now (in_scope es)) × Shadows [] es
