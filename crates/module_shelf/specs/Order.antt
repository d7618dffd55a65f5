-- How the modules that are loaded stand.
use Rattle.std.specs.Prelude.{◌≡◌, ◌+◌, ◌≤◌, ◌<◌, Bool, true, false, ◌⊎◌, List, [], ◌∷◌, ◌++◌, length}
use Rattle.std.specs.List.{All}
use Rattle.tla_ast.specs.Word.{is_among}
use Rattle.tla_ast.specs.declared.place.Place.{Place}
use Rattle.tla_ast.specs.declared.unit.Module.{Module}
use Rattle.std_names.specs.Libraries.{is_library}
use Rattle.module_shelf.specs.Loading.{Text, has}

-- an extended name means a library module, or one of these
abbrev pub IsMet : List Module → Text × Place → Type 0
IsMet ms e = (is_library e.0 ≡ true) ⊎ (has ms e.0 ≡ true)

-- Each of the modules `ms` extends libraries and modules before it alone, those of `before` among them, and none of those has its
-- name.
abbrev pub StandBehind : List Module → List Module → Type 0
StandBehind before [] = Unit {0}
StandBehind before (m ∷ ms) = All (IsMet before) m.extends × (has before m.name ≡ false) × StandBehind (before ++ m ∷ []) ms

-- Each module stands behind all that it extends, no two have one name, the root is the last, and there are 64 at most.
pub record IsOrdered (root : Text) (ms : List Module) : Type 0 where
  pub order : StandBehind [] ms
  pub last : (front : List Module) × (m : Module) × (ms ≡ front ++ m ∷ []) × (m.name ≡ root)
  pub few : length ms ≤ 64

-- where a walk stands: the complete modules are in order, none of them is on the path, and 64 at most were begun
pub record Fine (path : List Text) (done : List Module) : Type 0 where
  pub order : StandBehind [] done
  pub apart : (name : Text) → is_among path name ≡ true → has done name ≡ false
  pub few : length path + length done ≤ 64

-- the modules that were complete still are
abbrev pub Still : List Module → List Module → Type 0
Still old new = (name : Text) → has old name ≡ true → has new name ≡ true

-- what a module's completion leaves: it is the last one
pub record Reached (path : List Text) (m : Module) (old new : List Module) : Type 0 where
  pub fine : Fine path new
  pub last : (front : List Module) × (new ≡ front ++ m ∷ [])
  pub kept : Still old new

-- what the visit of an extended name leaves: it is met
pub record Visited (path : List Text) (e : Text × Place) (old new : List Module) : Type 0 where
  pub fine : Fine path new
  pub met : IsMet new e
  pub kept : Still old new

-- a module of this name may begin: it is neither on the path nor complete, and fewer than 64 were begun
abbrev pub MayBegin : List Text → List Module → Text → Type 0
MayBegin path done name = (is_among path name ≡ false) × (has done name ≡ false) × (length path + length done < 64)

-- what is so where an extended name asks for a module, or not
abbrev pub Asked : List Text → List Module → Text × Place → Bool → Type 0
Asked path done e false = IsMet done e
Asked path done e true = MayBegin path done e.0
