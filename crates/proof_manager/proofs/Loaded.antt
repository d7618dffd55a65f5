-- Modules that are loaded: the places of their names, and their own names.
use Rattle.std.proofs.Common.{◌≡◌, ℕ, zero, suc, Bool, true, false, List, [], ◌∷◌, ◌++◌, map, Option, Some, None, Result, Ok, Err, if◌then◌else◌, refl, ap, subst, ◌∙◌}
use Rattle.std.specs.Prelude.{nat_eq}
use Rattle.std.specs.Cmp.Lexicographic.{pointwise}
use Rattle.std.specs.Str.{bytes_eq}
use Rattle.std.proofs.lemmas.Bool.{or_parts}
use Rattle.tla_io.specs.Told.{Bytes, Folder}
use Rattle.tla_ast.specs.declared.place.Place.{Place}
use Rattle.tla_ast.specs.declared.fault.Fault.{Fault}
use Rattle.tla_ast.specs.declared.unit.Module.{Module}
use Rattle.tla_ast.specs.declared.fault.Fault.TheVariants as fault
use Rattle.tla_ast.specs.declared.fault.Kind.TheVariants.{NameMismatch}
use Rattle.tla_ast.specs.Answers.{and_then}
use Rattle.tla_lexer.specs.Tokens.{tokens}
use Rattle.proof_parser.specs.Modules as reading
use Rattle.module_shelf.specs.Loading.{Text, named, Outcome, followed, has, module_in, read_as, module_at, find, asks, visit, visited, completed, loading}
use Rattle.module_shelf.specs.Order.{StandBehind, IsOrdered}
use Rattle.plain_syntax.specs.Syntax.{module_of}
use Rattle.name_places.specs.Places.{AllApart, module_places, NotNamed, PlacesDiffer, NamesDiffer}
use Rattle.reading_places.specs.Laws.{ReadPlacesDiffer}

-- ---- places

from-value : {A B : Type 0} (r : Outcome A) (next : A → Outcome B) (b : B) → followed r next ≡ Ok b → (a : A) × (r ≡ Ok a) × (next a ≡ Ok b)
from-value (Ok a) next b e = (a, refl, e)
from-value (Err f) next b e = absurd cc

-- no module of the list has two names at one place
abbrev AreFine : List Module → Type 0
AreFine ms = PlacesDiffer (map module_of ms)

abbrev IsFine : Module → Type 0
IsFine m = AllApart (module_places (module_of m))

with-last : (ms : List Module) (m : Module) → AreFine ms → IsFine m → AreFine (ms ++ m ∷ [])
with-last [] m h f = (f, tt)
with-last (n ∷ ms) m h f = (h.0, with-last ms m h.1 f)

-- where a reading has a value
from-reading : {A B : Type 0} (r : Result A Fault) (next : A → Result B Fault) (b : B) → and_then r next ≡ Ok b → (a : A) × (r ≡ Ok a) × (next a ≡ Ok b)
from-reading (Ok a) next b e = (a, refl, e)
from-reading (Err f) next b e = absurd cc

same-module : (name : Text) (m n : Module) → named name m ≡ Ok n → m ≡ n
same-module name m n e = go (bytes_eq m.name name) e
  where
    go : (b : Bool) → (if b then Ok m else Err (fault.At m.header NameMismatch)) ≡ Ok n → m ≡ n
    go true e = cc
    go false e = absurd cc

module _ (read : ReadPlacesDiffer) where
  in-fine : (name : Text) (text : Bytes) (m : Module) → module_in name text ≡ Ok m → IsFine m
  unfolding module_in
  in-fine name text m e =
      let a = from-reading (tokens text) _ m e in
      let ts = a.0 in
      let b = from-reading (reading.module_of ts.name ts.header ts.list) (named name) m a.2 in
      subst IsFine (same-module name b.0 m b.2) (read text ts b.0 a.1 b.1)

  read-fine : (name : Text) (text : Bytes) (r : Result Module Fault) (m : Module) → module_in name text ≡ r → read_as name r ≡ Ok m → IsFine m
  read-fine name text (Ok n) m e h = let same : n ≡ m = cc in in-fine name text m (e ∙ ap Ok same)
  read-fine name text (Err f) m e h = absurd cc

  at-fine : (name : Text) (text : Option Bytes) (m : Module) → module_at name text ≡ Ok m → IsFine m
  at-fine name None m e = absurd cc
  at-fine name (Some text) m e = read-fine name text (module_in name text) m refl e

  find-fine : (given : Option Bytes) (folder : Folder) (name : Text) (m : Module) → find given folder name ≡ Ok m → IsFine m
  find-fine None folder name m e = at-fine name _ m e
  find-fine (Some text) folder name m e = at-fine name (Some text) m e

  -- a step of the walk leaves fine modules where it finds fine ones
  abbrev Keeps : {A : Type 0} → (List Module → A → Outcome (List Module)) → Type 0
  Keeps {A} step = (done : List Module) (a : A) (ms : List Module) → AreFine done → step done a ≡ Ok ms → AreFine ms

  visit-fine : (folder : Folder) (path : List Text) (inside : Text) (go : Module → List Module → Outcome (List Module))
      → ((m : Module) (done ms : List Module) → IsFine m → AreFine done → go m done ≡ Ok ms → AreFine ms) → Keeps (visit folder path inside go)
  visit-fine folder path inside go keeps done e ms h r =
      let a = from-value (asks path done inside e) _ ms r in by-answer a.0 a.2
    where
      by-answer : (b : Bool) → (if b then followed (find None folder e.0) (λ m. go m done) else Ok done) ≡ Ok ms → AreFine ms
      by-answer true r = let m = from-value (find None folder e.0) (λ m. go m done) ms r in keeps m.0 done ms (find-fine None folder e.0 m.0 m.1) h m.2
      by-answer false r = let same : done ≡ ms = cc in subst AreFine same h

  visited-fine : (step : List Module → Text × Place → Outcome (List Module)) → Keeps step → (es : List (Text × Place)) (done ms : List Module) → AreFine done
      → visited step es done ≡ Ok ms → AreFine ms
  visited-fine step keeps [] done ms h r = let same : done ≡ ms = cc in subst AreFine same h
  visited-fine step keeps (e ∷ es) done ms h r =
      let a = from-value (step done e) (visited step es) ms r in visited-fine step keeps es a.0 ms (keeps done e a.0 h a.1) a.2

  completed-fine : (n : ℕ) (folder : Folder) (path : List Text) (m : Module) (done ms : List Module) → IsFine m → AreFine done → completed n folder path m done ≡ Ok ms → AreFine ms
  completed-fine zero folder path m done ms f h r = absurd cc
  completed-fine (suc n) folder path m done ms f h r =
      let now = path ++ m.name ∷ [] in
      let step = visit folder now m.name (completed n folder now) in
      let a = from-value (visited step m.extends done) (λ ms. Ok (ms ++ m ∷ [])) ms r in
      let all = visited-fine step (visit-fine folder now m.name (completed n folder now) (completed-fine n folder now)) m.extends done a.0 h a.1 in
      let same : a.0 ++ m ∷ [] ≡ ms = ok-is a.2 in
      subst AreFine same (with-last a.0 m all f)
    where
      ok-is : {xs ys : List Module} → ◌≡◌ {A = Outcome (List Module)} (Ok xs) (Ok ys) → xs ≡ ys
      ok-is e = cc

  pub loads-apart : (given : Option Bytes) (folder : Folder) (root : Text) (ms : List Module) → loading given folder root ≡ Ok ms → PlacesDiffer (map module_of ms)
  unfolding loading
  loads-apart given folder root ms r =
      let m = from-value (find given folder root) (λ m. completed 64 folder [] m []) ms r in
      completed-fine 64 folder [] m.0 [] ms (find-fine given folder root m.0 m.1) tt m.2

-- ---- names

in-front : (ms : List Module) (m : Module) (x : Text) → has (ms ++ m ∷ []) x ≡ false → (has ms x ≡ false) × (pointwise nat_eq m.name x ≡ false)
in-front [] m x e = (refl, (or_parts (pointwise nat_eq m.name x) false e).0)
in-front (n ∷ ms) m x e =
    let a = or_parts (pointwise nat_eq n.name x) (has (ms ++ m ∷ []) x) e in
    let b = in-front ms m x a.1 in
    (rw a.0 b.0, b.1)

not-named : (w : Text) (before ms : List Module) → ((x : Text) → has before x ≡ false → pointwise nat_eq w x ≡ false) → StandBehind before ms → NotNamed w (map module_of ms)
not-named w before [] h s = tt
not-named w before (m ∷ ms) h s = (h m.name s.1, not-named w (before ++ m ∷ []) ms (λ x e. h x (in-front before m x e).0) s.2)

stand-apart : (before ms : List Module) → StandBehind before ms → NamesDiffer (map module_of ms)
stand-apart before [] s = tt
stand-apart before (m ∷ ms) s = (not-named m.name (before ++ m ∷ []) ms (λ x e. (in-front before m x e).1) s.2, stand-apart (before ++ m ∷ []) ms s.2)

pub names-apart : (root : Text) (ms : List Module) → IsOrdered root ms → NamesDiffer (map module_of ms)
names-apart root ms o = stand-apart [] ms o.order
