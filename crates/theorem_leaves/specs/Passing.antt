-- The pass over units and modules, in the steps of the code.
use Rattle.std.specs.Prelude.{◌≡◌, ℕ, suc, ◌+◌, Bool, List, [], ◌∷◌, ◌++◌, map, length}
use Rattle.tla_ast.specs.declared.place.Place.{Place}
use Rattle.obligation.specs.declared.obligation.Definition.{Definition}
use Rattle.symbol_table.specs.declared.entry.Entry.{Entry}
use Rattle.symbol_table.specs.Scoped.{Table, symbol}
use Rattle.plain_syntax.specs.Plain.{Text, Unit as written, UnitKind as u, Module}
use Rattle.proof_contexts.specs.Contexts.{Context}
use Rattle.proof_contexts.specs.Theorems.{Known, entry_of}
use Rattle.known_facts.specs.Shown.{context_of}
use Rattle.usable_facts.specs.Definitions.{Means}
use Rattle.usable_facts.specs.Theorems as usable
use Rattle.usable_facts.specs.Theorems.{unit_adds, units_adds, reaches, brought, is_reached}
use Rattle.theorem_leaves.specs.Additions.{known_of}
use Rattle.theorem_leaves.specs.declared.chapter.TheoremLeaves.{TheoremLeaves}
use Rattle.theorem_leaves.specs.declared.chapter.Chapter.{Chapter}
use Rattle.theorem_leaves.specs.declared.units.Reading.{Reading}
use Rattle.theorem_leaves.specs.declared.modules.Done.{Done}
use Rattle.theorem_leaves.specs.declared.modules.Modules.{Modules}
use Rattle.theorem_leaves.specs.Citations.{theorems_in}
use Rattle.theorem_leaves.specs.Chapters.{unit_reported, units_reported}

-- ---- units

-- the context between theorems: these facts are known, and no definition is usable
abbrev pub IsBase : List Known → Context → Type 0
IsBase known c = (c.known ≡ map entry_of known) × (c.defs ≡ [])

-- where a pass over units is: what was known before the module, what its units have added, how many theorems stand before, and those
-- of the module so far
pub record At : Type 0 where
  pub front : List Known
  pub adds : List Known
  pub before : ℕ
  pub theorems : List TheoremLeaves

-- the code is there
pub record IsAt (r : Reading) (a : At) : Type 0 where
  pub base : IsBase (a.front ++ a.adds) (context_of r.context)
  pub adds : map known_of r.adds ≡ a.adds
  pub before : r.before ≡ a.before
  pub theorems : r.theorems ≡ a.theorems

module _ (table : List Definition) (is_theorem : ℕ → Bool) (entries : List Entry) where
  -- after a unit's theorem, if it is one
  abbrev pub report_unit : Means → Place → u → At → At
  report_unit means p k a =
      record {
        front = a.front;
        adds = a.adds;
        before = a.before + theorems_in k;
        theorems = a.theorems ++ unit_reported table is_theorem entries means a.before (a.front ++ a.adds) p k;
      }

  -- after what a unit adds to what is known
  abbrev pub tell_unit : Means → u → At → At
  tell_unit means k a = record { front = a.front; adds = a.adds ++ unit_adds entries means k; before = a.before; theorems = a.theorems }

  abbrev pub pass_unit : Means → Place → u → At → At
  pass_unit means p k a =
      record {
        front = a.front;
        adds = a.adds ++ unit_adds entries means k;
        before = a.before + theorems_in k;
        theorems = a.theorems ++ unit_reported table is_theorem entries means a.before (a.front ++ a.adds) p k;
      }

  abbrev pub pass_units : Means → List written → At → At
  pass_units means [] a = a
  pass_units means (x ∷ xs) a = pass_units means xs (pass_unit means x.place x.kind a)

-- ---- modules

-- the same names, in any order and any number of times
abbrev pub HasNames : List Text → List Text → Type 0
HasNames vs ws = (w : Text) → is_reached vs w ≡ is_reached ws w

-- what is kept of a module
pub record IsDone (d : Done) (e : usable.Done) : Type 0 where
  pub name : d.name ≡ e.name
  pub reaches : HasNames d.reaches e.reaches
  pub adds : map known_of d.adds ≡ e.adds

abbrev pub AreDone : List Done → List usable.Done → Type 0
AreDone [] [] = Unit {0}
AreDone [] (e ∷ es) = ⊥
AreDone (d ∷ ds) [] = ⊥
AreDone (d ∷ ds) (e ∷ es) = IsDone d e × AreDone ds es

-- where a pass over modules is
pub record Passed : Type 0 where
  pub done : List usable.Done
  pub before : ℕ
  pub chapters : List Chapter

pub record IsPassed (m : Modules) (a : Passed) : Type 0 where
  pub done : AreDone m.done.items a.done
  pub before : m.before ≡ a.before
  pub chapters : m.chapters ≡ a.chapters

module _ (table : List Definition) (is_theorem : ℕ → Bool) (t : Table) where
  abbrev pub pass_module : ℕ → Module → Passed → Passed
  pass_module m x a =
      let ws = reaches a.done x.extends in
      let ts = units_reported table is_theorem t.entries (symbol t m) a.before (brought a.done ws) x.units in
      record {
        done = a.done ++ record { name = x.name; reaches = ws; adds = units_adds t.entries (symbol t m) x.units } ∷ [];
        before = a.before + length ts;
        chapters = a.chapters ++ record { name = x.name; theorems = ts } ∷ [];
      }

  abbrev pub pass_modules : ℕ → List Module → Passed → Passed
  pass_modules m [] a = a
  pass_modules m (x ∷ xs) a = pass_modules (suc m) xs (pass_module m x a)
