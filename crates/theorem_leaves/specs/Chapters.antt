-- The modules with their theorems, each theorem with the leaves of its proof.
use Rattle.std.specs.Prelude.{◌≡◌, ℕ, suc, ◌+◌, Bool, List, [], ◌∷◌, ◌++◌, length, Option, option_map}
use Rattle.tla_ast.specs.declared.place.Place.{Place}
use Rattle.tla_ast.specs.declared.tree.Decl.{Decl}
use Rattle.obligation.specs.declared.obligation.Definition.{Definition}
use Rattle.symbol_table.specs.declared.entry.Entry.{Entry}
use Rattle.symbol_table.specs.Scoped.{Table, symbol}
use Rattle.plain_syntax.specs.Plain.{Text, Unit, UnitKind as u, Module}
use Rattle.proof_contexts.specs.Statuses.{cites}
use Rattle.proof_contexts.specs.Theorems.{Known, Theorem, theorem_leaves}
use Rattle.usable_facts.specs.Definitions.{Means, definitions_of}
use Rattle.usable_facts.specs.Theorems.{theorem_of, unit_adds, units_adds, Done, reaches, brought, chosen_keys, is_theorem_of, all_theorems}
use Rattle.theorem_leaves.specs.declared.chapter.TheoremLeaves.{TheoremLeaves}
use Rattle.theorem_leaves.specs.declared.chapter.Chapter.{Chapter}

abbrev pub name_of : Option Decl → Option Text
name_of = option_map (λ d. d.name)

-- table: the definitions of all modules; is_theorem: which keys are theorems'
module _ (table : List Definition) (is_theorem : ℕ → Bool) where
  -- a theorem with this name at this place
  abbrev pub reported : Option Decl → Place → Theorem → TheoremLeaves
  reported w p x =
      record { key = x.key; name = name_of w; place = p; cited = chosen_keys is_theorem (cites x.proof); leaves = theorem_leaves table x }

  module _ (entries : List Entry) where
    -- the theorem of a unit, if it is one; i: how many theorems stand before; known: what is known before
    abbrev pub unit_reported : Means → ℕ → List Known → Place → u → List TheoremLeaves
    unit_reported means i known p (u.theorem w s own) = reported w p (theorem_of entries means i known p w s own) ∷ []
    unit_reported means i known p _ = []

    abbrev pub units_reported : Means → ℕ → List Known → List Unit → List TheoremLeaves
    units_reported means i known [] = []
    units_reported means i known (x ∷ xs) =
        let ts = unit_reported means i known x.place x.kind in
        ts ++ units_reported means (i + length ts) (known ++ unit_adds entries means x.kind) xs

  -- the chapters of these modules; m: the number of the first, i: how many theorems stand before, ds: the modules before
  abbrev pub modules_reported : Table → ℕ → ℕ → List Done → List Module → List Chapter
  modules_reported t m i ds [] = []
  modules_reported t m i ds (x ∷ xs) =
      let ws = reaches ds x.extends in
      let ts = units_reported t.entries (symbol t m) i (brought ds ws) x.units in
      record { name = x.name; theorems = ts }
      ∷ modules_reported t (suc m) (i + length ts) (ds ++ record { name = x.name; reaches = ws; adds = units_adds t.entries (symbol t m) x.units } ∷ []) xs

-- the modules, whose names have these meanings, with their theorems and leaves
unfoldable pub chapters_of : List Module → Table → List Chapter
chapters_of ms t = modules_reported (definitions_of ms t) (is_theorem_of ms t) t 0 0 [] ms

-- ---- the theorems that are meant

-- what is told of a theorem: its key, the theorems that it cites and its leaves
pub record IsReportOf (table : List Definition) (is_theorem : ℕ → Bool) (r : TheoremLeaves) (x : Theorem) : Type 0 where
  pub key : r.key ≡ x.key
  pub cited : r.cited ≡ chosen_keys is_theorem (cites x.proof)
  pub leaves : r.leaves ≡ theorem_leaves table x

module _ (table : List Definition) (is_theorem : ℕ → Bool) where
  -- the same number, each in its place
  abbrev pub AreReports : List TheoremLeaves → List Theorem → Type 0
  AreReports [] [] = Prim.Unit {0}
  AreReports [] (x ∷ xs) = ⊥
  AreReports (r ∷ rs) [] = ⊥
  AreReports (r ∷ rs) (x ∷ xs) = IsReportOf table is_theorem r x × AreReports rs xs

-- the theorems of all chapters, one after another
abbrev pub reports_in : List Chapter → List TheoremLeaves
reports_in [] = []
reports_in (c ∷ cs) = c.theorems ++ reports_in cs

-- The theorems of the chapters are told of the theorems of the modules, one after another.
abbrev pub ChaptersReport : Type 0
ChaptersReport =
    (ms : List Module) (t : Table)
    → AreReports (definitions_of ms t) (is_theorem_of ms t) (reports_in (chapters_of ms t)) (all_theorems ms t)
