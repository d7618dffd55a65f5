-- Where the first failed leaf ends a run.
use Rattle.std.specs.Prelude.{Bool, true, false, ◌&&◌, List, [], ◌∷◌}
use Rattle.status_report.specs.declared.table.Shown.{Shown}
use Rattle.status_report.specs.declared.table.Shown.TheVariants as shown
use Rattle.status_report.specs.declared.table.LeafIn.{LeafIn}
use Rattle.status_report.specs.declared.table.TheoremIn.{TheoremIn}
use Rattle.status_report.specs.declared.table.ModuleIn.{ModuleIn}

-- A leaf has failed where its search ended without a proof or found no memory, or its goal has not the form that its step asks for. A
-- temporal, omitted or missing one has not.
abbrev pub has_failed : Shown → Bool
has_failed (shown.Saturated turns values) = true
has_failed (shown.Spent turns) = true
has_failed shown.Memory = true
has_failed shown.Shape = true
has_failed _ = false

-- The first behind which nothing is left out goes on; the one that stops is the last. The second of the two says whether one stops.
abbrev pub front_and : {A : Type 0} → A × Bool → List A × Bool → List A × Bool
front_and x rest = elim x.1 [ true ↦ (x.0 ∷ [], true) | false ↦ (x.0 ∷ rest.0, rest.1) ]

-- up to the first that stops, which may itself be cut
abbrev pub front : {A : Type 0} → (A → A × Bool) → List A → List A × Bool
front cut [] = ([], false)
front cut (x ∷ xs) = front_and (cut x) (front cut xs)

-- stops: which leaves end the run
module _ (stops : Shown → Bool) where
  abbrev pub cut_leaf : LeafIn → LeafIn × Bool
  cut_leaf l = (l, stops l.verdict)

  abbrev pub with_leaves : TheoremIn → List LeafIn × Bool → TheoremIn × Bool
  with_leaves t r = (record { key = t.key; name = t.name; place = t.place; cited = t.cited; leaves = r.0 }, r.1)

  abbrev pub cut_theorem : TheoremIn → TheoremIn × Bool
  cut_theorem t = with_leaves t (front cut_leaf t.leaves)

  abbrev pub with_theorems : ModuleIn → List TheoremIn × Bool → ModuleIn × Bool
  with_theorems m r = (record { name = m.name; theorems = r.0 }, r.1)

  abbrev pub cut_module : ModuleIn → ModuleIn × Bool
  cut_module m = with_theorems m (front cut_theorem m.theorems)

  -- all leaves behind the first that stops are left out, all theorems behind its theorem and all modules behind its module
  abbrev pub cut : List ModuleIn → List ModuleIn × Bool
  cut ms = front cut_module ms

-- with `stop` a failed leaf ends the run
abbrev pub stops : Bool → Shown → Bool
stops stop s = stop && has_failed s

-- what is reported, and whether the report is stopped: with `stop` up to the first failed leaf, which is the last
abbrev pub reported : Bool → List ModuleIn → List ModuleIn × Bool
reported stop ms = cut (stops stop) ms
