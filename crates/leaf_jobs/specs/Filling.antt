-- How the code fills in what leaves come to: it takes what is shown of the leaves that are to be proved from a list, in the order of the report.
use Rattle.std.specs.Prelude.{ℕ, Bool, true, false, List, [], ◌∷◌, map, Option}
use Rattle.core_expr.specs.declared.head.Sym.{Sym}
use Rattle.symbol_table.specs.declared.entry.Entry.{Entry}
use Rattle.proof_contexts.specs.declared.leaf.Leaf.{Leaf}
use Rattle.proof_contexts.specs.declared.leaf.LeafKind.{LeafKind}
use Rattle.proof_contexts.specs.declared.leaf.LeafKind.TheVariants as kind
use Rattle.proof_cache.specs.declared.verdict.Verdict.{Verdict}
use Rattle.theorem_leaves.specs.declared.chapter.TheoremLeaves.{TheoremLeaves}
use Rattle.theorem_leaves.specs.declared.chapter.Chapter.{Chapter}
use Rattle.status_report.specs.declared.table.Shown.{Shown}
use Rattle.status_report.specs.declared.table.Shown.TheVariants as shown
use Rattle.status_report.specs.declared.table.LeafIn.{LeafIn}
use Rattle.status_report.specs.declared.table.TheoremIn.{TheoremIn}
use Rattle.status_report.specs.declared.table.ModuleIn.{ModuleIn}
use Rattle.leaf_jobs.specs.Values.{symbol_text}
use Rattle.leaf_jobs.specs.Came.{shown_of, came_at}

-- what is shown of leaves with these names and these jobs
abbrev pub shown_all : List Entry → List (Option Verdict) → List (List Sym) → List ℕ → List Shown
shown_all es verdicts [] js = []
shown_all es verdicts (n ∷ ns) [] = []
shown_all es verdicts (n ∷ ns) (j ∷ js) = shown_of (map (symbol_text es) n) (came_at verdicts j) ∷ shown_all es verdicts ns js

-- the first, or Memory where none is left
abbrev pub next_shown : List Shown → Shown
next_shown [] = shown.Memory
next_shown (s ∷ ss) = s

abbrev pub rest_shown : List Shown → List Shown
rest_shown [] = []
rest_shown (s ∷ ss) = ss

abbrev pub shown_by : List Shown → LeafKind → Shown
shown_by ss (kind.Search o) = next_shown ss
shown_by ss kind.Missing = shown.Missing
shown_by ss kind.Omitted = shown.Omitted
shown_by ss kind.Temporal = shown.Temporal
shown_by ss kind.Shape = shown.Shape

abbrev pub rest_by : List Shown → LeafKind → List Shown
rest_by ss (kind.Search o) = rest_shown ss
rest_by ss _ = ss

abbrev pub leaf_by : List Shown → Leaf → LeafIn
leaf_by ss l = record { place = l.place; verdict = shown_by ss l.kind }

abbrev pub theorem_with : TheoremLeaves → List LeafIn → TheoremIn
theorem_with t ls = record { key = t.key; name = t.name; place = t.place; cited = t.cited; leaves = ls }

-- what comes of one, and behind it of the others, unless it stops
abbrev pub walk_on : {S Y : Type 0} → (Y × Bool) × S → (List Y × Bool) × S → (List Y × Bool) × S
walk_on r more = elim r.0.1 [ true ↦ ((r.0.0 ∷ [], true), r.1) | false ↦ ((r.0.0 ∷ more.0.0, more.0.1), more.1) ]

-- what comes of each, up to one that stops; whether one does; and what is left then
abbrev pub walk : {S X Y : Type 0} → (S → X → (Y × Bool) × S) → S → List X → (List Y × Bool) × S
walk step s [] = (([], false), s)
walk step s (x ∷ xs) = walk_on (step s x) (walk step (step s x).1 xs)

-- stops: which leaves end the run
module _ (stops : Shown → Bool) where
  abbrev pub leaf_step : List Shown → Leaf → (LeafIn × Bool) × List Shown
  leaf_step ss l = ((leaf_by ss l, stops (shown_by ss l.kind)), rest_by ss l.kind)

  abbrev pub leaves_by : List Shown → List Leaf → (List LeafIn × Bool) × List Shown
  leaves_by = walk leaf_step

  abbrev pub theorem_of : TheoremLeaves → (List LeafIn × Bool) × List Shown → (TheoremIn × Bool) × List Shown
  theorem_of t r = ((theorem_with t r.0.0, r.0.1), r.1)

  abbrev pub theorem_step : List Shown → TheoremLeaves → (TheoremIn × Bool) × List Shown
  theorem_step ss t = theorem_of t (leaves_by ss t.leaves)

  abbrev pub theorems_by : List Shown → List TheoremLeaves → (List TheoremIn × Bool) × List Shown
  theorems_by = walk theorem_step

  abbrev pub module_of : Chapter → (List TheoremIn × Bool) × List Shown → (ModuleIn × Bool) × List Shown
  module_of c r = ((record { name = c.name; theorems = r.0.0 }, r.0.1), r.1)

  abbrev pub module_step : List Shown → Chapter → (ModuleIn × Bool) × List Shown
  module_step ss c = module_of c (theorems_by ss c.theorems)

  abbrev pub modules_by : List Shown → List Chapter → (List ModuleIn × Bool) × List Shown
  modules_by = walk module_step
