-- What the leaves of theorems come to, by what the jobs of their canonical forms come to.
use Rattle.std.specs.Prelude.{List, map}
use Rattle.core_expr.specs.declared.canon.Canon.{Canon}
use Rattle.symbol_table.specs.declared.entry.Entry.{Entry}
use Rattle.proof_contexts.specs.declared.leaf.Leaf.{Leaf}
use Rattle.proof_contexts.specs.declared.leaf.LeafKind.{LeafKind}
use Rattle.proof_contexts.specs.declared.leaf.LeafKind.TheVariants as kind
use Rattle.canonical_form.specs.declared.form.Named.{Named}
use Rattle.theorem_leaves.specs.declared.chapter.TheoremLeaves.{TheoremLeaves}
use Rattle.theorem_leaves.specs.declared.chapter.Chapter.{Chapter}
use Rattle.status_report.specs.declared.table.Shown.{Shown}
use Rattle.status_report.specs.declared.table.Shown.TheVariants as shown
use Rattle.status_report.specs.declared.table.LeafIn.{LeafIn}
use Rattle.status_report.specs.declared.table.TheoremIn.{TheoremIn}
use Rattle.status_report.specs.declared.table.ModuleIn.{ModuleIn}
use Rattle.leaf_jobs.specs.Values.{symbol_text}
use Rattle.leaf_jobs.specs.Came.{Came, shown_of}
use Rattle.leaf_jobs.specs.Forms.{named}

-- came: what the jobs of canonical forms come to; es: the names of symbols
module _ (came : Canon → Came) (es : List Entry) where
  -- what is shown of a leaf that is to be proved, with its own names
  abbrev pub shown_form : Named → Shown
  shown_form n = shown_of (map (symbol_text es) n.names) (came n.canon)

  abbrev pub judged_kind : LeafKind → Shown
  judged_kind (kind.Search o) = shown_form (named o)
  judged_kind kind.Missing = shown.Missing
  judged_kind kind.Omitted = shown.Omitted
  judged_kind kind.Temporal = shown.Temporal
  judged_kind kind.Shape = shown.Shape

  abbrev pub judged_leaf : Leaf → LeafIn
  judged_leaf l = record { place = l.place; verdict = judged_kind l.kind }

  abbrev pub judged_theorem : TheoremLeaves → TheoremIn
  judged_theorem t = record { key = t.key; name = t.name; place = t.place; cited = t.cited; leaves = map judged_leaf t.leaves }

  abbrev pub judged_module : Chapter → ModuleIn
  judged_module c = record { name = c.name; theorems = map judged_theorem c.theorems }

  -- the modules with what the leaves of their theorems come to
  abbrev pub judged : List Chapter → List ModuleIn
  judged cs = map judged_module cs
