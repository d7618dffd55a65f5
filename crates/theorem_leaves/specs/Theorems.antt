-- What the functions that read theorems and units do.
use Rattle.std.specs.Prelude.{◌≡◌, ℕ, Bool, List, map, None}
use Rattle.tla_ast.specs.declared.place.Place.{Place}
use Rattle.tla_ast.specs.declared.unit.Proof.{Proof as source}
use Rattle.tla_ast.specs.declared.unit.Unit.{Unit as source_unit}
use Rattle.obligation.specs.declared.obligation.Definition.{Definition}
use Rattle.symbol_table.specs.declared.entry.Entry.{Entry}
use Rattle.symbol_table.specs.Symbols.{symbol_at}
use Rattle.plain_syntax.specs.Syntax.{statement_of, unit_of}
use Rattle.plain_syntax.specs.Syntax.{proof_of as plain_proof}
use Rattle.proof_contexts.specs.declared.leaf.Leaf.{Leaf}
use Rattle.proof_contexts.specs.Contexts.{Context, with_goal, with_items}
use Rattle.proof_contexts.specs.Expansion.{has_number}
use Rattle.proof_contexts.specs.Leaves.{leaves}
use Rattle.proof_contexts.specs.Theorems.{Known}
use Rattle.known_facts.specs.declared.item.Statement.{Statement}
use Rattle.known_facts.specs.Shown.{items_of}
use Rattle.known_facts.specs.Clean.{definitions_of}
use Rattle.usable_facts.specs.Proofs.{proof_of}
use Rattle.usable_facts.specs.Definitions.{Means}
use Rattle.usable_facts.specs.Theorems.{theorem_of}
use Rattle.theorem_leaves.specs.Homes as homes
use Rattle.theorem_leaves.specs.declared.chapter.TheoremLeaves.{TheoremLeaves}
use Rattle.theorem_leaves.specs.declared.units.Setting.{Setting}
use Rattle.theorem_leaves.specs.declared.units.Written.{Written}
use Rattle.theorem_leaves.specs.Chapters.{reported}
use Rattle.theorem_leaves.specs.Passing.{At, report_unit, tell_unit, pass_units}

module _ (s : Setting) where
  abbrev pub table : List Definition
  table = definitions_of s.table.now

  abbrev pub means : Means
  means = homes.means s.home

  abbrev pub entries : List Entry
  entries = homes.entries s.home

  abbrev pub is_theorem : ℕ → Bool
  is_theorem = has_number s.theorems.now.keys

  -- the leaves of the proof at a place, of a statement, where the context before it is c
  abbrev pub LeavesOf : List (Place × ℕ) → Place → source → Statement → Context → List Leaf → Type 0
  LeavesOf o p x st c ls =
      ls ≡ leaves table (proof_of means (symbol_at o) entries p 0 (plain_proof x)) (with_goal (with_items None (items_of st.items) c) st.goal)

  -- the theorem with its leaves, where so many theorems stand before it and these facts are known
  abbrev pub IsReported : ℕ → List Known → Written → TheoremLeaves → Type 0
  IsReported i ks w r =
      r ≡ reported table is_theorem w.name.now w.place
      (theorem_of entries means i ks w.place w.name.now (statement_of w.statement.now) (plain_proof w.proof.now))

  abbrev pub reported_unit : source_unit → At → At
  reported_unit x = report_unit table is_theorem entries means (unit_of x).place (unit_of x).kind

  abbrev pub told_unit : source_unit → At → At
  told_unit x = tell_unit table is_theorem entries means (unit_of x).kind

  abbrev pub passed_units : List source_unit → At → At
  passed_units xs = pass_units table is_theorem entries means (map unit_of xs)
