-- First differences by indices.
use Rattle.std.specs.Prelude.{◌≡◌, ℕ, ◌<◌, Bool, true, false, List, length}
use Rattle.core_expr.specs.declared.head.Sym.{Sym}
use Rattle.core_expr.specs.declared.head.Head.TheVariants.{Enum, Tuple}
use Rattle.core_expr.specs.declared.row.RowKind.{RowKind}
use Rattle.core_expr.specs.declared.row.RowKind.TheVariants.{Plain}
use Rattle.core_expr.specs.Tree.{Tree}
use Rattle.core_expr.specs.Tree.Tree.{app}
use Rattle.core_expr.specs.Tree.Parts.{end}
use Rattle.core_expr.specs.Nodes.{canon_sym}
use Rattle.unifier_definition.specs.Unify.{Difference, difference}
use Rattle.unifier_definition.specs.Unify.Difference.{Same, Clash, Bind}
use Rattle.term_bank.specs.Banks.{HasTree, tree_at}
use Rattle.unify_meta.specs.declared.disagreement.Assignment.{Assignment}
use Rattle.unify_meta.specs.declared.disagreement.Disagreement.{Disagreement}
use Rattle.unify_meta.specs.declared.disagreement.Disagreement.TheVariants.{Nowhere, Apart, Meta}
use Rattle.unify_meta.specs.declared.step.Step.{Step}
use Rattle.unify_meta.specs.declared.step.Step.TheVariants.{Here, Below}

-- a node of this kind counts its parts, which may be any number
abbrev pub is_listing : RowKind → Bool
is_listing (Plain Enum) = true
is_listing (Plain Tuple) = true
is_listing _ = false

-- the metavariable stands at its index, and the term is in the bank
pub record IsAssignment (ts : List Tree) (a : Assignment) : Type 0 where
  pub meta : HasTree ts a.meta (app (canon_sym a.name 0) end)
  pub term : a.term < length ts

-- the first difference, by indices
abbrev pub IsDisagreement : List Tree → Difference → Disagreement → Type 0
IsDisagreement ts d Nowhere = d ≡ Same
IsDisagreement ts d Apart = d ≡ Clash
IsDisagreement ts d (Meta a) = (d ≡ Bind (canon_sym a.name 0) (tree_at ts a.term)) × IsAssignment ts a

-- a step along the path from the terms at i and j to their first difference
abbrev pub IsStep : List Tree → List Sym → ℕ → ℕ → Step → Type 0
IsStep ts ms i j (Here d) = IsDisagreement ts (difference ms (tree_at ts i) (tree_at ts j)) d
IsStep ts ms i j (Below p q) = (p < i) × (q < j) × (difference ms (tree_at ts i) (tree_at ts j) ≡ difference ms (tree_at ts p) (tree_at ts q))
