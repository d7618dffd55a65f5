-- The spans of an expression: for each of its nodes, in the same order, how many nodes the subtree of that node has.
use Rattle.std.specs.Prelude.{ℕ, zero, suc, ◌+◌, ◌-◌, List, [], ◌∷◌, ◌++◌, length}
use Rattle.std.proofs.Common.{get_or}
use Rattle.core_expr.specs.declared.row.Row.{Row}
use Rattle.core_expr.specs.declared.row.RowKind.{RowKind}
use Rattle.core_expr.specs.declared.row.RowKind.TheVariants.{Binding}
use Rattle.core_expr.specs.Tree.{Tree, Parts}
use Rattle.core_expr.specs.Tree.Tree.{bound, app, node, bind}
use Rattle.core_expr.specs.Tree.Parts.{end, part}
use Rattle.core_expr.specs.Terms.{nodes, nodes_of}
use Rattle.core_expr.specs.Heads.{front, back}
use Rattle.core_expr.specs.Flat.{rows_at, rows_of}

abbrev mutual
  pub spans_of : Tree → List ℕ
  spans_of (bound i) = 1 ∷ []
  spans_of (app f ps) = all_spans ps ++ suc (nodes_of ps) ∷ []
  spans_of (node h ns ps) = all_spans ps ++ suc (nodes_of ps) ∷ []
  spans_of (bind b ps e) = all_spans ps ++ (spans_of e ++ suc (nodes_of ps + nodes e) ∷ [])

  pub all_spans : Parts → List ℕ
  all_spans end = []
  all_spans (part e ps) = spans_of e ++ all_spans ps

-- the number of nodes of these trees
abbrev pub nodes_in : List Tree → ℕ
nodes_in [] = 0
nodes_in (t ∷ ts) = nodes t + nodes_in ts

-- the spans of these trees, one after another
abbrev pub spans_in : List Tree → List ℕ
spans_in [] = []
spans_in (t ∷ ts) = spans_of t ++ spans_in ts

-- the nodes of these trees, one after another
abbrev pub rows_in : List Tree → List Row
rows_in [] = []
rows_in (t ∷ ts) = rows_of t ++ rows_in ts

-- the nodes of the parts under a node of this kind: a binder's body, its last part, stands under one binder
abbrev pub rows_under : RowKind → List Tree → List Row
rows_under (Binding b) ts = rows_in (front ts) ++ rows_at 1 (back ts)
rows_under k ts = rows_in ts

-- where the last n subtrees before a place begin
abbrev pub back_over : List ℕ → ℕ → ℕ → ℕ
back_over spans zero place = place
back_over spans (suc n) place = back_over spans n (place - get_or spans (place - 1) 0)

-- the spans so far and then those of the nodes
abbrev pub spans_from : List ℕ → List Row → List ℕ
spans_from spans [] = spans
spans_from spans (r ∷ rs) = spans_from (spans ++ suc (length spans - back_over spans r.parts (length spans)) ∷ []) rs
