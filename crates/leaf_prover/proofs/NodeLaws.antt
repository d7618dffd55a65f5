-- An expression is canonical where its nodes are.
use Rattle.std.proofs.Common.{◌≡◌, ℕ, suc, ◌+◌, ◌<◌, ◌≤◌, Bool, true, false, ◌&&◌, List, [], ◌∷◌, ◌++◌, length, drop, refl, ap, sym, ◌∙◌, arith}
use Rattle.std.specs.List.{list_all}
use Rattle.std.proofs.lemmas.List.Folds.{list_all-append}
use Rattle.std.proofs.lemmas.List.{drop_all}
use Rattle.std.proofs.Math.Seq.{drop-cons}
use Rattle.core_expr.specs.declared.row.Row.{Row}
use Rattle.core_expr.specs.declared.row.RowKind.TheVariants.{Bound, Symbol, Plain, Binding}
use Rattle.core_expr.specs.Tree.{Tree, Parts, size}
use Rattle.core_expr.specs.Tree.Tree.{bound, app, node, bind}
use Rattle.core_expr.specs.Tree.Parts.{end, part}
use Rattle.core_expr.specs.Heads.{table_numbers, is_canonical_kind, is_canonical, are_canonical}
use Rattle.core_expr.specs.Flat.{row, rows_at, all_rows, rows_of, row_at}

abbrev pub stands : Row → Bool
stands r = is_canonical_kind r.kind

last-node : (rs : List Row) (r : Row) → list_all stands (rs ++ r ∷ []) ≡ (stands r && list_all stands rs)
last-node rs r = list_all-append stands rs (r ∷ []) ∙ turned (list_all stands rs) (stands r)
  where
    turned : (a b : Bool) → (a && (b && true)) ≡ (b && a)
    turned true true = refl
    turned true false = refl
    turned false true = refl
    turned false false = refl

mutual
  nodes-tell : (d : ℕ) (t : Tree) → list_all stands (rows_at d t) ≡ is_canonical t
  nodes-tell d (bound i) = refl
  nodes-tell d (app f ps) = last-node (all_rows d ps) (row (Symbol f) [] (size ps) d) ∙ ap (λ b. stands (row (Symbol f) [] (size ps) d) && b) (all-tell d ps)
  nodes-tell d (node h ns ps) =
      last-node (all_rows d ps) (row (Plain h) (table_numbers h ns (size ps)) (size ps) d) ∙ ap (λ b. stands (row (Plain h) (table_numbers h ns (size ps)) (size ps) d) && b) (all-tell d ps)
  nodes-tell d (bind b ps e) =
      list_all-append stands (all_rows d ps) (rows_at (suc d) e ++ row (Binding b) [] (suc (size ps)) d ∷ [])
      ∙ (λ i. all-tell d ps i && (last-node (rows_at (suc d) e) (row (Binding b) [] (suc (size ps)) d) ∙ nodes-tell (suc d) e) i)

  all-tell : (d : ℕ) (ps : Parts) → list_all stands (all_rows d ps) ≡ are_canonical ps
  all-tell d end = refl
  all-tell d (part e ps) = list_all-append stands (rows_at d e) (all_rows d ps) ∙ (λ i. nodes-tell d e i && all-tell d ps i)

-- one node after another
from-node : (t : Tree) (i : ℕ) (b : Bool) → i < length (rows_of t) → is_canonical_kind (row_at t i).kind ≡ b → list_all stands (drop i (rows_of t)) ≡ (b && list_all stands (drop (i + 1) (rows_of t)))
from-node t i b h f =
    let next : suc i ≡ i + 1 = omega arith in
    ap (list_all stands) (drop-cons (rows_of t) i (row Bound (0 ∷ []) 0 0) h) ∙ (λ j. f j && list_all stands (drop (next j) (rows_of t)))

pub node-fails : (t : Tree) (i : ℕ) → i < length (rows_of t) → list_all stands (drop i (rows_of t)) ≡ list_all stands (rows_of t) → is_canonical_kind (row_at t i).kind ≡ false → is_canonical t ≡ false
node-fails t i h e f = sym (nodes-tell 0 t) ∙ sym e ∙ from-node t i false h f

pub node-passes : (t : Tree) (i : ℕ) → i < length (rows_of t) → list_all stands (drop i (rows_of t)) ≡ list_all stands (rows_of t)
    → is_canonical_kind (row_at t i).kind ≡ true → list_all stands (drop (i + 1) (rows_of t)) ≡ list_all stands (rows_of t)
node-passes t i h e f = sym (from-node t i true h f) ∙ e

pub all-passed : (t : Tree) (i : ℕ) → length (rows_of t) ≤ i → list_all stands (drop i (rows_of t)) ≡ list_all stands (rows_of t) → is_canonical t ≡ true
all-passed t i h e = sym (nodes-tell 0 t) ∙ sym e ∙ ap (list_all stands) (drop_all i (rows_of t) h)
