-- Where a symbol does not stand, nothing is put in for it.
use Rattle.std.proofs.Common.{◌≡◌, ℕ, suc, ◌+◌, ◌<◌, ◌≤◌, Bool, true, false, ◌||◌, Option, Some, None, [], ◌∷◌, ◌++◌, length, drop, refl, ap, sym, ◌∙◌, arith}
use Rattle.std.specs.List.{list_any}
use Rattle.std.proofs.lemmas.List.{drop_all}
use Rattle.std.proofs.lemmas.List.Folds.{list_any-append}
use Rattle.std.proofs.Math.Seq.{drop-cons}
use Rattle.core_expr.specs.declared.head.Sym.{Sym}
use Rattle.core_expr.specs.declared.row.RowKind.TheVariants.{Bound, Symbol, Plain, Binding}
use Rattle.core_expr.specs.Tree.{Tree, Parts, size}
use Rattle.core_expr.specs.Tree.Tree.{bound, app, node, bind}
use Rattle.core_expr.specs.Tree.Parts.{end, part}
use Rattle.core_expr.specs.Heads.{table_numbers}
use Rattle.core_expr.specs.Flat.{row, rows_at, all_rows, rows_of, row_at}
use Rattle.core_expr.specs.Terms.{same_sym}
use Rattle.core_expr.specs.Put.{apply_body, sub, subs}
use Rattle.core_expr.specs.Rename.{named}
use Rattle.obligation.specs.Nodes.{is_symbol, is_node_of, mentions}

none-or : (x y : Bool) → (x || y) ≡ false → (x ≡ false) × (y ≡ false)
none-or true y e = cc
none-or false y e = (refl, e)

module _ (s : Sym) (body : Tree) where
  abbrev by-pair : Sym → Option Tree
  by-pair = named ((s, body) ∷ [])

  kept : (x : Bool) (f : Sym) (ps : Parts) → x ≡ false → apply_body (elim x as (λ _. Option Tree) [ true ↦ Some body | false ↦ None ]) f ps ≡ app f ps
  kept true f ps e = cc
  kept false f ps e = refl

  mutual
    pub absent : (d : ℕ) (t : Tree) → list_any (is_node_of s) (rows_at d t) ≡ false → sub by-pair t ≡ t
    absent d (bound i) e = refl
    absent d (app f ps) e =
        let v = none-or _ _ (sym (list_any-append (is_node_of s) (all_rows d ps) (row (Symbol f) [] (size ps) d ∷ [])) ∙ e) in
        ap (apply_body (by-pair f) f) (all-absent d ps v.0) ∙ kept (same_sym s f) f ps (none-or (same_sym s f) false v.1).0
    absent d (node h ns ps) e =
        let v = none-or _ _ (sym (list_any-append (is_node_of s) (all_rows d ps) (row (Plain h) (table_numbers h ns (size ps)) (size ps) d ∷ [])) ∙ e) in
        ap (node h ns) (all-absent d ps v.0)
    absent d (bind b ps q) e =
        let v = none-or _ _ (sym (list_any-append (is_node_of s) (all_rows d ps) (rows_at (suc d) q ++ row (Binding b) [] (suc (size ps)) d ∷ [])) ∙ e) in
        let u = none-or _ _ (sym (list_any-append (is_node_of s) (rows_at (suc d) q) (row (Binding b) [] (suc (size ps)) d ∷ [])) ∙ v.1) in
        (λ i. bind b (all-absent d ps v.0 i) (absent (suc d) q u.0 i))

    all-absent : (d : ℕ) (ps : Parts) → list_any (is_node_of s) (all_rows d ps) ≡ false → subs by-pair ps ≡ ps
    all-absent d end e = refl
    all-absent d (part q ps) e =
        let v = none-or _ _ (sym (list_any-append (is_node_of s) (rows_at d q) (all_rows d ps)) ∙ e) in
        (λ i. part (absent d q v.0 i) (all-absent d ps v.1 i))

-- one node after another
from-node : (s : Sym) (t : Tree) (i : ℕ) (b : Bool) → i < length (rows_of t) → is_symbol s (row_at t i).kind ≡ b → list_any (is_node_of s) (drop i (rows_of t)) ≡ (b || list_any (is_node_of s) (drop (i + 1) (rows_of t)))
from-node s t i b h f =
    let next : suc i ≡ i + 1 = omega arith in
    ap (list_any (is_node_of s)) (drop-cons (rows_of t) i (row Bound (0 ∷ []) 0 0) h) ∙ (λ j. f j || list_any (is_node_of s) (drop (next j) (rows_of t)))

pub found-at : (s : Sym) (t : Tree) (i : ℕ) → i < length (rows_of t) → list_any (is_node_of s) (drop i (rows_of t)) ≡ mentions s t → is_symbol s (row_at t i).kind ≡ true → mentions s t ≡ true
found-at s t i h e f = sym e ∙ from-node s t i true h f

pub passed-at : (s : Sym) (t : Tree) (i : ℕ) → i < length (rows_of t) → list_any (is_node_of s) (drop i (rows_of t)) ≡ mentions s t → is_symbol s (row_at t i).kind ≡ false
    → list_any (is_node_of s) (drop (i + 1) (rows_of t)) ≡ mentions s t
passed-at s t i h e f = sym (from-node s t i false h f) ∙ e

pub none-found : (s : Sym) (t : Tree) (i : ℕ) → length (rows_of t) ≤ i → list_any (is_node_of s) (drop i (rows_of t)) ≡ mentions s t → mentions s t ≡ false
none-found s t i h e = sym e ∙ ap (list_any (is_node_of s)) (drop_all i (rows_of t) h)
