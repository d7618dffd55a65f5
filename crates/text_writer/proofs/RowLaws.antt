-- Entering the nodes of an expression one by one enters its tree.
use Rattle.std.proofs.Common.{◌≡◌, ℕ, suc, ◌+◌, ◌-◌, ◌<◌, ◌≤◌, List, [], ◌∷◌, ◌++◌, length, drop, refl, ap, sym, ◌∙◌, arith, append_assoc, append-nil, length-append}
use Rattle.std.proofs.lemmas.List.{take_at, drop_at, at_drop_more, at_drop_all}
use Rattle.core_expr.specs.declared.row.Row.{Row}
use Rattle.core_expr.specs.declared.row.RowKind.{RowKind}
use Rattle.core_expr.specs.declared.row.RowKind.TheVariants.{Bound, Symbol, Plain, Binding}
use Rattle.core_expr.specs.Tree.{Tree, Parts, size}
use Rattle.core_expr.specs.Tree.Tree.{bound, app, node, bind}
use Rattle.core_expr.specs.Tree.Parts.{end, part}
use Rattle.core_expr.specs.Heads.{table_numbers}
use Rattle.core_expr.specs.Flat.{row, rows_at, rows_of, all_rows, row_at}
use Rattle.seq_calculus.specs.declared.lists.ProofNode.{ProofNode}
use Rattle.text_writer.specs.Tables.{Placed, AllPlaced, put, node_over, with_last, enter, enter_parts}
use Rattle.text_writer.specs.Rows.{below_last, last_places, next, run}
use Rattle.text_writer.proofs.EnterLaws.{here_all}

-- places behind others are the last ones
pub last-are : (n : ℕ) (qs ps : List ℕ) → n ≡ length ps → last_places n (qs ++ ps) ≡ ps
last-are n qs ps e = drop_at qs ps (length (qs ++ ps) - n) (omega (arith, length-append qs ps))

pub below-are : (n : ℕ) (qs ps : List ℕ) → n ≡ length ps → below_last n (qs ++ ps) ≡ qs
below-are n qs ps e = take_at qs ps (length (qs ++ ps) - n) (omega (arith, length-append qs ps))

-- places above others
abbrev under : List ℕ → AllPlaced → AllPlaced
under qs a = record { nodes = a.nodes; places = qs ++ a.places }

abbrev pushed : List ℕ → Placed → AllPlaced
pushed qs p = record { nodes = p.nodes; places = qs ++ p.place ∷ [] }

-- a node over as many places as it has parts
next-over : (k : RowKind) (ms : List ℕ) (n d : ℕ) (a : AllPlaced) (qs : List ℕ) → n ≡ length a.places → next (row k ms n d) (under qs a) ≡ pushed qs (put (node_over k ms a.places) a.nodes)
next-over k ms n d a qs e =
    let l = last-are n qs a.places e in
    let b = below-are n qs a.places e in
    λ i. record { nodes = (put (node_over k ms (l i)) a.nodes).nodes; places = b i ++ (put (node_over k ms (l i)) a.nodes).place ∷ [] }

count : (ps : Parts) (ns : List ProofNode) → size ps ≡ length (enter_parts ps ns).places
count end ns = refl
count (part e ps) ns = ap suc (count ps (enter e ns).nodes)

mutual
  run-rows : (d : ℕ) (t : Tree) (rs : List Row) (ns : List ProofNode) (qs : List ℕ) → run (rows_at d t ++ rs) (here_all ns qs) ≡ run rs (pushed qs (enter t ns))
  run-rows d (bound i) rs ns qs =
      ap (λ ps. run rs (next (row Bound (i ∷ []) 0 d) (here_all ns ps))) (sym (append-nil qs)) ∙ ap (run rs) (next-over Bound (i ∷ []) 0 d (here_all ns []) qs refl)
  run-rows d (app f ps) rs ns qs =
      let r = row (Symbol f) [] (size ps) d in
      ap (λ l. run l (here_all ns qs)) (append_assoc (all_rows d ps) (r ∷ []) rs) ∙ run-parts d ps (r ∷ rs) ns qs
      ∙ ap (run rs) (next-over (Symbol f) [] (size ps) d (enter_parts ps ns) qs (count ps ns))
  run-rows d (node h ms ps) rs ns qs =
      let r = row (Plain h) (table_numbers h ms (size ps)) (size ps) d in
      ap (λ l. run l (here_all ns qs)) (append_assoc (all_rows d ps) (r ∷ []) rs) ∙ run-parts d ps (r ∷ rs) ns qs
      ∙ ap (run rs) (next-over (Plain h) (table_numbers h ms (size ps)) (size ps) d (enter_parts ps ns) qs (count ps ns))
  run-rows d (bind b ps e) rs ns qs =
      let r = row (Binding b) [] (suc (size ps)) d in
      let a = enter_parts ps ns in
      let w = with_last a (enter e) in
      let n : suc (size ps) ≡ length w.places = omega (arith, count ps ns, length-append a.places ((enter e a.nodes).place ∷ [])) in
      ap (λ l. run l (here_all ns qs)) (append_assoc (all_rows d ps) (rows_at (suc d) e ++ r ∷ []) rs) ∙ run-parts d ps ((rows_at (suc d) e ++ r ∷ []) ++ rs) ns qs
      ∙ ap (λ l. run l (under qs a)) (append_assoc (rows_at (suc d) e) (r ∷ []) rs) ∙ run-rows (suc d) e (r ∷ rs) a.nodes (qs ++ a.places)
      ∙ ap (λ ps. run (r ∷ rs) (here_all (enter e a.nodes).nodes ps)) (append_assoc qs a.places ((enter e a.nodes).place ∷ []))
      ∙ ap (run rs) (next-over (Binding b) [] (suc (size ps)) d w qs n)

  run-parts : (d : ℕ) (ps : Parts) (rs : List Row) (ns : List ProofNode) (qs : List ℕ) → run (all_rows d ps ++ rs) (here_all ns qs) ≡ run rs (under qs (enter_parts ps ns))
  run-parts d end rs ns qs = ap (λ ps. run rs (here_all ns ps)) (sym (append-nil qs))
  run-parts d (part e ps) rs ns qs =
      let p = enter e ns in
      ap (λ l. run l (here_all ns qs)) (append_assoc (rows_at d e) (all_rows d ps) rs) ∙ run-rows d e (all_rows d ps ++ rs) ns qs
      ∙ run-parts d ps rs p.nodes (qs ++ p.place ∷ [])
      ∙ ap (λ l. run rs (here_all (enter_parts ps p.nodes).nodes l)) (append_assoc qs (p.place ∷ []) (enter_parts ps p.nodes).places)

-- once all nodes are completed, the tree is entered
pub run-all : (t : Tree) (i : ℕ) (old : List ProofNode) (a : AllPlaced) → length (rows_of t) ≤ i → run (drop i (rows_of t)) a ≡ run (rows_of t) (here_all old []) → a ≡ pushed [] (enter t old)
run-all t i old a l h = sym (at_drop_all (λ rs. run rs a) (rows_of t) i l) ∙ h ∙ ap (λ rs. run rs (here_all old [])) (sym (append-nil (rows_of t))) ∙ run-rows 0 t [] old []

-- one more node is completed
pub run-next : (t : Tree) (i : ℕ) (old new : List ProofNode) (ps qs : List ℕ) → i < length (rows_of t) → new ≡ (next (row_at t i) (here_all old ps)).nodes → qs ≡ (next (row_at t i) (here_all old ps)).places
    → run (drop (i + 1) (rows_of t)) (here_all new qs) ≡ run (drop i (rows_of t)) (here_all old ps)
run-next t i old new ps qs l f g =
    (λ x. run (drop (i + 1) (rows_of t)) (here_all (f x) (g x))) ∙ sym (at_drop_more (λ rs. run rs (here_all old ps)) (rows_of t) i (row Bound (0 ∷ []) 0 0) l)
