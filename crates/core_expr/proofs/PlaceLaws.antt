-- Each node of an expression is the root of a subtree, whose nodes stand together.
use Rattle.std.proofs.Common.{◌≡◌, ℕ, zero, suc, ◌+◌, ◌-◌, ◌<◌, List, [], ◌∷◌, ◌++◌, length, get_or, take, drop, refl, ap, sym, ◌∙◌, arith, append_assoc, append-nil, length-append, inl, inr}
use Rattle.std.proofs.Math.Seq.{get_or-append_seam, take-append_seam}
use Rattle.std.proofs.Math.ListN.{get_or-append}
use Rattle.std.proofs.lemmas.Bool.{cases_lt}
use Rattle.std.proofs.lemmas.List.{take-append-drop, length-drop, take-append-le, take_all}
use Rattle.core_expr.specs.declared.row.Row.{Row}
use Rattle.core_expr.specs.declared.row.RowKind.TheVariants.{Bound, Symbol, Plain, Binding}
use Rattle.core_expr.specs.Tree.{Tree, Parts, size, true_}
use Rattle.core_expr.specs.Tree.Tree.{bound, app, node, bind}
use Rattle.core_expr.specs.Tree.Parts.{end, part}
use Rattle.core_expr.specs.Terms.{nodes, nodes_of}
use Rattle.core_expr.specs.Heads.{table_numbers, list_of, subtrees}
use Rattle.core_expr.specs.Flat.{row, rows_at, rows_of, all_rows, complete, build, top, tree_of, row_at}
use Rattle.core_expr.specs.Spans.{spans_of, all_spans, nodes_in, spans_in, back_over}
use Rattle.core_expr.specs.Places.{subtree, kind_of, root_numbers, RootAt, part_index}
use Rattle.core_expr.specs.Coding.{build-rows_at, length-list_of}
use Rattle.core_expr.proofs.SpanLaws.{length-spans_of, length-all_spans, length-rows_at, length-all_rows, nodes-subtrees, spans-subtrees, spans_in-append, nodes_in-append, nodes_in-list_of, length-spans_in, over_trees}

-- the node i of these nodes, with these spans, is the root of a tree whose nodes and spans stand together
pub record Place (rs : List Row) (ss : List ℕ) (i : ℕ) : Type 0 where
  pub before : List Row
  pub after : List Row
  pub spans_before : List ℕ
  pub spans_after : List ℕ
  pub depth : ℕ
  pub tree : Tree
  pub rows_are : rs ≡ before ++ (rows_at depth tree ++ after)
  pub spans_are : ss ≡ spans_before ++ (spans_of tree ++ spans_after)
  pub even : length spans_before ≡ length before
  pub stands : suc i ≡ length before + nodes tree

-- among more nodes on both sides
widen : (rs : List Row) (ss : List ℕ) (i j : ℕ) (xs ys all : List Row) (us vs every : List ℕ) → length us ≡ length xs → j ≡ length xs + i → all ≡ xs ++ (rs ++ ys) → every ≡ us ++ (ss ++ vs) → Place rs ss i → Place all every j
widen rs ss i j xs ys all us vs every l q a b p =
    let m = length-append xs p.before in
    let n = length-append us p.spans_before in
    record {
      before = xs ++ p.before;
      after = p.after ++ ys;
      spans_before = us ++ p.spans_before;
      spans_after = p.spans_after ++ vs;
      depth = p.depth;
      tree = p.tree;
      rows_are = a ∙ ap (λ l. xs ++ (l ++ ys)) p.rows_are ∙ ap (λ l. xs ++ l) (append_assoc p.before (rows_at p.depth p.tree ++ p.after) ys ∙ ap (λ l. p.before ++ l) (append_assoc (rows_at p.depth p.tree) p.after ys)) ∙ sym (append_assoc xs p.before (rows_at p.depth p.tree ++ (p.after ++ ys)));
      spans_are = b ∙ ap (λ l. us ++ (l ++ vs)) p.spans_are ∙ ap (λ l. us ++ l) (append_assoc p.spans_before (spans_of p.tree ++ p.spans_after) vs ∙ ap (λ l. p.spans_before ++ l) (append_assoc (spans_of p.tree) p.spans_after vs)) ∙ sym (append_assoc us p.spans_before (spans_of p.tree ++ (p.spans_after ++ vs)));
      even = n ∙ (λ k. l k + p.even k) ∙ sym m;
      stands = let s = p.stands in omega (arith, m, s);
    }

at_root : (d : ℕ) (t : Tree) (i : ℕ) → suc i ≡ nodes t → Place (rows_at d t) (spans_of t) i
at_root d t i h =
    record { before = []; after = []; spans_before = []; spans_after = []; depth = d; tree = t; rows_are = sym (append-nil (rows_at d t)); spans_are = sym (append-nil (spans_of t)); even = refl; stands = omega (arith, h) }

mutual
  pub place : (d : ℕ) (t : Tree) (i : ℕ) → i < nodes t → Place (rows_at d t) (spans_of t) i
  place d (bound j) i h = at_root d (bound j) i (omega arith)
  place d (app f ps) i h =
      elim (cases_lt i (nodes_of ps)) [
        | inl l ↦ widen (all_rows d ps) (all_spans ps) i i [] (row (Symbol f) [] (size ps) d ∷ []) (rows_at d (app f ps)) [] (suc (nodes_of ps) ∷ []) (spans_of (app f ps)) refl (omega arith) refl refl (place_in d ps i l)
        | inr l ↦ at_root d (app f ps) i (omega arith)
      ]
  place d (node g ns ps) i h =
      elim (cases_lt i (nodes_of ps)) [
        | inl l ↦ widen (all_rows d ps) (all_spans ps) i i [] (row (Plain g) (table_numbers g ns (size ps)) (size ps) d ∷ []) (rows_at d (node g ns ps)) [] (suc (nodes_of ps) ∷ []) (spans_of (node g ns ps)) refl (omega arith) refl refl (place_in d ps i l)
        | inr l ↦ at_root d (node g ns ps) i (omega arith)
      ]
  place d (bind b ps e) i h =
      elim (cases_lt i (nodes_of ps)) [
        | inl l ↦ widen (all_rows d ps) (all_spans ps) i i [] (rows_at (suc d) e ++ row (Binding b) [] (suc (size ps)) d ∷ []) (rows_at d (bind b ps e)) [] (spans_of e ++ suc (nodes_of ps + nodes e) ∷ []) (spans_of (bind b ps e)) refl (omega arith) refl refl (place_in d ps i l)
        | inr l ↦
            elim (cases_lt i (nodes_of ps + nodes e)) [
              | inl m ↦
                  let x = length-all_rows d ps in
                  widen (rows_at (suc d) e) (spans_of e) (i - nodes_of ps) i (all_rows d ps) (row (Binding b) [] (suc (size ps)) d ∷ []) (rows_at d (bind b ps e)) (all_spans ps) (suc (nodes_of ps + nodes e) ∷ []) (spans_of (bind b ps e))
                  (length-all_spans ps ∙ sym x) (omega (arith, x)) refl refl (place (suc d) e (i - nodes_of ps) (omega arith))
              | inr m ↦ at_root d (bind b ps e) i (omega arith)
            ]
      ]

  pub place_in : (d : ℕ) (ps : Parts) (i : ℕ) → i < nodes_of ps → Place (all_rows d ps) (all_spans ps) i
  place_in d end i h = absurd (omega arith)
  place_in d (part e ps) i h =
      elim (cases_lt i (nodes e)) [
        | inl l ↦ widen (rows_at d e) (spans_of e) i i [] (all_rows d ps) (all_rows d (part e ps)) [] (all_spans ps) (all_spans (part e ps)) refl (omega arith) refl refl (place d e i l)
        | inr l ↦
            let x = length-rows_at d e in
            widen (all_rows d ps) (all_spans ps) (i - nodes e) i (rows_at d e) [] (all_rows d (part e ps)) (spans_of e) [] (all_spans (part e ps))
            (length-spans_of e ∙ sym x) (omega (arith, x)) (ap (λ l. rows_at d e ++ l) (sym (append-nil (all_rows d ps)))) (ap (λ l. spans_of e ++ l) (sym (append-nil (all_spans ps)))) (place_in d ps (i - nodes e) (omega arith))
      ]

build-append : (rs qs : List Row) (st : List Tree) → build (rs ++ qs) st ≡ build qs (build rs st)
build-append [] qs st = refl
build-append (r ∷ rs) qs st = build-append rs qs (complete r st)

-- the nodes up to a root complete its tree last
pub tree_of-prefix : (xs : List Row) (d : ℕ) (u : Tree) (ys all : List Row) (i : ℕ) → all ≡ xs ++ (rows_at d u ++ ys) → suc i ≡ length xs + nodes u → tree_of (take (suc i) all) ≡ u
tree_of-prefix xs d u ys all i a s =
    let l = length-rows_at d u in
    let m = length-append xs (rows_at d u) in
    let n : suc i ≡ length (xs ++ rows_at d u) = omega (arith, l, m, s) in
    let t : take (suc i) all ≡ xs ++ rows_at d u =
    (λ k. take (n k) (a k)) ∙ ap (take (length (xs ++ rows_at d u))) (sym (append_assoc xs (rows_at d u) ys)) ∙ take-append_seam (xs ++ rows_at d u) ys
    in
    ap tree_of t ∙ ap top (build-append xs (rows_at d u) [] ∙ ap (λ rs. build rs (build xs [])) (sym (append-nil (rows_at d u))) ∙ build-rows_at d u [] (build xs []))

-- the root of a tree stands last
root_row : ℕ → Tree → Row
root_row d t = row (kind_of t) (root_numbers t) (length (subtrees t)) d

root_last : (d : ℕ) (t : Tree) → (xs : List Row) × (rows_at d t ≡ xs ++ root_row d t ∷ [])
unfolding root_row
root_last d (bound i) = ([], refl)
root_last d (app f ps) = (all_rows d ps, ap (λ n. all_rows d ps ++ row (Symbol f) [] n d ∷ []) (sym (length-list_of ps)))
root_last d (node h ns ps) = (all_rows d ps, ap (λ n. all_rows d ps ++ row (Plain h) (table_numbers h ns (size ps)) n d ∷ []) (sym (length-list_of ps)))
root_last d (bind b ps e) =
    let l : suc (size ps) ≡ length (list_of ps ++ e ∷ []) = let m = length-list_of ps in let n = length-append (list_of ps) (e ∷ []) in omega (arith, m, n) in
    (all_rows d ps ++ rows_at (suc d) e, ap (λ n. all_rows d ps ++ (rows_at (suc d) e ++ row (Binding b) [] n d ∷ [])) l ∙ sym (append_assoc (all_rows d ps) (rows_at (suc d) e) (row (Binding b) [] (length (list_of ps ++ e ∷ [])) d ∷ [])))

pub root_at : (t : Tree) (i : ℕ) → i < length (rows_of t) → RootAt t i
unfolding root_row
root_at t i h =
    let p = place 0 t i (let l = length-rows_at 0 t in omega (arith, l)) in
    let u : subtree t i ≡ p.tree = tree_of-prefix p.before p.depth p.tree p.after (rows_of t) i p.rows_are p.stands in
    let r = root_last p.depth p.tree in
    let m : rows_of t ≡ (p.before ++ r.0) ++ root_row p.depth p.tree ∷ p.after =
    p.rows_are ∙ ap (λ l. p.before ++ (l ++ p.after)) r.1 ∙ ap (λ l. p.before ++ l) (append_assoc r.0 (root_row p.depth p.tree ∷ []) p.after) ∙ sym (append_assoc p.before r.0 (root_row p.depth p.tree ∷ p.after))
    in
    let a = length-append r.0 (root_row p.depth p.tree ∷ []) in
    let b : length (rows_at p.depth p.tree) ≡ length (r.0 ++ root_row p.depth p.tree ∷ []) = ap length r.1 in
    let c = length-rows_at p.depth p.tree in
    let s = p.stands in
    let f = length-append p.before r.0 in
    let n : i ≡ length (p.before ++ r.0) = omega (arith, a, b, c, s, f) in
    let q : row_at t i ≡ root_row p.depth p.tree =
    (λ k. get_or (m k) (n k) (row Bound (0 ∷ []) 0 0)) ∙ get_or-append_seam (p.before ++ r.0) (root_row p.depth p.tree) p.after (row Bound (0 ∷ []) 0 0)
    in
    record {
      kind_is = ap (λ (x : Row). x.kind) q ∙ ap kind_of (sym u);
      numbers_are = ap (λ (x : Row). x.numbers) q ∙ ap root_numbers (sym u);
      parts_are = ap (λ (x : Row). x.parts) q ∙ ap (λ x. length (subtrees x)) (sym u);
    }

-- back over the later parts of a node
pub part_place : (t : Tree) (i k n : ℕ) (w : List ℕ) → i < length (rows_of t) → k < length (subtrees (subtree t i)) → w ≡ spans_of t → n ≡ length (subtrees (subtree t i)) - (k + 1) → back_over w n i ≡ i - nodes_in (drop (suc k) (subtrees (subtree t i)))
part_place t i k n w h l e q =
    let p = place 0 t i (let l = length-rows_at 0 t in omega (arith, l)) in
    let u : subtree t i ≡ p.tree = tree_of-prefix p.before p.depth p.tree p.after (rows_of t) i p.rows_are p.stands in
    rw u (go p (rw u at l) (rw u at q))
  where
    go : (p : Place (rows_of t) (spans_of t) i) → k < length (subtrees p.tree) → n ≡ length (subtrees p.tree) - (k + 1) → back_over w n i ≡ i - nodes_in (drop (suc k) (subtrees p.tree))
    go p l q =
        let ts : List Tree = subtrees p.tree in
        let cs : List Tree = take (suc k) ts in
        let bs : List Tree = drop (suc k) ts in
        let c : cs ++ bs ≡ ts = take-append-drop (suc k) ts in
        let x : w ≡ (p.spans_before ++ spans_in cs) ++ (spans_in bs ++ (nodes p.tree ∷ p.spans_after)) =
        e ∙ p.spans_are ∙ ap (λ l. p.spans_before ++ (l ++ p.spans_after)) (spans-subtrees p.tree ∙ ap (λ l. spans_in l ++ nodes p.tree ∷ []) (sym c) ∙ ap (λ l. l ++ nodes p.tree ∷ []) (spans_in-append cs bs) ∙ append_assoc (spans_in cs) (spans_in bs) (nodes p.tree ∷ []))
        ∙ ap (λ l. p.spans_before ++ l) (append_assoc (spans_in cs) (spans_in bs ++ nodes p.tree ∷ []) p.spans_after ∙ ap (λ l. spans_in cs ++ l) (append_assoc (spans_in bs) (nodes p.tree ∷ []) p.spans_after))
        ∙ sym (append_assoc p.spans_before (spans_in cs) (spans_in bs ++ (nodes p.tree ∷ p.spans_after)))
        in
        let y : length bs ≡ length ts - suc k = length-drop (suc k) ts in
        let z = nodes-subtrees p.tree in
        let f : nodes_in cs + nodes_in bs ≡ nodes_in ts = sym (nodes_in-append cs bs) ∙ ap nodes_in c in
        let g = length-append p.spans_before (spans_in cs) in
        let m = length-spans_in cs in
        let s = p.stands in
        let v = p.even in
        let j : back_over w n i ≡ back_over w 0 (length (p.spans_before ++ spans_in cs)) =
        over_trees w (p.spans_before ++ spans_in cs) bs (nodes p.tree ∷ p.spans_after) 0 n i x (omega (arith, y, q)) (omega (arith, z, f, g, m, s, v))
        in
        j ∙ (omega (arith, z, f, g, m, s, v))

some_nodes : (k : ℕ) (ts : List Tree) → k < length ts → 0 < nodes_in (take (suc k) ts)
some_nodes k [] h = absurd (omega arith)
some_nodes k (t ∷ ts) h = let z = nodes-subtrees t in omega (arith, z)

-- a part has a node, so it stands before the node that it is a part of
pub part_before : (t : Tree) (i k : ℕ) → i < length (rows_of t) → k < length (subtrees (subtree t i)) → nodes_in (drop (suc k) (subtrees (subtree t i))) < i
part_before t i k h l =
    let p = place 0 t i (let l = length-rows_at 0 t in omega (arith, l)) in
    let u : subtree t i ≡ p.tree = tree_of-prefix p.before p.depth p.tree p.after (rows_of t) i p.rows_are p.stands in
    rw u (go p (rw u at l))
  where
    go : (p : Place (rows_of t) (spans_of t) i) → k < length (subtrees p.tree) → nodes_in (drop (suc k) (subtrees p.tree)) < i
    go p l =
        let ts : List Tree = subtrees p.tree in
        let c : nodes_in (take (suc k) ts) + nodes_in (drop (suc k) ts) ≡ nodes_in ts =
        sym (nodes_in-append (take (suc k) ts) (drop (suc k) ts)) ∙ ap nodes_in (take-append-drop (suc k) ts)
        in
        let z = nodes-subtrees p.tree in
        let s = p.stands in
        let n = some_nodes k ts l in
        omega (arith, c, z, s, n)

-- the nodes of part k stand together, after those of the parts before it
record Child (rs : List Row) (ts : List Tree) (k : ℕ) : Type 0 where
  before : List Row
  after : List Row
  depth : ℕ
  rows_are : rs ≡ before ++ (rows_at depth (get_or ts k true_) ++ after)
  stands : length before + nodes (get_or ts k true_) ≡ nodes_in (take (suc k) ts)

child_in : (d : ℕ) (ps : Parts) (k : ℕ) → k < size ps → Child (all_rows d ps) (list_of ps) k
child_in d end k h = absurd (omega arith)
child_in d (part e ps) zero h = record { before = []; after = all_rows d ps; depth = d; rows_are = refl; stands = omega arith }
child_in d (part e ps) (suc k) h =
    let c = child_in d ps k (omega arith) in
    let s = c.stands in
    let l = length-append (rows_at d e) c.before in
    let m = length-rows_at d e in
    record {
      before = rows_at d e ++ c.before;
      after = c.after;
      depth = c.depth;
      rows_are = ap (λ l. rows_at d e ++ l) c.rows_are ∙ sym (append_assoc (rows_at d e) c.before (rows_at c.depth (get_or (list_of ps) k true_) ++ c.after));
      stands = omega (arith, s, l, m);
    }

-- with one more node behind
behind : (rs : List Row) (ts : List Tree) (k : ℕ) (r : Row) → Child rs ts k → Child (rs ++ r ∷ []) ts k
behind rs ts k r c =
    record {
      before = c.before;
      after = c.after ++ r ∷ [];
      depth = c.depth;
      rows_are = ap (λ l. l ++ r ∷ []) c.rows_are ∙ append_assoc c.before (rows_at c.depth (get_or ts k true_) ++ c.after) (r ∷ []) ∙ ap (λ l. c.before ++ l) (append_assoc (rows_at c.depth (get_or ts k true_)) c.after (r ∷ []));
      stands = c.stands;
    }

-- before the body of a binder
beside : (d : ℕ) (ps : Parts) (e : Tree) (r : Row) (k : ℕ) → k < size ps → Child (all_rows d ps) (list_of ps) k → Child (all_rows d ps ++ (rows_at (suc d) e ++ r ∷ [])) (list_of ps ++ e ∷ []) k
beside d ps e r k h c =
    let z = length-list_of ps in
    let g : get_or (list_of ps ++ e ∷ []) k true_ ≡ get_or (list_of ps) k true_ = get_or-append (list_of ps) (e ∷ []) true_ k (omega (arith, z)) in
    let t : take (suc k) (list_of ps ++ e ∷ []) ≡ take (suc k) (list_of ps) = take-append-le (suc k) (list_of ps) (e ∷ []) (omega (arith, z)) in
    record {
      before = c.before;
      after = c.after ++ (rows_at (suc d) e ++ r ∷ []);
      depth = c.depth;
      rows_are = ap (λ l. l ++ (rows_at (suc d) e ++ r ∷ [])) c.rows_are ∙ append_assoc c.before (rows_at c.depth (get_or (list_of ps) k true_) ++ c.after) (rows_at (suc d) e ++ r ∷ []) ∙ ap (λ l. c.before ++ l) (append_assoc (rows_at c.depth (get_or (list_of ps) k true_)) c.after (rows_at (suc d) e ++ r ∷ [])) ∙ ap (λ u. c.before ++ (rows_at c.depth u ++ (c.after ++ (rows_at (suc d) e ++ r ∷ [])))) (sym g);
      stands = ap (λ u. length c.before + nodes u) g ∙ c.stands ∙ ap nodes_in (sym t);
    }

body_child : (d : ℕ) (ps : Parts) (e : Tree) (r : Row) (k : ℕ) → k ≡ size ps → Child (all_rows d ps ++ (rows_at (suc d) e ++ r ∷ [])) (list_of ps ++ e ∷ []) k
body_child d ps e r k h =
    let n : k ≡ length (list_of ps) = h ∙ sym (length-list_of ps) in
    let g : get_or (list_of ps ++ e ∷ []) k true_ ≡ e = ap (λ j. get_or (list_of ps ++ e ∷ []) j true_) n ∙ get_or-append_seam (list_of ps) e [] true_ in
    let l = length-all_rows d ps in
    let m = nodes_in-append (list_of ps) (e ∷ []) in
    let o = nodes_in-list_of ps in
    let q : take (suc k) (list_of ps ++ e ∷ []) ≡ list_of ps ++ e ∷ [] = take_all (suc k) (list_of ps ++ e ∷ []) (let z = length-append (list_of ps) (e ∷ []) in omega (arith, z, n)) in
    record {
      before = all_rows d ps;
      after = r ∷ [];
      depth = suc d;
      rows_are = ap (λ u. all_rows d ps ++ (rows_at (suc d) u ++ r ∷ [])) (sym g);
      stands = ap (λ u. length (all_rows d ps) + nodes u) g ∙ (omega (arith, l, m, o)) ∙ ap nodes_in (sym q);
    }

child : (d : ℕ) (u : Tree) (k : ℕ) → k < length (subtrees u) → Child (rows_at d u) (subtrees u) k
child d (bound i) k h = absurd (omega arith)
child d (app f ps) k h = let z = length-list_of ps in behind (all_rows d ps) (list_of ps) k (row (Symbol f) [] (size ps) d) (child_in d ps k (omega (arith, z)))
child d (node g ns ps) k h = let z = length-list_of ps in behind (all_rows d ps) (list_of ps) k (row (Plain g) (table_numbers g ns (size ps)) (size ps) d) (child_in d ps k (omega (arith, z)))
child d (bind b ps e) k h =
    let z = length-list_of ps in
    let y = length-append (list_of ps) (e ∷ []) in
    elim (cases_lt k (size ps)) [
      | inl l ↦ beside d ps e (row (Binding b) [] (suc (size ps)) d) k l (child_in d ps k l)
      | inr l ↦ body_child d ps e (row (Binding b) [] (suc (size ps)) d) k (omega (arith, z, y))
    ]

-- the place of a part is the root of that part
pub part_tree : (t : Tree) (i k j : ℕ) → i < length (rows_of t) → k < length (subtrees (subtree t i)) → j ≡ part_index t i k → subtree t j ≡ get_or (subtrees (subtree t i)) k true_
part_tree t i k j h l e =
    let p = place 0 t i (let l = length-rows_at 0 t in omega (arith, l)) in
    let u : subtree t i ≡ p.tree = tree_of-prefix p.before p.depth p.tree p.after (rows_of t) i p.rows_are p.stands in
    let b = part_before t i k h l in
    rw u (go p (rw u at l) (rw u at b) (rw u at e))
  where
    go : (p : Place (rows_of t) (spans_of t) i) → k < length (subtrees p.tree) → nodes_in (drop (suc k) (subtrees p.tree)) < i → j ≡ (i - nodes_in (drop (suc k) (subtrees p.tree))) - 1 → subtree t j ≡ get_or (subtrees p.tree) k true_
    go p l b e =
        let ts : List Tree = subtrees p.tree in
        let q = child p.depth p.tree k l in
        let c : nodes_in (take (suc k) ts) + nodes_in (drop (suc k) ts) ≡ nodes_in ts =
        sym (nodes_in-append (take (suc k) ts) (drop (suc k) ts)) ∙ ap nodes_in (take-append-drop (suc k) ts)
        in
        let z = nodes-subtrees p.tree in
        let s = p.stands in
        let f = q.stands in
        let g = length-append p.before q.before in
        let a : rows_of t ≡ (p.before ++ q.before) ++ (rows_at q.depth (get_or ts k true_) ++ (q.after ++ p.after)) =
        p.rows_are ∙ ap (λ l. p.before ++ (l ++ p.after)) q.rows_are ∙ ap (λ l. p.before ++ l) (append_assoc q.before (rows_at q.depth (get_or ts k true_) ++ q.after) p.after ∙ ap (λ l. q.before ++ l) (append_assoc (rows_at q.depth (get_or ts k true_)) q.after p.after)) ∙ sym (append_assoc p.before q.before (rows_at q.depth (get_or ts k true_) ++ (q.after ++ p.after)))
        in
        tree_of-prefix (p.before ++ q.before) q.depth (get_or ts k true_) (q.after ++ p.after) (rows_of t) j a (omega (arith, c, z, s, f, g, b, e))

pub last_root : (t : Tree) → (0 < length (rows_of t)) × (subtree t (length (rows_of t) - 1) ≡ t)
last_root t =
    let l = length-rows_at 0 t in
    let n = nodes-subtrees t in
    (omega (arith, l, n), tree_of-prefix [] 0 t [] (rows_of t) (length (rows_of t) - 1) (sym (append-nil (rows_at 0 t))) (omega (arith, l, n)))
