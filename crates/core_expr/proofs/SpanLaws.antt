-- Laws of spans.
use Rattle.std.proofs.Common.{◌≡◌, ℕ, suc, ◌+◌, ◌-◌, ◌<◌, List, [], ◌∷◌, ◌++◌, length, get_or, take, refl, ap, sym, ◌∙◌, arith, append_assoc, append-nil, length-append}
use Rattle.std.proofs.Math.Seq.{get_or-append_seam}
use Rattle.std.proofs.lemmas.Grind.{take_at_read}
use Rattle.core_expr.specs.declared.row.Row.{Row}
use Rattle.core_expr.specs.declared.row.RowKind.{RowKind}
use Rattle.core_expr.specs.declared.row.RowKind.TheVariants.{Symbol, Plain, Binding}
use Rattle.core_expr.specs.Tree.{Tree, Parts, size}
use Rattle.core_expr.specs.Tree.Tree.{bound, app, node, bind}
use Rattle.core_expr.specs.Tree.Parts.{end, part}
use Rattle.core_expr.specs.Terms.{nodes, nodes_of}
use Rattle.core_expr.specs.Heads.{table_numbers, list_of, subtrees}
use Rattle.core_expr.specs.Flat.{row, rows_at, rows_of, all_rows}
use Rattle.core_expr.specs.Coding.{length-list_of}
use Rattle.core_expr.specs.Spans.{spans_of, all_spans, nodes_in, spans_in, back_over, spans_from}

mutual
  pub length-spans_of : (t : Tree) → length (spans_of t) ≡ nodes t
  length-spans_of (bound i) = refl
  length-spans_of (app f ps) = let h = length-all_spans ps in length-append (all_spans ps) (suc (nodes_of ps) ∷ []) ∙ (omega (arith, h))
  length-spans_of (node f ns ps) = let h = length-all_spans ps in length-append (all_spans ps) (suc (nodes_of ps) ∷ []) ∙ (omega (arith, h))
  length-spans_of (bind b ps e) =
      let h = length-all_spans ps in
      let k = length-spans_of e in
      let l = length-append (spans_of e) (suc (nodes_of ps + nodes e) ∷ []) in
      length-append (all_spans ps) (spans_of e ++ suc (nodes_of ps + nodes e) ∷ []) ∙ (omega (arith, h, k, l))

  pub length-all_spans : (ps : Parts) → length (all_spans ps) ≡ nodes_of ps
  length-all_spans end = refl
  length-all_spans (part e ps) = let h = length-all_spans ps in let k = length-spans_of e in length-append (spans_of e) (all_spans ps) ∙ (omega (arith, h, k))

mutual
  pub length-rows_at : (d : ℕ) (t : Tree) → length (rows_at d t) ≡ nodes t
  length-rows_at d (bound i) = refl
  length-rows_at d (app f ps) = let h = length-all_rows d ps in length-append (all_rows d ps) (row (Symbol f) [] (size ps) d ∷ []) ∙ (omega (arith, h))
  length-rows_at d (node f ns ps) = let h = length-all_rows d ps in length-append (all_rows d ps) (row (Plain f) (table_numbers f ns (size ps)) (size ps) d ∷ []) ∙ (omega (arith, h))
  length-rows_at d (bind b ps e) =
      let h = length-all_rows d ps in
      let k = length-rows_at (suc d) e in
      let l = length-append (rows_at (suc d) e) (row (Binding b) [] (suc (size ps)) d ∷ []) in
      length-append (all_rows d ps) (rows_at (suc d) e ++ row (Binding b) [] (suc (size ps)) d ∷ []) ∙ (omega (arith, h, k, l))

  pub length-all_rows : (d : ℕ) (ps : Parts) → length (all_rows d ps) ≡ nodes_of ps
  length-all_rows d end = refl
  length-all_rows d (part e ps) = let h = length-all_rows d ps in let k = length-rows_at d e in length-append (rows_at d e) (all_rows d ps) ∙ (omega (arith, h, k))

-- by the list of parts
pub nodes_in-append : (ts us : List Tree) → nodes_in (ts ++ us) ≡ nodes_in ts + nodes_in us
nodes_in-append [] us = omega arith
nodes_in-append (t ∷ ts) us = let h = nodes_in-append ts us in omega (arith, h)

pub spans_in-append : (ts us : List Tree) → spans_in (ts ++ us) ≡ spans_in ts ++ spans_in us
spans_in-append [] us = refl
spans_in-append (t ∷ ts) us = ap (λ l. spans_of t ++ l) (spans_in-append ts us) ∙ sym (append_assoc (spans_of t) (spans_in ts) (spans_in us))

pub nodes_in-list_of : (ps : Parts) → nodes_in (list_of ps) ≡ nodes_of ps
nodes_in-list_of end = refl
nodes_in-list_of (part e ps) = ap (λ n. nodes e + n) (nodes_in-list_of ps)

spans_in-list_of : (ps : Parts) → spans_in (list_of ps) ≡ all_spans ps
spans_in-list_of end = refl
spans_in-list_of (part e ps) = ap (λ l. spans_of e ++ l) (spans_in-list_of ps)

pub length-spans_in : (ts : List Tree) → length (spans_in ts) ≡ nodes_in ts
length-spans_in [] = refl
length-spans_in (t ∷ ts) = let h = length-spans_in ts in let k = length-spans_of t in length-append (spans_of t) (spans_in ts) ∙ (omega (arith, h, k))

pub nodes-subtrees : (t : Tree) → nodes t ≡ suc (nodes_in (subtrees t))
nodes-subtrees (bound i) = refl
nodes-subtrees (app f ps) = ap suc (sym (nodes_in-list_of ps))
nodes-subtrees (node h ns ps) = ap suc (sym (nodes_in-list_of ps))
nodes-subtrees (bind b ps e) = let h = nodes_in-list_of ps in let k = nodes_in-append (list_of ps) (e ∷ []) in omega (arith, h, k)

pub spans-subtrees : (t : Tree) → spans_of t ≡ spans_in (subtrees t) ++ nodes t ∷ []
spans-subtrees (bound i) = refl
spans-subtrees (app f ps) = ap (λ l. l ++ suc (nodes_of ps) ∷ []) (sym (spans_in-list_of ps))
spans-subtrees (node h ns ps) = ap (λ l. l ++ suc (nodes_of ps) ∷ []) (sym (spans_in-list_of ps))
spans-subtrees (bind b ps e) =
    rw (spans_in-append (list_of ps) (e ∷ []), spans_in-list_of ps, append-nil (spans_of e)) (sym (append_assoc (all_spans ps) (spans_of e) (suc (nodes_of ps + nodes e) ∷ [])))

-- the last span of a tree is its own
last_span : (xs : List ℕ) (t : Tree) (ys : List ℕ) (i : ℕ) → suc i ≡ length xs + nodes t → get_or (xs ++ (spans_of t ++ ys)) i 0 ≡ nodes t
last_span xs t ys i h =
    let l = length-spans_in (subtrees t) in
    let n = nodes-subtrees t in
    let m = length-append xs (spans_in (subtrees t)) in
    let p : i ≡ length (xs ++ spans_in (subtrees t)) = omega (arith, l, n, m) in
    let q : xs ++ (spans_of t ++ ys) ≡ (xs ++ spans_in (subtrees t)) ++ nodes t ∷ ys =
    ap (λ l. xs ++ (l ++ ys)) (spans-subtrees t) ∙ ap (λ l. xs ++ l) (append_assoc (spans_in (subtrees t)) (nodes t ∷ []) ys) ∙ sym (append_assoc xs (spans_in (subtrees t)) (nodes t ∷ ys))
    in
    rw (q, p) (get_or-append_seam (xs ++ spans_in (subtrees t)) (nodes t) ys 0)

-- back over some trees
pub over_trees : (w xs : List ℕ) (ts : List Tree) (ys : List ℕ) (n k e : ℕ) → w ≡ xs ++ (spans_in ts ++ ys) → k ≡ length ts + n → e ≡ length xs + nodes_in ts → back_over w k e ≡ back_over w n (length xs)
over_trees w xs [] ys n k e h q r = let a : k ≡ n = omega arith in let b : e ≡ length xs = omega arith in rw (a, b)
over_trees w xs (t ∷ ts) ys n k e h q r =
    let l = length-append xs (spans_of t) in
    let m = length-spans_of t in
    let a : w ≡ (xs ++ spans_of t) ++ (spans_in ts ++ ys) =
    h ∙ ap (λ l. xs ++ l) (append_assoc (spans_of t) (spans_in ts) ys) ∙ sym (append_assoc xs (spans_of t) (spans_in ts ++ ys))
    in
    let b : k ≡ length ts + suc n = omega arith in
    let c : e ≡ length (xs ++ spans_of t) + nodes_in ts = omega (arith, l, m) in
    let z = nodes-subtrees t in
    let g : get_or w (length (xs ++ spans_of t) - 1) 0 ≡ nodes t =
    rw h (ap (λ l. get_or (xs ++ l) (length (xs ++ spans_of t) - 1) 0) (append_assoc (spans_of t) (spans_in ts) ys) ∙ last_span xs t (spans_in ts ++ ys) (length (xs ++ spans_of t) - 1) (omega (arith, l, m, z)))
    in
    let f : length (xs ++ spans_of t) - nodes t ≡ length xs = omega (arith, l, m) in
    over_trees w (xs ++ spans_of t) ts ys (suc n) k e a b c ∙ ap (λ x. back_over w n (length (xs ++ spans_of t) - x)) g ∙ ap (back_over w n) f

-- the walk over nodes finds the spans of trees
root_span : (s : List ℕ) (ts : List Tree) (k n : ℕ) → k ≡ length ts → n ≡ suc (nodes_in ts) → suc (length (s ++ spans_in ts) - back_over (s ++ spans_in ts) k (length (s ++ spans_in ts))) ≡ n
root_span s ts k n q r =
    let l = length-append s (spans_in ts) in
    let m = length-spans_in ts in
    let o : back_over (s ++ spans_in ts) k (length (s ++ spans_in ts)) ≡ length s =
    over_trees (s ++ spans_in ts) s ts [] 0 k (length (s ++ spans_in ts)) (ap (λ l. s ++ l) (sym (append-nil (spans_in ts)))) (omega arith) (omega (arith, l, m))
    in
    rw o (omega (arith, l, m))

root : (d : ℕ) (k : RowKind) (ns : List ℕ) (ps : Parts) (t : Tree) (s : List ℕ) (qs : List Row) → nodes t ≡ suc (nodes_in (list_of ps)) → spans_of t ≡ all_spans ps ++ nodes t ∷ [] → spans_from s (all_rows d ps ++ row k ns (size ps) d ∷ qs) ≡ spans_from (s ++ all_spans ps) (row k ns (size ps) d ∷ qs) → spans_from s ((all_rows d ps ++ row k ns (size ps) d ∷ []) ++ qs) ≡ spans_from (s ++ spans_of t) qs
root d k ns ps t s qs b c ih =
    let r = root_span s (list_of ps) (size ps) (nodes t) (sym (length-list_of ps)) b in
    let r' : suc (length (s ++ all_spans ps) - back_over (s ++ all_spans ps) (size ps) (length (s ++ all_spans ps))) ≡ nodes t = rw (spans_in-list_of ps) at r in
    rw (append_assoc (all_rows d ps) (row k ns (size ps) d ∷ []) qs, ih, r', append_assoc s (all_spans ps) (nodes t ∷ []), ← c)

mutual
  pub spans_from-rows_at : (d : ℕ) (t : Tree) (s : List ℕ) (qs : List Row) → spans_from s (rows_at d t ++ qs) ≡ spans_from (s ++ spans_of t) qs
  spans_from-rows_at d (bound i) s qs = ap (λ n. spans_from (s ++ suc n ∷ []) qs) (omega arith)
  spans_from-rows_at d (app f ps) s qs = root d (Symbol f) [] ps (app f ps) s qs (ap suc (sym (nodes_in-list_of ps))) refl (spans_from-all_rows d ps s (row (Symbol f) [] (size ps) d ∷ qs))
  spans_from-rows_at d (node h ns ps) s qs = root d (Plain h) (table_numbers h ns (size ps)) ps (node h ns ps) s qs (ap suc (sym (nodes_in-list_of ps))) refl (spans_from-all_rows d ps s (row (Plain h) (table_numbers h ns (size ps)) (size ps) d ∷ qs))
  spans_from-rows_at d (bind b ps e) s qs =
      let w : s ++ spans_in (list_of ps ++ e ∷ []) ≡ (s ++ all_spans ps) ++ spans_of e =
      ap (λ l. s ++ l) (spans_in-append (list_of ps) (e ∷ []) ∙ (λ i. spans_in-list_of ps i ++ append-nil (spans_of e) i)) ∙ sym (append_assoc s (all_spans ps) (spans_of e))
      in
      let l = length-append (list_of ps) (e ∷ []) in
      let m = length-list_of ps in
      let r = root_span s (list_of ps ++ e ∷ []) (suc (size ps)) (nodes (bind b ps e)) (omega (arith, l, m)) (nodes-subtrees (bind b ps e)) in
      rw (append_assoc (all_rows d ps) (rows_at (suc d) e ++ row (Binding b) [] (suc (size ps)) d ∷ []) qs, spans_from-all_rows d ps s ((rows_at (suc d) e ++ row (Binding b) [] (suc (size ps)) d ∷ []) ++ qs), append_assoc (rows_at (suc d) e) (row (Binding b) [] (suc (size ps)) d ∷ []) qs, spans_from-rows_at (suc d) e (s ++ all_spans ps) (row (Binding b) [] (suc (size ps)) d ∷ qs), ← w, r)
      (ap (λ l. spans_from l qs) (ap (λ l. l ++ nodes (bind b ps e) ∷ []) w ∙ append_assoc (s ++ all_spans ps) (spans_of e) (nodes (bind b ps e) ∷ []) ∙ append_assoc s (all_spans ps) (spans_of e ++ nodes (bind b ps e) ∷ [])))

  pub spans_from-all_rows : (d : ℕ) (ps : Parts) (s : List ℕ) (qs : List Row) → spans_from s (all_rows d ps ++ qs) ≡ spans_from (s ++ all_spans ps) qs
  spans_from-all_rows d end s qs = ap (λ l. spans_from l qs) (sym (append-nil s))
  spans_from-all_rows d (part e ps) s qs =
      rw (append_assoc (rows_at d e) (all_rows d ps) qs, spans_from-rows_at d e s (all_rows d ps ++ qs), spans_from-all_rows d ps (s ++ spans_of e) qs, append_assoc s (spans_of e) (all_spans ps))

pub spans_from-rows_of : (t : Tree) → spans_from [] (rows_of t) ≡ spans_of t
spans_from-rows_of t = ap (spans_from []) (sym (append-nil (rows_of t))) ∙ spans_from-rows_at 0 t [] []

pub spans_from-append : (s : List ℕ) (rs qs : List Row) → spans_from s (rs ++ qs) ≡ spans_from (spans_from s rs) qs
spans_from-append s [] qs = refl
spans_from-append s (r ∷ rs) qs = spans_from-append (s ++ suc (length s - back_over s r.parts (length s)) ∷ []) rs qs

pub spans_step : (rs : List Row) (i : ℕ) (r : Row) (old new : List ℕ) (n : ℕ) → i < length rs → r ≡ get_or rs i r → old ≡ spans_from [] (take i rs) → n ≡ suc (length old - back_over old r.parts (length old)) → new ≡ old ++ n ∷ [] → new ≡ spans_from [] (take (i + 1) rs)
spans_step rs i r old new n h e o m w =
    let t : take (i + 1) rs ≡ take i rs ++ r ∷ [] = (take_at_read rs i r h).1 ∙ ap (λ (x : Row). take i rs ++ x ∷ []) (sym e) in
    rw (t, spans_from-append [] (take i rs) (r ∷ []), ← o, ← m) w

pub back_step : (w : List ℕ) (n m x y z : ℕ) → m < n → y ≡ x - get_or w (x - 1) 0 → back_over w (n - m) x ≡ z → back_over w (n - (m + 1)) y ≡ z
back_step w n m x y z l e h =
    let q : n - m ≡ suc (n - (m + 1)) = omega arith in
    let k : back_over w (suc (n - (m + 1))) x ≡ z = rw q at h in
    rw e k
