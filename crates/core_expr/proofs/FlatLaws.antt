-- Laws of the nodes of an expression.
use Rattle.std.proofs.Common.{◌≡◌, ℕ, zero, suc, ◌+◌, ◌-◌, ◌<◌, List, [], ◌∷◌, ◌++◌, length, get_or, Bool, true, false, ◌&&◌, cond, nat_lt, nat_le, inl, inr, refl, ap, sym, ◌∙◌, arith, append_assoc, append-nil, take}
use Rattle.std.specs.Prelude.{Result, Ok, Err, IfOk}
use Rattle.std.proofs.Math.Bool.{and_assoc}
use Rattle.std.proofs.lemmas.Grind.{take_at_read}
use Rattle.std.proofs.lemmas.Bool.Decides.{nat_tests}
use Rattle.std.proofs.lemmas.Bool.{and_parts, and_from, cases_lt}
use Rattle.core_expr.specs.declared.row.Row.{Row}
use Rattle.core_expr.specs.declared.row.RowKind.TheVariants.{Bound, Symbol, Plain, Binding}
use Rattle.core_expr.specs.Tree.{Tree, Parts, size}
use Rattle.core_expr.specs.Tree.Tree.{bound, app, node, bind}
use Rattle.core_expr.specs.Tree.Parts.{end, part}
use Rattle.core_expr.specs.Put.{shift, argument, put, puts, inst, IsScoped, AreScoped}
use Rattle.core_expr.specs.Terms.{is_scoped, are_scoped}
use Rattle.core_expr.specs.Heads.{table_numbers, is_well_formed}
use Rattle.core_expr.specs.Flat.{row, rows_at, rows_of, all_rows, tree_of}
use Rattle.core_expr.specs.Rows.{raised_row, raised, replace_row, replaced, row_scoped, rows_scoped}
use Rattle.core_expr.specs.Coding.{tree_of-rows_of}
use Rattle.core_expr.proofs.Laws.{shift_closed, size-puts}

raised-append : (d : ℕ) (rs qs : List Row) → raised d (rs ++ qs) ≡ raised d rs ++ raised d qs
raised-append d [] qs = refl
raised-append d (r ∷ rs) qs = ap (λ (l : List Row). raised_row d r ∷ l) (raised-append d rs qs)

mutual
  pub raised-rows_at : (d k x : ℕ) (t : Tree) → x ≡ k + d → raised d (rows_at k t) ≡ rows_at x t
  raised-rows_at d k x (bound i) q = rw q
  raised-rows_at d k x (app f ps) q = rw (raised-append d (all_rows k ps) (row (Symbol f) [] (size ps) k ∷ []), raised-all_rows d k x ps q, q)
  raised-rows_at d k x (node f ns ps) q = rw (raised-append d (all_rows k ps) (row (Plain f) (table_numbers f ns (size ps)) (size ps) k ∷ []), raised-all_rows d k x ps q, q)
  raised-rows_at d k x (bind b ps e) q =
      rw (raised-append d (all_rows k ps) (rows_at (suc k) e ++ row (Binding b) [] (suc (size ps)) k ∷ []), raised-append d (rows_at (suc k) e) (row (Binding b) [] (suc (size ps)) k ∷ []), raised-all_rows d k x ps q, raised-rows_at d (suc k) (suc x) e (omega arith), q)

  raised-all_rows : (d k x : ℕ) (ps : Parts) → x ≡ k + d → raised d (all_rows k ps) ≡ all_rows x ps
  raised-all_rows d k x end q = refl
  raised-all_rows d k x (part e ps) q = rw (raised-append d (rows_at k e) (all_rows k ps), raised-rows_at d k x e q, raised-all_rows d k x ps q)

replaced-append : (rs qs by : List Row) → replaced (rs ++ qs) by ≡ replaced rs by ++ replaced qs by
replaced-append [] qs by = refl
replaced-append (r ∷ rs) qs by = rw (append_assoc, replaced-append rs qs by)

-- a variable is loose or bound
flip : (d i : ℕ) {A : Type 0} (x y : A) → cond (nat_lt i d) x y ≡ cond (nat_le d i) y x
flip d i x y = elim (cases_lt i d) [ inl l ↦ grind (arith, nat_tests) | inr l ↦ grind (arith, nat_tests) ]

replaced_bound : (t : Tree) (d i : ℕ) (y : Bool) → IsScoped 0 t → (y ≡ false → i ≡ d) → rows_at d (cond y (bound i) (shift 0 d (argument (part t end) (i - d)))) ≡ cond y (row Bound (i ∷ []) 0 d ∷ []) (raised d (rows_at 0 t))
replaced_bound t d i true h q = refl
replaced_bound t d i false h q =
    let z : i - d ≡ 0 = let e : i ≡ d = q refl in omega arith in
    rw (z, shift_closed 0 0 d t (omega arith) h) (sym (raised-rows_at d 0 d t (omega arith)))

mutual
  rows_at-put : (t : Tree) (d : ℕ) (e : Tree) → IsScoped 0 t → IsScoped (suc d) e → rows_at d (put d (part t end) e) ≡ replaced (rows_at d e) (rows_at 0 t)
  rows_at-put t d (bound i) h k = replaced_bound t d i (nat_lt i d) h (far d i k) ∙ flip d i (row Bound (i ∷ []) 0 d ∷ []) (raised d (rows_at 0 t)) ∙ sym (append-nil _)
    where
      far : (d i : ℕ) → i < suc d → nat_lt i d ≡ false → i ≡ d
      far d i k l = grind (arith, nat_tests)
  rows_at-put t d (app f ps) h k = rw (replaced-append (all_rows d ps) (row (Symbol f) [] (size ps) d ∷ []) (rows_at 0 t), all_rows-puts t d ps h k, size-puts d (part t end) ps)
  rows_at-put t d (node f ns ps) h k = rw (replaced-append (all_rows d ps) (row (Plain f) (table_numbers f ns (size ps)) (size ps) d ∷ []) (rows_at 0 t), all_rows-puts t d ps h k, size-puts d (part t end) ps)
  rows_at-put t d (bind b ps e) h k =
      rw (replaced-append (all_rows d ps) (rows_at (suc d) e ++ row (Binding b) [] (suc (size ps)) d ∷ []) (rows_at 0 t), replaced-append (rows_at (suc d) e) (row (Binding b) [] (suc (size ps)) d ∷ []) (rows_at 0 t), all_rows-puts t d ps h k.0, rows_at-put t (suc d) e h k.1, size-puts d (part t end) ps)

  all_rows-puts : (t : Tree) (d : ℕ) (ps : Parts) → IsScoped 0 t → AreScoped (suc d) ps → all_rows d (puts d (part t end) ps) ≡ replaced (all_rows d ps) (rows_at 0 t)
  all_rows-puts t d end h k = refl
  all_rows-puts t d (part e ps) h k = rw (replaced-append (rows_at d e) (all_rows d ps) (rows_at 0 t), rows_at-put t d e h k.0, all_rows-puts t d ps h k.1)

-- nodes that are those of a well-formed tree
pub rows_made : (t : Tree) (out : List Row) → out ≡ rows_of t → is_well_formed t ≡ true → (rows_of (tree_of out) ≡ out) × ((is_well_formed (tree_of out) ≡ true) × (tree_of out ≡ t))
rows_made t out o w =
    let f : tree_of out ≡ t = ap tree_of o ∙ tree_of-rows_of t in
    (ap rows_of f ∙ sym o, (ap is_well_formed f ∙ w, f))

-- the nodes that putting in gives
pub inst_rows : (t e : Tree) (us rs out : List Row) → IsScoped 0 t → IsScoped 1 e → us ≡ rows_of t → rs ≡ rows_of e → out ≡ replaced rs us → out ≡ rows_of (inst e t)
inst_rows t e us rs out h k p q o = o ∙ (λ i. replaced (q i) (p i)) ∙ sym (rows_at-put t 0 e h k)

raised-push : (d : ℕ) (rs : List Row) (r : Row) → raised d (rs ++ r ∷ []) ≡ raised d rs ++ raised_row d r ∷ []
raised-push d rs r = raised-append d rs (r ∷ [])

replaced-push : (rs by : List Row) (r : Row) → replaced (rs ++ r ∷ []) by ≡ replaced rs by ++ replace_row r.kind r by
replaced-push rs by r = rw (replaced-append rs (r ∷ []) by, append-nil)

pub raise_step : (d : ℕ) (by : List Row) (i k : ℕ) (r q : Row) (old new start : List Row) → i < length by → r ≡ get_or by i r → old ≡ start ++ raised d (take i by) → k ≡ r.depth + d → q ≡ record { kind = r.kind; numbers = r.numbers; parts = r.parts; depth = k } → new ≡ old ++ q ∷ [] → new ≡ start ++ raised d (take (i + 1) by)
raise_step d by i k r q old new start h e o m p w =
    let t : take (i + 1) by ≡ take i by ++ r ∷ [] = (take_at_read by i r h).1 ∙ ap (λ (x : Row). take i by ++ x ∷ []) (sym e) in
    rw (t, raised-push d (take i by) r, ← append_assoc, ← o, ← m, ← p) w

pub replace_step : (rs by : List Row) (i : ℕ) (r : Row) (old new : List Row) → i < length rs → r ≡ get_or rs i r → old ≡ replaced (take i rs) by → new ≡ old ++ replace_row r.kind r by → new ≡ replaced (take (i + 1) rs) by
replace_step rs by i r old new h e o w =
    let t : take (i + 1) rs ≡ take i rs ++ r ∷ [] = (take_at_read rs i r h).1 ∙ ap (λ (x : Row). take i rs ++ x ∷ []) (sym e) in
    rw (t, replaced-push (take i rs) by r, ← o) w

-- scopes
rows_scoped-append : (n : ℕ) (rs qs : List Row) → rows_scoped n (rs ++ qs) ≡ (rows_scoped n rs && rows_scoped n qs)
rows_scoped-append n [] qs = refl
rows_scoped-append n (r ∷ rs) qs = rw (rows_scoped-append n rs qs) (sym (and_assoc (row_scoped n r.kind r) (rows_scoped n rs) (rows_scoped n qs)))

and_true : (a : Bool) → (a && true) ≡ a
and_true true = refl
and_true false = refl

and_elim : (a b : Bool) → elim a [ true ↦ b | false ↦ false ] ≡ (a && b)
and_elim true b = refl
and_elim false b = refl

mutual
  rows_scoped-rows_at : (n d x : ℕ) (t : Tree) → x ≡ d + n → rows_scoped n (rows_at d t) ≡ is_scoped x t
  rows_scoped-rows_at n d x (bound i) q = rw q (and_true (nat_lt i (d + n)))
  rows_scoped-rows_at n d x (app f ps) q = rw (rows_scoped-append n (all_rows d ps) (row (Symbol f) [] (size ps) d ∷ []), rows_scoped-all_rows n d x ps q) (and_true (are_scoped x ps))
  rows_scoped-rows_at n d x (node f ns ps) q = rw (rows_scoped-append n (all_rows d ps) (row (Plain f) (table_numbers f ns (size ps)) (size ps) d ∷ []), rows_scoped-all_rows n d x ps q) (and_true (are_scoped x ps))
  rows_scoped-rows_at n d x (bind b ps e) q =
      rw (rows_scoped-append n (all_rows d ps) (rows_at (suc d) e ++ row (Binding b) [] (suc (size ps)) d ∷ []), rows_scoped-append n (rows_at (suc d) e) (row (Binding b) [] (suc (size ps)) d ∷ []), rows_scoped-all_rows n d x ps q, rows_scoped-rows_at n (suc d) (suc x) e (omega arith), and_true (is_scoped (suc x) e))
      (sym (and_elim (are_scoped x ps) (is_scoped (suc x) e)))

  rows_scoped-all_rows : (n d x : ℕ) (ps : Parts) → x ≡ d + n → rows_scoped n (all_rows d ps) ≡ are_scoped x ps
  rows_scoped-all_rows n d x end q = refl
  rows_scoped-all_rows n d x (part e ps) q =
      rw (rows_scoped-append n (rows_at d e) (all_rows d ps), rows_scoped-rows_at n d x e q, rows_scoped-all_rows n d x ps q) (sym (and_elim (is_scoped x e) (are_scoped x ps)))

pub rows_scoped-rows_of : (n : ℕ) (t : Tree) → rows_scoped n (rows_of t) ≡ is_scoped n t
rows_scoped-rows_of n t = rows_scoped-rows_at n 0 n t (omega arith)

pub scoped_step : (n : ℕ) (rs : List Row) (i : ℕ) (r : Row) → i < length rs → r ≡ get_or rs i r → rows_scoped n (take i rs) ≡ true → row_scoped n r.kind r ≡ true → rows_scoped n (take (i + 1) rs) ≡ true
scoped_step n rs i r h e o w =
    let t : take (i + 1) rs ≡ take i rs ++ r ∷ [] = (take_at_read rs i r h).1 ∙ ap (λ (x : Row). take i rs ++ x ∷ []) (sym e) in
    rw (t, rows_scoped-append n (take i rs) (r ∷ []), and_true (row_scoped n r.kind r)) (and_from _ _ o w)

-- one node that is a loose variable
pub scoped_not : (n : ℕ) (rs : List Row) (i : ℕ) (r : Row) → i < length rs → r ≡ get_or rs i r → rows_scoped n rs ≡ true → row_scoped n r.kind r ≡ true
scoped_not n [] i r h e o = absurd (omega arith)
scoped_not n (x ∷ rs) zero r h e o = rw e ((and_parts (row_scoped n x.kind x) (rows_scoped n rs) o).0)
scoped_not n (x ∷ rs) (suc i) r h e o = scoped_not n rs i r (omega arith) e ((and_parts (row_scoped n x.kind x) (rows_scoped n rs) o).1)

pub ok_same : {E : Type 0} (r : Result Tree E) (a b : Tree) → a ≡ b → IfOk r (λ e. e ≡ a) → IfOk r (λ e. e ≡ b)
ok_same (Ok e) a b p h = h ∙ p
ok_same (Err e) a b p h = h
