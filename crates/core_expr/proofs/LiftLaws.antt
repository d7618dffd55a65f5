-- Moving the loose variables of an expression, on its nodes.
use Rattle.std.proofs.Common.{◌≡◌, ℕ, suc, ◌+◌, ◌-◌, ◌<◌, List, [], ◌∷◌, ◌++◌, length, get_or, true, false, cond, nat_lt, nat_le, inl, inr, refl, ap, sym, ◌∙◌, arith, append_assoc, take}
use Rattle.std.proofs.lemmas.Grind.{take_at_read}
use Rattle.std.proofs.lemmas.Bool.Decides.{nat_tests}
use Rattle.std.proofs.lemmas.Bool.{cases_lt}
use Rattle.core_expr.specs.declared.row.Row.{Row}
use Rattle.core_expr.specs.declared.row.RowKind.TheVariants.{Bound, Symbol, Plain, Binding}
use Rattle.core_expr.specs.Tree.{Tree, Parts, size}
use Rattle.core_expr.specs.Tree.Tree.{bound, app, node, bind}
use Rattle.core_expr.specs.Tree.Parts.{end, part}
use Rattle.core_expr.specs.Put.{shift, shifts}
use Rattle.core_expr.specs.Heads.{table_numbers}
use Rattle.core_expr.specs.Flat.{row, rows_at, rows_of, all_rows}
use Rattle.core_expr.specs.Rename.{lifted_row, lifted}
use Rattle.core_expr.proofs.Laws.{size-shifts}

lifted-append : (u k d : ℕ) (rs qs : List Row) → lifted u k d (rs ++ qs) ≡ lifted u k d rs ++ lifted u k d qs
lifted-append u k d [] qs = refl
lifted-append u k d (r ∷ rs) qs = ap (λ (l : List Row). lifted_row u k d r ∷ l) (lifted-append u k d rs qs)

lifted_bound : (u k d c i x y : ℕ) → x ≡ d + c → y ≡ x + u → lifted_row u k d (row Bound (i ∷ []) 0 x) ≡ row Bound (cond (nat_lt i c) i (i + k) ∷ []) 0 y
lifted_bound u k d c i x y p q =
    let z : x - d ≡ c = omega arith in
    elim (cases_lt i c) [
      | inl l ↦
          let a : nat_lt i c ≡ true = grind (arith, nat_tests) in
          let b : nat_le (x - d) i ≡ false = grind (arith, nat_tests) in
          rw (a, b, q)
      | inr l ↦
          let a : nat_lt i c ≡ false = grind (arith, nat_tests) in
          let b : nat_le (x - d) i ≡ true = grind (arith, nat_tests) in
          rw (a, b, q)
    ]

mutual
  pub lifted-rows_at : (u k d c x y : ℕ) (t : Tree) → x ≡ d + c → y ≡ x + u → lifted u k d (rows_at x t) ≡ rows_at y (shift c k t)
  lifted-rows_at u k d c x y (bound i) p q = ap (λ (r : Row). r ∷ []) (lifted_bound u k d c i x y p q)
  lifted-rows_at u k d c x y (app f ps) p q =
      rw (lifted-append u k d (all_rows x ps) (row (Symbol f) [] (size ps) x ∷ []), lifted-all_rows u k d c x y ps p q, size-shifts c k ps, q)
  lifted-rows_at u k d c x y (node f ns ps) p q =
      rw (lifted-append u k d (all_rows x ps) (row (Plain f) (table_numbers f ns (size ps)) (size ps) x ∷ []), lifted-all_rows u k d c x y ps p q, size-shifts c k ps, q)
  lifted-rows_at u k d c x y (bind b ps e) p q =
      rw (lifted-append u k d (all_rows x ps) (rows_at (suc x) e ++ row (Binding b) [] (suc (size ps)) x ∷ []), lifted-append u k d (rows_at (suc x) e) (row (Binding b) [] (suc (size ps)) x ∷ []), lifted-all_rows u k d c x y ps p q, lifted-rows_at u k d (suc c) (suc x) (suc y) e (omega arith) (omega arith), size-shifts c k ps, q)

  lifted-all_rows : (u k d c x y : ℕ) (ps : Parts) → x ≡ d + c → y ≡ x + u → lifted u k d (all_rows x ps) ≡ all_rows y (shifts c k ps)
  lifted-all_rows u k d c x y end p q = refl
  lifted-all_rows u k d c x y (part e ps) p q = rw (lifted-append u k d (rows_at x e) (all_rows x ps), lifted-rows_at u k d c x y e p q, lifted-all_rows u k d c x y ps p q)

pub lift_step : (u k d : ℕ) (rs : List Row) (i : ℕ) (r q : Row) (old new start : List Row) → i < length rs → r ≡ get_or rs i r → old ≡ start ++ lifted u k d (take i rs) → q ≡ lifted_row u k d r → new ≡ old ++ q ∷ [] → new ≡ start ++ lifted u k d (take (i + 1) rs)
lift_step u k d rs i r q old new start h e o m w =
    let t : take (i + 1) rs ≡ take i rs ++ r ∷ [] = (take_at_read rs i r h).1 ∙ ap (λ (x : Row). take i rs ++ x ∷ []) (sym e) in
    rw (t, lifted-append u k d (take i rs) (r ∷ []), ← append_assoc, ← o, ← m) w

-- the nodes of a lifted expression
pub shifted_rows : (k : ℕ) (t : Tree) (rs start out : List Row) → rs ≡ rows_of t → start ≡ [] → out ≡ start ++ lifted 0 k 0 rs → out ≡ rows_of (shift 0 k t)
shifted_rows k t rs start out p q o = o ∙ (λ i. q i ++ lifted 0 k 0 (p i)) ∙ lifted-rows_at 0 k 0 0 0 0 t refl refl
