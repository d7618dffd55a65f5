-- The numbers and parts that the table of heads allows are those of the head's shape.
use Rattle.std.proofs.Common.{◌≡◌, ℕ, ◌<◌, ◌≤◌, Bool, true, false, cond, nat_eq, nat_lt, ◌&&◌, None, List, [], ◌∷◌, length, take, drop, refl, ap, sym, ◌∙◌, arith, eq-eqb}
use Rattle.std.specs.Prelude.{◌↔◌}
use Rattle.std.proofs.lemmas.Bool.Decides.{nat_tests}
use Rattle.std.proofs.lemmas.Bool.{and_parts, and_from, eqb-true, agree_below_at}
use Rattle.std.proofs.lemmas.List.{take_all, length-drop}
use Rattle.core_expr.specs.declared.head.Head.{Head}
use Rattle.core_expr.specs.declared.head.Head.TheVariants.{Num, Str, Enum, Tuple}
use Rattle.core_expr.specs.declared.row.RowKind.{RowKind}
use Rattle.core_expr.specs.declared.row.RowKind.TheVariants.{Bound, Symbol, Plain, Binding}
use Rattle.core_expr.specs.Heads.{kind_table, kind_at, kind_fits, is_head, fits, plain_fits, head_arity, binder_arity, is_empty, is_only, is_text, are_bytes, first, after_first}
use Rattle.core_expr.specs.Nodes.{AreBelow, canon_sym, node_kind, numbers_fit, node_fits}
use Rattle.proof_text.specs.declared.shape.Shape.{Shape}
use Rattle.proof_text.specs.Shapes.{fixed, counted, plain_shape, kind_shape, node_shape}
use Rattle.proof_text.specs.Readers.{last_of, byte_count, index_count}
use Rattle.proof_text.proofs.Formats.{less, less-true}

-- these numbers and so many indices have this shape
pub record Fits (s : Shape) (ns : List ℕ) (m : ℕ) : Type 0 where
  pub front : s.numbers ≤ length ns
  pub count : length (drop s.numbers ns) ≡ byte_count s.tail (take s.numbers ns)
  pub bytes : AreBelow 256 (drop s.numbers ns)
  pub indices : m ≡ index_count s.tail (take s.numbers ns)

none-below : (k : ℕ) (xs : List ℕ) → length xs ≡ 0 → AreBelow k xs
none-below k [] h = tt
none-below k (x ∷ xs) h = absurd (omega arith)

pub fixed-fits : (n a m : ℕ) (ns : List ℕ) → (length ns ≡ n) × (m ≡ a) ↔ Fits (fixed n a) ns m
fixed-fits n a m ns = (
  λ h. record {
    front = omega (arith, h.0);
    count = omega (arith, length-drop n ns, h.0);
    bytes = none-below 256 (drop n ns) (omega (arith, length-drop n ns, h.0));
    indices = h.1;
  },
  λ f. (omega (arith, length-drop n ns, f.front, f.count), f.indices),
)

pub counted-fits : (n m : ℕ) (ns : List ℕ) → (length ns ≡ n) × (m ≡ last_of ns) ↔ Fits (counted n) ns m
counted-fits n m ns = (
  λ h. record {
    front = omega (arith, h.0);
    count = omega (arith, length-drop n ns, h.0);
    bytes = none-below 256 (drop n ns) (omega (arith, length-drop n ns, h.0));
    indices = h.1 ∙ ap last_of (sym (take_all n ns (omega (arith, h.0))));
  },
  λ f.
      let e : length ns ≡ n = omega (arith, length-drop n ns, f.front, f.count) in
      (e, f.indices ∙ ap last_of (take_all n ns (omega (arith, e)))),
)

are-bytes : (bs : List ℕ) → (are_bytes bs ≡ true) ↔ AreBelow 256 bs
are-bytes [] = (λ h. tt, λ h. refl)
are-bytes (b ∷ bs) = (
  λ h. (let p = and_parts (nat_lt b 256) (are_bytes bs) h in (less b 256 p.0, (are-bytes bs).0 p.1)),
  λ h. and_from _ _ (less-true b 256 h.0) ((are-bytes bs).1 h.1),
)

empty-length : (ns : List ℕ) → (is_empty ns ≡ true) ↔ (length ns ≡ 0)
empty-length [] = (λ h. refl, λ h. refl)
empty-length (n ∷ ns) = (λ h. cc, λ h. absurd (omega arith))

only-last : (k : ℕ) (ns : List ℕ) → (is_only k ns ≡ true) ↔ (length ns ≡ 1) × (k ≡ last_of ns)
only-last k [] = (λ h. cc, λ h. absurd (omega (arith, h.0)))
only-last k (n ∷ []) = (
  λ h. (refl, sym (eqb-true n k (and_parts (nat_eq n k) true h).0)),
  λ h. and_from _ _ (eq-eqb n k (sym h.1)) refl,
)
only-last k (n ∷ m ∷ ns) = (λ h. (let p = (and_parts (nat_eq n k) false h).1 in cc), λ h. absurd (omega (arith, h.0)))

fixed-test : (n a m : ℕ) (ns : List ℕ) → (nat_eq (length ns) n && nat_eq m a ≡ true) ↔ Fits (fixed n a) ns m
fixed-test n a m ns = (
  λ h. (let p = and_parts (nat_eq (length ns) n) (nat_eq m a) h in (fixed-fits n a m ns).0 (eqb-true (length ns) n p.0, eqb-true m a p.1)),
  λ f. (let p = (fixed-fits n a m ns).1 f in and_from _ _ (eq-eqb (length ns) n p.0) (eq-eqb m a p.1)),
)

bare-test : (a m : ℕ) (ns : List ℕ) → (is_empty ns && nat_eq m a ≡ true) ↔ Fits (fixed 0 a) ns m
bare-test a m ns = (
  λ h. (let p = and_parts (is_empty ns) (nat_eq m a) h in (fixed-fits 0 a m ns).0 ((empty-length ns).0 p.0, eqb-true m a p.1)),
  λ f. (let p = (fixed-fits 0 a m ns).1 f in and_from _ _ ((empty-length ns).1 p.0) (eq-eqb m a p.1)),
)

only-test : (m : ℕ) (ns : List ℕ) → (is_only m ns ≡ true) ↔ Fits (counted 1) ns m
only-test m ns = (λ h. (counted-fits 1 m ns).0 ((only-last m ns).0 h), λ f. (only-last m ns).1 ((counted-fits 1 m ns).1 f))

text-test : (m : ℕ) (ns : List ℕ) → (is_text ns && nat_eq m 0 ≡ true) ↔ Fits (plain_shape Str) ns m
text-test m [] = (λ h. cc, λ f. absurd (omega (arith, f.front)))
text-test m (n ∷ bs) = (
  λ h.
      let p = and_parts (nat_eq n (length bs) && are_bytes bs) (nat_eq m 0) h in
      let q = and_parts (nat_eq n (length bs)) (are_bytes bs) p.0 in
      record { front = omega arith; count = sym (eqb-true n (length bs) q.0); bytes = (are-bytes bs).0 q.1; indices = eqb-true m 0 p.1 },
  λ f. and_from _ _ (and_from _ _ (eq-eqb n (length bs) (sym f.count)) ((are-bytes bs).1 f.bytes)) (eq-eqb m 0 f.indices),
)

symbol-test : (m : ℕ) (ns : List ℕ) → (nat_eq (length ns) 2 && nat_eq m (first (after_first ns)) ≡ true) ↔ Fits (counted 2) ns m
symbol-test m ns = (
  λ h.
      let p = and_parts (nat_eq (length ns) 2) (nat_eq m (first (after_first ns))) h in
      let e = eqb-true (length ns) 2 p.0 in
      (counted-fits 2 m ns).0 (e, eqb-true m (first (after_first ns)) p.1 ∙ second ns e),
  λ f. (let p = (counted-fits 2 m ns).1 f in and_from _ _ (eq-eqb (length ns) 2 p.0) (eq-eqb m (first (after_first ns)) (p.1 ∙ sym (second ns p.0)))),
)
  where
    second : (ns : List ℕ) → length ns ≡ 2 → first (after_first ns) ≡ last_of ns
    second [] e = absurd (omega arith)
    second (a ∷ []) e = absurd (omega arith)
    second (a ∷ b ∷ []) e = refl
    second (a ∷ b ∷ c ∷ ns) e = absurd (omega arith)

plain-test : (g : Head) (m : ℕ) (ns : List ℕ) → (plain_fits g ns m ≡ true) ↔ Fits (plain_shape g) ns m
plain-test Num m ns = fixed-test 2 0 m ns
plain-test Str m ns = text-test m ns
plain-test Enum m ns = only-test m ns
plain-test Tuple m ns = only-test m ns
plain-test g m ns = bare-test (head_arity g) m ns

-- a head number below 33 but 6 is no symbol's
is_symbol : RowKind → Bool
is_symbol (Symbol f) = true
is_symbol k = false

symbol_test : ℕ → Bool
unfolding is_symbol
symbol_test h = cond (nat_eq h 6) false (is_symbol (kind_at h))

no_symbol : (h : ℕ) → h < 33 → nat_eq h 6 ≡ false → is_symbol (kind_at h) ≡ false
unfolding symbol_test is_symbol kind_at kind_table
no_symbol h l e = ap (λ b. cond b false (is_symbol (kind_at h))) (sym e) ∙ agree_below_at symbol_test (λ _. false) 33 h refl l

kind-test : (k : RowKind) (m : ℕ) (ns : List ℕ) → is_symbol k ≡ false → (numbers_fit k ns m ≡ true) ↔ Fits (kind_shape k) ns m
unfolding is_symbol
kind-test Bound m ns h = fixed-test 1 0 m ns
kind-test (Symbol f) m ns h = cc
kind-test (Plain g) m ns h = plain-test g m ns
kind-test (Binding b) m ns h = bare-test (binder_arity b) m ns

pub node-test : (h m : ℕ) (ns : List ℕ) → h < 33 → (numbers_fit (node_kind h ns) ns m ≡ true) ↔ Fits (node_shape h) ns m
unfolding node_shape
node-test h m ns l = go (nat_eq h 6) refl
  where
    go : (b : Bool) → nat_eq h 6 ≡ b → (numbers_fit (cond b (Symbol (canon_sym (first ns) (first (after_first ns)))) (kind_at h)) ns m ≡ true) ↔ Fits (cond b (counted 2) (kind_shape (kind_at h))) ns m
    go true e = symbol-test m ns
    go false e = kind-test (kind_at h) m ns (no_symbol h l e)

kind-fits : (k : RowKind) (m : ℕ) (ns : List ℕ) → is_symbol k ≡ false → numbers_fit k ns m ≡ true → kind_fits k ns m ≡ true
unfolding is_symbol
kind-fits Bound m ns e h = h
kind-fits (Symbol f) m ns e h = cc
kind-fits (Plain g) m ns e h = h
kind-fits (Binding b) m ns e h = h

-- a node of a table but a symbol's is built by its head number
pub build-fits : (h m : ℕ) (ns ms : List ℕ) → ms ≡ ns → ¬ (h ≡ 6) → node_fits h ns m ≡ true → fits h None ms m ≡ true
build-fits h m ns ms e d w =
    let p = and_parts (nat_lt h 33) (numbers_fit (node_kind h ns) ns m) w in
    let six : nat_eq h 6 ≡ false = grind (arith, nat_tests, d) in
    let below : h < 33 = less h 33 p.0 in
    let kind : numbers_fit (kind_at h) ns m ≡ true = ap (λ b. numbers_fit (cond b (Symbol (canon_sym (first ns) (first (after_first ns)))) (kind_at h)) ns m) (sym six) ∙ p.1 in
    let head : is_head h None ≡ true = and_from _ _ (less-true h 34 (omega arith)) (ap (λ b. elim b as (λ _. Bool) [ true ↦ false | false ↦ true ]) six) in
    and_from _ _ head (ap (λ ns. kind_fits (kind_at h) ns m) e ∙ kind-fits (kind_at h) m ns (no_symbol h below six) kind)
