-- Laws of substitution for symbols on the nodes of an expression.
use Rattle.std.proofs.Common.{◌≡◌, ℕ, zero, suc, ◌+◌, ◌-◌, ◌<◌, ◌≤◌, List, [], ◌∷◌, ◌++◌, length, get_or, Bool, true, false, ◌&&◌, cond, nat_lt, nat_le, nat_eq, Option, Some, None, inl, inr, refl, ap, sym, ◌∙◌, arith, append_assoc, append-nil, length-append, take, drop}
use Rattle.std.proofs.Math.Bool.{and_assoc}
use Rattle.std.proofs.Math.Seq.{get_or-append_seam, drop-append_seam, take-append_seam, drop-cons}
use Rattle.std.proofs.lemmas.Grind.{take_at_read}
use Rattle.std.proofs.lemmas.Bool.Decides.{nat_tests}
use Rattle.std.proofs.lemmas.Bool.{and_parts, and_from, cases_lt, eqb-true}
use Rattle.core_expr.specs.declared.head.Sym.{Sym}
use Rattle.core_expr.specs.declared.row.Row.{Row}
use Rattle.core_expr.specs.declared.row.RowKind.{RowKind}
use Rattle.core_expr.specs.declared.row.RowKind.TheVariants.{Bound, Symbol, Plain, Binding}
use Rattle.core_expr.specs.Tree.{Tree, Parts, size, true_}
use Rattle.core_expr.specs.Tree.Tree.{bound, app, node, bind}
use Rattle.core_expr.specs.Tree.Parts.{end, part}
use Rattle.core_expr.specs.Put.{shift, shifts, argument, put, puts, apply_body, sub, subs}
use Rattle.core_expr.specs.Terms.{same_sym}
use Rattle.core_expr.specs.Heads.{table_numbers, is_empty, is_only, is_well_formed, are_well_formed}
use Rattle.core_expr.specs.Flat.{row, rows_at, rows_of, all_rows, tree_of}
use Rattle.core_expr.specs.Coding.{tree_of-rows_of}
use Rattle.core_expr.specs.Rename.{named, all_formed, begin, between, argument_rows, filled_row, filled, is_variable, root_symbol, applied_symbol, put_nodes, next_nodes, next_starts, renamed}
use Rattle.core_expr.proofs.Laws.{size-puts, size-subs}
use Rattle.core_expr.proofs.Formed.{formed-put}
use Rattle.core_expr.proofs.LiftLaws.{lifted-rows_at}
use Rattle.core_expr.proofs.BuildLaws.{no_numbers, only_number}

-- filling
filled-append : (out : List Row) (starts : List ℕ) (r : Row) (rs qs : List Row) → filled out starts r (rs ++ qs) ≡ filled out starts r rs ++ filled out starts r qs
filled-append out starts r [] qs = refl
filled-append out starts r (b ∷ rs) qs = rw (append_assoc, filled-append out starts r rs qs)

filled_bound : (out : List Row) (starts : List ℕ) (r : Row) (ts : Parts) → ((j : ℕ) → argument_rows out starts r j ≡ rows_at r.depth (argument ts j)) → (k y i : ℕ) → y ≡ k + r.depth → filled_row out starts r (row Bound (i ∷ []) 0 k) ≡ rows_at y (put k ts (bound i))
filled_bound out starts r ts h k y i q =
    elim (cases_lt i k) [
      | inl l ↦
          let a : nat_lt i k ≡ true = grind (arith, nat_tests) in
          let b : nat_le k i ≡ false = grind (arith, nat_tests) in
          rw (a, b, q)
      | inr l ↦
          let a : nat_lt i k ≡ false = grind (arith, nat_tests) in
          let b : nat_le k i ≡ true = grind (arith, nat_tests) in
          rw (a, b, h (i - k)) (lifted-rows_at k k r.depth 0 r.depth y (argument ts (i - k)) (omega arith) (omega arith))
    ]

mutual
  filled-rows_at : (out : List Row) (starts : List ℕ) (r : Row) (ts : Parts) → ((j : ℕ) → argument_rows out starts r j ≡ rows_at r.depth (argument ts j)) → (k y : ℕ) (b : Tree) → y ≡ k + r.depth → filled out starts r (rows_at k b) ≡ rows_at y (put k ts b)
  filled-rows_at out starts r ts h k y (bound i) q = append-nil (filled_row out starts r (row Bound (i ∷ []) 0 k)) ∙ filled_bound out starts r ts h k y i q
  filled-rows_at out starts r ts h k y (app f ps) q =
      rw (filled-append out starts r (all_rows k ps) (row (Symbol f) [] (size ps) k ∷ []), filled-all_rows out starts r ts h k y ps q, size-puts k ts ps, q)
  filled-rows_at out starts r ts h k y (node f ns ps) q =
      rw (filled-append out starts r (all_rows k ps) (row (Plain f) (table_numbers f ns (size ps)) (size ps) k ∷ []), filled-all_rows out starts r ts h k y ps q, size-puts k ts ps, q)
  filled-rows_at out starts r ts h k y (bind b ps e) q =
      rw (filled-append out starts r (all_rows k ps) (rows_at (suc k) e ++ row (Binding b) [] (suc (size ps)) k ∷ []), filled-append out starts r (rows_at (suc k) e) (row (Binding b) [] (suc (size ps)) k ∷ []), filled-all_rows out starts r ts h k y ps q, filled-rows_at out starts r ts h (suc k) (suc y) e (omega arith), size-puts k ts ps, q)

  filled-all_rows : (out : List Row) (starts : List ℕ) (r : Row) (ts : Parts) → ((j : ℕ) → argument_rows out starts r j ≡ rows_at r.depth (argument ts j)) → (k y : ℕ) (ps : Parts) → y ≡ k + r.depth → filled out starts r (all_rows k ps) ≡ all_rows y (puts k ts ps)
  filled-all_rows out starts r ts h k y end q = refl
  filled-all_rows out starts r ts h k y (part e ps) q = rw (filled-append out starts r (rows_at k e) (all_rows k ps), filled-rows_at out starts r ts h k y e q, filled-all_rows out starts r ts h k y ps q)

-- where the parts begin
offsets : ℕ → List Row → Parts → List ℕ
offsets d out end = []
offsets d out (part e ps) = length out ∷ offsets d (out ++ rows_at d e) ps

length-offsets : (d : ℕ) (out : List Row) (ps : Parts) → length (offsets d out ps) ≡ size ps
unfolding offsets
length-offsets d out end = refl
length-offsets d out (part e ps) = ap suc (length-offsets d (out ++ rows_at d e) ps)

get_or-past : (xs : List ℕ) (i z : ℕ) → length xs ≤ i → get_or xs i z ≡ z
get_or-past [] i z h = refl
get_or-past (x ∷ xs) zero z h = absurd (omega arith)
get_or-past (x ∷ xs) (suc i) z h = get_or-past xs i z (omega arith)

-- the first of the parts begins at the end of what is before it
first_begin : (d : ℕ) (out : List Row) (starts : List ℕ) (ps : Parts) → get_or (starts ++ offsets d out ps) (length starts) (length (out ++ all_rows d ps)) ≡ length out
unfolding offsets
first_begin d out starts end = rw (append-nil starts, append-nil out) (get_or-past starts (length starts) (length out) (omega arith))
first_begin d out starts (part e ps) = get_or-append_seam starts (length out) (offsets d (out ++ rows_at d e) ps) (length (out ++ all_rows d (part e ps)))

between_seam : (from to : ℕ) (xs ys zs : List Row) → from ≡ length xs → to ≡ length (xs ++ ys) → between from to ((xs ++ ys) ++ zs) ≡ ys
between_seam from to xs ys zs p q =
    let l = length-append xs ys in
    let a : to - from ≡ length ys = omega (arith, l) in
    ap (λ (l : List Row). between from to l) (append_assoc xs ys zs) ∙ (λ i. take (a i) (drop (p i) (xs ++ (ys ++ zs)))) ∙ ap (take (length ys)) (drop-append_seam xs (ys ++ zs)) ∙ take-append_seam ys zs

argument_past : (ts : Parts) (j : ℕ) → size ts ≤ j → argument ts j ≡ true_
argument_past end j h = refl
argument_past (part e ts) j h = let n : nat_eq j (size ts) ≡ false = grind (arith, nat_tests) in rw n (argument_past ts j (omega arith))

argument_here : (d : ℕ) (out : List Row) (starts : List ℕ) (e : Tree) (ts : Parts) (j : ℕ) → j ≡ size ts → between (begin (suc j) (starts ++ offsets d out (part e ts)) (length (out ++ all_rows d (part e ts)))) (begin j (starts ++ offsets d out (part e ts)) (length (out ++ all_rows d (part e ts)))) (out ++ all_rows d (part e ts)) ≡ rows_at d e
unfolding offsets
argument_here d out starts e ts j h =
    let rows : out ++ (rows_at d e ++ all_rows d ts) ≡ (out ++ rows_at d e) ++ all_rows d ts = sym (append_assoc out (rows_at d e) (all_rows d ts)) in
    let places : starts ++ length out ∷ offsets d (out ++ rows_at d e) ts ≡ (starts ++ length out ∷ []) ++ offsets d (out ++ rows_at d e) ts =
    sym (append_assoc starts (length out ∷ []) (offsets d (out ++ rows_at d e) ts))
    in
    let l = length-append starts (length out ∷ offsets d (out ++ rows_at d e) ts) in
    let m = length-offsets d (out ++ rows_at d e) ts in
    let n = length-append starts (length out ∷ []) in
    let a : length (starts ++ length out ∷ offsets d (out ++ rows_at d e) ts) - suc j ≡ length starts = omega (arith, l, m) in
    let b : length (starts ++ length out ∷ offsets d (out ++ rows_at d e) ts) - j ≡ length (starts ++ length out ∷ []) = omega (arith, l, m, n) in
    let from : begin (suc j) (starts ++ length out ∷ offsets d (out ++ rows_at d e) ts) (length (out ++ (rows_at d e ++ all_rows d ts))) ≡ length out =
    ap (λ i. get_or (starts ++ length out ∷ offsets d (out ++ rows_at d e) ts) i (length (out ++ (rows_at d e ++ all_rows d ts)))) a
    ∙ get_or-append_seam starts (length out) (offsets d (out ++ rows_at d e) ts) (length (out ++ (rows_at d e ++ all_rows d ts)))
    in
    let to : begin j (starts ++ length out ∷ offsets d (out ++ rows_at d e) ts) (length (out ++ (rows_at d e ++ all_rows d ts))) ≡ length (out ++ rows_at d e) =
    (λ i. get_or (places i) (b i) (length (rows i))) ∙ first_begin d (out ++ rows_at d e) (starts ++ length out ∷ []) ts
    in
    ap (λ (l : List Row). between (begin (suc j) (starts ++ length out ∷ offsets d (out ++ rows_at d e) ts) (length (out ++ (rows_at d e ++ all_rows d ts)))) (begin j (starts ++ length out ∷ offsets d (out ++ rows_at d e) ts) (length (out ++ (rows_at d e ++ all_rows d ts)))) l) rows
    ∙ between_seam _ _ out (rows_at d e) (all_rows d ts) from to

argument_between : (d : ℕ) (out : List Row) (starts : List ℕ) (ts : Parts) (j : ℕ) → j < size ts → between (begin (suc j) (starts ++ offsets d out ts) (length (out ++ all_rows d ts))) (begin j (starts ++ offsets d out ts) (length (out ++ all_rows d ts))) (out ++ all_rows d ts) ≡ rows_at d (argument ts j)
unfolding offsets
argument_between d out starts end j h = absurd (omega arith)
argument_between d out starts (part e ts) j h =
    elim (cases_lt j (size ts)) [
      | inl l ↦
          let n : nat_eq j (size ts) ≡ false = grind (arith, nat_tests) in
          let rows : out ++ (rows_at d e ++ all_rows d ts) ≡ (out ++ rows_at d e) ++ all_rows d ts = sym (append_assoc out (rows_at d e) (all_rows d ts)) in
          let places : starts ++ length out ∷ offsets d (out ++ rows_at d e) ts ≡ (starts ++ length out ∷ []) ++ offsets d (out ++ rows_at d e) ts =
          sym (append_assoc starts (length out ∷ []) (offsets d (out ++ rows_at d e) ts))
          in
          (λ i. between (begin (suc j) (places i) (length (rows i))) (begin j (places i) (length (rows i))) (rows i))
          ∙ argument_between d (out ++ rows_at d e) (starts ++ length out ∷ []) ts j l
          ∙ ap (rows_at d) (ap (λ (b : Bool). cond b e (argument ts j)) (sym n))
      | inr l ↦
          let n : nat_eq j (size ts) ≡ true = grind (arith, nat_tests) in
          argument_here d out starts e ts j (omega arith) ∙ ap (rows_at d) (ap (λ (b : Bool). cond b e (argument ts j)) (sym n))
    ]

arguments_are : (d n : ℕ) (f : Sym) (out : List Row) (starts : List ℕ) (ts : Parts) → n ≡ size ts → (j : ℕ) → argument_rows (out ++ all_rows d ts) (starts ++ offsets d out ts) (row (Symbol f) [] n d) j ≡ rows_at d (argument ts j)
arguments_are d n f out starts ts q j =
    elim (cases_lt j n) [
      | inl l ↦ let a : nat_lt j n ≡ true = grind (arith, nat_tests) in rw a (argument_between d out starts ts j (omega arith))
      | inr l ↦ let a : nat_lt j n ≡ false = grind (arith, nat_tests) in rw (a, argument_past ts j (omega arith))
    ]

-- a symbol applied to the variables in order
own : ℕ → Parts
own zero = end
own (suc n) = part (bound n) (own n)

size-own : (n : ℕ) → size (own n) ≡ n
unfolding own
size-own zero = refl
size-own (suc n) = ap suc (size-own n)

variable_row : (i : ℕ) (k : RowKind) (b : Row) → b.kind ≡ k → is_variable i k b ≡ true → b ≡ row Bound (i ∷ []) 0 0
variable_row i Bound b e h =
    let p = and_parts (is_only i b.numbers) (nat_eq b.parts 0 && nat_eq b.depth 0) h in
    let q = and_parts (nat_eq b.parts 0) (nat_eq b.depth 0) p.1 in
    let ns = only_number i b.numbers p.0 in
    let n = eqb-true b.parts 0 q.0 in
    let d = eqb-true b.depth 0 q.1 in
    λ j. record { kind = e j; numbers = ns j; parts = n j; depth = d j }
variable_row i (Symbol f) b e h = cc
variable_row i (Plain f) b e h = cc
variable_row i (Binding f) b e h = cc

chosen : (x : Bool) (f g : Sym) → cond x (Some f) None ≡ Some g → (x ≡ true) × (f ≡ g)
chosen true f g h = (refl, cc)
chosen false f g h = absurd (cc)

root_row : (n : ℕ) (g : Sym) (k : RowKind) (b : Row) → b.kind ≡ k → root_symbol n k b ≡ Some g → b ≡ row (Symbol g) [] n 0
root_row n g Bound b e h = cc
root_row n g (Symbol f) b e h =
    let c = chosen (is_empty b.numbers && (nat_eq b.parts n && nat_eq b.depth 0)) f g h in
    let p = and_parts (is_empty b.numbers) (nat_eq b.parts n && nat_eq b.depth 0) c.0 in
    let q = and_parts (nat_eq b.parts n) (nat_eq b.depth 0) p.1 in
    let k = e ∙ ap Symbol c.1 in
    let ns = no_numbers b.numbers p.0 in
    let m = eqb-true b.parts n q.0 in
    let d = eqb-true b.depth 0 q.1 in
    λ j. record { kind = k j; numbers = ns j; parts = m j; depth = d j }
root_row n g (Plain f) b e h = cc
root_row n g (Binding f) b e h = cc

applied_rows : (n i : ℕ) (g : Sym) (bs : List Row) → applied_symbol n i bs ≡ Some g → bs ≡ all_rows 0 (own i) ++ row (Symbol g) [] n 0 ∷ []
unfolding own
applied_rows n zero g [] h = cc
applied_rows n zero g (b ∷ []) h = ap (λ (r : Row). r ∷ []) (root_row n g b.kind b refl h)
applied_rows n zero g (b ∷ c ∷ bs) h = cc
applied_rows n (suc i) g [] h = cc
applied_rows n (suc i) g (b ∷ bs) h = go (applied_rows n i g bs) (is_variable i b.kind b) refl h
  where
    go : (applied_symbol n i bs ≡ Some g → bs ≡ all_rows 0 (own i) ++ row (Symbol g) [] n 0 ∷ []) → (x : Bool) → is_variable i b.kind b ≡ x → elim x [ true ↦ applied_symbol n i bs | false ↦ None ] ≡ Some g → b ∷ bs ≡ row Bound (i ∷ []) 0 0 ∷ (all_rows 0 (own i) ++ row (Symbol g) [] n 0 ∷ [])
    go ih true e h = λ j. variable_row i b.kind b refl e j ∷ ih h j
    go ih false e h = cc

applied_tree : (n : ℕ) (g : Sym) (b : Tree) → applied_symbol n n (rows_of b) ≡ Some g → b ≡ app g (own n)
applied_tree n g b h =
    let q : rows_of b ≡ rows_of (app g (own n)) = rw (size-own n) (applied_rows n n g (rows_of b) h) in
    sym (tree_of-rows_of b) ∙ ap tree_of q ∙ tree_of-rows_of (app g (own n))

same_both : {A : Type 0} (b : Bool) (x : A) → cond b x x ≡ x
same_both true x = refl
same_both false x = refl

mutual
  shift_zero : (c : ℕ) (e : Tree) → shift c 0 e ≡ e
  shift_zero c (bound i) = ap bound (let z : i + 0 ≡ i = omega arith in rw z (same_both (nat_lt i c) i))
  shift_zero c (app f ps) = ap (app f) (shifts_zero c ps)
  shift_zero c (node f ns ps) = ap (node f ns) (shifts_zero c ps)
  shift_zero c (bind b ps e) = λ i. bind b (shifts_zero c ps i) (shift_zero (suc c) e i)

  shifts_zero : (c : ℕ) (ps : Parts) → shifts c 0 ps ≡ ps
  shifts_zero c end = refl
  shifts_zero c (part e ps) = λ i. part (shift_zero c e i) (shifts_zero c ps i)

puts_own : (us ps : Parts) (n : ℕ) → n ≡ size ps → ((j : ℕ) → j < n → argument us j ≡ argument ps j) → puts 0 us (own n) ≡ ps
unfolding own
puts_own us end zero q h = refl
puts_own us end (suc n) q h = absurd (omega arith)
puts_own us (part e ps) zero q h = absurd (omega arith)
puts_own us (part e ps) (suc n) q h =
    let a : nat_lt n 0 ≡ false = grind (arith, nat_tests) in
    let z : n - 0 ≡ n = omega arith in
    let b : nat_eq n (size ps) ≡ true = grind (arith, nat_tests) in
    let here : cond (nat_lt n 0) (bound n) (shift 0 0 (argument us (n - 0))) ≡ e =
    rw (a, z) (shift_zero 0 (argument us n) ∙ h n (omega arith) ∙ ap (λ (x : Bool). cond x e (argument ps n)) b)
    in
    let rest = puts_own us ps n (omega arith) (λ j l. h j (omega arith) ∙ (let c : nat_eq j (size ps) ≡ false = grind (arith, nat_tests) in ap (λ (x : Bool). cond x e (argument ps j)) c)) in
    λ i. part (here i) (rest i)

put_own : (g : Sym) (n : ℕ) (ps : Parts) → n ≡ size ps → put 0 ps (app g (own n)) ≡ app g ps
put_own g n ps q = ap (app g) (puts_own ps ps n q (λ j l. refl))

-- the loop over the nodes gives the nodes of what the map gives
last_starts : (z : ℕ) (r : Row) (starts more all : List ℕ) (e : ℕ) → all ≡ starts ++ more → r.parts ≡ length more → get_or all (length starts) e ≡ z → next_starts r all e ≡ starts ++ z ∷ []
last_starts z r starts more all e o p q =
    let l = length-append starts more in
    let m = ap (λ (l : List ℕ). length l) o in
    let a : length all - r.parts ≡ length starts = omega (arith, l, m) in
    rw (a, q) (ap (λ (l : List ℕ). take (length starts) l ++ z ∷ []) o ∙ ap (λ (l : List ℕ). l ++ z ∷ []) (take-append_seam starts more))

put_is : (d n : ℕ) (f : Sym) (b : Tree) (ps : Parts) (out : List Row) (starts : List ℕ) → n ≡ size ps → put_nodes (rows_of b) (row (Symbol f) [] n d) (out ++ all_rows d ps) (starts ++ offsets d out ps) ≡ out ++ rows_at d (put 0 ps b)
put_is d n f b ps out starts q = go (applied_symbol n n (rows_of b)) refl
  where
    old : List Row
    old = out ++ all_rows d ps

    places : List ℕ
    places = starts ++ offsets d out ps

    r : Row
    r = row (Symbol f) [] n d

    begin_is : begin n (starts ++ offsets d out ps) (length (out ++ all_rows d ps)) ≡ length out
    begin_is =
        let l = length-append starts (offsets d out ps) in
        let m = length-offsets d out ps in
        let a : length (starts ++ offsets d out ps) - n ≡ length starts = omega (arith, l, m) in
        ap (λ i. get_or (starts ++ offsets d out ps) i (length (out ++ all_rows d ps))) a ∙ first_begin d out starts ps

    go : (o : Option Sym) → applied_symbol n n (rows_of b) ≡ o → elim o [ Some g ↦ (out ++ all_rows d ps) ++ row (Symbol g) [] n d ∷ [] | None ↦ take (begin n (starts ++ offsets d out ps) (length (out ++ all_rows d ps))) (out ++ all_rows d ps) ++ filled (out ++ all_rows d ps) (starts ++ offsets d out ps) (row (Symbol f) [] n d) (rows_of b) ] ≡ out ++ rows_at d (put 0 ps b)
    go (Some g) e =
        append_assoc out (all_rows d ps) (row (Symbol g) [] n d ∷ [])
        ∙ ap (λ m. out ++ (all_rows d ps ++ row (Symbol g) [] m d ∷ [])) q
        ∙ ap (λ (t : Tree). out ++ rows_at d t) (sym (ap (put 0 ps) (applied_tree n g b e) ∙ put_own g n ps q))
    go None e =
        rw begin_is
        (λ i.
        take-append_seam out (all_rows d ps) i ++ filled-rows_at (out ++ all_rows d ps) (starts ++ offsets d out ps) (row (Symbol f) [] n d) ps (arguments_are d n f out starts ps q) 0 d b (omega arith) i)

close_node : (s : Sym → Option Tree) (r : Row) (qs new old : List Row) (starts places : List ℕ) → next_nodes s r old places ≡ new → next_starts r places (length old) ≡ starts → renamed s (r ∷ qs) old places ≡ renamed s qs new starts
close_node s r qs new old starts places p q = λ i. renamed s qs (p i) (q i)

app_nodes : (o : Option Tree) (d n : ℕ) (f : Sym) (ps : Parts) (out : List Row) (starts : List ℕ) → n ≡ size ps → elim o [ None ↦ (out ++ all_rows d ps) ++ row (Symbol f) [] n d ∷ [] | Some b ↦ put_nodes (rows_of b) (row (Symbol f) [] n d) (out ++ all_rows d ps) (starts ++ offsets d out ps) ] ≡ out ++ rows_at d (apply_body o f ps)
app_nodes None d n f ps out starts q = append_assoc out (all_rows d ps) (row (Symbol f) [] n d ∷ []) ∙ ap (λ m. out ++ (all_rows d ps ++ row (Symbol f) [] m d ∷ [])) q
app_nodes (Some b) d n f ps out starts q = put_is d n f b ps out starts q

node_starts : (d : ℕ) (r : Row) (out : List Row) (starts : List ℕ) (ps : Parts) → r.parts ≡ size ps → next_starts r (starts ++ offsets d out ps) (length (out ++ all_rows d ps)) ≡ starts ++ length out ∷ []
node_starts d r out starts ps q =
    last_starts (length out) r starts (offsets d out ps) (starts ++ offsets d out ps) (length (out ++ all_rows d ps)) refl (q ∙ sym (length-offsets d out ps)) (first_begin d out starts ps)

bind_starts : (d : ℕ) (r : Row) (out : List Row) (starts : List ℕ) (ps : Parts) (e : Tree) → r.parts ≡ suc (size ps) → next_starts r ((starts ++ offsets d out ps) ++ length (out ++ all_rows d ps) ∷ []) (length ((out ++ all_rows d ps) ++ rows_at (suc d) e)) ≡ starts ++ length out ∷ []
unfolding offsets
bind_starts d r out starts end e q =
    last_starts (length out) r starts (length (out ++ []) ∷ []) ((starts ++ []) ++ length (out ++ []) ∷ []) (length ((out ++ []) ++ rows_at (suc d) e)) (append_assoc starts [] (length (out ++ []) ∷ [])) q
    (ap (λ (l : List ℕ). get_or l (length starts) (length ((out ++ []) ++ rows_at (suc d) e))) (append_assoc starts [] (length (out ++ []) ∷ [])) ∙ get_or-append_seam starts (length (out ++ [])) [] (length ((out ++ []) ++ rows_at (suc d) e)) ∙ ap (λ (l : List Row). length l) (append-nil out))
bind_starts d r out starts (part t ps) e q =
    let more = offsets d (out ++ rows_at d t) ps in
    let z = length (out ++ all_rows d (part t ps)) in
    let w = length ((out ++ all_rows d (part t ps)) ++ rows_at (suc d) e) in
    let l = length-append more (z ∷ []) in
    let m = length-offsets d (out ++ rows_at d t) ps in
    last_starts (length out) r starts (length out ∷ (more ++ z ∷ [])) ((starts ++ length out ∷ more) ++ z ∷ []) w (append_assoc starts (length out ∷ more) (z ∷ [])) (omega (arith, l, m, q))
    (ap (λ (l : List ℕ). get_or l (length starts) w) (append_assoc starts (length out ∷ more) (z ∷ [])) ∙ get_or-append_seam starts (length out) (more ++ z ∷ []) w)

mutual
  unfolding offsets

  renamed-rows_at : (s : Sym → Option Tree) (d : ℕ) (t : Tree) (qs out : List Row) (starts : List ℕ) → renamed s (rows_at d t ++ qs) out starts ≡ renamed s qs (out ++ rows_at d (sub s t)) (starts ++ length out ∷ [])
  renamed-rows_at s d (bound i) qs out starts =
      close_node s (row Bound (i ∷ []) 0 d) qs (out ++ row Bound (i ∷ []) 0 d ∷ []) out (starts ++ length out ∷ []) starts refl
      (last_starts (length out) (row Bound (i ∷ []) 0 d) starts [] starts (length out) (sym (append-nil starts)) refl (get_or-past starts (length starts) (length out) (omega arith)))
  renamed-rows_at s d (app f ps) qs out starts =
      rw (append_assoc (all_rows d ps) (row (Symbol f) [] (size ps) d ∷ []) qs, renamed-all_rows s d ps (row (Symbol f) [] (size ps) d ∷ qs) out starts)
      (close_node s (row (Symbol f) [] (size ps) d) qs (out ++ rows_at d (apply_body (s f) f (subs s ps))) (out ++ all_rows d (subs s ps)) (starts ++ length out ∷ []) (starts ++ offsets d out (subs s ps))
      (app_nodes (s f) d (size ps) f (subs s ps) out starts (sym (size-subs s ps)))
      (node_starts d (row (Symbol f) [] (size ps) d) out starts (subs s ps) (sym (size-subs s ps))))
  renamed-rows_at s d (node h ns ps) qs out starts =
      rw (append_assoc (all_rows d ps) (row (Plain h) (table_numbers h ns (size ps)) (size ps) d ∷ []) qs, renamed-all_rows s d ps (row (Plain h) (table_numbers h ns (size ps)) (size ps) d ∷ qs) out starts)
      (close_node s (row (Plain h) (table_numbers h ns (size ps)) (size ps) d) qs (out ++ rows_at d (node h ns (subs s ps))) (out ++ all_rows d (subs s ps)) (starts ++ length out ∷ []) (starts ++ offsets d out (subs s ps))
      (append_assoc out (all_rows d (subs s ps)) (row (Plain h) (table_numbers h ns (size ps)) (size ps) d ∷ []) ∙ ap (λ m. out ++ (all_rows d (subs s ps) ++ row (Plain h) (table_numbers h ns m) m d ∷ [])) (sym (size-subs s ps)))
      (node_starts d (row (Plain h) (table_numbers h ns (size ps)) (size ps) d) out starts (subs s ps) (sym (size-subs s ps))))
  renamed-rows_at s d (bind b ps e) qs out starts =
      rw (append_assoc (all_rows d ps) (rows_at (suc d) e ++ row (Binding b) [] (suc (size ps)) d ∷ []) qs, renamed-all_rows s d ps ((rows_at (suc d) e ++ row (Binding b) [] (suc (size ps)) d ∷ []) ++ qs) out starts, append_assoc (rows_at (suc d) e) (row (Binding b) [] (suc (size ps)) d ∷ []) qs, renamed-rows_at s (suc d) e (row (Binding b) [] (suc (size ps)) d ∷ qs) (out ++ all_rows d (subs s ps)) (starts ++ offsets d out (subs s ps)))
      (close_node s (row (Binding b) [] (suc (size ps)) d) qs (out ++ rows_at d (bind b (subs s ps) (sub s e))) ((out ++ all_rows d (subs s ps)) ++ rows_at (suc d) (sub s e)) (starts ++ length out ∷ []) ((starts ++ offsets d out (subs s ps)) ++ length (out ++ all_rows d (subs s ps)) ∷ [])
      (append_assoc (out ++ all_rows d (subs s ps)) (rows_at (suc d) (sub s e)) (row (Binding b) [] (suc (size ps)) d ∷ [])
      ∙ append_assoc out (all_rows d (subs s ps)) (rows_at (suc d) (sub s e) ++ row (Binding b) [] (suc (size ps)) d ∷ [])
      ∙ ap (λ m. out ++ (all_rows d (subs s ps) ++ (rows_at (suc d) (sub s e) ++ row (Binding b) [] (suc m) d ∷ []))) (sym (size-subs s ps)))
      (bind_starts d (row (Binding b) [] (suc (size ps)) d) out starts (subs s ps) (sub s e) (ap suc (sym (size-subs s ps)))))

  renamed-all_rows : (s : Sym → Option Tree) (d : ℕ) (ps : Parts) (qs out : List Row) (starts : List ℕ) → renamed s (all_rows d ps ++ qs) out starts ≡ renamed s qs (out ++ all_rows d (subs s ps)) (starts ++ offsets d out (subs s ps))
  renamed-all_rows s d end qs out starts = let p = sym (append-nil out) in let q = sym (append-nil starts) in λ i. renamed s qs (p i) (q i)
  renamed-all_rows s d (part e ps) qs out starts =
      let rows : (out ++ rows_at d (sub s e)) ++ all_rows d (subs s ps) ≡ out ++ (rows_at d (sub s e) ++ all_rows d (subs s ps)) = append_assoc out (rows_at d (sub s e)) (all_rows d (subs s ps)) in
      let places : (starts ++ length out ∷ []) ++ offsets d (out ++ rows_at d (sub s e)) (subs s ps) ≡ starts ++ length out ∷ offsets d (out ++ rows_at d (sub s e)) (subs s ps) =
      append_assoc starts (length out ∷ []) (offsets d (out ++ rows_at d (sub s e)) (subs s ps))
      in
      rw (append_assoc (rows_at d e) (all_rows d ps) qs, renamed-rows_at s d e (all_rows d ps ++ qs) out starts)
      (renamed-all_rows s d ps qs (out ++ rows_at d (sub s e)) (starts ++ length out ∷ []) ∙ (λ i. renamed s qs (rows i) (places i)))

-- the nodes that substitution gives
pub renamed_rows : (s : Sym → Option Tree) (e : Tree) (rs out : List Row) → rs ≡ rows_of e → out ≡ renamed s rs [] [] → out ≡ rows_of (sub s e)
renamed_rows s e rs out p q = q ∙ ap (λ (l : List Row). renamed s l [] []) (p ∙ sym (append-nil (rows_of e))) ∙ renamed-rows_at s 0 e [] [] []

formed_body : (o : Option Tree) (f : Sym) (n : ℕ) (ps : Parts) → ((b : Tree) → o ≡ Some b → is_well_formed b ≡ true) → n ≡ size ps → nat_eq n f.arity ≡ true → are_well_formed ps ≡ true → is_well_formed (apply_body o f ps) ≡ true
formed_body None f n ps h q k w = and_from _ _ (ap (λ m. nat_eq m f.arity) (sym q) ∙ k) w
formed_body (Some b) f n ps h q k w = formed-put 0 ps b w (h b refl)

mutual
  pub formed-sub : (s : Sym → Option Tree) → ((f : Sym) (b : Tree) → s f ≡ Some b → is_well_formed b ≡ true) → (e : Tree) → is_well_formed e ≡ true → is_well_formed (sub s e) ≡ true
  formed-sub s h (bound i) k = refl
  formed-sub s h (app f ps) k =
      let q = and_parts (nat_eq (size ps) f.arity) (are_well_formed ps) k in formed_body (s f) f (size ps) (subs s ps) (h f) (sym (size-subs s ps)) q.0 (formed-subs s h ps q.1)
  formed-sub s h (node f ns ps) k =
      let q = and_parts _ (are_well_formed ps) k in rw (size-subs s ps) (and_from _ _ q.0 (formed-subs s h ps q.1))
  formed-sub s h (bind b ps e) k =
      let q = and_parts _ (are_well_formed ps && is_well_formed e) k in
      let r = and_parts (are_well_formed ps) (is_well_formed e) q.1 in
      rw (size-subs s ps) (and_from _ _ q.0 (and_from _ _ (formed-subs s h ps r.0) (formed-sub s h e r.1)))

  pub formed-subs : (s : Sym → Option Tree) → ((f : Sym) (b : Tree) → s f ≡ Some b → is_well_formed b ≡ true) → (ps : Parts) → are_well_formed ps ≡ true → are_well_formed (subs s ps) ≡ true
  formed-subs s h end k = refl
  formed-subs s h (part e ps) k = let q = and_parts (is_well_formed e) (are_well_formed ps) k in and_from _ _ (formed-sub s h e q.0) (formed-subs s h ps q.1)

pub formed-named : (by : List (Sym × Tree)) → all_formed by ≡ true → (f : Sym) (b : Tree) → named by f ≡ Some b → is_well_formed b ≡ true
formed-named [] h f b e = absurd (cc)
formed-named (p ∷ by) h f b e = go (formed-named by (and_parts (is_well_formed p.1) (all_formed by) h).1 f b) (same_sym p.0 f) e
  where
    go : (named by f ≡ Some b → is_well_formed b ≡ true) → (x : Bool) → elim x [ true ↦ Some p.1 | false ↦ named by f ] ≡ Some b → is_well_formed b ≡ true
    go ih true e = let q : p.1 ≡ b = cc in ap is_well_formed (sym q) ∙ (and_parts (is_well_formed p.1) (all_formed by) h).0
    go ih false e = ih e

all_formed-append : (bs cs : List (Sym × Tree)) → all_formed (bs ++ cs) ≡ (all_formed bs && all_formed cs)
all_formed-append [] cs = refl
all_formed-append (p ∷ bs) cs = ap (λ x. is_well_formed p.1 && x) (all_formed-append bs cs) ∙ sym (and_assoc (is_well_formed p.1) (all_formed bs) (all_formed cs))

pub formed_pair : (bs : List (Sym × Tree)) (i : ℕ) (p : Sym × Tree) → i < length bs → p ≡ get_or bs i p → all_formed (take i bs) ≡ true → is_well_formed p.1 ≡ true → all_formed (take (i + 1) bs) ≡ true
formed_pair bs i p h e w k =
    let t : take (i + 1) bs ≡ take i bs ++ p ∷ [] = (take_at_read bs i p h).1 ∙ ap (λ (x : Sym × Tree). take i bs ++ x ∷ []) (sym e) in
    rw (t, all_formed-append (take i bs) (p ∷ [])) (and_from _ _ w (and_from _ _ k refl))

-- steps of the loops
read : {A : Type 0} → (xs : List A) (i : ℕ) (x : A) → i < length xs → x ≡ get_or xs i x → drop i xs ≡ x ∷ drop (i + 1) xs
read xs i x h e = drop-cons xs i x h ∙ (let q : suc i ≡ i + 1 = omega arith in let f : get_or xs i x ≡ x = sym e in λ j. f j ∷ drop (q j) xs)

pub fill_step : (out : List Row) (starts : List ℕ) (r : Row) (bs : List Row) (i : ℕ) (b : Row) (old new : List Row) → i < length bs → b ≡ get_or bs i b → old ≡ filled out starts r (take i bs) → new ≡ old ++ filled_row out starts r b → new ≡ filled out starts r (take (i + 1) bs)
fill_step out starts r bs i b old new h e o w =
    let t : take (i + 1) bs ≡ take i bs ++ b ∷ [] = (take_at_read bs i b h).1 ∙ ap (λ (x : Row). take i bs ++ x ∷ []) (sym e) in
    rw (t, filled-append out starts r (take i bs) (b ∷ []), append-nil (filled_row out starts r b), ← o) w

drop_all : (rs : List Row) (i : ℕ) → i ≡ length rs → drop i rs ≡ []
drop_all [] zero h = refl
drop_all [] (suc i) h = absurd (omega arith)
drop_all (r ∷ rs) zero h = absurd (omega arith)
drop_all (r ∷ rs) (suc i) h = drop_all rs i (omega arith)

pub applied_last : (n : ℕ) (rs : List Row) (i : ℕ) (r : Row) → i < length rs → r ≡ get_or rs i r → i + 1 ≡ length rs → root_symbol n r.kind r ≡ applied_symbol n 0 (drop i rs)
applied_last n rs i r h e l = sym (ap (applied_symbol n 0) (read rs i r h e ∙ ap (λ (l : List Row). r ∷ l) (drop_all rs (i + 1) l)))

pub applied_more : (n : ℕ) (rs : List Row) (i : ℕ) → i + 1 < length rs → applied_symbol n 0 (drop i rs) ≡ None
applied_more n rs i h =
    let r : Row = row Bound [] 0 0 in
    let e : drop i rs ≡ get_or rs i r ∷ (get_or rs (i + 1) r ∷ drop (suc (i + 1)) rs) =
    drop-cons rs i r (omega arith) ∙ (let q : suc i ≡ i + 1 = omega arith in ap (λ k. get_or rs i r ∷ drop k rs) q) ∙ ap (λ (l : List Row). get_or rs i r ∷ l) (drop-cons rs (i + 1) r h)
    in
    ap (applied_symbol n 0) e

pub applied_step : (n m k : ℕ) (rs : List Row) (i : ℕ) (r : Row) (z : Option Sym) → i < length rs → r ≡ get_or rs i r → applied_symbol n k (drop i rs) ≡ z → k ≡ suc m → is_variable m r.kind r ≡ true → applied_symbol n m (drop (i + 1) rs) ≡ z
applied_step n m k rs i r z h e o q v =
    ap (λ (b : Bool). elim b [ true ↦ applied_symbol n m (drop (i + 1) rs) | false ↦ None ]) (sym v) ∙ sym (λ j. applied_symbol n (q j) (read rs i r h e j)) ∙ o

pub applied_stop : (n m k : ℕ) (rs : List Row) (i : ℕ) (r : Row) (z : Option Sym) → i < length rs → r ≡ get_or rs i r → applied_symbol n k (drop i rs) ≡ z → k ≡ suc m → is_variable m r.kind r ≡ false → None ≡ z
applied_stop n m k rs i r z h e o q v =
    ap (λ (b : Bool). elim b [ true ↦ applied_symbol n m (drop (i + 1) rs) | false ↦ None ]) (sym v) ∙ sym (λ j. applied_symbol n (q j) (read rs i r h e j)) ∙ o

applied_none : (n i : ℕ) → applied_symbol n i [] ≡ None
applied_none n zero = refl
applied_none n (suc i) = refl

pub applied_end : (n k : ℕ) (rs : List Row) (i : ℕ) (z : Option Sym) → i ≡ length rs → applied_symbol n k (drop i rs) ≡ z → None ≡ z
applied_end n k rs i z h o = sym (applied_none n k) ∙ ap (applied_symbol n k) (sym (drop_all rs i h)) ∙ o
