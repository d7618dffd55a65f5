-- Prefix codes by the parts of a node.
use Rattle.std.proofs.Common.{◌≡◌, ℕ, zero, suc, ◌<◌, min, Bool, true, false, cond, nat_eq, nat_lt, Option, Some, None, List, [], ◌∷◌, ◌++◌, length, get_or, refl, ap, sym, ◌∙◌, arith, append_assoc}
use Rattle.std.specs.Prelude.{IsSome}
use Rattle.std.proofs.lemmas.Bool.{and_parts, eqb-true}
use Rattle.core_expr.specs.declared.head.Head.{Head}
use Rattle.core_expr.specs.declared.head.Head.TheVariants.{Num, Str, Enum, Tuple}
use Rattle.core_expr.specs.declared.row.RowKind.{RowKind}
use Rattle.core_expr.specs.declared.row.RowKind.TheVariants.{Bound, Symbol, Plain, Binding}
use Rattle.core_expr.specs.Tree.{Tree, Parts}
use Rattle.core_expr.specs.Tree.Tree.{bound, app, node, bind}
use Rattle.core_expr.specs.Tree.Parts.{end, part}
use Rattle.core_expr.specs.Terms.{head_code, binder_code, numbers_of, code, codes, list_less, less, nodes}
use Rattle.core_expr.specs.Heads.{kind_at, kind_number, kind_symbol, make_kind, parts_of, front, back, kept_numbers, table_numbers, plain_fits, binder_arity, first, after_first, is_empty, is_only, is_text, are_bytes, head_arity}
use Rattle.core_expr.specs.Nodes.{Node, canon_sym, node_kind, node_fits, numbers_fit, picked}
use Rattle.core_expr.proofs.Equal.{nat-same, nat-refl}
use Rattle.core_expr.proofs.NodeLaws.{node_numbers_fit, node_below, kind_number-node}
use Rattle.core_expr.proofs.Shown.{kind_at-symbol}
use Rattle.core_expr.proofs.BuildLaws.{no_numbers, one_number, table-kept, size-parts_of}
use Rattle.term_bank.specs.Banks.{IsDistinct, HasNode, tree_at}
use Rattle.term_bank.proofs.TableLaws.{fits-picked, length-picked}
use Rattle.term_walks.specs.Places.{AgreeBefore, IsPlace}
use Rattle.term_walks.proofs.TreeLaws.{HasShape, shape-node}
use Rattle.term_walks.proofs.PlaceLaws.{parts_same, kind-count, two_numbers, only-kept}
use Rattle.term_order.specs.Codes.{IsLess, ComparesAs}

abbrev select : {A : Type 0} → Bool → A → A → A
select b x y = elim b [ true ↦ x | false ↦ y ]

-- the codes of these, one after another
abbrev pub codes_all : List Tree → List ℕ → List ℕ
codes_all [] l = l
codes_all (t ∷ ts) l = code t (codes_all ts l)

codes-parts : (ts : List Tree) (l : List ℕ) → codes (parts_of ts) l ≡ codes_all ts l
codes-parts [] l = refl
codes-parts (t ∷ ts) l = ap (code t) (codes-parts ts l)

codes-split : (ts : List Tree) (l : List ℕ) → 0 < length ts → codes_all ts l ≡ codes_all (front ts) (code (back ts) l)
codes-split [] l h = absurd (omega arith)
codes-split (t ∷ []) l h = refl
codes-split (t ∷ u ∷ ts) l h = ap (code t) (codes-split (u ∷ ts) l (omega arith))

-- the numbers of a node in its code are those of the table
numbers-table : (h : Head) (ns : List ℕ) (ts : List Tree) → plain_fits h ns (length ts) ≡ true → numbers_of h (kept_numbers h ns) (parts_of ts) ≡ ns
numbers-table h ns ts w = go h w ∙ table-kept h ns (length ts) w
  where
    go : (h : Head) → plain_fits h ns (length ts) ≡ true → numbers_of h (kept_numbers h ns) (parts_of ts) ≡ table_numbers h (kept_numbers h ns) (length ts)
    go Enum w = λ i. size-parts_of ts i ∷ sym (only-kept (length ts) ns w) i
    go Tuple w = λ i. size-parts_of ts i ∷ sym (only-kept (length ts) ns w) i
    go Str w = refl
    go _ w = refl

-- a kind that tells its numbers
abbrev Tells : RowKind → List ℕ → Type 0
Tells (Symbol f) ns = f.number ∷ f.arity ∷ [] ≡ ns
Tells k ns = Unit {0}

kind-code : (k : RowKind) (ns : List ℕ) (ts : List Tree) (l : List ℕ) → Tells k ns → HasShape k (length ts) → numbers_fit k ns (length ts) ≡ true → code (make_kind k ns ts) l ≡ kind_number k ∷ (ns ++ codes_all ts l)
kind-code Bound ns [] l e s w =
    ap (λ xs. 5 ∷ (xs ++ l)) (sym (one_number ns (eqb-true (length ns) 1 (and_parts (nat_eq (length ns) 1) (nat_eq 0 0) w).0)))
kind-code Bound ns (t ∷ ts) l e s w = absurd (omega arith)
kind-code (Symbol f) ns ts l e s w = λ i. 6 ∷ (e i ++ codes-parts ts l i)
kind-code (Plain h) ns ts l e s w = λ i. head_code h ∷ (numbers-table h ns ts w i ++ codes-parts ts l i)
kind-code (Binding b) ns ts l e s w =
    (λ i. binder_code b ∷ (codes-parts (front ts) (code (back ts) l) ∙ sym (codes-split ts l s)) i)
    ∙ ap (λ xs. binder_code b ∷ (xs ++ codes_all ts l)) (sym (no_numbers ns (and_parts (is_empty ns) (nat_eq (length ts) (binder_arity b)) w).0))

node-code : (ts : List Tree) (i : ℕ) (n : Node) (l : List ℕ) → HasNode ts i n → code (tree_at ts i) l ≡ n.head ∷ (n.numbers ++ codes_all (picked ts n.parts) l)
node-code ts i n l g =
    ap (λ t. code t l) g.tree
    ∙ kind-code (node_kind n.head n.numbers) n.numbers (picked ts n.parts) l (tells (nat_eq n.head 6) fit) (shape-node n.head n.numbers _ w) fit
    ∙ ap (λ h. h ∷ (n.numbers ++ codes_all (picked ts n.parts) l)) (kind_number-node n.head n.numbers (let m = node_below n.head n.numbers _ w in omega arith))
  where
    w : node_fits n.head n.numbers (length (picked ts n.parts)) ≡ true
    w = fits-picked ts n g.node.0

    fit : numbers_fit (node_kind n.head n.numbers) n.numbers (length (picked ts n.parts)) ≡ true
    fit = node_numbers_fit n.head n.numbers _ w

    tells : (b : Bool) → numbers_fit (cond b (Symbol (canon_sym (first n.numbers) (first (after_first n.numbers)))) (kind_at n.head)) n.numbers (length (picked ts n.parts)) ≡ true → Tells (cond b (Symbol (canon_sym (first n.numbers) (first (after_first n.numbers)))) (kind_at n.head)) n.numbers
    tells true f = two_numbers n.numbers (and_parts (nat_eq (length n.numbers) 2) (nat_eq (length (picked ts n.parts)) (first (after_first n.numbers))) f).0
    tells false f = plain (kind_at n.head) (kind_at-symbol n.head (let m = node_below n.head n.numbers _ w in omega arith))
      where
        plain : (k : RowKind) → kind_symbol k ≡ None → Tells k n.numbers
        plain Bound e = tt
        plain (Symbol g) e = cc
        plain (Plain h) e = tt
        plain (Binding b) e = tt

-- comparing lists
less-first : (x y : ℕ) (xs ys : List ℕ) → (x ≡ y → ⊥) → list_less (x ∷ xs) (y ∷ ys) ≡ nat_lt x y
less-first x y xs ys ne = go (nat_eq x y) refl
  where
    go : (b : Bool) → nat_eq x y ≡ b → select b (list_less xs ys) (nat_lt x y) ≡ nat_lt x y
    go true e = absurd (ne (nat-same x y e))
    go false e = refl

less-same : (x y : ℕ) (xs ys : List ℕ) → x ≡ y → list_less (x ∷ xs) (y ∷ ys) ≡ list_less xs ys
less-same x y xs ys e = ap (λ b. select b (list_less xs ys) (nat_lt x y)) (ap (nat_eq x) (sym e) ∙ nat-refl x)

less-prefix : (zs xs ys : List ℕ) → list_less (zs ++ xs) (zs ++ ys) ≡ list_less xs ys
less-prefix [] xs ys = refl
less-prefix (z ∷ zs) xs ys = less-same z z (zs ++ xs) (zs ++ ys) refl ∙ less-prefix zs xs ys

less-self : (xs : List ℕ) → list_less xs xs ≡ false
less-self [] = refl
less-self (x ∷ xs) = less-same x x xs xs refl ∙ less-self xs

less-apart : (ns ms xs ys : List ℕ) (k : ℕ) → k < length ns → k < length ms → AgreeBefore ns ms k → (get_or ns k 0 ≡ get_or ms k 0 → ⊥) → list_less (ns ++ xs) (ms ++ ys) ≡ nat_lt (get_or ns k 0) (get_or ms k 0)
less-apart [] ms xs ys k l m f ne = absurd (omega arith)
less-apart (n ∷ ns) [] xs ys k l m f ne = absurd (omega arith)
less-apart (n ∷ ns) (m ∷ ms) xs ys zero l q f ne = less-first n m (ns ++ xs) (ms ++ ys) ne
less-apart (n ∷ ns) (m ∷ ms) xs ys (suc k) l q f ne =
    less-same n m (ns ++ xs) (ms ++ ys) (f 0 (omega arith)) ∙ less-apart ns ms xs ys k (omega arith) (omega arith) (λ j h. f (suc j) (omega arith)) ne

-- a code is put before what follows it
mutual
  code-append : (e : Tree) (l : List ℕ) → code e l ≡ code e [] ++ l
  code-append (bound i) l = refl
  code-append (app f ps) l = ap (λ xs. 6 ∷ f.number ∷ f.arity ∷ xs) (codes-append ps l)
  code-append (node h ns ps) l =
      ap (λ xs. head_code h ∷ (numbers_of h ns ps ++ xs)) (codes-append ps l) ∙ ap (λ xs. head_code h ∷ xs) (sym (append_assoc (numbers_of h ns ps) (codes ps []) l))
  code-append (bind b ps e) l =
      ap (λ xs. binder_code b ∷ xs) (ap (codes ps) (code-append e l) ∙ codes-append ps (code e [] ++ l) ∙ sym (append_assoc (codes ps []) (code e []) l) ∙ ap (λ xs. xs ++ l) (sym (codes-append ps (code e []))))

  codes-append : (ps : Parts) (l : List ℕ) → codes ps l ≡ codes ps [] ++ l
  codes-append end l = refl
  codes-append (part e ps) l =
      code-append e (codes ps l) ∙ ap (λ xs. code e [] ++ xs) (codes-append ps l) ∙ sym (append_assoc (code e []) (codes ps []) l) ∙ ap (λ xs. xs ++ l) (sym (code-append e (codes ps [])))

less-code : (e : Tree) (xs ys : List ℕ) → list_less (code e xs) (code e ys) ≡ list_less xs ys
less-code e xs ys = (λ i. list_less (code-append e xs i) (code-append e ys i)) ∙ less-prefix (code e []) xs ys

-- the codes of two lists compare as those of their first parts with different indices
codes-apart : (ts : List Tree) (ps qs : List ℕ) (k : ℕ) (xs ys : List ℕ) → k < length ps → k < length qs → AgreeBefore ps qs k
    → (as' bs : List ℕ) × (list_less (codes_all (picked ts ps) xs) (codes_all (picked ts qs) ys) ≡ list_less (code (tree_at ts (get_or ps k 0)) as') (code (tree_at ts (get_or qs k 0)) bs))
codes-apart ts [] qs k xs ys l m f = absurd (omega arith)
codes-apart ts (p ∷ ps) [] k xs ys l m f = absurd (omega arith)
codes-apart ts (p ∷ ps) (q ∷ qs) zero xs ys l m f = (codes_all (picked ts ps) xs, codes_all (picked ts qs) ys, refl)
codes-apart ts (p ∷ ps) (q ∷ qs) (suc k) xs ys l m f =
    let r = codes-apart ts ps qs k xs ys (omega arith) (omega arith) (λ j h. f (suc j) (omega arith)) in
    let e : p ≡ q = f 0 (omega arith) in
    (r.0, r.1, ap (λ x. list_less (code (tree_at ts p) (codes_all (picked ts ps) xs)) (code (tree_at ts x) (codes_all (picked ts qs) ys))) (sym e) ∙ less-code (tree_at ts p) (codes_all (picked ts ps) xs) (codes_all (picked ts qs) ys) ∙ r.2)

-- numbers of one head that agree as far as both go
text_length : (ns ls : List ℕ) → is_text ns ≡ true → is_text ls ≡ true → AgreeBefore ns ls (min (length ns) (length ls)) → length ns ≡ length ls
text_length [] ls v w f = cc
text_length (n ∷ ns) [] v w f = cc
text_length (n ∷ ns) (l ∷ ls) v w f =
    let a = eqb-true n (length ns) (and_parts (nat_eq n (length ns)) (are_bytes ns) v).0 in
    let b = eqb-true l (length ls) (and_parts (nat_eq l (length ls)) (are_bytes ls) w).0 in
    let e = f 0 (omega arith) in
    omega (arith, a, b, e)

only_length : (k : ℕ) (ns : List ℕ) → is_only k ns ≡ true → length ns ≡ 1
only_length k [] w = cc
only_length k (n ∷ ns) w = ap (λ xs. suc (length xs)) (no_numbers ns (and_parts (nat_eq n k) (is_empty ns) w).1)

empty_length : (ns : List ℕ) → is_empty ns ≡ true → length ns ≡ 0
empty_length ns w = ap length (no_numbers ns w)

plain_length : (h : Head) (ns ls : List ℕ) (a b : ℕ) → plain_fits h ns a ≡ true → plain_fits h ls b ≡ true → AgreeBefore ns ls (min (length ns) (length ls)) → length ns ≡ length ls
plain_length Num ns ls a b v w f = eqb-true (length ns) 2 (and_parts (nat_eq (length ns) 2) (nat_eq a 0) v).0 ∙ sym (eqb-true (length ls) 2 (and_parts (nat_eq (length ls) 2) (nat_eq b 0) w).0)
plain_length Str ns ls a b v w f = text_length ns ls (and_parts (is_text ns) (nat_eq a 0) v).0 (and_parts (is_text ls) (nat_eq b 0) w).0 f
plain_length Enum ns ls a b v w f = only_length a ns v ∙ sym (only_length b ls w)
plain_length Tuple ns ls a b v w f = only_length a ns v ∙ sym (only_length b ls w)
plain_length h ns ls a b v w f =
    empty_length ns (and_parts (is_empty ns) (nat_eq a (head_arity h)) v).0 ∙ sym (empty_length ls (and_parts (is_empty ls) (nat_eq b (head_arity h)) w).0)

kind_length : (k : RowKind) (ns ls : List ℕ) (a b : ℕ) → numbers_fit k ns a ≡ true → numbers_fit k ls b ≡ true → AgreeBefore ns ls (min (length ns) (length ls)) → length ns ≡ length ls
kind_length Bound ns ls a b v w f = eqb-true (length ns) 1 (and_parts (nat_eq (length ns) 1) (nat_eq a 0) v).0 ∙ sym (eqb-true (length ls) 1 (and_parts (nat_eq (length ls) 1) (nat_eq b 0) w).0)
kind_length (Symbol g) ns ls a b v w f = eqb-true (length ns) 2 (and_parts (nat_eq (length ns) 2) (nat_eq a g.arity) v).0 ∙ sym (eqb-true (length ls) 2 (and_parts (nat_eq (length ls) 2) (nat_eq b g.arity) w).0)
kind_length (Plain h) ns ls a b v w f = plain_length h ns ls a b v w f
kind_length (Binding g) ns ls a b v w f =
    empty_length ns (and_parts (is_empty ns) (nat_eq a (binder_arity g)) v).0 ∙ sym (empty_length ls (and_parts (is_empty ls) (nat_eq b (binder_arity g)) w).0)

node_length : (h : ℕ) (ns ls : List ℕ) (a b : ℕ) → node_fits h ns a ≡ true → node_fits h ls b ≡ true → AgreeBefore ns ls (min (length ns) (length ls)) → length ns ≡ length ls
node_length h ns ls a b v w f = go (nat_eq h 6) (node_numbers_fit h ns a v) (node_numbers_fit h ls b w)
  where
    go : (x : Bool) → numbers_fit (cond x (Symbol (canon_sym (first ns) (first (after_first ns)))) (kind_at h)) ns a ≡ true → numbers_fit (cond x (Symbol (canon_sym (first ls) (first (after_first ls)))) (kind_at h)) ls b ≡ true → length ns ≡ length ls
    go true p q = eqb-true (length ns) 2 (and_parts (nat_eq (length ns) 2) (nat_eq a (first (after_first ns))) p).0 ∙ sym (eqb-true (length ls) 2 (and_parts (nat_eq (length ls) 2) (nat_eq b (first (after_first ls))) q).0)
    go false p q = kind_length (kind_at h) ns ls a b p q f

-- a step
module _ (ts : List Tree) (i j : ℕ) (n m : Node) (gi : HasNode ts i n) (gj : HasNode ts j m) where
  heads : (xs ys : List ℕ) → list_less (code (tree_at ts i) xs) (code (tree_at ts j) ys) ≡ list_less (n.head ∷ (n.numbers ++ codes_all (picked ts n.parts) xs)) (m.head ∷ (m.numbers ++ codes_all (picked ts m.parts) ys))
  heads xs ys = λ k. list_less (node-code ts i n xs gi k) (node-code ts j m ys gj k)

  pub head_less : (n.head ≡ m.head → ⊥) → IsLess ts i j (nat_lt n.head m.head)
  head_less ne xs ys = heads xs ys ∙ less-first n.head m.head (n.numbers ++ codes_all (picked ts n.parts) xs) (m.numbers ++ codes_all (picked ts m.parts) ys) ne

  after_heads : n.head ≡ m.head → (xs ys : List ℕ) → list_less (code (tree_at ts i) xs) (code (tree_at ts j) ys) ≡ list_less (n.numbers ++ codes_all (picked ts n.parts) xs) (m.numbers ++ codes_all (picked ts m.parts) ys)
  after_heads eh xs ys = heads xs ys ∙ less-same n.head m.head (n.numbers ++ codes_all (picked ts n.parts) xs) (m.numbers ++ codes_all (picked ts m.parts) ys) eh

  pub number_less : n.head ≡ m.head → (k x y : ℕ) → IsPlace n.numbers m.numbers (Some k) → x ≡ get_or n.numbers k 0 → y ≡ get_or m.numbers k 0 → IsLess ts i j (nat_lt x y)
  number_less eh k x y h ex ey xs ys =
      after_heads eh xs ys ∙ less-apart n.numbers m.numbers (codes_all (picked ts n.parts) xs) (codes_all (picked ts m.parts) ys) k h.0 h.1 h.2 h.3 ∙ (λ z. nat_lt (sym ex z) (sym ey z))

  same_numbers : n.head ≡ m.head → IsPlace n.numbers m.numbers None → n.numbers ≡ m.numbers
  same_numbers eh f =
      parts_same n.numbers m.numbers f (node_length n.head n.numbers m.numbers (length (picked ts n.parts)) (length (picked ts m.parts)) (fits-picked ts n gi.node.0) (ap (λ h. node_fits h m.numbers (length (picked ts m.parts))) eh ∙ fits-picked ts m gj.node.0) f)

  pub some_apart : IsDistinct ts → (i ≡ j → ⊥) → n.head ≡ m.head → IsPlace n.numbers m.numbers None → IsPlace n.parts m.parts None → ⊥
  some_apart d ne eh f g =
      let en = same_numbers eh f in
      let w : node_fits n.head n.numbers (length (picked ts m.parts)) ≡ true = (λ x. node_fits (eh x) (en x) (length (picked ts m.parts))) ∙ fits-picked ts m gj.node.0 in
      let c = kind-count (node_kind n.head n.numbers) n.numbers (length (picked ts n.parts)) (length (picked ts m.parts)) (node_numbers_fit n.head n.numbers _ (fits-picked ts n gi.node.0)) (node_numbers_fit n.head n.numbers _ w) in
      let ep = parts_same n.parts m.parts g (sym (length-picked ts n.parts) ∙ c ∙ length-picked ts m.parts) in
      ne (d i j gi.within gj.within (gi.tree ∙ (λ x. make_kind (node_kind (eh x) (en x)) (en x) (picked ts (ep x))) ∙ sym gj.tree))

  pub compares : n.head ≡ m.head → IsPlace n.numbers m.numbers None → (k p q : ℕ) → IsPlace n.parts m.parts (Some k) → p ≡ get_or n.parts k 0 → q ≡ get_or m.parts k 0 → (xs ys : List ℕ) → ComparesAs ts i j p q xs ys
  compares eh f k p q h ep eq xs ys =
      let r = codes-apart ts n.parts m.parts k xs ys h.0 h.1 h.2 in
      record {
        after_left = r.0;
        after_right = r.1;
        same = after_heads eh xs ys
            ∙ ap (λ ns. list_less (n.numbers ++ codes_all (picked ts n.parts) xs) (ns ++ codes_all (picked ts m.parts) ys)) (sym (same_numbers eh f))
            ∙ less-prefix n.numbers (codes_all (picked ts n.parts) xs) (codes_all (picked ts m.parts) ys) ∙ r.2
            ∙ (λ z. list_less (code (tree_at ts (sym ep z)) r.0) (code (tree_at ts (sym eq z)) r.1));
      }

pub still_apart : (x y p q : ℕ) → p ≡ x → q ≡ y → (x ≡ y → ⊥) → p ≡ q → ⊥
still_apart x y p q a b ne e = ne (sym a ∙ e ∙ b)

-- the order of terms
pub less-same_term : (t : Tree) → false ≡ less t t
less-same_term t = sym (ap (λ b. select b (list_less (code t []) (code t [])) (nat_lt (nodes t) (nodes t))) (nat-refl (nodes t)) ∙ less-self (code t []))

pub less-sizes : (s t : Tree) (a b : ℕ) → a ≡ nodes s → b ≡ nodes t → (a ≡ b → ⊥) → nat_lt a b ≡ less s t
less-sizes s t a b ea eb ne =
    (λ i. nat_lt (ea i) (eb i)) ∙ sym (ap (λ x. select x (list_less (code s []) (code t [])) (nat_lt (nodes s) (nodes t))) (go (nat_eq (nodes s) (nodes t)) refl))
  where
    go : (x : Bool) → nat_eq (nodes s) (nodes t) ≡ x → nat_eq (nodes s) (nodes t) ≡ false
    go true e = absurd (ne (ea ∙ nat-same (nodes s) (nodes t) e ∙ sym eb))
    go false e = e

pub less-codes : (s t : Tree) (a b : ℕ) (x : Bool) → a ≡ nodes s → b ≡ nodes t → a ≡ b → x ≡ list_less (code s []) (code t []) → x ≡ less s t
less-codes s t a b x ea eb e h =
    h ∙ sym (ap (λ y. select y (list_less (code s []) (code t [])) (nat_lt (nodes s) (nodes t))) (ap (nat_eq (nodes s)) (sym eb ∙ sym e ∙ ea) ∙ nat-refl (nodes s)))

pub place_some : (xs ys : List ℕ) (o : Option ℕ) → IsPlace xs ys o → (IsPlace xs ys None → ⊥) → IsSome o
place_some xs ys None h ne = absurd (ne h)
place_some xs ys (Some k) h ne = refl
