-- Putting in, by the parts of a node.
use Rattle.std.proofs.Common.{◌≡◌, ℕ, suc, ◌+◌, ◌-◌, ◌<◌, ◌≤◌, max, pred, Bool, true, false, ◌&&◌, cond, nat_eq, nat_lt, List, [], ◌∷◌, length, get_or, refl, ap, sym, ◌∙◌, arith}
use Rattle.std.proofs.lemmas.Bool.Decides.{nat_tests}
use Rattle.core_expr.specs.Tree.{Tree, Parts, true_}
use Rattle.core_expr.specs.Tree.Tree.{bound, app, node, bind}
use Rattle.core_expr.specs.Tree.Parts.{end, part}
use Rattle.core_expr.specs.declared.row.RowKind.{RowKind}
use Rattle.core_expr.specs.declared.row.RowKind.TheVariants.{Bound, Symbol, Plain, Binding}
use Rattle.core_expr.specs.Heads.{make_kind, parts_of, front, back, kept_numbers, first, HasBody}
use Rattle.core_expr.specs.Nodes.{Node, node_kind, node_fits, node_make, picked}
use Rattle.core_expr.specs.Put.{put, puts, shift, argument, inst, IsScoped}
use Rattle.core_expr.proofs.Laws.{shift_closed}
use Rattle.core_expr.specs.Loose.{loose, loose_all}
use Rattle.term_bank.specs.Loose.{most_loose, binds, is_binder}
use Rattle.term_bank.specs.Banks.{HasNode}
use Rattle.term_bank.specs.Images.{image, part_tree, AreMoved}
use Rattle.core_expr.proofs.NodeLaws.{node-body}
use Rattle.term_bank.proofs.NodeLaws.{is_variable, variable-node, variable-kind, binder-kind, loose_all-parts_of}
use Rattle.term_bank.proofs.TableLaws.{fits-picked}

-- the parts after putting in, the last one deeper where it is a body
abbrev pub put_parts : Bool → ℕ → Parts → List Tree → List Tree
put_parts b d us [] = []
put_parts b d us (t ∷ []) = put (cond b (suc d) d) us t ∷ []
put_parts b d us (t ∷ u ∷ ts) = put d us t ∷ put_parts b d us (u ∷ ts)

-- the greatest loose variable of the parts, the last one seen through its binder where it is a body
abbrev pub reach_over : Bool → List Tree → ℕ
reach_over b [] = 0
reach_over b (t ∷ []) = cond b (pred (loose t)) (loose t)
reach_over b (t ∷ u ∷ ts) = max (loose t) (reach_over b (u ∷ ts))

parts_of-put : (d : ℕ) (us : Parts) (ts : List Tree) → puts d us (parts_of ts) ≡ parts_of (put_parts false d us ts)
parts_of-put d us [] = refl
parts_of-put d us (t ∷ []) = refl
parts_of-put d us (t ∷ u ∷ ts) = ap (part (put d us t)) (parts_of-put d us (u ∷ ts))

front-put : (d : ℕ) (us : Parts) (ts : List Tree) → puts d us (parts_of (front ts)) ≡ parts_of (front (put_parts true d us ts))
front-put d us [] = refl
front-put d us (t ∷ []) = refl
front-put d us (t ∷ u ∷ []) = refl
front-put d us (t ∷ u ∷ v ∷ ts) = ap (part (put d us t)) (front-put d us (u ∷ v ∷ ts))

back-put : (d : ℕ) (us : Parts) (ts : List Tree) → 0 < length ts → put (suc d) us (back ts) ≡ back (put_parts true d us ts)
back-put d us [] h = absurd (omega arith)
back-put d us (t ∷ []) h = refl
back-put d us (t ∷ u ∷ []) h = refl
back-put d us (t ∷ u ∷ v ∷ ts) h = back-put d us (u ∷ v ∷ ts) (omega arith)

put-kind : (d : ℕ) (us : Parts) (k : RowKind) (ns : List ℕ) (ts : List Tree) → is_variable k ≡ false → HasBody k (length ts) → put d us (make_kind k ns ts) ≡ make_kind k ns (put_parts (binds k) d us ts)
put-kind d us Bound ns ts v h = cc
put-kind d us (Symbol f) ns ts v h = ap (app f) (parts_of-put d us ts)
put-kind d us (Plain g) ns ts v h = ap (node g (kept_numbers g ns)) (parts_of-put d us ts)
put-kind d us (Binding b) ns ts v h = λ i. bind b (front-put d us ts i) (back-put d us ts h i)

reach_over-most : (ts : List Tree) → reach_over false ts ≡ most_loose ts
reach_over-most [] = refl
reach_over-most (t ∷ []) = omega arith
reach_over-most (t ∷ u ∷ ts) = ap (max (loose t)) (reach_over-most (u ∷ ts))

reach_over-body : (ts : List Tree) → 0 < length ts → reach_over true ts ≡ max (most_loose (front ts)) (pred (loose (back ts)))
reach_over-body [] h = absurd (omega arith)
reach_over-body (t ∷ []) h = omega arith
reach_over-body (t ∷ u ∷ ts) h = let e = reach_over-body (u ∷ ts) (omega arith) in omega (arith, e)

loose-kind : (k : RowKind) (ns : List ℕ) (ts : List Tree) → is_variable k ≡ false → HasBody k (length ts) → loose (make_kind k ns ts) ≡ reach_over (binds k) ts
loose-kind Bound ns ts v h = cc
loose-kind (Symbol f) ns ts v h = loose_all-parts_of ts ∙ sym (reach_over-most ts)
loose-kind (Plain g) ns ts v h = loose_all-parts_of ts ∙ sym (reach_over-most ts)
loose-kind (Binding b) ns ts v h = ap (λ n. max n (pred (loose (back ts)))) (loose_all-parts_of (front ts)) ∙ sym (reach_over-body ts h)

mutual
  -- nothing is put where no variable is loose from d on
  pub put_closed : (d : ℕ) (us : Parts) (t : Tree) → loose t ≤ d → put d us t ≡ t
  put_closed d us (bound i) h = low d i h (shift 0 d (argument us (i - d)))
    where
      low : (d i : ℕ) → suc i ≤ d → (y : Tree) → cond (nat_lt i d) (bound i) y ≡ bound i
      low d i h y = grind (arith, nat_tests)
  put_closed d us (app f ps) h = ap (app f) (puts_closed d us ps h)
  put_closed d us (node f ns ps) h = ap (node f ns) (puts_closed d us ps h)
  put_closed d us (bind b ps e) h = λ i. bind b (puts_closed d us ps (omega arith) i) (put_closed (suc d) us e (omega arith) i)

  pub puts_closed : (d : ℕ) (us ps : Parts) → loose_all ps ≤ d → puts d us ps ≡ ps
  puts_closed d us end h = refl
  puts_closed d us (part t ps) h = λ i. part (put_closed d us t (omega arith) i) (puts_closed d us ps (omega arith) i)

-- at depth d a part either has the variable, and d is known, or stays
put-part : (b : Bool) (d : ℕ) (t e : Tree) → cond b (pred (loose e)) (loose e) ≤ suc d → put (cond b (suc d) d) (part t end) e ≡ cond (nat_eq (cond b (pred (loose e)) (loose e)) (suc d)) (image t e) e
put-part true d t e h = go (nat_eq (pred (loose e)) (suc d)) refl
  where
    go : (c : Bool) → nat_eq (pred (loose e)) (suc d) ≡ c → put (suc d) (part t end) e ≡ cond c (image t e) e
    go true q = let p : suc d ≡ pred (loose e) = grind (arith, nat_tests) in ap (λ x. put x (part t end) e) p
    go false q = put_closed (suc d) (part t end) e (grind (arith, nat_tests))
put-part false d t e h = go (nat_eq (loose e) (suc d)) refl
  where
    go : (c : Bool) → nat_eq (loose e) (suc d) ≡ c → put d (part t end) e ≡ cond c (image t e) e
    go true q = let p : d ≡ pred (loose e) = grind (arith, nat_tests) in ap (λ x. put x (part t end) e) p
    go false q = put_closed d (part t end) e (grind (arith, nat_tests))

-- the parts of a node, moved one by one
abbrev moved_at : List Tree → Bool → ℕ → ℕ → Tree → List ℕ → ℕ → Tree
moved_at ts b c d t ps k = cond (nat_eq (cond (b && nat_eq (k + 1) c) (pred (loose (get_or ts (get_or ps k 0) true_))) (loose (get_or ts (get_or ps k 0) true_))) (suc d)) (image t (get_or ts (get_or ps k 0) true_)) (get_or ts (get_or ps k 0) true_)

last_test : (b : Bool) (k c m : ℕ) → c ≡ suc m → (b && nat_eq (suc k + 1) c) ≡ (b && nat_eq (k + 1) m)
last_test b k c m e = ap (λ x. b && x) (let q : nat_eq (suc k + 1) c ≡ nat_eq (k + 1) m = grind (arith, nat_tests) in q)

not_last : (b : Bool) (c : ℕ) → 1 < c → (b && nat_eq (0 + 1) c) ≡ false
not_last true c h = grind (arith, nat_tests)
not_last false c h = refl

only_last : (b : Bool) → (b && nat_eq (0 + 1) 1) ≡ b
only_last true = refl
only_last false = refl

moved-parts : (ts : List Tree) (b : Bool) (c d : ℕ) (t : Tree) (ps qs : List ℕ) → c ≡ length ps → length qs ≡ length ps → reach_over b (picked ts ps) ≤ suc d → ((k : ℕ) → k < length ps → get_or ts (get_or qs k 0) true_ ≡ moved_at ts b c d t ps k) → picked ts qs ≡ put_parts b d (part t end) (picked ts ps)
moved-parts ts b c d t [] [] ec e h f = refl
moved-parts ts b c d t [] (q ∷ qs) ec e h f = absurd (omega (arith, e))
moved-parts ts b c d t (p ∷ ps) [] ec e h f = absurd (omega (arith, e))
moved-parts ts b c d t (p ∷ []) (q ∷ r ∷ qs) ec e h f = absurd (omega (arith, e))
moved-parts ts b c d t (p ∷ []) (q ∷ []) ec e h f =
    let x : Tree = get_or ts p true_ in
    let g = f 0 (omega arith) in
    let w : (b && nat_eq (0 + 1) c) ≡ b = ap (λ n. b && nat_eq (0 + 1) n) ec ∙ only_last b in
    λ i. (g ∙ ap (λ y. cond (nat_eq (cond y (pred (loose x)) (loose x)) (suc d)) (image t x) x) w ∙ sym (put-part b d t x h)) i ∷ []
moved-parts ts b c d t (p ∷ r ∷ ps) (q ∷ qs) ec e h f =
    let x : Tree = get_or ts p true_ in
    let g = f 0 (omega arith) in
    let w : (b && nat_eq (0 + 1) c) ≡ false = not_last b c (omega (arith, ec)) in
    let rec = moved-parts ts b (length (r ∷ ps)) d t (r ∷ ps) qs refl (omega (arith, e)) (omega arith) (λ k l. f (suc k) (omega arith) ∙ ap (λ y. cond (nat_eq (cond y (pred (loose (get_or ts (get_or (r ∷ ps) k 0) true_))) (loose (get_or ts (get_or (r ∷ ps) k 0) true_))) (suc d)) (image t (get_or ts (get_or (r ∷ ps) k 0) true_)) (get_or ts (get_or (r ∷ ps) k 0) true_)) (last_test b k c (length (r ∷ ps)) ec)) in
    λ i. (g ∙ ap (λ y. cond (nat_eq (cond y (pred (loose x)) (loose x)) (suc d)) (image t x) x) w ∙ sym (put-part false d t x (omega arith))) i ∷ rec i

-- the node over the moved parts is the moved node
pub moved_node : (ts : List Tree) (i d : ℕ) (n : Node) (t : Tree) (qs : List ℕ) → HasNode ts i n → nat_eq n.head 5 ≡ false → d ≡ loose (get_or ts i true_) → 0 < d → AreMoved ts n d t (length n.parts) qs → node_make n.head n.numbers (picked ts qs) ≡ image t (get_or ts i true_)
moved_node ts i d n t qs g v e z a =
    ap (make_kind k n.numbers) parts
    ∙ sym (put-kind (pred d) (part t end) k n.numbers us nv body)
    ∙ ap (put (pred d) (part t end)) (sym tree)
    ∙ ap (λ x. put (pred x) (part t end) (get_or ts i true_)) e
  where
    us : List Tree
    us = picked ts n.parts

    k : RowKind
    k = node_kind n.head n.numbers

    w : node_fits n.head n.numbers (length us) ≡ true
    w = fits-picked ts n g.node.0

    nv : is_variable k ≡ false
    nv = variable-node n.head n.numbers (length us) w v

    body : HasBody k (length us)
    body = node-body n.head n.numbers (length us) w

    tree : get_or ts i true_ ≡ make_kind k n.numbers us
    tree = g.tree

    deep : reach_over (binds k) us ≡ d
    deep = sym (e ∙ ap loose tree ∙ loose-kind k n.numbers us nv body)

    one : d ≡ suc (pred d)
    one = omega (arith, z)

    binder : is_binder n.head ≡ binds k
    binder = binder-kind n.head n.numbers

    parts : picked ts qs ≡ put_parts (binds k) (pred d) (part t end) us
    parts = moved-parts ts (binds k) (length n.parts) (pred d) t n.parts qs refl a.count (omega (arith, deep, one))
        (λ j l. (a.parts j l).tree ∙ (λ x. cond (nat_eq (cond (binder x && nat_eq (j + 1) (length n.parts)) (pred (loose (part_tree ts n j))) (loose (part_tree ts n j))) (one x)) (image t (part_tree ts n j)) (part_tree ts n j)))

image_bound : (t : Tree) (i : ℕ) → IsScoped 0 t → image t (bound i) ≡ t
image_bound t i h = go (nat_lt i i) (i - i) (grind (arith, nat_tests)) (omega arith)
  where
    go : (b : Bool) (j : ℕ) → b ≡ false → j ≡ 0 → cond b (bound i) (shift 0 i (argument (part t end) j)) ≡ t
    go true j e z = cc
    go false j e z = ap (λ k. shift 0 i (argument (part t end) k)) z ∙ shift_closed 0 0 i t (omega arith) h

-- the variable itself
pub moved_variable : (ts : List Tree) (i : ℕ) (n : Node) (t : Tree) → HasNode ts i n → n.head ≡ 5 → IsScoped 0 t → image t (get_or ts i true_) ≡ t
moved_variable ts i n t g e h =
    let us = picked ts n.parts in
    let tree : get_or ts i true_ ≡ bound (first n.numbers) = g.tree ∙ ap (λ k. make_kind k n.numbers us) (variable-kind n.head n.numbers e) in
    ap (image t) tree ∙ image_bound t (first n.numbers) h

-- with one loose variable, that is all
pub inst-image : (e t : Tree) → loose e ≡ 1 → image t e ≡ inst e t
inst-image e t h = ap (λ n. put (pred n) (part t end) e) h

pub inst-closed : (e t : Tree) → loose e ≡ 0 → e ≡ inst e t
inst-closed e t h = sym (put_closed 0 (part t end) e (omega (arith, h)))
