-- Images over a bank that grows.
use Rattle.std.proofs.Common.{◌≡◌, ℕ, suc, ◌+◌, ◌-◌, ◌<◌, ◌≤◌, Bool, true, false, cond, pred, nat_eq, Option, Some, List, [], ◌∷◌, ◌++◌, length, length-append, get_or, drop, refl, ap, sym, ◌∙◌, arith, subst, rules, inl, inr, append-nil, append_assoc, IsTrue, Result, Ok, Err}
use Rattle.std.proofs.lemmas.Bool.Decides.{nat_tests}
use Rattle.std.proofs.lemmas.List.{get_or_append_left, get_or_push, length_push, drop_more}
use Rattle.std.proofs.lemmas.Bool.{cases_lt}
use Rattle.std.specs.Prelude.{IfOk, IsSome}
use Rattle.core_expr.specs.Put.{inst, IsScoped}
use Rattle.core_expr.proofs.LooseLaws.{IsScoped-from_loose, loose-scoped}
use Rattle.term_bank.proofs.PutLaws.{inst-image, inst-closed}
use Rattle.std.specs.Ordering.{nat_cmp}
use Rattle.std.specs.BTreeMap.{is_at}
use Rattle.core_expr.specs.Tree.{Tree, true_}
use Rattle.core_expr.specs.Nodes.{Node, AreBelow, tree_over, node_make}
use Rattle.core_expr.specs.Loose.{loose}
use Rattle.term_bank.specs.Banks.{Extends, HasNode, HasTree}
use Rattle.term_bank.specs.Images.{image, is_body, part_tree, needs_image, In, IsTouched, HasParts, AreCovered, found, HasImage, HaveImages, ImagesOfParts, KeepsImages, moved_tree, AreMoved}
use Rattle.term_bank.proofs.TableLaws.{AreBelow-at, AreBelow-more, picked-extend}
use Rattle.term_bank.proofs.MarkLaws.{covered_at}

pub same_tree : (ts now : List Tree) (q : ℕ) → Extends ts now → q < length ts → get_or now q true_ ≡ get_or ts q true_
same_tree ts now q x h = ap (λ us. get_or us q true_) x.1 ∙ get_or_append_left ts x.0 true_ q h

pub longer : (ts now : List Tree) → Extends ts now → length ts ≤ length now
longer ts now x = omega (arith, ap length x.1, length-append ts x.0)

-- a node that was there
was_node : (ts now : List Tree) (i : ℕ) (n : Node) → Extends ts now → i < length ts → AreBelow i n.parts → HasNode now i n → HasNode ts i n
was_node ts now i n x h b g =
    let c = AreBelow-more i (length ts) n.parts (omega arith) b in
    record {
      within = h;
      node = (g.node.0, c);
      tree = sym (same_tree ts now i x h) ∙ g.tree ∙ ap (λ us. tree_over us n) x.1 ∙ ap (λ us. node_over us) (picked-extend ts x.0 n.parts c);
    }
  where
    node_over : List Tree → Tree
    node_over us = node_make n.head n.numbers us

was_touched : (ts now : List Tree) (i : ℕ) → Extends ts now → IsTouched ts i → IsTouched now i
was_touched ts now i x a =
    let l = longer ts now x in
    let e = ap loose (same_tree ts now i x a.0) in
    (omega (arith, a.0), omega (arith, a.1, e))

-- the parts of a node in the bank now
pub images_known : (ts now : List Tree) (i : ℕ) (t u : Tree) (images : List (ℕ × ℕ)) (others : List ℕ) → Extends ts now → t ≡ u → IsTouched ts i → HasParts ts i others → HaveImages now t images others → ImagesOfParts now i u images
images_known ts now i t u images others x e a p f n g b k l w =
    let o : get_or n.parts k 0 < length ts = let m = AreBelow-at i n.parts k b l in omega (arith, a.0) in
    let s = same_tree ts now (get_or n.parts k 0) x o in
    let d = ap loose (same_tree ts now i x a.0) in
    let w' : needs_image ts n (loose (get_or ts i true_)) k ≡ true = needs_same s d w in
    subst (λ y. HasImage now y images (get_or n.parts k 0)) e (f (get_or n.parts k 0) (p n (was_node ts now i n x a.0 b g) b k l w'))
  where
    needs_same : get_or now (get_or n.parts k 0) true_ ≡ get_or ts (get_or n.parts k 0) true_ → loose (get_or now i true_) ≡ loose (get_or ts i true_) → needs_image now n (loose (get_or now i true_)) k ≡ true → needs_image ts n (loose (get_or ts i true_)) k ≡ true
    needs_same s d w = sym (λ j. nat_eq (cond (is_body n.head k (length n.parts)) (pred (loose (s j))) (loose (s j))) (d j)) ∙ w

at_key : (i q : ℕ) → is_at (nat_cmp i) q ≡ true → i ≡ q
at_key i q h = grind (arith, nat_tests)

at_itself : (i : ℕ) → is_at (nat_cmp i) i ≡ true
at_itself i = grind (arith, nat_tests)

-- what one more image leaves
pub keeps : (ts now : List Tree) (t : Tree) (i k : ℕ) (old new : List (ℕ × ℕ)) → Extends ts now → i < length ts → HasTree now k (image t (get_or ts i true_)) → ((q : ℕ) → found q new ≡ cond (is_at (nat_cmp i) q) (Some k) (found q old)) → KeepsImages ts now t i old new
keeps ts now t i k old new x h g f = (here i refl, other)
  where
    l : length ts ≤ length now
    l = longer ts now x

    here : (q : ℕ) → q ≡ i → HasImage now t new q
    here q e = record {
      within = omega (arith, e, h, l);
      index = k;
      found_is = f q ∙ ap (λ b. cond b (Some k) (found q old)) (ap (λ y. is_at (nat_cmp i) y) e ∙ at_itself i);
      tree = record { within = g.within; tree = g.tree ∙ ap (image t) (sym (same_tree ts now i x h) ∙ ap (λ y. get_or now y true_) (sym e)) };
    }

    other : (q : ℕ) → HasImage ts t old q → HasImage now t new q
    other q a = go (is_at (nat_cmp i) q) refl
      where
        go : (b : Bool) → is_at (nat_cmp i) q ≡ b → HasImage now t new q
        go true z = here q (sym (at_key i q z))
        go false z =
            let w = a.within in
            record {
              within = omega (arith, w, l);
              index = a.index;
              found_is = f q ∙ ap (λ b. cond b (Some k) (found q old)) z ∙ a.found_is;
              tree = let v = a.tree.within in record { within = omega (arith, v, l); tree = same_tree ts now a.index x a.tree.within ∙ a.tree.tree ∙ ap (image t) (sym (same_tree ts now q x a.within)) };
            }

-- one more node of the list
pub more_images : (ts now : List Tree) (t u : Tree) (i place : ℕ) (done : List ℕ) (old new : List (ℕ × ℕ)) → u ≡ t → place < length done → i ≡ get_or done place 0 → HaveImages ts t old (drop (suc place) done) → KeepsImages ts now u i old new → HaveImages now t new (drop place done)
more_images ts now t u i place done old new e h r a k q m = go (subst (In q) (drop_more done place 0 h) m)
  where
    go : In q (get_or done place 0 ∷ drop (place + 1) done) → HasImage now t new q
    go (inl z) = subst (λ y. HasImage now y new q) e (subst (HasImage now u new) (r ∙ sym z) k.0)
    go (inr o) = subst (λ y. HasImage now y new q) e (k.1 q (subst (λ y. HasImage ts y old q) (sym e) (a q (let s : place + 1 ≡ suc place = omega arith in subst (λ j. In q (drop j done)) s o))))

-- a part that stays
pub stays : (ts : List Tree) (n : Node) (d k p : ℕ) (t : Tree) → AreBelow (length ts) n.parts → k < length n.parts → p ≡ get_or n.parts k 0 → needs_image ts n d k ≡ false → HasTree ts p (moved_tree ts n d t k)
stays ts n d k p t b l e w =
    record {
      within = subst (λ q. q < length ts) (sym e) (AreBelow-at (length ts) n.parts k b l);
      tree = ap (λ q. get_or ts q true_) e ∙ ap (λ c. cond c (image t (part_tree ts n k)) (part_tree ts n k)) (sym w);
    }

-- a part that moves
pub moves : (ts : List Tree) (n : Node) (d k p x : ℕ) (t : Tree) (images : List (ℕ × ℕ)) → p ≡ get_or n.parts k 0 → needs_image ts n d k ≡ true → HasImage ts t images (get_or n.parts k 0) → found p images ≡ Some x → HasTree ts x (moved_tree ts n d t k)
moves ts n d k p x t images e w a f =
    let z : a.index ≡ x = some_same _ _ (sym a.found_is ∙ ap (λ q. found q images) (sym e) ∙ f) in
    subst (λ y. HasTree ts y (moved_tree ts n d t k)) z (record { within = a.tree.within; tree = a.tree.tree ∙ ap (λ c. cond c (image t (part_tree ts n k)) (part_tree ts n k)) (sym w) })
  where
    some_same : (x y : ℕ) → Some x ≡ Some y → x ≡ y
    some_same x y q = cc

pub moved_more : (ts : List Tree) (n : Node) (d : ℕ) (t : Tree) (k x : ℕ) (is out : List ℕ) → AreMoved ts n d t k is → HasTree ts x (moved_tree ts n d t k) → out ≡ is ++ x ∷ [] → AreMoved ts n d t (k + 1) out
moved_more ts n d t k x is out a h e =
    record {
      count = ap length e ∙ length_push is x ∙ (let c = a.count in omega (arith, c));
      parts = λ j l. subst (λ (xs : List ℕ). HasTree ts (get_or xs j 0) (moved_tree ts n d t j)) (sym e) (elim (cases_lt j k) [
        | inl m ↦ subst (λ q. HasTree ts q (moved_tree ts n d t j)) (sym (get_or_append_left is (x ∷ []) 0 j (let c = a.count in omega (arith, c)))) (a.parts j m)
        | inr m ↦ let z : k ≡ j = omega arith in subst (λ q. HasTree ts q (moved_tree ts n d t j)) (sym (get_or_push is x 0 j (a.count ∙ z))) (subst (λ i. HasTree ts x (moved_tree ts n d t i)) z h)
      ]);
    }

below_all : (n : ℕ) (is : List ℕ) → ((j : ℕ) → j < length is → get_or is j 0 < n) → AreBelow n is
below_all n [] f = tt
below_all n (i ∷ is) f = (f 0 (omega arith), below_all n is (λ j l. f (suc j) (omega arith)))

pub moved_below : (ts : List Tree) (n : Node) (d : ℕ) (t : Tree) (k : ℕ) (is out : List ℕ) → AreMoved ts n d t k is → out ≡ is → AreBelow (length ts) out
moved_below ts n d t k is out a e = subst (AreBelow (length ts)) (sym e) (below_all (length ts) is (λ j l. (a.parts j (let c = a.count in omega (arith, c))).within))

pub ok_tree : {E : Type 0} (r : Result ℕ E) (ts : List Tree) (a b : Tree) → a ≡ b → IfOk r (λ k. HasTree ts k a) → IfOk r (λ k. HasTree ts k b)
ok_tree (Ok k) ts a b e h = subst (HasTree ts k) e h
ok_tree (Err z) ts a b e h = h

-- the turns of the loop
pub turn_touched : (ts now : List Tree) (done : List ℕ) (k : ℕ) → AreCovered ts done [] → Extends ts now → k < length done → IsTouched now (get_or done (length done - 1 - k) 0)
turn_touched ts now done k a x l = was_touched ts now (get_or done (length done - 1 - k) 0) x (covered_at ts done [] (length done - 1 - k) (get_or done (length done - 1 - k) 0) a (omega arith) refl).0

pub turn_known : (ts now : List Tree) (t : ℕ) (images : List (ℕ × ℕ)) (done : List ℕ) (k : ℕ) → AreCovered ts done [] → Extends ts now → k < length done → t < length ts → HaveImages now (get_or ts t true_) images (drop (length done - k) done) → ImagesOfParts now (get_or done (length done - 1 - k) 0) (get_or now t true_) images
turn_known ts now t images done k a x l m h =
    let c = covered_at ts done [] (length done - 1 - k) (get_or done (length done - 1 - k) 0) a (omega arith) refl in
    images_known ts now (get_or done (length done - 1 - k) 0) (get_or ts t true_) (get_or now t true_) images (drop (suc (length done - 1 - k)) done ++ []) x (sym (same_tree ts now t x m)) c.0 c.1
    (λ q i. h q (subst (λ is. In q is) (append-nil (drop (suc (length done - 1 - k)) done) ∙ ap (λ j. drop j done) (let e : suc (length done - 1 - k) ≡ length done - k = omega arith in e)) i))

pub turn_kept : (ts now new : List Tree) (t : ℕ) (images more : List (ℕ × ℕ)) (done : List ℕ) (k : ℕ) → Extends ts now → k < length done → t < length ts → HaveImages now (get_or ts t true_) images (drop (length done - k) done) → KeepsImages now new (get_or now t true_) (get_or done (length done - 1 - k) 0) images more → HaveImages new (get_or ts t true_) more (drop (length done - (k + 1)) done)
turn_kept ts now new t images more done k x l m h keep =
    let e : length done - k ≡ suc (length done - 1 - k) = omega arith in
    let f : length done - 1 - k ≡ length done - (k + 1) = omega arith in
    subst (λ j. HaveImages new (get_or ts t true_) more (drop j done)) f
    (more_images now new (get_or ts t true_) (get_or now t true_) (get_or done (length done - 1 - k) 0) (length done - 1 - k) done images more (same_tree ts now t x m) (omega arith) refl (subst (λ j. HaveImages now (get_or ts t true_) images (drop j done)) e h) keep)

pub Extends-trans : (a b c : List Tree) → Extends a b → Extends b c → Extends a c
Extends-trans a b c x y = (x.0 ++ y.0, y.1 ∙ ap (λ us. us ++ y.0) x.1 ∙ append_assoc a x.0 y.0)

pub all_kept : (ts : List Tree) (t : Tree) (images : List (ℕ × ℕ)) (done : List ℕ) (k : ℕ) → length done ≤ k → HaveImages ts t images (drop (length done - k) done) → HaveImages ts t images done
all_kept ts t images done k l h = let e : length done - k ≡ 0 = omega arith in subst (λ j. HaveImages ts t images (drop j done)) e h

-- a tree that is not closed
pub open_loose : (b : Bool) (e : Tree) → b ≡ false → (IsScoped 0 e → IsTrue b) → 0 < loose e
open_loose b e z f =
    elim (cases_lt 0 (loose e)) [
      | inl l ↦ l
      | inr g ↦ absurd (no (subst IsTrue z (f (IsScoped-from_loose 0 e g))))
    ]
  where
    no : IsTrue false → ⊥
    no h = search rules

pub body_kept : (ts now : List Tree) (t : Tree) (body : ℕ) (images : List (ℕ × ℕ)) (done items : List ℕ) → items ≡ done → In body (done ++ []) → HaveImages now t images items → HasImage now t images body
body_kept ts now t body images done items e i h = h body (subst (In body) (append-nil done ∙ sym e) i)

pub kept_some : (now : List Tree) (t : Tree) (body : ℕ) (images : List (ℕ × ℕ)) (r : Option ℕ) → r ≡ found body images → HasImage now t images body → IsSome r
kept_some now t body images r e a = subst IsSome (sym (e ∙ a.found_is)) refl

pub inst_kept : (ts now : List Tree) (body t k : ℕ) (images : List (ℕ × ℕ)) (r : Option ℕ) → r ≡ found body images → r ≡ Some k → HasImage now (get_or ts t true_) images body → Extends ts now → body < length ts → 0 < loose (get_or ts body true_) → IsScoped 1 (get_or ts body true_) → HasTree now k (inst (get_or ts body true_) (get_or ts t true_))
inst_kept ts now body t k images r e f a x l p s =
    let z : a.index ≡ k = some_same _ _ (sym a.found_is ∙ sym e ∙ f) in
    let o : loose (get_or ts body true_) ≡ 1 = let q = loose-scoped 1 (get_or ts body true_) s in omega (arith, p, q) in
    subst (λ i. HasTree now i (inst (get_or ts body true_) (get_or ts t true_))) z (record { within = a.tree.within; tree = a.tree.tree ∙ ap (image (get_or ts t true_)) (same_tree ts now body x l) ∙ inst-image (get_or ts body true_) (get_or ts t true_) o })
  where
    some_same : (x y : ℕ) → Some x ≡ Some y → x ≡ y
    some_same x y q = cc

pub inst_same : (ts : List Tree) (body : ℕ) (t : Tree) → body < length ts → IsScoped 0 (get_or ts body true_) → HasTree ts body (inst (get_or ts body true_) t)
inst_same ts body t l s = record { within = l; tree = inst-closed (get_or ts body true_) t (let q = loose-scoped 0 (get_or ts body true_) s in omega (arith, q)) }
