-- A value is the same on its grounds alone; rank settle.
use Rattle.std.specs.Prelude.{◌≡◌, Bool, true, false, Option, Some, None, List, [], ◌∷◌, ◌++◌}
use Rattle.std.proofs.Common.{refl, ap, sym, ◌∙◌, subst, inl, inr}
use Rattle.core_expr.specs.Tree.{Tree, not_, and_, or_, imp_, iff_, eq_}
use Rattle.seq_calculus.specs.Calculus.{Has, HasAll}
use Rattle.search_definition.specs.Terms.{if_so, either, when, or_else, after, in_list}
use Rattle.search_definition.specs.Branches.{Branch, formulas, has}
use Rattle.search_definition.specs.Values.{Truth, Whole, opposite, both_true, one_true, implied, same_truth, is_plainly_true, is_plainly_false, has_mirror, has_not_mirror, whole, truth_by, truth, mirror, grounds_by, merged, where_known, grounds, is_no, all_yes, some_no, first_no}
use Rattle.search_definition.specs.Values.Truth.{Yes, No, Unknown}
use Rattle.search_definition.specs.Values.Whole.{Stands, ByItself, Mirrored, NotStands, FalseItself, NotMirrored, Undecided}
use Rattle.search_definition.specs.Splits.{Splitting, splitting, settle_as, settle_split, settle}
use Rattle.search_definition.specs.Splits.Settled.{OneTrue, LeftFalse, RightFalse}
use Rattle.search_definition.proofs.Standing.{Holds, has-stands, first-no-stands}
use Rattle.proof_trees.specs.Says.{Says}
use Rattle.proof_trees.specs.Valued.{shows, entries_of, first_false, side_by, false_left_by, false_right_by}
use Rattle.proof_trees.proofs.Had.{HasAll-itself, HasAll-more, HasAll-split, Has-in, has_of, all_of, in_list-sound, has-complete, true_not_false}
use Rattle.proof_trees.proofs.Said.{narrower}
use Rattle.proof_trees.proofs.Ranked.{Fits, SplitSays, split-says}
use Rattle.proof_trees.proofs.Valued.{Shows, value-shown}

pub formulas-entries : (gs : List Tree) → formulas (entries_of gs) ≡ gs
formulas-entries [] = refl
formulas-entries (g ∷ gs) = ap (λ l. g ∷ l) (formulas-entries gs)

abbrev pub Known : Truth → Type 0
Known Unknown = ⊥
Known t = Unit {0}

HasAll-unmerged : (g xs ys : List Tree) → HasAll g (merged xs ys) → HasAll g xs × HasAll g ys
HasAll-unmerged g xs [] h = (h, tt)
HasAll-unmerged g xs (y ∷ ys) h = go (HasAll-unmerged g xs ys) (HasAll-unmerged g (xs ++ y ∷ []) ys) (in_list xs y) refl h
  where
    go : (HasAll g (merged xs ys) → HasAll g xs × HasAll g ys) → (HasAll g (merged (xs ++ y ∷ []) ys) → HasAll g (xs ++ y ∷ []) × HasAll g ys) → (b : Bool) → in_list xs y ≡ b
        → HasAll g (if_so b (merged xs ys) (merged (xs ++ y ∷ []) ys)) → HasAll g xs × HasAll g (y ∷ ys)
    go p q true e h = let k = p h in (k.0, (has_of g xs y k.0 (in_list-sound xs y e), k.1))
    go p q false e h = let k = q h in let l = HasAll-split g xs (y ∷ []) k.0 in (l.0, (l.1.0, k.1))

abbrev OpKept : (Truth → Truth → Truth) → Type 0
OpKept op = (x y u v : Truth) → (Known x → u ≡ x) → (Known y → v ≡ y) → Known (op x y) → op u v ≡ op x y

and-kept : OpKept both_true
and-kept No y u v h k n = ap (λ z. both_true z v) (h tt)
and-kept Yes Yes u v h k n = λ i. both_true (h tt i) (k tt i)
and-kept Yes No u v h k n = λ i. both_true (h tt i) (k tt i)
and-kept Yes Unknown u v h k n = absurd n
and-kept Unknown No u v h k n = ap (both_true u) (k tt) ∙ no u
  where
    no : (u : Truth) → both_true u No ≡ No
    no Yes = refl
    no No = refl
    no Unknown = refl
and-kept Unknown Yes u v h k n = absurd n
and-kept Unknown Unknown u v h k n = absurd n

or-kept : OpKept one_true
or-kept Yes y u v h k n = ap (λ z. one_true z v) (h tt)
or-kept No Yes u v h k n = λ i. one_true (h tt i) (k tt i)
or-kept No No u v h k n = λ i. one_true (h tt i) (k tt i)
or-kept No Unknown u v h k n = absurd n
or-kept Unknown Yes u v h k n = ap (one_true u) (k tt) ∙ yes u
  where
    yes : (u : Truth) → one_true u Yes ≡ Yes
    yes Yes = refl
    yes No = refl
    yes Unknown = refl
or-kept Unknown No u v h k n = absurd n
or-kept Unknown Unknown u v h k n = absurd n

imp-kept : OpKept implied
imp-kept x y u v h k n = or-kept (opposite x) y (opposite u) v (λ l. ap opposite (h (back x l))) k n
  where
    back : (x : Truth) → Known (opposite x) → Known x
    back Yes l = tt
    back No l = tt
    back Unknown l = l

iff-kept : OpKept same_truth
iff-kept Yes Yes u v h k n = λ i. same_truth (h tt i) (k tt i)
iff-kept Yes No u v h k n = λ i. same_truth (h tt i) (k tt i)
iff-kept No Yes u v h k n = λ i. same_truth (h tt i) (k tt i)
iff-kept No No u v h k n = λ i. same_truth (h tt i) (k tt i)
iff-kept Yes Unknown u v h k n = absurd n
iff-kept No Unknown u v h k n = absurd n
iff-kept Unknown y u v h k n = absurd n

known-in : (gs : List Tree) (t : Truth) (hs : List Tree) → HasAll gs (where_known t hs) → Known t → HasAll gs hs
known-in gs Yes hs h n = h
known-in gs No hs h n = h
known-in gs Unknown hs h n = absurd n

-- the first reason that fits, by the tests
abbrev chain : Bool → Bool → Bool → Bool → Bool → Bool → Whole
chain p q r s t u = if_so p Stands (if_so q ByItself (if_so r Mirrored (if_so s NotStands (if_so t FalseItself (if_so u NotMirrored Undecided)))))

-- tests that fail still fail, and the one that gives the reason still holds
chain-kept : (p q r s t u p1 r1 s1 u1 : Bool) → (p ≡ false → p1 ≡ false) → (r ≡ false → r1 ≡ false) → (s ≡ false → s1 ≡ false) → (u ≡ false → u1 ≡ false)
    → (chain p q r s t u ≡ Stands → p ≡ true → p1 ≡ true) → (chain p q r s t u ≡ Mirrored → r ≡ true → r1 ≡ true) → (chain p q r s t u ≡ NotStands → s ≡ true → s1 ≡ true) → (chain p q r s t u ≡ NotMirrored → u ≡ true → u1 ≡ true)
    → chain p1 q r1 s1 t u1 ≡ chain p q r s t u
chain-kept true q r s t u p1 r1 s1 u1 fp fr fs fu tp tr ts tu = ap (λ x. chain x q r1 s1 t u1) (tp refl refl)
chain-kept false true r s t u p1 r1 s1 u1 fp fr fs fu tp tr ts tu = ap (λ x. chain x true r1 s1 t u1) (fp refl)
chain-kept false false true s t u p1 r1 s1 u1 fp fr fs fu tp tr ts tu = λ i. chain (fp refl i) false (tr refl refl i) s1 t u1
chain-kept false false false true t u p1 r1 s1 u1 fp fr fs fu tp tr ts tu = λ i. chain (fp refl i) false (fr refl i) (ts refl refl i) t u1
chain-kept false false false false true u p1 r1 s1 u1 fp fr fs fu tp tr ts tu = λ i. chain (fp refl i) false (fr refl i) (fs refl i) true u1
chain-kept false false false false false true p1 r1 s1 u1 fp fr fs fu tp tr ts tu = λ i. chain (fp refl i) false (fr refl i) (fs refl i) false (tu refl refl i)
chain-kept false false false false false false p1 r1 s1 u1 fp fr fs fu tp tr ts tu = λ i. chain (fp refl i) false (fr refl i) (fs refl i) false (fu refl i)

module _ (b : Branch) (gs : List Tree) (sub : HasAll (formulas b) gs) where
  on : (g : Tree) → Has gs g → has (entries_of gs) g ≡ true
  on g h = has-complete (entries_of gs) g (subst (λ l. Has l g) (sym (formulas-entries gs)) h)

  off : (g : Tree) → has b g ≡ false → has (entries_of gs) g ≡ false
  off g q = go (has (entries_of gs) g) refl
    where
      go : (x : Bool) → has (entries_of gs) g ≡ x → x ≡ false
      go true h = absurd (true_not_false (sym (has-complete b g (has_of (formulas b) gs g sub (subst (λ l. Has l g) (formulas-entries gs) (has-stands (entries_of gs) g h)))) ∙ q))
      go false h = refl

  mirror-off : (f : Tree) → has_mirror b f ≡ false → has_mirror (entries_of gs) f ≡ false
  mirror-off (eq_ s t) e = off (eq_ t s) e
  mirror-off _ e = refl

  mirror-on : (f : Tree) → HasAll gs (mirror f ∷ []) → has_mirror b f ≡ true → has_mirror (entries_of gs) f ≡ true
  mirror-on (eq_ s t) h e = on (eq_ t s) h.0
  mirror-on _ h e = e

  not-mirror-off : (f : Tree) → has_not_mirror b f ≡ false → has_not_mirror (entries_of gs) f ≡ false
  not-mirror-off (eq_ s t) e = off (not_ (eq_ t s)) e
  not-mirror-off _ e = refl

  not-mirror-on : (f : Tree) → HasAll gs (not_ (mirror f) ∷ []) → has_not_mirror b f ≡ true → has_not_mirror (entries_of gs) f ≡ true
  not-mirror-on (eq_ s t) h e = on (not_ (eq_ t s)) h.0
  not-mirror-on _ h e = e

  whole-kept : (f : Tree) (hs : List Tree) → HasAll gs (grounds_by (whole b f) f hs) → whole (entries_of gs) f ≡ whole b f
  whole-kept f hs h =
      chain-kept (has b f) (is_plainly_true f) (has_mirror b f) (has b (not_ f)) (is_plainly_false f) (has_not_mirror b f) (has (entries_of gs) f) (has_mirror (entries_of gs) f) (has (entries_of gs) (not_ f)) (has_not_mirror (entries_of gs) f)
      (off f) (mirror-off f) (off (not_ f)) (not-mirror-off f)
      (λ w e. on f (held_as w).0) (λ w e. mirror-on f (held_as w) e) (λ w e. on (not_ f) (held_as w).0) (λ w e. not-mirror-on f (held_as w) e)
    where
      held_as : {w : Whole} → whole b f ≡ w → HasAll gs (grounds_by w f hs)
      held_as w = subst (λ v. HasAll gs (grounds_by v f hs)) w h

  by-kept : (f : Tree) (hs : List Tree) (x y : Truth) → (Known y → HasAll gs hs → x ≡ y) → Known (truth_by (whole b f) y) → HasAll gs (grounds_by (whole b f) f hs) → truth_by (whole (entries_of gs) f) x ≡ truth_by (whole b f) y
  by-kept f hs x y k n h = ap (λ w. truth_by w x) (whole-kept f hs h) ∙ go (whole b f) n h
    where
      go : (w : Whole) → Known (truth_by w y) → HasAll gs (grounds_by w f hs) → truth_by w x ≡ truth_by w y
      go Stands n h = refl
      go ByItself n h = refl
      go Mirrored n h = refl
      go NotStands n h = refl
      go FalseItself n h = refl
      go NotMirrored n h = refl
      go Undecided n h = k n h

  op-kept : (op : Truth → Truth → Truth) → OpKept op → (x y : Tree) → (Known (truth b x) → HasAll gs (grounds b x) → truth (entries_of gs) x ≡ truth b x) → (Known (truth b y) → HasAll gs (grounds b y) → truth (entries_of gs) y ≡ truth b y)
      → Known (op (truth b x) (truth b y)) → HasAll gs (where_known (op (truth b x) (truth b y)) (merged (grounds b x) (grounds b y))) → op (truth (entries_of gs) x) (truth (entries_of gs) y) ≡ op (truth b x) (truth b y)
  op-kept op o x y p q n h =
      let m = HasAll-unmerged gs (grounds b x) (grounds b y) (known-in gs (op (truth b x) (truth b y)) (merged (grounds b x) (grounds b y)) h n) in
      o (truth b x) (truth b y) (truth (entries_of gs) x) (truth (entries_of gs) y) (λ l. p l m.0) (λ l. q l m.1) n

  -- on its grounds alone a formula has the value that it has on the branch
  pub value-kept : (f : Tree) → Known (truth b f) → HasAll gs (grounds b f) → truth (entries_of gs) f ≡ truth b f
  unfolding truth grounds
  value-kept (not_ a) = by-kept (not_ a) (grounds b a) (opposite (truth (entries_of gs) a)) (opposite (truth b a)) (λ n h. ap opposite (value-kept a (back (truth b a) n) h))
    where
      back : (x : Truth) → Known (opposite x) → Known x
      back Yes l = tt
      back No l = tt
      back Unknown l = l
  value-kept (and_ x y) =
      by-kept (and_ x y) (where_known (both_true (truth b x) (truth b y)) (merged (grounds b x) (grounds b y))) (both_true (truth (entries_of gs) x) (truth (entries_of gs) y)) (both_true (truth b x) (truth b y)) (op-kept both_true and-kept x y (value-kept x) (value-kept y))
  value-kept (or_ x y) =
      by-kept (or_ x y) (where_known (one_true (truth b x) (truth b y)) (merged (grounds b x) (grounds b y))) (one_true (truth (entries_of gs) x) (truth (entries_of gs) y)) (one_true (truth b x) (truth b y)) (op-kept one_true or-kept x y (value-kept x) (value-kept y))
  value-kept (imp_ x y) =
      by-kept (imp_ x y) (where_known (implied (truth b x) (truth b y)) (merged (grounds b x) (grounds b y))) (implied (truth (entries_of gs) x) (truth (entries_of gs) y)) (implied (truth b x) (truth b y)) (op-kept implied imp-kept x y (value-kept x) (value-kept y))
  value-kept (iff_ x y) =
      by-kept (iff_ x y) (where_known (same_truth (truth b x) (truth b y)) (merged (grounds b x) (grounds b y))) (same_truth (truth (entries_of gs) x) (truth (entries_of gs) y)) (same_truth (truth b x) (truth b y)) (op-kept same_truth iff-kept x y (value-kept x) (value-kept y))
  value-kept f = by-kept f [] Unknown Unknown (λ n h. refl)

-- the first false formula of a list
found : (b : Branch) (fs : List Tree) → some_no (truth b) fs ≡ true → (y : Tree) × Has fs y × (truth b y ≡ No) × (grounds b y ≡ first_no b fs)
found b [] q = absurd (true_not_false (sym q))
found b (f ∷ fs) q = go (truth b f) refl q (found b fs)
  where
    deeper : ((y : Tree) × Has fs y × (truth b y ≡ No) × (grounds b y ≡ first_no b fs)) → (y : Tree) × Has (f ∷ fs) y × (truth b y ≡ No) × (grounds b y ≡ first_no b fs)
    deeper r = (r.0, inr r.1, r.2, r.3)

    go : (t : Truth) → truth b f ≡ t → either (is_no t) (some_no (truth b) fs) ≡ true → (some_no (truth b) fs ≡ true → (y : Tree) × Has fs y × (truth b y ≡ No) × (grounds b y ≡ first_no b fs))
        → (y : Tree) × Has (f ∷ fs) y × (truth b y ≡ No) × (grounds b y ≡ if_so (is_no t) (grounds b f) (first_no b fs))
    go Yes t q ih = deeper (ih q)
    go No t q ih = (f, inl refl, t, refl)
    go Unknown t q ih = deeper (ih q)

false-found : (c : Branch) (fs : List Tree) (y : Tree) → Has fs y → truth c y ≡ No → (truth c (first_false c fs) ≡ No) × Has fs (first_false c fs)
false-found c [] y h q = absurd h
false-found c (f ∷ fs) y h q = go (truth c f) refl h (λ k. false-found c fs y k q)
  where
    later : Has (f ∷ fs) y → (f ≡ y → Has fs y) → Has fs y
    later (inl e) k = k e
    later (inr h) k = h

    never : (t : Truth) → truth c f ≡ t → f ≡ y → t ≡ No
    never t p e = sym p ∙ ap (truth c) e ∙ q

    go : (t : Truth) → truth c f ≡ t → Has (f ∷ fs) y → (Has fs y → (truth c (first_false c fs) ≡ No) × Has fs (first_false c fs)) → (truth c (if_so (is_no t) f (first_false c fs)) ≡ No) × Has (f ∷ fs) (if_so (is_no t) f (first_false c fs))
    go No p h ih = (p, inl refl)
    go Yes p h ih = let r = ih (later h (λ e. absurd (let z : Yes ≡ No = never Yes p e in cc))) in (r.0, inr r.1)
    go Unknown p h ih = let r = ih (later h (λ e. absurd (let z : Unknown ≡ No = never Unknown p e in cc))) in (r.0, inr r.1)

-- a side with a false formula is contradictory by its grounds
pub side-says : (b : Branch) (fs us : List Tree) → some_no (truth b) fs ≡ true → HasAll us (first_no b fs) → Says (side_by (first_no b fs) fs) (fs ++ us) []
side-says b fs us q h =
    let gs : List Tree = first_no b fs in
    let r = found b fs q in
    let y : Tree = r.0 in
    let no : truth (entries_of gs) y ≡ No = value-kept b gs (first-no-stands b fs) y (subst Known (sym r.2) tt) (subst (HasAll gs) (sym r.3) (HasAll-itself gs)) ∙ r.2 in
    let s = false-found (entries_of gs) fs y r.1 no in
    let x : Tree = first_false (entries_of gs) fs in
    let p : Says (shows (entries_of gs) x) (x ∷ formulas (entries_of gs)) [] = subst (λ t. Shows t (shows (entries_of gs) x) (formulas (entries_of gs)) x) s.0 (value-shown (entries_of gs) x) in
    narrower (shows (entries_of gs) x) (fs ++ us) [] (x ∷ formulas (entries_of gs)) []
    (Has-in fs us x s.1, all_of (fs ++ us) us (formulas (entries_of gs)) (HasAll-more fs us) (subst (HasAll us) (sym (formulas-entries gs)) h)) tt p

-- rank settle
pub settle-fits : (b : Branch) (f : Tree) → Holds Fits (settle b f)
settle-fits b f = go (splitting f) refl (split-says f)
  where
    by : (s : Splitting) → splitting f ≡ Some s → SplitSays f s → (x y : Bool) → some_no (truth b) s.left ≡ y → (z : Bool) → some_no (truth b) s.right ≡ z
        → Holds Fits (after (settle_as b f s) (or_else (when x OneTrue) (or_else (when y LeftFalse) (when z RightFalse))))
    by s e h true y l z r = λ us n p k. k
    by s e h false true l z r = λ us n p k. subst (λ o. Says (false_left_by f (first_no b s.left) p o) us []) (sym e) (h us (side_by (first_no b s.left) s.left) p n.0 (side-says b s.left us l n.1) k)
    by s e h false false l true r = λ us n p k. subst (λ o. Says (false_right_by f (first_no b s.right) p o) us []) (sym e) (h us p (side_by (first_no b s.right) s.right) n.0 k (side-says b s.right us r n.1))
    by s e h false false l false r = tt

    go : (o : Option Splitting) → splitting f ≡ o → Holds (SplitSays f) o → Holds Fits (after (settle_split b f) o)
    go None e h = tt
    go (Some s) e h = by s e h (either (all_yes (truth b) s.left) (all_yes (truth b) s.right)) (some_no (truth b) s.left) refl (some_no (truth b) s.right) refl
