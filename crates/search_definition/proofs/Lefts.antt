-- Left sides of schemas: their rows, scopes and instances.
use Rattle.std.specs.Prelude.{◌≡◌, ℕ, suc, ◌+◌, ◌<◌, ◌≤◌, Bool, true, false, cond, nat_le, nat_eq, Option, Some, None, List, [], ◌∷◌, ◌++◌, length, take, drop}
use Rattle.std.proofs.lemmas.Bool.Decides.{nat_tests}
use Rattle.std.proofs.Common.{refl, ap, ◌∙◌, arith, subst}
use Rattle.core_expr.specs.Tree.{Tree, Parts, size, true_, false_, boolean_, not_, and_, or_, imp_, iff_, eq_, in_, subseteq_, cup_, cap_, diff_, power_, union_, funset_, apply_, enum_, tuple_, all_, ex_, filter_, image_, fun_}
use Rattle.core_expr.specs.Tree.Tree.{bound, app, node, bind}
use Rattle.core_expr.specs.Tree.Parts.{end, part}
use Rattle.core_expr.specs.Put.{shift, put, inst, IsScoped, AreScoped}
use Rattle.seq_calculus.specs.Schemas.{instance_of, parts, join, join_from, equals_each, equal_pairs}
use Rattle.seq_calculus.specs.Calculus.{IsClosed}
use Rattle.core_expr.specs.Coding.{length-list_of}
use Rattle.search_definition.specs.Terms.{if_so, list_of}
use Rattle.search_definition.specs.Plain.{Left, member, left_side}
use Rattle.search_definition.specs.Equations.{right_or, members}
use Rattle.search_definition.specs.Laws.{LeftIsInstance, MembersAt}
use Rattle.core_expr.proofs.Laws.{IsScoped-put, IsScoped-shift, put_closed, shift_closed, put-put}

abbrev pub LeftRow : Tree → Option Left → Type 0
LeftRow f None = Unit {0}
LeftRow f (Some l) = instance_of l.schema l.z l.params ≡ Some (iff_ f l.right)

abbrev pub LeftScoped : ℕ → Option Left → Type 0
LeftScoped n None = Unit {0}
LeftScoped n (Some l) = IsScoped n l.right

pub parts-list : (ps : Parts) → parts (list_of ps) ≡ ps
parts-list end = refl
parts-list (part e ps) = ap (part e) (parts-list ps)

pub member-row : (t x : Tree) → LeftRow (in_ t x) (member t x)
member-row t (enum_ es) = ap (λ ps. Some (iff_ (in_ t (enum_ ps)) (join (λ a b. or_ a b) false_ (equals_each t (list_of es))))) (parts-list es)
member-row t (cup_ a b) = refl
member-row t (cap_ a b) = refl
member-row t (diff_ a b) = refl
member-row t (power_ a) = refl
member-row t (union_ a) = refl
member-row t (filter_ a p) = refl
member-row t (image_ a e) = refl
member-row t boolean_ = refl
member-row t (funset_ s u) = refl
member-row t _ = tt

take_front : (ps : Parts) (l : List Tree) → take (size ps) (list_of ps ++ l) ≡ list_of ps
take_front end l = refl
take_front (part e ps) l = ap (λ r. e ∷ r) (take_front ps l)

drop_front : (ps : Parts) (l : List Tree) → drop (size ps) (list_of ps ++ l) ≡ l
drop_front end l = refl
drop_front (part e ps) l = drop_front ps l

length_both : (ps qs : Parts) → length (list_of ps ++ list_of qs) ≡ size ps + size qs
length_both end qs = length-list_of qs ∙ zero_add (size qs)
  where
    zero_add : (n : ℕ) → n ≡ 0 + n
    zero_add n = omega arith
length_both (part e ps) qs = ap suc (length_both ps qs) ∙ suc_add (size ps) (size qs)
  where
    suc_add : (a b : ℕ) → suc (a + b) ≡ suc a + b
    suc_add a b = omega arith

twice : (a b n : ℕ) → n ≡ a + b → nat_eq (a + a) n ≡ nat_eq a b
twice a b n e = grind (arith, nat_tests)

within : (a b n : ℕ) → n ≡ a + b → nat_le a n ≡ true
within a b n e = grind (arith, nat_tests)

cond_elim : {A : Type 0} (b : Bool) (x y : A) → cond b x y ≡ if_so b x y
cond_elim true x y = refl
cond_elim false x y = refl

tuples-row : (ps qs : Parts) → LeftRow (eq_ (tuple_ ps) (tuple_ qs)) (left_side (eq_ (tuple_ ps) (tuple_ qs)))
tuples-row ps qs =
    let n : length (list_of ps ++ list_of qs) ≡ size ps + size qs = length_both ps qs in
    let le = within (size ps) (size qs) (length (list_of ps ++ list_of qs)) n in
    let eq = twice (size ps) (size qs) (length (list_of ps ++ list_of qs)) n in
    let tk = take_front ps (list_of qs) in
    let dr = drop_front ps (list_of qs) in
    (λ i. cond (le i) (Some (iff_ (eq_ (tuple_ (parts (tk i))) (tuple_ (parts (dr i)))) (cond (eq i) (join (λ a b. and_ a b) true_ (equal_pairs (tk i) (dr i))) false_))) None)
    ∙ (λ i. Some (iff_ (eq_ (tuple_ (parts-list ps i)) (tuple_ (parts-list qs i))) (cond_elim (nat_eq (size ps) (size qs)) (join (λ a b. and_ a b) true_ (equal_pairs (list_of ps) (list_of qs))) false_ i)))

pub left_side-row : (f : Tree) → LeftRow f (left_side f)
left_side-row (in_ t a) = member-row t a
left_side-row (subseteq_ a b) = refl
left_side-row (eq_ (fun_ s d) (fun_ t e)) = refl
left_side-row (eq_ (tuple_ ps) (tuple_ qs)) = tuples-row ps qs
left_side-row _ = tt

mutual
  pub scoped_more : (n m : ℕ) (e : Tree) → n ≤ m → IsScoped n e → IsScoped m e
  scoped_more n m (bound i) q h = trans i n m h q
    where
      trans : (i n m : ℕ) → i < n → n ≤ m → i < m
      trans i n m h q = omega arith
  scoped_more n m (app f ps) q h = all_more n m ps q h
  scoped_more n m (node f ns ps) q h = all_more n m ps q h
  scoped_more n m (bind b ps e) q h = (all_more n m ps q h.0, scoped_more (suc n) (suc m) e (omega arith) h.1)

  all_more : (n m : ℕ) (ps : Parts) → n ≤ m → AreScoped n ps → AreScoped m ps
  all_more n m end q h = tt
  all_more n m (part e ps) q h = (scoped_more n m e q h.0, all_more n m ps q h.1)

-- lists of formulas
abbrev AllScoped : ℕ → List Tree → Type 0
AllScoped n [] = Unit {0}
AllScoped n (f ∷ fs) = IsScoped n f × AllScoped n fs

list-scoped : (n : ℕ) (ps : Parts) → AreScoped n ps → AllScoped n (list_of ps)
list-scoped n end h = tt
list-scoped n (part e ps) h = (h.0, list-scoped n ps h.1)

or-join : (n : ℕ) (x : Tree) (fs : List Tree) → IsScoped n x → AllScoped n fs → IsScoped n (join_from (λ a b. or_ a b) x fs)
or-join n x [] hx h = hx
or-join n x (f ∷ fs) hx h = or-join n (or_ x f) fs (hx, (h.0, tt)) h.1

and-join : (n : ℕ) (x : Tree) (fs : List Tree) → IsScoped n x → AllScoped n fs → IsScoped n (join_from (λ a b. and_ a b) x fs)
and-join n x [] hx h = hx
and-join n x (f ∷ fs) hx h = and-join n (and_ x f) fs (hx, (h.0, tt)) h.1

equals-scoped : (n : ℕ) (t : Tree) (fs : List Tree) → IsScoped n t → AllScoped n fs → AllScoped n (equals_each t fs)
equals-scoped n t [] ht h = tt
equals-scoped n t (f ∷ fs) ht h = ((ht, (h.0, tt)), equals-scoped n t fs ht h.1)

pairs-scoped : (n : ℕ) (fs gs : List Tree) → AllScoped n fs → AllScoped n gs → AllScoped n (equal_pairs fs gs)
pairs-scoped n [] gs h k = tt
pairs-scoped n (f ∷ fs) [] h k = tt
pairs-scoped n (f ∷ fs) (g ∷ gs) h k = ((h.0, (k.0, tt)), pairs-scoped n fs gs h.1 k.1)

join-or-scoped : (n : ℕ) (fs : List Tree) → AllScoped n fs → IsScoped n (join (λ a b. or_ a b) false_ fs)
join-or-scoped n [] h = tt
join-or-scoped n (f ∷ fs) h = or-join n f fs h.0 h.1

join-and-scoped : (n : ℕ) (fs : List Tree) → AllScoped n fs → IsScoped n (join (λ a b. and_ a b) true_ fs)
join-and-scoped n [] h = tt
join-and-scoped n (f ∷ fs) h = and-join n f fs h.0 h.1

pub up : (n : ℕ) (e : Tree) → IsScoped n e → IsScoped (suc n) (shift 0 1 e)
up n e h = IsScoped-shift n 0 1 (suc n) e (omega arith) h

pub low : (n : ℕ) → 0 < suc n
low n = omega arith

pub put_scoped : (n : ℕ) (p t : Tree) → IsScoped n t → IsScoped n (inst p t)
put_scoped n p t h = IsScoped-put n 0 n (part t end) p (omega arith) (h, tt)

pub member-scoped : (n : ℕ) (t x : Tree) → IsScoped n t → IsScoped n x → LeftScoped n (member t x)
member-scoped n t (enum_ es) ht h = join-or-scoped n (equals_each t (list_of es)) (equals-scoped n t (list_of es) ht (list-scoped n es h))
member-scoped n t (cup_ a b) ht h = ((ht, (h.0, tt)), ((ht, (h.1.0, tt)), tt))
member-scoped n t (cap_ a b) ht h = ((ht, (h.0, tt)), ((ht, (h.1.0, tt)), tt))
member-scoped n t (diff_ a b) ht h = ((ht, (h.0, tt)), (((ht, (h.1.0, tt)), tt), tt))
member-scoped n t (power_ a) ht h = (ht, (h.0, tt))
member-scoped n t (union_ a) ht h = (tt, ((low n, (up n a h.0, tt)), ((up n t ht, (low n, tt)), tt)))
member-scoped n t (filter_ a p) ht h = ((ht, (h.0.0, tt)), (put_scoped n p t ht, tt))
member-scoped n t (image_ a e) ht h = (tt, ((low n, (up n a h.0.0, tt)), ((up n t ht, (h.1, tt)), tt)))
member-scoped n t boolean_ ht h = ((ht, (tt, tt)), ((ht, (tt, tt)), tt))
member-scoped n t (funset_ s u) ht h =
    let ap_ : IsScoped (suc n) (apply_ (shift 0 1 t) (bound 0)) = (up n t ht, (low n, tt)) in
    ((ht, (((h.0, tt), ap_), tt)), ((tt, ((low n, (up n s h.0, tt)), ((ap_, (up n u h.1.0, tt)), tt))), tt))
member-scoped n t _ ht h = tt

tuples-scoped : (n : ℕ) (ps qs : Parts) → AreScoped n ps → AreScoped n qs → LeftScoped n (left_side (eq_ (tuple_ ps) (tuple_ qs)))
tuples-scoped n ps qs h k = go (nat_eq (size ps) (size qs))
  where
    go : (x : Bool) → IsScoped n (if_so x (join (λ a b. and_ a b) true_ (equal_pairs (list_of ps) (list_of qs))) false_)
    go true = join-and-scoped n (equal_pairs (list_of ps) (list_of qs)) (pairs-scoped n (list_of ps) (list_of qs) (list-scoped n ps h) (list-scoped n qs k))
    go false = tt

pub left_side-scoped : (n : ℕ) (f : Tree) → IsScoped n f → LeftScoped n (left_side f)
left_side-scoped n (in_ t a) h = member-scoped n t a h.0 h.1.0
left_side-scoped n (subseteq_ a b) h = (tt, ((low n, (up n a h.0, tt)), ((low n, (up n b h.1.0, tt)), tt)))
left_side-scoped n (eq_ (fun_ s d) (fun_ t e)) h =
    ((h.0.0.0, (h.1.0.0.0, tt)), ((tt, ((low n, (up n s h.0.0.0, tt)), ((h.0.1, (h.1.0.1, tt)), tt))), tt))
left_side-scoped n (eq_ (tuple_ ps) (tuple_ qs)) h = tuples-scoped n ps qs h.0 h.1.0
left_side-scoped n _ h = tt

pub members-scoped : (x : Tree) → IsClosed x → IsScoped 1 (members x)
members-scoped x h = of (member (bound 0) x) (member-scoped 1 (bound 0) x (low 0) (scoped_more 0 1 x (omega arith) h))
  where
    of : (o : Option Left) → LeftScoped 1 o → IsScoped 1 (right_or (in_ (bound 0) x) o)
    of None k = (low 0, (scoped_more 0 1 x (omega arith) h, tt))
    of (Some l) k = k

module _ (c : Tree) (cc_ : IsClosed c) where
  -- c for the variable
  pub here : shift 0 0 c ≡ c
  here = shift_closed 0 0 0 c (omega arith) cc_

  pub still : (a : Tree) → IsClosed a → put 0 (part c end) a ≡ a
  still a h = put_closed 0 0 (part c end) a (omega arith) h

  under : (a : Tree) → IsScoped 1 a → put 1 (part c end) a ≡ a
  under a h = put_closed 1 1 (part c end) a (omega arith) h

  raised : (a : Tree) → IsClosed a → put 1 (part c end) (shift 0 1 a) ≡ shift 0 1 a
  raised a h = under (shift 0 1 a) (up 0 a h)

  each : (fs : List Tree) → AllScoped 0 fs → (x y : Tree) → put 0 (part c end) x ≡ y → put 0 (part c end) (join_from (λ a b. or_ a b) x (equals_each (bound 0) fs)) ≡ join_from (λ a b. or_ a b) y (equals_each c fs)
  each [] h x y q = q
  each (f ∷ fs) h x y q = each fs h.1 (or_ x (eq_ (bound 0) f)) (or_ y (eq_ c f)) (λ i. or_ (q i) (eq_ (here i) (still f h.0 i)))

  enum-inst : (fs : List Tree) → AllScoped 0 fs → put 0 (part c end) (join (λ a b. or_ a b) false_ (equals_each (bound 0) fs)) ≡ join (λ a b. or_ a b) false_ (equals_each c fs)
  enum-inst [] h = refl
  enum-inst (f ∷ fs) h = each fs h.1 (eq_ (bound 0) f) (eq_ c f) (λ i. eq_ (here i) (still f h.0 i))

  pub members-inst : (x : Tree) → IsClosed x → inst (members x) c ≡ right_or (in_ c x) (member c x)
  members-inst (enum_ es) h = enum-inst (list_of es) (list-scoped 0 es h)
  members-inst (cup_ a b) h = λ i. or_ (in_ (here i) (still a h.0 i)) (in_ (here i) (still b h.1.0 i))
  members-inst (cap_ a b) h = λ i. and_ (in_ (here i) (still a h.0 i)) (in_ (here i) (still b h.1.0 i))
  members-inst (diff_ a b) h = λ i. and_ (in_ (here i) (still a h.0 i)) (not_ (in_ (here i) (still b h.1.0 i)))
  members-inst (power_ a) h = λ i. subseteq_ (here i) (still a h.0 i)
  members-inst (union_ a) h = λ i. ex_ (and_ (in_ (bound 0) (raised a h.0 i)) (in_ (shift 0 1 c) (bound 0)))
  members-inst (filter_ a p) h = λ i. and_ (in_ (here i) (still a h.0.0 i)) ((put-put 0 0 0 (part c end) (part (bound 0) end) p (omega arith) ∙ (λ j. put 0 (part (here j) end) p)) i)
  members-inst (image_ a e) h = λ i. ex_ (and_ (in_ (bound 0) (raised a h.0.0 i)) (eq_ (shift 0 1 c) (under e h.1 i)))
  members-inst boolean_ h = λ i. or_ (eq_ (here i) true_) (eq_ (here i) false_)
  members-inst (funset_ s u) h =
      λ i. and_ (eq_ (here i) (fun_ (still s h.0 i) (apply_ (shift 0 1 c) (bound 0)))) (all_ (imp_ (in_ (bound 0) (raised s h.0 i)) (in_ (apply_ (shift 0 1 c) (bound 0)) (raised u h.1.0 i))))
  members-inst (bound j) h = absurd (none j h)
    where
      none : (j : ℕ) → j < 0 → ⊥
      none j h = omega arith
  members-inst x h = λ i. in_ (here i) (still x h i)

pub left_is_instance : LeftIsInstance
left_is_instance f l e = subst (LeftRow f) e (left_side-row f)

pub members_at : MembersAt
members_at x c hx hc = members-inst c hc x hx
