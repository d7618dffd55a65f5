-- Where the fault of a chain stands.
use Rattle.std.proofs.Common.{◌≡◌, Bool, true, false, ◌&&◌, cond, List, [], ◌∷◌, ◌++◌, Option, Some, None, refl, sym, ap, ◌∙◌, inl, inr, ◌⊎◌, subst, append_assoc, ℕ}
use Rattle.std.proofs.lemmas.Bool.{false≢true, cond-true, cond_both}
use Rattle.std.proofs.lemmas.Option.{cond_some}
use Rattle.tla_ast.specs.declared.place.Place.{Place}
use Rattle.tla_ast.specs.declared.tree.Node.{Node}
use Rattle.operator_chain.specs.declared.chain.Operator.{Operator}
use Rattle.operator_chain.specs.declared.chain.Piece.{Piece}
use Rattle.operator_chain.specs.declared.chain.Piece.TheVariants as piece
use Rattle.operator_chain.specs.Tree.{Tree, leaf, prefixed, suffixed, joined, stands, before_infix, is_right}
use Rattle.operator_chain.specs.Chain.{plain, filled, put, grown, shape_from, shape, tree_of, fault_of, place_of, or_else, wrong_at, first_wrong, first_wrong_from, IsChain, IsWhole, HasRightTree, is_waiting, finished, FaultAt, FirstFault}
use Rattle.operator_chain.specs.Listed.{AreListed}
use Rattle.operator_chain.proofs.Rows.{row_of, listed-split, listed-tree}
use Rattle.operator_chain.proofs.Laws.{tree_of-right, cond-false}
use Rattle.operator_chain.proofs.FlatLaws.{tree_of-found}

none≢some : (p : Place) → None ≡ Some p → ⊥
none≢some p e = cc

some≢none : (p : Place) → Some p ≡ None → ⊥
some≢none p e = cc

-- ---- a chain without a fault has a right tree

stands-filled : (a : Node) (high : ℕ) (t : Tree) → stands high (filled (leaf a) t) ≡ stands high t
stands-filled a high (leaf b) = refl
stands-filled a high (prefixed p t) = refl
stands-filled a high (suffixed t q) = refl
stands-filled a high (joined l o r) = refl

right-filled : (a : Node) (t : Tree) → is_right (filled (leaf a) t) ≡ is_right t
right-filled a (leaf b) = refl
right-filled a (prefixed p t) = λ i. stands-filled a p.high t i && right-filled a t i
right-filled a (suffixed t q) = refl
right-filled a (joined l o r) = λ i. before_infix o l && (stands-filled a o.high r i && (is_right l && right-filled a r i))

or-none : (a b : Option Place) → or_else a b ≡ None → (a ≡ None) × (b ≡ None)
or-none (Some p) b e = absurd (some≢none p e)
or-none None b e = (refl, e)

unnoted : (b : Bool) (p : Place) → cond {A = Option Place} b None (Some p) ≡ None → b ≡ true
unnoted true p e = refl
unnoted false p e = absurd (some≢none p e)

right-step : (t : Tree) (x : Piece) → is_right t ≡ true → wrong_at (grown t x) x ≡ None → is_right (grown t x) ≡ true
right-step t (piece.Operand a) e n = right-filled a t ∙ e
right-step t (piece.Prefix p) e n = unnoted _ p.place n
right-step t (piece.Infix o) e n = unnoted _ o.place n
right-step t (piece.Postfix q) e n = unnoted _ q.place n

none-right : (t : Tree) (c : List Piece) → is_right t ≡ true → first_wrong_from t c ≡ None → is_right (shape_from t c) ≡ true
none-right t [] e n = e
none-right t (x ∷ c) e n =
    let both = or-none (wrong_at (grown t x) x) (first_wrong_from (grown t x) c) n in
    none-right (grown t x) c (right-step t x e both.0) both.1

right-shape : (c : List Piece) → fault_of c ≡ None → is_right (shape c) ≡ true
right-shape c n = go (is_right (shape c)) refl
  where
    go : (b : Bool) → is_right (shape c) ≡ b → b ≡ true
    go true e = refl
    go false e = sym e ∙ none-right plain c refl (sym (cond-false _ _ _ e) ∙ n)

pub right_tree : (c : List Piece) → fault_of c ≡ None → tree_of c ≡ Some (shape c)
right_tree c n = cond-true _ _ _ (right-shape c n)

pub no_tree : (c : List Piece) (p : Place) → fault_of c ≡ Some p → (is_right (shape c) ≡ false) × (first_wrong c ≡ Some p)
no_tree c p e = go (is_right (shape c)) refl
  where
    go : (b : Bool) → is_right (shape c) ≡ b → (is_right (shape c) ≡ false) × (first_wrong c ≡ Some p)
    go true f = absurd (none≢some p (sym (cond-true _ _ _ f) ∙ e))
    go false f = (f, sym (cond-false _ _ _ f) ∙ e)

-- ---- a chain with a plain operand where one must come

filled-prefix : (o : Operator) (t : Tree) → filled plain (filled (prefixed o plain) t) ≡ filled (prefixed o plain) t
filled-prefix o (leaf a) = refl
filled-prefix o (prefixed p t) = ap (prefixed p) (filled-prefix o t)
filled-prefix o (suffixed t q) = refl
filled-prefix o (joined l s r) = ap (joined l s) (filled-prefix o r)

filled-put : (o : Operator) (t : Tree) → filled plain (put o t) ≡ put o t
filled-put o (leaf a) = refl
filled-put o (suffixed t q) = refl
filled-put o (prefixed p t) =
    cond_both (before_infix o (prefixed p t)) _ _ (λ u. filled plain u ≡ u) (λ yes. refl) (λ no. ap (prefixed p) (filled-put o t))
filled-put o (joined l s r) =
    cond_both (before_infix o (joined l s r)) _ _ (λ u. filled plain u ≡ u) (λ yes. refl) (λ no. ap (joined l s) (filled-put o r))

abbrev Hollow : Bool → Tree → Type 0
Hollow true t = filled plain t ≡ t
Hollow false t = Unit {0}

hollow : (t : Tree) (x : Piece) → Hollow (is_waiting x) (grown t x)
hollow t (piece.Operand a) = tt
hollow t (piece.Prefix p) = filled-prefix p t
hollow t (piece.Infix o) = filled-put o t
hollow t (piece.Postfix q) = tt

shape-finished : (e : Bool) (t : Tree) (c : List Piece) → Hollow e t → shape_from t (finished e c) ≡ shape_from t c
shape-finished true t [] h = h
shape-finished false t [] h = refl
shape-finished true t (x ∷ c) h = shape-finished (is_waiting x) (grown t x) c (hollow t x)
shape-finished false t (x ∷ c) h = shape-finished (is_waiting x) (grown t x) c (hollow t x)

whole-finished : (e : Bool) (c : List Piece) → IsChain e c → IsWhole e (finished e c)
whole-finished true [] h = tt
whole-finished true (piece.Operand a ∷ c) h = whole-finished false c h
whole-finished true (piece.Prefix p ∷ c) h = whole-finished true c h
whole-finished true (piece.Infix o ∷ c) h = h
whole-finished true (piece.Postfix q ∷ c) h = h
whole-finished false [] h = tt
whole-finished false (piece.Operand a ∷ c) h = h
whole-finished false (piece.Prefix p ∷ c) h = h
whole-finished false (piece.Infix o ∷ c) h = whole-finished true c h
whole-finished false (piece.Postfix q ∷ c) h = whole-finished false c h

listed-finished : (e : Bool) (c : List Piece) → AreListed c → AreListed (finished e c)
listed-finished true [] l = (tt, tt)
listed-finished false [] l = tt
listed-finished true (x ∷ c) l = (l.0, listed-finished (is_waiting x) c l.1)
listed-finished false (x ∷ c) l = (l.0, listed-finished (is_waiting x) c l.1)

has-right : (c : List Piece) → IsChain true c → is_right (shape c) ≡ true → HasRightTree (finished true c)
has-right c h e =
    let same : shape (finished true c) ≡ shape c = shape-finished true plain c refl in
    let is : tree_of (finished true c) ≡ Some (shape c) = cond-true _ _ _ (ap is_right same ∙ e) ∙ ap Some same in
    let both = tree_of-found (finished true c) (shape c) (whole-finished true c h) is in
    (shape c, both.0, both.1)

right-of : (c : List Piece) → AreListed c → HasRightTree (finished true c) → is_right (shape c) ≡ true
right-of c l h =
    let is : tree_of (finished true c) ≡ Some h.0 = tree_of-right row_of (finished true c) h.0 (listed-tree h.0 (finished true c) h.1 (listed-finished true c l)) h.1 h.2 in
    ap is_right (sym (shape-finished true plain c refl)) ∙ (cond_some (is_right (shape (finished true c))) (shape (finished true c)) h.0 is).0

-- ---- the first operator

abbrev IsFine : Bool → Option Place → Type 0
IsFine b o = (q : Place) → o ≡ Some q → b ≡ true

record IsWrong (b : Bool) (o : Option Place) : Type 0 where
  no : b ≡ false
  at : Place
  is : o ≡ Some at

cases : (b : Bool) (o : Option Place) → IsWrong b o ⊎ IsFine b o
cases true o = inr (λ q e. refl)
cases false None = inr (λ q e. absurd (none≢some q e))
cases false (Some p) = inl (record { no = refl; at = p; is = refl })

fine-none : (b : Bool) (o : Option Place) → IsFine b o → cond {A = Option Place} b None o ≡ None
fine-none true o h = refl
fine-none false None h = refl
fine-none false (Some q) h = absurd (false≢true (h q refl))

abbrev Firsts : Tree → List Piece → Type 0
Firsts t d = (before : List Piece) (y : Piece) (after : List Piece) (q : Place) → d ≡ before ++ y ∷ after → place_of y ≡ Some q → is_right (grown (shape_from t before) y) ≡ true

record Found (t : Tree) (c : List Piece) (p : Place) : Type 0 where
  done : List Piece
  operator : Piece
  rest : List Piece
  is : c ≡ done ++ operator ∷ rest
  place : place_of operator ≡ Some p
  none : is_right (grown (shape_from t done) operator) ≡ false
  first : Firsts t done

abbrev head_or : Piece → List Piece → Piece
head_or x [] = x
head_or x (y ∷ c) = y

abbrev tail_of : List Piece → List Piece
tail_of [] = []
tail_of (y ∷ c) = c

firsts-none : (t : Tree) → Firsts t []
firsts-none t [] y after q e p = absurd (no e)
  where
    no : [] ≡ y ∷ after → ⊥
    no f = cc
firsts-none t (b ∷ bs) y after q e p = absurd (no e)
  where
    no : [] ≡ b ∷ (bs ++ y ∷ after) → ⊥
    no f = cc

later : (t : Tree) (x : Piece) (d : List Piece) → IsFine (is_right (grown t x)) (place_of x) → Firsts (grown t x) d → Firsts t (x ∷ d)
later t x d fine firsts [] y after q e p =
    let same : x ≡ y = ap (head_or x) e in
    subst (λ z. is_right (grown t z) ≡ true) same (fine q (ap place_of same ∙ p))
later t x d fine firsts (b ∷ bs) y after q e p =
    let same : x ≡ b = ap (head_or x) e in
    subst (λ z. is_right (grown (shape_from (grown t z) bs) y) ≡ true) same (firsts bs y after q (ap tail_of e) p)

find : (t : Tree) (c : List Piece) (p : Place) → first_wrong_from t c ≡ Some p → Found t c p
find t [] p e = absurd (none≢some p e)
find t (x ∷ c) p e = by (find (grown t x) c p) (cases (is_right (grown t x)) (place_of x))
  where
    more : Option Place
    more = first_wrong_from (grown t x) c

    by : (first_wrong_from (grown t x) c ≡ Some p → Found (grown t x) c p) → IsWrong (is_right (grown t x)) (place_of x) ⊎ IsFine (is_right (grown t x)) (place_of x) → Found t (x ∷ c) p
    by rec (inl w) =
        let told : or_else (wrong_at (grown t x) x) (first_wrong_from (grown t x) c) ≡ Some w.at =
        ap (λ z. or_else (cond {A = Option Place} z None (place_of x)) (first_wrong_from (grown t x) c)) w.no ∙ ap (λ o. or_else o (first_wrong_from (grown t x) c)) w.is in
        record { done = []; operator = x; rest = c; is = refl; place = w.is ∙ sym told ∙ e; none = w.no; first = firsts-none t }
    by rec (inr f) =
        let none : wrong_at (grown t x) x ≡ None = fine-none (is_right (grown t x)) (place_of x) f in
        let r = rec (sym (ap (λ o. or_else o (first_wrong_from (grown t x) c)) none) ∙ e) in
        record { done = x ∷ r.done; operator = r.operator; rest = r.rest; is = ap (λ d. x ∷ d) r.is; place = r.place; none = r.none; first = later t x r.done f r.first }

wrong-here : (t : Tree) (done : List Piece) (x : Piece) (rest : List Piece) (p : Place) → place_of x ≡ Some p → is_right (grown (shape_from t done) x) ≡ false → Firsts t done
    → first_wrong_from t (done ++ x ∷ rest) ≡ Some p
wrong-here t [] x rest p at none firsts =
    ap (λ z. or_else (cond {A = Option Place} z None (place_of x)) (first_wrong_from (grown t x) rest)) none ∙ ap (λ o. or_else o (first_wrong_from (grown t x) rest)) at
wrong-here t (y ∷ d) x rest p at none firsts =
    let fine : wrong_at (grown t y) y ≡ None = fine-none (is_right (grown t y)) (place_of y) (λ q e. firsts [] y d q refl e) in
    ap (λ o. or_else o (first_wrong_from (grown t y) (d ++ x ∷ rest))) fine
    ∙ wrong-here (grown t y) d x rest p at none (λ before z after q e l. firsts (y ∷ before) z after q (ap (λ b. y ∷ b) e) l)

-- ---- the fronts of a chain

shape-append : (t : Tree) (a b : List Piece) → shape_from t (a ++ b) ≡ shape_from (shape_from t a) b
shape-append t [] b = refl
shape-append t (x ∷ a) b = shape-append (grown t x) a b

chain-front : (e : Bool) (a b : List Piece) → IsChain e (a ++ b) → IsChain e a
chain-front true [] b h = tt
chain-front true (piece.Operand a ∷ c) b h = chain-front false c b h
chain-front true (piece.Prefix p ∷ c) b h = chain-front true c b h
chain-front true (piece.Infix o ∷ c) b h = h
chain-front true (piece.Postfix q ∷ c) b h = h
chain-front false [] b h = tt
chain-front false (piece.Operand a ∷ c) b h = h
chain-front false (piece.Prefix p ∷ c) b h = h
chain-front false (piece.Infix o ∷ c) b h = chain-front true c b h
chain-front false (piece.Postfix q ∷ c) b h = chain-front false c b h

front : (c a : List Piece) (y : Piece) (b : List Piece) → c ≡ a ++ y ∷ b → IsChain true c → AreListed c → IsChain true (a ++ y ∷ []) × AreListed (a ++ y ∷ [])
front c a y b e h l =
    let same : c ≡ (a ++ y ∷ []) ++ b = e ∙ sym (append_assoc a (y ∷ []) b) in
    (chain-front true (a ++ y ∷ []) b (subst (IsChain true) same h), (listed-split (a ++ y ∷ []) b (subst AreListed same l)).0)

right-front : (a : List Piece) (y : Piece) → is_right (shape (a ++ y ∷ [])) ≡ is_right (grown (shape a) y)
right-front a y = ap is_right (shape-append plain a (y ∷ []))

-- ---- the law

fault-at : (c : List Piece) (p : Place) → IsChain true c → AreListed c → fault_of c ≡ Some p → FaultAt c p
fault-at c p h l e =
    let told = no_tree c p e in
    let f = find plain c p told.1 in
    let good = front c f.done f.operator f.rest f.is h l in
    record {
      whole = λ r. false≢true (sym told.0 ∙ right-of c l r);
      done = f.done;
      operator = f.operator;
      rest = f.rest;
      is = f.is;
      place = f.place;
      none = λ r. false≢true (sym f.none ∙ sym (right-front f.done f.operator) ∙ right-of (f.done ++ f.operator ∷ []) good.1 r);
      first = λ before y after q d at. (
          let split : c ≡ before ++ y ∷ (after ++ f.operator ∷ f.rest) = f.is ∙ ap (λ z. z ++ f.operator ∷ f.rest) d ∙ append_assoc before (y ∷ after) (f.operator ∷ f.rest) in
          let fine = front c before y (after ++ f.operator ∷ f.rest) split h l in
          has-right (before ++ y ∷ []) fine.0 (right-front before y ∙ f.first before y after q d at));
    }

fault-from : (c : List Piece) (p : Place) → IsChain true c → AreListed c → FaultAt c p → fault_of c ≡ Some p
fault-from c p h l f =
    cond-false _ _ _ (wrong (is_right (shape c)) refl)
    ∙ ap first_wrong f.is
    ∙ wrong-here plain f.done f.operator f.rest p f.place (none (is_right (grown (shape f.done) f.operator)) refl) firsts
  where
    wrong : (b : Bool) → is_right (shape c) ≡ b → is_right (shape c) ≡ false
    wrong true e = absurd (f.whole (has-right c h e))
    wrong false e = e

    none : (b : Bool) → is_right (grown (shape f.done) f.operator) ≡ b → is_right (grown (shape f.done) f.operator) ≡ false
    none true e = absurd (f.none (has-right (f.done ++ f.operator ∷ []) (front c f.done f.operator f.rest f.is h l).0 (right-front f.done f.operator ∙ e)))
    none false e = e

    firsts : Firsts plain f.done
    firsts before y after q d at =
        let split : c ≡ before ++ y ∷ (after ++ f.operator ∷ f.rest) = f.is ∙ ap (λ z. z ++ f.operator ∷ f.rest) d ∙ append_assoc before (y ∷ after) (f.operator ∷ f.rest) in
        sym (right-front before y) ∙ right-of (before ++ y ∷ []) (front c before y (after ++ f.operator ∷ f.rest) split h l).1 (f.first before y after q d at)

pub first_place : FirstFault
first_place c p h l = (λ e. fault-at c p h l e, λ f. fault-from c p h l f)

pub none_tree : (c : List Piece) (p : Place) → fault_of c ≡ Some p → tree_of c ≡ None
none_tree c p e = cond-false _ _ _ (no_tree c p e).0
