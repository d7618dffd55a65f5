-- A right tree is the tree of its chain.
use Rattle.std.proofs.Common.{◌≡◌, ℕ, ◌<◌, ◌≤◌, Bool, true, false, ◌&&◌, ◌||◌, cond, nat_lt, List, [], ◌∷◌, ◌++◌, Some, None, refl, sym, ap, ◌∙◌, inl, inr, ◌⊎◌, subst, arith, append_assoc, append-nil}
use Rattle.std.proofs.lemmas.Bool.{true≢false, and_parts, and_left, and_right, or_cases, ltb-true, lt-ltb, le-ltb, cond-true}
use Rattle.operator_chain.specs.declared.chain.Operator.{Operator}
use Rattle.operator_chain.specs.declared.chain.Piece.{Piece}
use Rattle.operator_chain.specs.declared.chain.Piece.TheVariants as piece
use Rattle.operator_chain.specs.Tree.{Tree, leaf, prefixed, suffixed, joined, flat, stands, over, before_infix, is_right}
use Rattle.operator_chain.specs.Chain.{plain, filled, put, behind, shape_from, shape, tree_of}
use Rattle.std.specs.Str.{bytes_eq}
use Rattle.operator_chain.specs.declared.chain.Suffix.{Suffix}
use Rattle.operator_chain.proofs.Rows.{IsInfix, IsPrefix, IsPostfix, Listed, same-sign, other-sign}
use Rattle.operator_chain.specs.Machine.{Frame, in_prefixed, in_joined, around, plug}

filled-around : (f : Frame) (x t : Tree) → filled x (around f t) ≡ around f (filled x t)
filled-around (in_prefixed p) x t = refl
filled-around (in_joined l o) x t = refl

pub filled-plug : (fs : List Frame) (x t : Tree) → filled x (plug fs t) ≡ plug fs (filled x t)
filled-plug [] x t = refl
filled-plug (f ∷ fs) x t = filled-plug fs x (around f t) ∙ ap (plug fs) (filled-around f x t)

behind-around : (f : Frame) (q : Suffix) (t : Tree) → behind q (around f t) ≡ around f (behind q t)
behind-around (in_prefixed p) q t = refl
behind-around (in_joined l o) q t = refl

pub behind-plug : (fs : List Frame) (q : Suffix) (t : Tree) → behind q (plug fs t) ≡ plug fs (behind q t)
behind-plug [] q t = refl
behind-plug (f ∷ fs) q t = behind-plug fs q (around f t) ∙ ap (plug fs) (behind-around f q t)

over-around : (f : Frame) (b : Bool) (high : ℕ) (t : Tree) → over b high t ≡ false → over b high (around f t) ≡ false
over-around (in_prefixed p) b high t e = and_right (nat_lt high p.low) _ e
over-around (in_joined l o) b high t e = and_right (nat_lt high o.low) _ e

before-around : (f : Frame) (o : Operator) (t : Tree) → over false o.high t ≡ false → before_infix o (around f t) ≡ false
before-around (in_prefixed p) o t e = and_right (nat_lt o.high p.low) _ e
before-around (in_joined l s) o t e = and_right ((o.is_left && bytes_eq s.sign o.sign) || nat_lt o.high s.low) _ e

pub cond-false : {A : Type 0} (b : Bool) (x y : A) → b ≡ false → cond b x y ≡ y
cond-false true x y e = absurd (true≢false e)
cond-false false x y e = refl

pub put-around : (f : Frame) (o : Operator) (t : Tree) → before_infix o (around f t) ≡ false → put o (around f t) ≡ around f (put o t)
put-around (in_prefixed p) o t e = cond-false _ _ _ e
put-around (in_joined l s) o t e = cond-false _ _ _ e

-- an operator that does not go over some operator of the spine goes below it
pub put-plug : (fs : List Frame) (o : Operator) (t : Tree) → over false o.high t ≡ false → put o (plug fs t) ≡ plug fs (put o t)
put-plug [] o t e = refl
put-plug (f ∷ fs) o t e =
    put-plug fs o (around f t) (over-around f false o.high t e) ∙ ap (plug fs) (put-around f o t (before-around f o t e))

pub put-over : (o : Operator) (t : Tree) → before_infix o t ≡ true → put o t ≡ joined t o plain
put-over o (leaf a) e = refl
put-over o (suffixed t q) e = refl
put-over o (prefixed p t) e = cond-true _ _ _ e
put-over o (joined l s r) e = cond-true _ _ _ e

pub neither : (a b : Bool) → a ≡ false → b ≡ false → (a || b) ≡ false
neither true b e f = absurd (true≢false e)
neither false b e f = f

module _ (row : List ℕ → ℕ) where
  -- ---- what an operator round a tree asks of the operators on its left side

  abbrev pub Leans : ℕ → Tree → Type 0
  Leans high (leaf a) = Unit {0}
  Leans high (prefixed p t) = Unit {0}
  Leans high (suffixed t q) = Leans high t
  Leans high (joined l o r) = (high < o.low) × Leans high l

  pub stands-left : (high : ℕ) (o : Operator) (l : Tree) → IsInfix row o → Listed row l → high < o.low → before_infix o l ≡ true → stands high l ≡ true
  stands-left high o (leaf a) i g lt e = refl
  stands-left high o (prefixed p t) i g lt e = refl
  stands-left high o (suffixed t q) i g lt e =
      let h : o.high < q.low = ltb-true _ _ e in
      let low = i.low in
      let top = i.high in
      lt-ltb _ _ (omega arith)
  stands-left high o (joined l s r) i g lt e = by_top (or_cases _ _ (and_parts _ _ e).0)
    where
      by_top : (((o.is_left && bytes_eq s.sign o.sign) ≡ true) ⊎ (nat_lt o.high s.low ≡ true)) → nat_lt high s.low ≡ true
      by_top (inl both) =
          let same : s.sign ≡ o.sign = same-sign s.sign o.sign (and_parts o.is_left (bytes_eq s.sign o.sign) both).1 in
          let low : s.low ≡ o.low = g.0.low ∙ ap row same ∙ sym i.low in
          lt-ltb _ _ (omega arith)
      by_top (inr less) =
          let h = ltb-true _ _ less in
          let low = i.low in
          let top = i.high in
          lt-ltb _ _ (omega arith)

  abbrev pub IsUnit : Tree → Type 0
  IsUnit (leaf a) = Unit {0}
  IsUnit (prefixed p t) = ⊥
  IsUnit (suffixed t q) = IsUnit t
  IsUnit (joined l o r) = ⊥

  not-over : (q : Suffix) (s : Operator) → IsPostfix row q → s.low < 15 → nat_lt q.high s.low ≡ true → ⊥
  not-over q s i small e =
      let lt : q.high < s.low = ltb-true _ _ e in
      let large = i.large in
      let same : q.low ≡ q.high = i.same in
      omega arith

  -- a postfix operator of a right tree stands behind an operand and its postfix operators
  pub unit-left : (q : Suffix) (t : Tree) → IsPostfix row q → Listed row t → over true q.high t ≡ true → is_right t ≡ true → IsUnit t
  unit-left q (leaf a) i g e r = tt
  unit-left q (prefixed p t) i g e r = not-over q p i g.0.small (and_parts _ _ e).0
  unit-left q (suffixed t s) i g e r = unit-left s t g.0 g.1 (and_parts _ _ r).0 (and_parts _ _ r).1
  unit-left q (joined l s t) i g e r = not-over q s i (let low : s.low ≡ row s.sign = g.0.low in let small : row s.sign < 15 = g.0.small in omega arith) (and_parts _ _ e).0

  unit-leans : (high : ℕ) (t : Tree) → IsUnit t → Leans high t
  unit-leans high (leaf a) u = tt
  unit-leans high (prefixed p t) u = absurd u
  unit-leans high (suffixed t q) u = unit-leans high t u
  unit-leans high (joined l o r) u = absurd u

  pub unit-behind : (q : Suffix) (t : Tree) → IsUnit t → behind q t ≡ suffixed t q
  unit-behind q (leaf a) u = refl
  unit-behind q (prefixed p t) u = absurd u
  unit-behind q (suffixed t s) u = refl
  unit-behind q (joined l o r) u = absurd u

  pub right-leans : (high : ℕ) (t : Tree) → Listed row t → is_right t ≡ true → stands high t ≡ true → Leans high t
  right-leans high (leaf a) g e s = tt
  right-leans high (prefixed p t) g e s = tt
  right-leans high (suffixed t q) g e s = unit-leans high t (unit-left q t g.0 g.1 (and_parts _ _ e).0 (and_parts _ _ e).1)
  right-leans high (joined l o r) g e s =
      let lt = ltb-true _ _ s in
      let parts = and_parts _ _ e in
      let rest = and_parts _ _ parts.1 in
      let both = and_parts _ _ rest.1 in
      (lt, right-leans high l g.1 both.0 (stands-left high o l g.0 g.1 lt parts.0))

  -- ---- a right tree is what its chain grows to

  -- what the innermost part of the context asks
  abbrev pub Asks : List Frame → Tree → Type 0
  Asks [] t = Unit {0}
  Asks (in_prefixed p ∷ fs) t = IsPrefix row p × Leans p.high t
  Asks (in_joined l s ∷ fs) t = IsInfix row s × Leans s.high t

  blocked-over : (f : Frame) (fs : List Frame) (l : Tree) (o : Operator) (r : Tree) → IsInfix row o → Asks (f ∷ fs) (joined l o r) → over false o.high (around f l) ≡ false
  blocked-over (in_prefixed p) fs l o r i a =
      let lt : p.high < o.low = a.1.0 in
      let le : p.low ≤ p.high = a.0.ordered in
      let low : o.low ≡ row o.sign = i.low in
      let top : o.high ≡ row o.sign = i.high in
      let no : nat_lt o.high p.low ≡ false = le-ltb o.high p.low (omega arith) in
      and_left _ _ no
  blocked-over (in_joined m s) fs l o r i a =
      let lt : s.high < o.low = a.1.0 in
      let low : o.low ≡ row o.sign = i.low in
      let top : o.high ≡ row o.sign = i.high in
      let low_s : s.low ≡ row s.sign = a.0.low in
      let top_s : s.high ≡ row s.sign = a.0.high in
      let no : nat_lt o.high s.low ≡ false = le-ltb o.high s.low (omega arith) in
      and_left _ _ no

  blocked-before : (f : Frame) (fs : List Frame) (l : Tree) (o : Operator) (r : Tree) → IsInfix row o → Asks (f ∷ fs) (joined l o r) → before_infix o (around f l) ≡ false
  blocked-before (in_prefixed p) fs l o r i a = blocked-over (in_prefixed p) fs l o r i a
  blocked-before (in_joined m s) fs l o r i a =
      let lt : s.high < o.low = a.1.0 in
      let low : o.low ≡ row o.sign = i.low in
      let top : o.high ≡ row o.sign = i.high in
      let low_s : s.low ≡ row s.sign = a.0.low in
      let top_s : s.high ≡ row s.sign = a.0.high in
      let ne : s.sign ≡ o.sign → ⊥ = λ same. (let e : row s.sign ≡ row o.sign = ap row same in omega arith) in
      let less : nat_lt o.high s.low ≡ false = le-ltb o.high s.low (omega arith) in
      let other : bytes_eq s.sign o.sign ≡ false = other-sign _ _ ne in
      let first : (o.is_left && bytes_eq s.sign o.sign) ≡ false = and_right o.is_left _ other in
      let both : ((o.is_left && bytes_eq s.sign o.sign) || nat_lt o.high s.low) ≡ false = neither _ _ first less in
      and_left _ _ both

  put-under : (fs : List Frame) (l : Tree) (o : Operator) (r : Tree) → IsInfix row o → Asks fs (joined l o r) → before_infix o l ≡ true → put o (plug fs l) ≡ plug fs (joined l o plain)
  put-under [] l o r i a e = put-over o l e
  put-under (f ∷ fs) l o r i a e =
      put-plug fs o (around f l) (blocked-over f fs l o r i a) ∙ ap (plug fs) (put-around f o l (blocked-before f fs l o r i a) ∙ ap (around f) (put-over o l e))

  asks-left : (fs : List Frame) (l : Tree) (o : Operator) (r : Tree) → Asks fs (joined l o r) → Asks fs l
  asks-left [] l o r a = tt
  asks-left (in_prefixed p ∷ fs) l o r a = (a.0, a.1.1)
  asks-left (in_joined m s ∷ fs) l o r a = (a.0, a.1.1)

  asks-unit : (fs : List Frame) (t : Tree) (q : Suffix) → Asks fs (suffixed t q) → Asks fs t
  asks-unit [] t q a = tt
  asks-unit (in_prefixed p ∷ fs) t q a = a
  asks-unit (in_joined m s ∷ fs) t q a = a

  pub grows : (fs : List Frame) (t : Tree) (rest : List Piece) → Listed row t → is_right t ≡ true → Asks fs t → shape_from (plug fs plain) (flat t ++ rest) ≡ shape_from (plug fs t) rest
  grows fs (leaf a) rest g e k = ap (λ x. shape_from x rest) (filled-plug fs (leaf a) plain)
  grows fs (prefixed p t) rest g e k =
      let parts = and_parts _ _ e in
      ap (λ x. shape_from x (flat t ++ rest)) (filled-plug fs (prefixed p plain) plain)
      ∙ grows (in_prefixed p ∷ fs) t rest g.1 parts.1 (g.0, right-leans p.high t g.1 parts.1 parts.0)
  grows fs (suffixed t q) rest g e k =
      let parts = and_parts _ _ e in
      let unit = unit-left q t g.0 g.1 parts.0 parts.1 in
      ap (shape_from (plug fs plain)) (append_assoc (flat t) (piece.Postfix q ∷ []) rest)
      ∙ grows fs t (piece.Postfix q ∷ rest) g.1 parts.1 (asks-unit fs t q k)
      ∙ ap (λ x. shape_from x rest) (behind-plug fs q t ∙ ap (plug fs) (unit-behind q t unit))
  grows fs (joined l o r) rest g e k =
      let parts = and_parts _ _ e in
      let more = and_parts _ _ parts.1 in
      let both = and_parts _ _ more.1 in
      ap (shape_from (plug fs plain)) (append_assoc (flat l) (piece.Infix o ∷ flat r) rest)
      ∙ grows fs l (piece.Infix o ∷ (flat r ++ rest)) g.1 both.0 (asks-left fs l o r k)
      ∙ ap (λ x. shape_from x (flat r ++ rest)) (put-under fs l o r g.0 k parts.0)
      ∙ grows (in_joined l o ∷ fs) r rest g.2 both.1 (g.0, right-leans o.high r g.2 both.1 more.0)

  -- a chain has at most one right tree, and `tree_of` finds it
  pub tree_of-right : (c : List Piece) (t : Tree) → Listed row t → flat t ≡ c → is_right t ≡ true → tree_of c ≡ Some t
  tree_of-right c t g is e =
      let back : shape (flat t) ≡ t = ap shape (sym (append-nil (flat t))) ∙ grows [] t [] g e tt in
      let same : shape c ≡ t = ap shape (sym is) ∙ back in
      let P : Tree → Type 0 = λ x. cond (is_right x) (Some x) None ≡ Some t in
      subst P (sym same) (cond-true _ _ _ e)
