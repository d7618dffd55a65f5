-- What the table says of its operators: an infix operator has one precedence under 15, a prefix operator a low under 15, a
-- postfix operator one precedence of 15 or more.
use Rattle.std.proofs.Common.{◌≡◌, ℕ, ◌<◌, ◌≤◌, ◌==◌, Bool, true, false, ◌&&◌, nat_eq, nat_lt, not, List, [], ◌∷◌, ◌++◌, Option, Some, None, refl, sym, ap, ◌∙◌, subst}
use Rattle.std.proofs.lemmas.Bool.{and_parts, cond_both, eqb-true, ltb-true, ltb-false, true≢false}
use Rattle.std.proofs.lemmas.Slice.Eq.{bytes_eq-Decides}
use Rattle.std.specs.Cmp.Lexicographic.{pointwise}
use Rattle.std.specs.Str.{bytes_eq}
use Rattle.std_names.specs.declared.operators.Fix.TheVariants.{Prefix, Infix, Postfix}
use Rattle.std_names.specs.Operators.{Row, row_in, operator, prefix_rows, infix_rows, postfix_rows}
use Rattle.operator_chain.specs.declared.chain.Operator.{Operator}
use Rattle.operator_chain.specs.declared.chain.Suffix.{Suffix}
use Rattle.operator_chain.specs.declared.chain.Piece.{Piece}
use Rattle.operator_chain.specs.declared.chain.Piece.TheVariants as piece
use Rattle.operator_chain.specs.Tree.{Tree, leaf, prefixed, suffixed, joined, flat}
use Rattle.operator_chain.specs.Listed.{sign_of, IsListed, AreListed}

pub same-sign : (a b : List ℕ) → bytes_eq a b ≡ true → a ≡ b
same-sign a b e = (bytes_eq-Decides a b).0 e

pub other-sign : (a b : List ℕ) → (a ≡ b → ⊥) → bytes_eq a b ≡ false
other-sign a b ne = go (bytes_eq a b) refl
  where
    go : (x : Bool) → bytes_eq a b ≡ x → x ≡ false
    go true e = absurd (ne (same-sign a b e))
    go false e = refl

-- ---- the operators

pub record IsInfix (row : List ℕ → ℕ) (o : Operator) : Type 0 where
  pub low : o.low ≡ row o.sign
  pub high : o.high ≡ row o.sign
  pub small : row o.sign < 15

pub record IsPrefix (row : List ℕ → ℕ) (p : Operator) : Type 0 where
  pub small : p.low < 15
  pub ordered : p.low ≤ p.high

pub record IsPostfix (row : List ℕ → ℕ) (q : Suffix) : Type 0 where
  pub large : 15 ≤ q.low
  pub same : q.low ≡ q.high

abbrev pub Listed : (List ℕ → ℕ) → Tree → Type 0
Listed row (leaf a) = Unit {0}
Listed row (prefixed p t) = IsPrefix row p × Listed row t
Listed row (suffixed t q) = IsPostfix row q × Listed row t
Listed row (joined l o r) = IsInfix row o × Listed row l × Listed row r

abbrev pub ListedPiece : (List ℕ → ℕ) → Piece → Type 0
ListedPiece row (piece.Operand a) = Unit {0}
ListedPiece row (piece.Prefix p) = IsPrefix row p
ListedPiece row (piece.Infix o) = IsInfix row o
ListedPiece row (piece.Postfix q) = IsPostfix row q

abbrev pub ListedPieces : (List ℕ → ℕ) → List Piece → Type 0
ListedPieces row [] = Unit {0}
ListedPieces row (x ∷ xs) = ListedPiece row x × ListedPieces row xs

-- ---- the table

abbrev Entry : Type 0
Entry = ℕ × ℕ × Bool

abbrev low_in : Option Entry → ℕ
low_in None = 0
low_in (Some r) = r.0

-- the precedence of an infix operator
abbrev pub row_of : List ℕ → ℕ
row_of sign = low_in (operator sign Infix)

abbrev all_rows : (Entry → Bool) → List Row → Bool
all_rows test [] = true
all_rows test (r ∷ rs) = test (r.1, r.2, r.3) && all_rows test rs

abbrev from_some : Option Entry → Entry → Entry
from_some (Some x) y = x
from_some None y = y

found : (test : Entry → Bool) (rows : List Row) (sign : List ℕ) (e : Entry) → all_rows test rows ≡ true → row_in rows sign ≡ Some e → test e ≡ true
found test [] sign e all is = absurd (no is)
  where
    no : None ≡ Some e → ⊥
    no f = cc
found test (r ∷ rs) sign e all is =
    let parts = and_parts _ _ all in
    let P : Option Entry → Type 0 = λ o. o ≡ Some e → test e ≡ true in
    cond_both (pointwise nat_eq r.0 sign) (Some (r.1, r.2, r.3)) (row_in rs sign) P
    (λ yes. (λ f. ap test (sym (ap (λ o. from_some o e) f)) ∙ parts.0))
    (λ no. (λ f. found test rs sign e parts.1 f)) is

abbrev fits_infix : Entry → Bool
fits_infix e = (e.0 == e.1) && nat_lt e.0 15

abbrev fits_prefix : Entry → Bool
fits_prefix e = nat_lt e.0 15 && not (nat_lt e.1 e.0)

abbrev fits_postfix : Entry → Bool
fits_postfix e = not (nat_lt e.0 15) && (e.0 == e.1)

infix-fits : (sign : List ℕ) (e : Entry) → operator sign Infix ≡ Some e → fits_infix e ≡ true
unfolding operator infix_rows
infix-fits sign e is = found fits_infix infix_rows sign e refl is

prefix-fits : (sign : List ℕ) (e : Entry) → operator sign Prefix ≡ Some e → fits_prefix e ≡ true
unfolding operator prefix_rows
prefix-fits sign e is = found fits_prefix prefix_rows sign e refl is

postfix-fits : (sign : List ℕ) (e : Entry) → operator sign Postfix ≡ Some e → fits_postfix e ≡ true
unfolding operator postfix_rows
postfix-fits sign e is = found fits_postfix postfix_rows sign e refl is

at-least : (a b : ℕ) → not (nat_lt a b) ≡ true → b ≤ a
at-least a b e = go (nat_lt a b) refl e
  where
    go : (x : Bool) → nat_lt a b ≡ x → not x ≡ true → b ≤ a
    go true f g = absurd (true≢false (sym g))
    go false f g = ltb-false a b f

pub listed-piece : (x : Piece) → IsListed x → ListedPiece row_of x
listed-piece (piece.Operand a) l = tt
listed-piece (piece.Prefix p) l =
    let fits = and_parts _ _ (prefix-fits p.sign _ l) in
    record { small = ltb-true _ _ fits.0; ordered = at-least _ _ fits.1 }
listed-piece (piece.Infix o) l =
    let fits = and_parts _ _ (infix-fits o.sign _ l) in
    let low : o.low ≡ row_of o.sign = sym (ap low_in l) in
    record { low = low; high = sym (eqb-true _ _ fits.0) ∙ low; small = subst (λ n. n < 15) low (ltb-true _ _ fits.1) }
listed-piece (piece.Postfix q) l =
    let fits = and_parts _ _ (postfix-fits (sign_of q.ending) _ l) in
    record { large = at-least _ _ fits.0; same = eqb-true _ _ fits.1 }

pub listed-pieces : (c : List Piece) → AreListed c → ListedPieces row_of c
listed-pieces [] l = tt
listed-pieces (x ∷ c) l = (listed-piece x l.0, listed-pieces c l.1)

-- ---- the operators of a tree are those of its pieces

pub listed-split : (a b : List Piece) → AreListed (a ++ b) → AreListed a × AreListed b
listed-split [] b l = (tt, l)
listed-split (x ∷ a) b l = let more = listed-split a b l.1 in ((l.0, more.0), more.1)

listed-flat : (t : Tree) → AreListed (flat t) → Listed row_of t
listed-flat (leaf a) l = tt
listed-flat (prefixed p t) l = (listed-piece (piece.Prefix p) l.0, listed-flat t l.1)
listed-flat (suffixed t q) l =
    let both = listed-split (flat t) (piece.Postfix q ∷ []) l in
    (listed-piece (piece.Postfix q) both.1.0, listed-flat t both.0)
listed-flat (joined l o r) g =
    let both = listed-split (flat l) (piece.Infix o ∷ flat r) g in
    (listed-piece (piece.Infix o) both.1.0, listed-flat l both.0, listed-flat r both.1.1)

pub listed-tree : (t : Tree) (c : List Piece) → flat t ≡ c → AreListed c → Listed row_of t
listed-tree t c e l = listed-flat t (subst AreListed (sym e) l)
