-- The tree of a chain has the pieces of the chain, in order.
use Rattle.std.proofs.Common.{◌≡◌, Bool, true, false, List, [], ◌∷◌, ◌++◌, Some, refl, sym, ap, ◌∙◌, append_assoc, append-nil}
use Rattle.std.proofs.lemmas.Bool.{cond_both}
use Rattle.std.proofs.lemmas.Option.{cond_some}
use Rattle.operator_chain.specs.declared.chain.Operator.{Operator}
use Rattle.operator_chain.specs.declared.chain.Piece.{Piece}
use Rattle.operator_chain.specs.declared.chain.Piece.TheVariants as piece
use Rattle.operator_chain.specs.Tree.{Tree, leaf, prefixed, suffixed, joined, flat, before_infix, is_right}
use Rattle.operator_chain.specs.Chain.{plain, filled, put, behind, shape_from, shape, tree_of, IsWhole, OneRightTree}
use Rattle.operator_chain.specs.declared.chain.Suffix.{Suffix}
use Rattle.operator_chain.proofs.Rows.{row_of, listed-tree}
use Rattle.operator_chain.proofs.Laws.{tree_of-right}

-- the pieces without the last operand, of a tree that waits for one
abbrev front : Tree → List Piece
front (leaf a) = []
front (prefixed p t) = piece.Prefix p ∷ front t
front (suffixed t q) = flat (suffixed t q)
front (joined l o r) = flat l ++ (piece.Infix o ∷ front r)

abbrev Waits : Tree → Type 0
Waits (leaf a) = Unit {0}
Waits (prefixed p t) = Waits t
Waits (suffixed t q) = ⊥
Waits (joined l o r) = Waits r

flat-filled : (x t : Tree) → Waits t → flat (filled x t) ≡ front t ++ flat x
flat-filled x (leaf a) w = refl
flat-filled x (prefixed p t) w = ap (λ c. piece.Prefix p ∷ c) (flat-filled x t w)
flat-filled x (suffixed t q) w = absurd w
flat-filled x (joined l o r) w = ap (λ c. flat l ++ (piece.Infix o ∷ c)) (flat-filled x r w) ∙ sym (append_assoc (flat l) (piece.Infix o ∷ front r) (flat x))

front-filled : (x t : Tree) → Waits t → Waits x → (front (filled x t) ≡ front t ++ front x) × Waits (filled x t)
front-filled x (leaf a) w v = (refl, v)
front-filled x (prefixed p t) w v = let more = front-filled x t w v in (ap (λ c. piece.Prefix p ∷ c) more.0, more.1)
front-filled x (suffixed t q) w v = absurd w
front-filled x (joined l o r) w v = let more = front-filled x r w v in (ap (λ c. flat l ++ (piece.Infix o ∷ c)) more.0 ∙ sym (append_assoc (flat l) (piece.Infix o ∷ front r) (front x)), more.1)

flat-behind : (q : Suffix) (t : Tree) → flat (behind q t) ≡ flat t ++ piece.Postfix q ∷ []
flat-behind q (leaf a) = refl
flat-behind q (suffixed t s) = refl
flat-behind q (prefixed p t) = ap (λ c. piece.Prefix p ∷ c) (flat-behind q t)
flat-behind q (joined l o r) = ap (λ c. flat l ++ (piece.Infix o ∷ c)) (flat-behind q r) ∙ sym (append_assoc (flat l) (piece.Infix o ∷ flat r) (piece.Postfix q ∷ []))

abbrev Put : Operator → Tree → Tree → Type 0
Put o t u = (front u ≡ flat t ++ piece.Infix o ∷ []) × Waits u

front-put : (o : Operator) (t : Tree) → Put o t (put o t)
front-put o (leaf a) = (refl, tt)
front-put o (suffixed t q) = (refl, tt)
front-put o (prefixed p t) =
    let more = front-put o t in
    cond_both (before_infix o (prefixed p t)) _ _ (Put o (prefixed p t)) (λ _. (refl, tt)) (λ _. (ap (λ c. piece.Prefix p ∷ c) more.0, more.1))
front-put o (joined l s r) =
    let more = front-put o r in
    cond_both (before_infix o (joined l s r)) _ _ (Put o (joined l s r)) (λ _. (refl, tt))
    (λ _. (ap (λ c. flat l ++ (piece.Infix s ∷ c)) more.0 ∙ sym (append_assoc (flat l) (piece.Infix s ∷ flat r) (piece.Infix o ∷ [])), more.1))

-- what was read so far; the test says whether an operand must come
abbrev Has : Bool → Tree → List Piece → Type 0
Has true t c = (front t ≡ c) × Waits t
Has false t c = flat t ≡ c

-- each piece stands where it may, and the last is an operand with its postfix operators
has-all : (e : Bool) (t : Tree) (done c : List Piece) → Has e t done → IsWhole e c → flat (shape_from t c) ≡ done ++ c
has-all true t done [] h w = absurd w
has-all true t done (piece.Operand a ∷ c) h w =
    let step : flat (filled (leaf a) t) ≡ done ++ piece.Operand a ∷ [] = flat-filled (leaf a) t h.1 ∙ ap (λ f. f ++ piece.Operand a ∷ []) h.0 in
    has-all false (filled (leaf a) t) (done ++ piece.Operand a ∷ []) c step w ∙ append_assoc done (piece.Operand a ∷ []) c
has-all true t done (piece.Prefix p ∷ c) h w =
    let more = front-filled (prefixed p plain) t h.1 tt in
    has-all true (filled (prefixed p plain) t) (done ++ piece.Prefix p ∷ []) c (more.0 ∙ ap (λ f. f ++ piece.Prefix p ∷ []) h.0, more.1) w ∙ append_assoc done (piece.Prefix p ∷ []) c
has-all true t done (piece.Infix o ∷ c) h w = absurd w
has-all true t done (piece.Postfix q ∷ c) h w = absurd w
has-all false t done [] h w = h ∙ sym (append-nil done)
has-all false t done (piece.Operand a ∷ c) h w = absurd w
has-all false t done (piece.Prefix p ∷ c) h w = absurd w
has-all false t done (piece.Infix o ∷ c) h w =
    let more = front-put o t in
    has-all true (put o t) (done ++ piece.Infix o ∷ []) c (more.0 ∙ ap (λ f. f ++ piece.Infix o ∷ []) h, more.1) w ∙ append_assoc done (piece.Infix o ∷ []) c
has-all false t done (piece.Postfix q ∷ c) h w =
    has-all false (behind q t) (done ++ piece.Postfix q ∷ []) c (flat-behind q t ∙ ap (λ f. f ++ piece.Postfix q ∷ []) h) w ∙ append_assoc done (piece.Postfix q ∷ []) c

pub tree_of-found : (c : List Piece) (t : Tree) → IsWhole true c → tree_of c ≡ Some t → (flat t ≡ c) × (is_right t ≡ true)
tree_of-found c t w e =
    let both = cond_some (is_right (shape c)) (shape c) t e in
    (ap flat (sym both.1) ∙ has-all true plain [] c (refl, tt) w, ap is_right (sym both.1) ∙ both.0)

pub one_tree : OneRightTree
one_tree c t w l = (λ h. tree_of-right row_of c t (listed-tree t c h.0 l) h.0 h.1, λ e. tree_of-found c t w e)
