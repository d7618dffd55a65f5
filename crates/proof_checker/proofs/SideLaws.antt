-- What is on a side.
use Rattle.std.proofs.Common.{◌≡◌, ℕ, zero, suc, ◌+◌, ◌-◌, ◌<◌, ◌≤◌, List, [], ◌∷◌, ◌++◌, length, get_or, take, drop, reverse, refl, ap, sym, ◌∙◌, arith, subst, inl, inr, ◌⊎◌, append_assoc, append-nil, length-append}
use Rattle.std.proofs.lemmas.List.{get_or-drop, length-drop, get_or_append_left, drop-append-le, length-take-le, reverse-append}
use Rattle.core_expr.specs.Tree.{Tree, true_}
use Rattle.core_expr.specs.Put.{IsScoped}
use Rattle.core_expr.specs.Nodes.{Node, picked, IsNode, tree_over}
use Rattle.term_bank.specs.Banks.{IsDistinct, HasNode, tree_at, Extends}
use Rattle.seq_calculus.specs.Calculus.{Has, AllClosed}
use Rattle.proof_checker.specs.Latest.{HasFrom}
use Rattle.proof_checker.specs.Sides.{side_from, side, seen, AreFormulas, added, adds_list, AddsBelow, AddsClosed, part_side, IsEntered}
use Rattle.proof_checker.specs.declared.side.Side.{Side}
use Rattle.proof_checker.specs.declared.task.Adds.{Adds}
use Rattle.proof_checker.specs.declared.task.Adds.TheVariants.{Nothing, One, Both}
use Rattle.proof_checker.specs.declared.task.Part.{Part}

-- the tree of one of these numbers
abbrev At : List Tree → List ℕ → Tree → Type 0
At ts xs t = (j : ℕ) × (j < length xs) × (tree_at ts (get_or xs j 0) ≡ t)

pub side_from-push : (ts g : List Tree) (xs : List ℕ) (x : ℕ) → side_from ts g (xs ++ x ∷ []) ≡ tree_at ts x ∷ side_from ts g xs
side_from-push ts g [] x = refl
side_from-push ts g (y ∷ xs) x = side_from-push ts (tree_at ts y ∷ g) xs x

Has-older : (ts g : List Tree) (xs : List ℕ) (t : Tree) → Has g t → Has (side_from ts g xs) t
Has-older ts g [] t h = h
Has-older ts g (x ∷ xs) t h = Has-older ts (tree_at ts x ∷ g) xs t (inr h)

Has-at : (ts g : List Tree) (xs : List ℕ) (t : Tree) (j : ℕ) → j < length xs → tree_at ts (get_or xs j 0) ≡ t → Has (side_from ts g xs) t
Has-at ts g [] t j l e = absurd (omega arith)
Has-at ts g (x ∷ xs) t zero l e = Has-older ts (tree_at ts x ∷ g) xs t (inl e)
Has-at ts g (x ∷ xs) t (suc j) l e = Has-at ts (tree_at ts x ∷ g) xs t j (omega arith) e

at-Has : (ts g : List Tree) (xs : List ℕ) (t : Tree) → Has (side_from ts g xs) t → Has g t ⊎ At ts xs t
at-Has ts g [] t h = inl h
at-Has ts g (x ∷ xs) t h =
    elim (at-Has ts (tree_at ts x ∷ g) xs t h) [
      | inl k ↦ elim k [ inl e ↦ inr (0, omega arith, e) | inr m ↦ inl m ]
      | inr k ↦ inr (suc k.0, omega (arith, k.1), k.2)
    ]

-- the place on the trail of what is on a side
seen-at : (ts : List Tree) (s : Side) (t : Tree) → Has (seen ts s) t → (j : ℕ) × (s.base ≤ j) × (j < length s.trail) × (tree_at ts (get_or s.trail j 0) ≡ t)
seen-at ts s t h =
    let k : At ts (drop s.base s.trail) t = elim (at-Has ts [] (drop s.base s.trail) t h) [ inl a ↦ absurd a | inr a ↦ a ] in
    (s.base + k.0, omega arith, omega (arith, k.1, length-drop s.base s.trail), ap (tree_at ts) (sym (get_or-drop s.base s.trail k.0 0)) ∙ k.2)

-- a number is on the trail where its tree is on the side
pub Has-number : (ts : List Tree) (s : Side) (i : ℕ) (t : Tree) → tree_at ts i ≡ t → HasFrom s.trail s.base i → Has (seen ts s) t
Has-number ts s i t e h =
    let j : ℕ = h.0 - s.base in
    let o : s.base + j ≡ h.0 = omega (arith, h.1) in
    Has-at ts [] (drop s.base s.trail) t j (omega (arith, h.1, h.2, length-drop s.base s.trail)) (ap (tree_at ts) (get_or-drop s.base s.trail j 0 ∙ ap (λ k. get_or s.trail k 0) o ∙ h.3) ∙ e)

pub AreFormulas-at : (ts : List Tree) (xs : List ℕ) (j : ℕ) → AreFormulas ts xs → j < length xs → (get_or xs j 0 < length ts) × IsScoped 0 (tree_at ts (get_or xs j 0))
AreFormulas-at ts [] j a l = absurd (omega arith)
AreFormulas-at ts (x ∷ xs) zero a l = a.0
AreFormulas-at ts (x ∷ xs) (suc j) a l = AreFormulas-at ts xs j a.1 (omega arith)

pub number-Has : (ts : List Tree) (s : Side) (i : ℕ) (t : Tree) → IsDistinct ts → AreFormulas ts s.trail → i < length ts → tree_at ts i ≡ t → Has (seen ts s) t → HasFrom s.trail s.base i
number-Has ts s i t d b l e h =
    let k = seen-at ts s t h in
    (k.0, k.1, k.2, d (get_or s.trail k.0 0) i (AreFormulas-at ts s.trail k.0 b k.2).0 l (k.3 ∙ sym e))

pub node-Has : (ts : List Tree) (s : Side) (n : Node) → AreFormulas ts s.trail → IsNode n (length ts) → Has (seen ts s) (tree_over ts n) → (i : ℕ) × HasNode ts i n
node-Has ts s n b f h =
    let k = seen-at ts s (tree_over ts n) h in
    (get_or s.trail k.0 0, record { within = (AreFormulas-at ts s.trail k.0 b k.2).0; node = f; tree = k.3 })

-- closed sides
closed_from : (ts g : List Tree) (xs : List ℕ) → AllClosed g → AreFormulas ts xs → AllClosed (side_from ts g xs)
closed_from ts g [] h a = h
closed_from ts g (x ∷ xs) h a = closed_from ts (tree_at ts x ∷ g) xs (a.0.1, h) a.1

pub AreFormulas-drop : (ts : List Tree) (n : ℕ) (xs : List ℕ) → AreFormulas ts xs → AreFormulas ts (drop n xs)
AreFormulas-drop ts zero xs a = a
AreFormulas-drop ts (suc n) [] a = tt
AreFormulas-drop ts (suc n) (x ∷ xs) a = AreFormulas-drop ts n xs a.1

pub AreFormulas-take : (ts : List Tree) (n : ℕ) (xs : List ℕ) → AreFormulas ts xs → AreFormulas ts (take n xs)
AreFormulas-take ts zero xs a = tt
AreFormulas-take ts (suc n) [] a = tt
AreFormulas-take ts (suc n) (x ∷ xs) a = (a.0, AreFormulas-take ts n xs a.1)

pub AreFormulas-append : (ts : List Tree) (xs ys : List ℕ) → AreFormulas ts xs → AreFormulas ts ys → AreFormulas ts (xs ++ ys)
AreFormulas-append ts [] ys a b = b
AreFormulas-append ts (x ∷ xs) ys a b = (a.0, AreFormulas-append ts xs ys a.1 b)

pub seen_closed : (ts : List Tree) (s : Side) → AreFormulas ts s.trail → AllClosed (seen ts s)
seen_closed ts s a = closed_from ts [] (drop s.base s.trail) tt (AreFormulas-drop ts s.base s.trail a)

pub Has-closed : (g : List Tree) (t : Tree) → AllClosed g → Has g t → IsScoped 0 t
Has-closed [] t c h = absurd h
Has-closed (x ∷ xs) t c (inl e) = subst (λ u. IsScoped 0 u) e c.0
Has-closed (x ∷ xs) t c (inr h) = Has-closed xs t c.1 h

-- a bank that grows
pub tree-extend : (ts ts' : List Tree) (i : ℕ) → Extends ts ts' → i < length ts → tree_at ts' i ≡ tree_at ts i
tree-extend ts ts' i x l = ap (λ us. tree_at us i) x.1 ∙ get_or_append_left ts x.0 true_ i l

pub longer : (ts ts' : List Tree) → Extends ts ts' → length ts ≤ length ts'
longer ts ts' x = omega (arith, ap length x.1, length-append ts x.0)

pub AreFormulas-extend : (ts ts' : List Tree) (xs : List ℕ) → Extends ts ts' → AreFormulas ts xs → AreFormulas ts' xs
AreFormulas-extend ts ts' [] x a = tt
AreFormulas-extend ts ts' (y ∷ ys) x a = let m = longer ts ts' x in let l : y < length ts = a.0.0 in ((omega arith, subst (λ t. IsScoped 0 t) (sym (tree-extend ts ts' y x l)) a.0.1), AreFormulas-extend ts ts' ys x a.1)

side_from-extend : (ts ts' g : List Tree) (xs : List ℕ) → Extends ts ts' → AreFormulas ts xs → side_from ts' g xs ≡ side_from ts g xs
side_from-extend ts ts' g [] x a = refl
side_from-extend ts ts' g (y ∷ ys) x a = ap (λ t. side_from ts' (t ∷ g) ys) (tree-extend ts ts' y x a.0.0) ∙ side_from-extend ts ts' (tree_at ts y ∷ g) ys x a.1

pub side-extend : (ts ts' : List Tree) (xs : List ℕ) → Extends ts ts' → AreFormulas ts xs → side ts' xs ≡ side ts xs
side-extend ts ts' xs x a = side_from-extend ts ts' [] xs x a

pub seen-extend : (ts ts' : List Tree) (s : Side) → Extends ts ts' → AreFormulas ts s.trail → seen ts' s ≡ seen ts s
seen-extend ts ts' s x a = side-extend ts ts' (drop s.base s.trail) x (AreFormulas-drop ts s.base s.trail a)

pub added-extend : (ts ts' : List Tree) (a : Adds) (g : List Tree) → Extends ts ts' → AddsBelow (length ts) a → added ts' a g ≡ added ts a g
added-extend ts ts' Nothing g x b = refl
added-extend ts ts' (One a) g x b = ap (λ t. t ∷ g) (tree-extend ts ts' a x b)
added-extend ts ts' (Both a c) g x b = λ i. tree-extend ts ts' a x b.0 i ∷ tree-extend ts ts' c x b.1 i ∷ g

-- what is entered
pub side-adds : (ts : List Tree) (a : Adds) (xs : List ℕ) → side ts (xs ++ adds_list a) ≡ added ts a (side ts xs)
side-adds ts Nothing xs = ap (side ts) (append-nil xs)
side-adds ts (One a) xs = side_from-push ts [] xs a
side-adds ts (Both a b) xs =
    ap (side ts) (sym (append_assoc xs (b ∷ []) (a ∷ []))) ∙ side_from-push ts [] (xs ++ b ∷ []) a ∙ ap (λ g. tree_at ts a ∷ g) (side_from-push ts [] xs b)

pub seen_entered : (ts : List Tree) (p : Part) (before : List ℕ) (s : Side) → p.base ≤ p.count → p.count ≤ length before → IsEntered p before s → seen ts s ≡ part_side ts p before
seen_entered ts p before s b c e =
    let l : p.base ≤ length (take p.count before) = omega (arith, length-take-le p.count before c) in
    (λ i. side ts (drop (e.base i) (e.trail i))) ∙ ap (side ts) (drop-append-le p.base (take p.count before) (adds_list p.adds) l) ∙ side-adds ts p.adds (drop p.base (take p.count before))

adds_formulas : (ts : List Tree) (a : Adds) → AddsBelow (length ts) a → AddsClosed ts a → AreFormulas ts (adds_list a)
adds_formulas ts Nothing b c = tt
adds_formulas ts (One a) b c = ((b, c), tt)
adds_formulas ts (Both x y) b c = ((b.1, c.1), ((b.0, c.0), tt))

pub entered_formulas : (ts : List Tree) (p : Part) (before : List ℕ) (s : Side) → AreFormulas ts before → AddsBelow (length ts) p.adds → AddsClosed ts p.adds → IsEntered p before s → AreFormulas ts s.trail
entered_formulas ts p before s a b c e =
    subst (AreFormulas ts) (sym e.trail) (AreFormulas-append ts (take p.count before) (adds_list p.adds) (AreFormulas-take ts p.count before a) (adds_formulas ts p.adds b c))

pub adds_closed : (ts : List Tree) (a : Adds) (g : List Tree) → AllClosed (added ts a g) → AddsClosed ts a
adds_closed ts Nothing g c = tt
adds_closed ts (One a) g c = c.0
adds_closed ts (Both a b) g c = (c.0, c.1.0)

-- a list put on a trail from the last to the first is that list
pub side_from-reverse : (ts g : List Tree) (xs : List ℕ) → side_from ts g (reverse xs) ≡ picked ts xs ++ g
side_from-reverse ts g [] = refl
side_from-reverse ts g (x ∷ xs) = ap (side_from ts g) (reverse-append (x ∷ []) xs) ∙ side_from-push ts g (reverse xs) x ∙ ap (λ h. tree_at ts x ∷ h) (side_from-reverse ts g xs)
