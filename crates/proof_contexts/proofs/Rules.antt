-- The rules as lemmas.
use Rattle.std.specs.Prelude.{◌≡◌, Bool, true, false, ◌&&◌, map, List, [], ◌∷◌}
use Rattle.std.proofs.Common.{refl, ap, sym, subst, inl, inr}
use Rattle.core_expr.specs.Tree.{Tree}
use Rattle.seq_calculus.specs.Calculus.{Has, HasAll, AllClosed, Rule, Fits, premises, AreCorrect, Der}
use Rattle.seq_calculus.specs.Calculus.Rule.{Ax}
use Rattle.seq_calculus.specs.Calculus.Proof.{step}
use Rattle.seq_calculus.specs.Calculus.Proofs.{no_more, more}

pub HasAll-cons : (x : Tree) (xs fs : List Tree) → HasAll xs fs → HasAll (x ∷ xs) fs
HasAll-cons x xs [] h = tt
HasAll-cons x xs (f ∷ fs) h = (inr h.0, HasAll-cons x xs fs h.1)

pub HasAll-itself : (xs : List Tree) → HasAll xs xs
HasAll-itself [] = tt
HasAll-itself (x ∷ xs) = (inl refl, HasAll-cons x xs xs (HasAll-itself xs))

pub HasAll-one : (x : Tree) (xs : List Tree) → HasAll (x ∷ xs) xs
HasAll-one x xs = HasAll-cons x xs xs (HasAll-itself xs)

pub Has-all : (g xs : List Tree) (f : Tree) → HasAll g xs → Has xs f → Has g f
Has-all g [] f h k = absurd k
Has-all g (x ∷ xs) f h (inl e) = subst (Has g) e h.0
Has-all g (x ∷ xs) f h (inr k) = Has-all g xs f h.1 k

pub HasAll-all : (g xs ys : List Tree) → HasAll g xs → HasAll xs ys → HasAll g ys
HasAll-all g xs [] h k = tt
HasAll-all g xs (y ∷ ys) h k = (Has-all g xs y h k.0, HasAll-all g xs ys h k.1)

Has-map : (m : Tree → Tree) (g : List Tree) (f : Tree) → Has g f → Has (map m g) (m f)
Has-map m [] f h = h
Has-map m (x ∷ g) f (inl e) = inl (ap m e)
Has-map m (x ∷ g) f (inr h) = inr (Has-map m g f h)

pub HasAll-map : (m : Tree → Tree) (g fs : List Tree) → HasAll g fs → HasAll (map m g) (map m fs)
HasAll-map m g [] h = tt
HasAll-map m g (f ∷ fs) h = (Has-map m g f h.0, HasAll-map m g fs h.1)

pub by_ax : (g d : List Tree) (f : Tree) → AllClosed g → AllClosed d → Has g f → Has d f → Der g d
by_ax g d f cg cd hg hd = (step (Ax f) no_more, (cg, cd, (hg, hd), tt))

pub by_one : (r : Rule) (g d g1 d1 : List Tree) → AllClosed g → AllClosed d → Fits r g d → premises r g d ≡ record { left = g1; right = d1 } ∷ [] → Der g1 d1 → Der g d
by_one r g d g1 d1 cg cd f e h = (step r (more h.0 no_more), (cg, cd, f, subst (AreCorrect (more h.0 no_more)) (sym e) (h.1, tt)))

pub by_two : (r : Rule) (g d g1 d1 g2 d2 : List Tree) → AllClosed g → AllClosed d → Fits r g d → premises r g d ≡ record { left = g1; right = d1 } ∷ record { left = g2; right = d2 } ∷ [] → Der g1 d1 → Der g2 d2 → Der g d
by_two r g d g1 d1 g2 d2 cg cd f e h k = (step r (more h.0 (more k.0 no_more)), (cg, cd, f, subst (AreCorrect (more h.0 (more k.0 no_more))) (sym e) (h.1, (k.1, tt))))

pub left_true : (a b : Bool) → a && b ≡ true → a ≡ true
left_true true b h = refl
left_true false b h = h

pub right_true : (a b : Bool) → a && b ≡ true → b ≡ true
right_true true b h = h
right_true false b h = cc
