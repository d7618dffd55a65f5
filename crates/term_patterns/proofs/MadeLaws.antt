-- Images that are made.
use Rattle.std.proofs.Common.{◌≡◌, ℕ, suc, ◌<◌, Bool, Option, Some, None, Result, Ok, Err, List, [], ◌∷◌, length, map, refl, ap, sym, ◌∙◌, arith, subst, inr}
use Rattle.std.specs.Prelude.{IfOk}
use Rattle.core_expr.specs.Tree.{Tree}
use Rattle.core_expr.specs.Nodes.{Node, AreBelow, node_fits, node_make, picked}
use Rattle.term_bank.specs.Banks.{HasNode, HasTree}
use Rattle.term_bank.specs.Loose.{is_binder}
use Rattle.term_patterns.specs.declared.spots.Spot.{Spot}
use Rattle.term_patterns.specs.Depths.{spots_under, image_at}
use Rattle.term_patterns.specs.Walked.{or_node, image_or, AreWithin, IsMade}

pub length-spots : (b : Bool) (d : ℕ) (ps : List ℕ) → length (spots_under b d ps) ≡ length ps
length-spots b d [] = refl
length-spots b d (p ∷ []) = refl
length-spots b d (p ∷ q ∷ ps) = ap suc (length-spots b d (q ∷ ps))

length-images : (es : List (Spot × ℕ)) (ps : List Spot) → length (map (image_or es) ps) ≡ length ps
length-images es [] = refl
length-images es (p ∷ ps) = ap suc (length-images es ps)

-- the node over images is of the same form
pub fits_images : (es : List (Spot × ℕ)) (n : Node) (d : ℕ) (vs : List Spot) (ns ps : List ℕ) → ns ≡ n.numbers → vs ≡ spots_under (is_binder n.head) d n.parts → ps ≡ map (image_or es) vs → node_fits n.head ns (length ps) ≡ node_fits n.head n.numbers (length n.parts)
fits_images es n d vs ns ps en ev ep =
    λ i. node_fits n.head (en i) ((ap length ep ∙ length-images es vs ∙ ap length ev ∙ length-spots (is_binder n.head) d n.parts) i)

image_below : (n : ℕ) (es : List (Spot × ℕ)) (p : Spot) → AreWithin n es → p.node < n → image_or es p < n
image_below n es p w l = go (image_at es p) refl
  where
    go : (o : Option ℕ) → image_at es p ≡ o → or_node o p.node < n
    go None e = l
    go (Some k) e = w p k e

spots_below : (n i d : ℕ) (b : Bool) (es : List (Spot × ℕ)) (ps : List ℕ) → AreWithin n es → i < n → AreBelow i ps → AreBelow n (map (image_or es) (spots_under b d ps))
spots_below n i d b es [] w l h = tt
spots_below n i d b es (p ∷ []) w l h = let k = h.0 in (image_below n es _ w (omega (arith, k, l)), tt)
spots_below n i d b es (p ∷ q ∷ ps) w l h = let k = h.0 in (image_below n es _ w (omega (arith, k, l)), spots_below n i d b es (q ∷ ps) w l h.1)

pub images_below : (n i d : ℕ) (b : Bool) (es : List (Spot × ℕ)) (vs : List Spot) (is ps : List ℕ) → AreWithin n es → i < n → AreBelow i is → vs ≡ spots_under b d is → ps ≡ map (image_or es) vs → AreBelow n ps
images_below n i d b es vs is ps w l h ev ep = subst (AreBelow n) (sym (ep ∙ ap (map (image_or es)) ev)) (spots_below n i d b es is w l h)

-- what was made
pub made_node : {E : Type 0} (r : Result ℕ E) (ts now : List Tree) (s : ℕ) (q : Spot) (es : List (Spot × ℕ)) (n : Node) (vs : List Spot) (ns ps : List ℕ) → (q.node ≡ s → ⊥) → HasNode ts q.node n → AreBelow q.node n.parts → ns ≡ n.numbers → vs ≡ spots_under (is_binder n.head) q.depth n.parts → ps ≡ map (image_or es) vs
    → IfOk r (λ k. HasTree now k (node_make n.head ns (picked ts ps))) → IfOk r (λ k. IsMade ts now s q es k)
made_node (Err z) ts now s q es n vs ns ps o g b en ev ep h = h
made_node (Ok k) ts now s q es n vs ns ps o g b en ev ep h =
    inr (record {
      parts = vs;
      has = record { other = o; node = n; stands = g; below = b; spots = ev };
      tree = record { within = h.within; tree = h.tree ∙ (λ i. node_make n.head (en i) (picked ts (ep i))) };
    })
