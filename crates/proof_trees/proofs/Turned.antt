-- The proof tree of a closed tree is correct over what the tree uses.
use Rattle.std.specs.Prelude.{◌≡◌, Bool, true, false, List, [], ◌∷◌, ◌++◌}
use Rattle.std.proofs.Common.{refl, subst, inl, inr}
use Rattle.core_expr.specs.Tree.{Tree}
use Rattle.seq_calculus.specs.Calculus.{Has, HasAll, Proof}
use Rattle.search_definition.specs.Terms.{if_so, either, in_list}
use Rattle.search_definition.specs.Branches.{Branch, has}
use Rattle.search_definition.specs.Rules.{Result}
use Rattle.search_definition.specs.Rules.Sides.{Alone, Both}
use Rattle.search_definition.specs.Instances.{Fresh}
use Rattle.search_definition.specs.Search.{Applies}
use Rattle.search_definition.specs.Trees.{Turns, newly, minus, meets, used_with, used_by, first_branch, second_branch, IsClosedFor}
use Rattle.search_definition.specs.Trees.Turns.{shut, one, first, both}
use Rattle.proof_trees.specs.Says.{Says, CarriesSides}
use Rattle.proof_trees.specs.By.{by}
use Rattle.proof_trees.specs.Trees.{proof_of_tree}
use Rattle.proof_trees.proofs.Had.{HasAll-cons, HasAll-one, HasAll-more, HasAll-front, HasAll-append, Has-in, all_of, in_list-sound, true_not_false}
use Rattle.proof_trees.proofs.Said.{narrower}
use Rattle.proof_trees.proofs.Closed.{closing-says}
use Rattle.proof_trees.proofs.Carried.{rules_are_carried}

-- fs before what has all of vs
front : (fs g vs : List Tree) → HasAll g vs → HasAll (fs ++ g) (fs ++ vs)
front fs g vs h = HasAll-append (fs ++ g) fs vs (HasAll-front fs g) (all_of (fs ++ g) g vs (HasAll-more fs g) h)

newly-added : (b : Branch) (fs : List Tree) (f : Tree) → Has (newly b fs) f → Has fs f
newly-added b [] f h = h
newly-added b (x ∷ fs) f h = go (newly-added b fs f) (has b x) h
  where
    go : (Has (newly b fs) f → Has fs f) → (v : Bool) → Has (if_so v (newly b fs) (x ∷ newly b fs)) f → Has (x ∷ fs) f
    go ih true h = inr (ih h)
    go ih false (inl q) = inl q
    go ih false (inr h) = inr (ih h)

-- with what is added, what is left has all of us
minus-back : (b : Branch) (fs us : List Tree) → HasAll (fs ++ minus us (newly b fs)) us
minus-back b fs [] = tt
minus-back b fs (u ∷ us) = go (minus-back b fs us) (in_list (newly b fs) u) refl
  where
    go : HasAll (fs ++ minus us (newly b fs)) us → (v : Bool) → in_list (newly b fs) u ≡ v → HasAll (fs ++ if_so v (minus us (newly b fs)) (u ∷ minus us (newly b fs))) (u ∷ us)
    go ih true e = (Has-in fs (minus us (newly b fs)) u (newly-added b fs u (in_list-sound (newly b fs) u e)), ih)
    go ih false e =
        let all : HasAll (fs ++ (u ∷ minus us (newly b fs))) (u ∷ minus us (newly b fs)) = HasAll-more fs (u ∷ minus us (newly b fs)) in
        (all.0, all_of (fs ++ (u ∷ minus us (newly b fs))) (fs ++ minus us (newly b fs)) us (front fs (u ∷ minus us (newly b fs)) (minus us (newly b fs)) (HasAll-one u (minus us (newly b fs)))) ih)

-- where nothing that is added is used, what is left is all
pub minus-all : (ns us : List Tree) → meets us ns ≡ false → HasAll (minus us ns) us
minus-all ns [] e = tt
minus-all ns (u ∷ us) e = go (minus-all ns us) (in_list ns u) e
  where
    go : (meets us ns ≡ false → HasAll (minus us ns) us) → (v : Bool) → either v (meets us ns) ≡ false → HasAll (if_so v (minus us ns) (u ∷ minus us ns)) (u ∷ us)
    go ih true e = absurd (true_not_false e)
    go ih false e = (inl refl, HasAll-cons u (minus us ns) us (ih e))

-- a side's proof, over what is left of us
side : (b : Branch) (fs us g : List Tree) (p : Proof) → HasAll g (minus us (newly b fs)) → Says p us [] → Says p (fs ++ g) []
side b fs us g p h k = narrower p (fs ++ g) [] us [] (all_of (fs ++ g) (fs ++ minus us (newly b fs)) us (front fs g (minus us (newly b fs)) h) (minus-back b fs us)) tt k

module _ (w : Fresh) where
  one-says : (b : Branch) (r : Result) (fs us : List Tree) (p : Proof) → Applies w b r → r.step.sides ≡ Alone fs → Says p us []
      → Says (if_so (meets us (newly b fs)) (by r (p ∷ [])) p) (used_with (meets us (newly b fs)) r.step.named (minus us (newly b fs))) []
  one-says b r fs us p h q below = go (meets us (newly b fs)) refl
    where
      ns : List Tree
      ns = newly b fs

      go : (v : Bool) → meets us ns ≡ v → Says (if_so v (by r (p ∷ [])) p) (used_with v r.step.named (minus us ns)) []
      go true e =
          let g : List Tree = r.step.named ++ minus us ns in
          let c : CarriesSides (Alone fs) (by r) g = subst (λ ss. CarriesSides ss (by r) g) q (rules_are_carried w b r h g (HasAll-front r.step.named (minus us ns))) in
          c p (side b fs us g p (HasAll-more r.step.named (minus us ns)) below)
      go false e = narrower p (minus us ns) [] us [] (minus-all ns us e) tt below

  both-says : (b : Branch) (r : Result) (fs gs us vs : List Tree) (p q : Proof) → Applies w b r → r.step.sides ≡ Both fs gs → Says p us [] → Says q vs []
      → Says (if_so (meets us (newly b fs)) (if_so (meets vs (newly b gs)) (by r (p ∷ q ∷ [])) q) p)
      (used_with (either (meets us (newly b fs)) (meets vs (newly b gs))) r.step.named (minus us (newly b fs) ++ minus vs (newly b gs))) []
  both-says b r fs gs us vs p q h e0 below beside = go (meets us ns) refl (meets vs ms) refl
    where
      ns : List Tree
      ns = newly b fs

      ms : List Tree
      ms = newly b gs

      both_left : List Tree
      both_left = minus us ns ++ minus vs ms

      all : List Tree
      all = r.step.named ++ (minus us ns ++ minus vs ms)

      left : HasAll all (minus us ns)
      left = all_of all (minus us ns ++ minus vs ms) (minus us ns) (HasAll-more r.step.named (minus us ns ++ minus vs ms)) (HasAll-front (minus us ns) (minus vs ms))

      right : HasAll all (minus vs ms)
      right = all_of all (minus us ns ++ minus vs ms) (minus vs ms) (HasAll-more r.step.named (minus us ns ++ minus vs ms)) (HasAll-more (minus us ns) (minus vs ms))

      go : (x : Bool) → meets us ns ≡ x → (y : Bool) → meets vs ms ≡ y → Says (if_so x (if_so y (by r (p ∷ q ∷ [])) q) p) (used_with (either x y) r.step.named (minus us ns ++ minus vs ms)) []
      go true d true e =
          let c : CarriesSides (Both fs gs) (by r) all = subst (λ ss. CarriesSides ss (by r) all) e0 (rules_are_carried w b r h all (HasAll-front r.step.named (minus us ns ++ minus vs ms))) in
          c p q (side b fs us all p left below) (side b gs vs all q right beside)
      go true d false e = narrower q all [] vs [] (all_of all (minus vs ms) vs right (minus-all ms vs e)) tt beside
      go false d true e = narrower p all [] us [] (all_of all (minus us ns) us left (minus-all ns us d)) tt below
      go false d false e = narrower p (minus us ns ++ minus vs ms) [] us [] (all_of (minus us ns ++ minus vs ms) (minus us ns) us (HasAll-front (minus us ns) (minus vs ms)) (minus-all ns us d)) tt below

  pub tree-says : (b : Branch) (t : Turns) → IsClosedFor w b t → Says (proof_of_tree b t) (used_by b t) []
  tree-says b (shut c) h = closing-says b c h
  tree-says b (one r fs t) h = one-says b r fs (used_by (first_branch r b fs) t) (proof_of_tree (first_branch r b fs) t) h.0 h.1 (tree-says (first_branch r b fs) t h.2)
  tree-says b (first r fs gs t) h =
      narrower (proof_of_tree (first_branch r b fs) t) (minus (used_by (first_branch r b fs) t) (newly b fs)) [] (used_by (first_branch r b fs) t) []
      (minus-all (newly b fs) (used_by (first_branch r b fs) t) h.3) tt (tree-says (first_branch r b fs) t h.2)
  tree-says b (both r fs gs t v) h =
      both-says b r fs gs (used_by (first_branch r b fs) t) (used_by (second_branch r b gs) v) (proof_of_tree (first_branch r b fs) t) (proof_of_tree (second_branch r b gs) v) h.0 h.1
      (tree-says (first_branch r b fs) t h.2) (tree-says (second_branch r b gs) v h.3)
