-- The loop proves the obligation.
use Rattle.std.specs.Prelude.{◌≡◌, ◌+◌, true, false, None, List, [], ◌∷◌, ◌++◌}
use Rattle.std.proofs.Common.{refl, ap, sym, ◌∙◌, subst, inl}
use Rattle.core_expr.specs.Tree.{Tree, not_}
use Rattle.seq_calculus.specs.Calculus.{HasAll, AllClosed, Proof}
use Rattle.search_definition.specs.Branches.{Branch, formulas}
use Rattle.search_definition.specs.Instances.{Fresh}
use Rattle.search_definition.specs.Search.{fresh, start_branch, Move}
use Rattle.search_definition.specs.Trees.{Turns, used_by, IsClosedFor, steps_of, turns}
use Rattle.search_definition.specs.Laws.{UsedStands}
use Rattle.search_definition.proofs.Treeing.{closed_has_tree, searched_is_closed}
use Rattle.proof_writer.specs.Shapes.{neg_left}
use Rattle.proof_trees.specs.Says.{Says}
use Rattle.proof_trees.specs.Trees.{proof_of_tree}
use Rattle.proof_trees.specs.Machine.{back}
use Rattle.proof_trees.specs.Laws.{LoopProves, StepsTold}
use Rattle.proof_trees.specs.Told.{MovesTold}
use Rattle.proof_trees.proofs.Telling.{tree-told}
use Rattle.proof_trees.proofs.Had.{HasAll-itself, HasAll-one, HasAll-append, Closed-all, all_of}
use Rattle.proof_trees.proofs.Said.{narrower, says_neg_left}
use Rattle.proof_trees.proofs.Turned.{tree-says}
use Rattle.proof_trees.proofs.Machined.{added-all, back-tree}

end_nil : {A : Type 0} (xs : List A) → xs ++ [] ≡ xs
end_nil [] = refl
end_nil (x ∷ xs) = ap (λ l. x ∷ l) (end_nil xs)

pub loop-proves : UsedStands → LoopProves
loop-proves stand facts goal limit used cf cg e =
    let z = closed_has_tree facts goal limit used e in
    let t : Turns = z.0 in
    let w : Fresh = fresh facts goal in
    let b : Branch = start_branch facts goal in
    let h : IsClosedFor w b t = searched_is_closed w b t z.1 in
    let ms : List Move = steps_of 1 None b t in
    let all : List Tree = not_ goal ∷ facts in
    let have : HasAll all (formulas b) = added-all all [] (facts ++ not_ goal ∷ []) tt (HasAll-append all facts (not_ goal ∷ []) (HasAll-one (not_ goal) facts) (inl refl, tt)) in
    let cb : AllClosed (formulas b) = Closed-all all (formulas b) ((cg, tt), cf) have in
    let p : Proof = proof_of_tree b t in
    let s : Says p (used_by b t) [] = tree-says w b t h in
    let on : HasAll all (used_by b t) = all_of all (formulas b) (used_by b t) have (stand w b t cb h) in
    let r : Says (neg_left goal p) facts (goal ∷ []) = says_neg_left p facts (goal ∷ []) goal (inl refl) (narrower p all (goal ∷ []) (used_by b t) [] on tt s) in
    let l = back-tree stand w ms b t 1 (1 + turns t) None [] [] cb h (sym (end_nil ms)) refl refl (λ f e. none e) tt in (
      p,
      ap (λ xs. (back xs 1 xs).parts) z.2 ∙ ap (λ xs. (back ms 1 xs).parts) (sym (end_nil ms)) ∙ l.0,
      r facts (goal ∷ []) cf (cg, tt) (HasAll-itself facts) (HasAll-itself (goal ∷ [])),
    )
  where
    none : {X : Type 0} → false ≡ true → X
    none e = cc

pub steps_told : StepsTold
steps_told facts goal limit used cf cg e =
    let z = closed_has_tree facts goal limit used e in
    let w : Fresh = fresh facts goal in
    let b : Branch = start_branch facts goal in
    let all : List Tree = not_ goal ∷ facts in
    let have : HasAll all (formulas b) = added-all all [] (facts ++ not_ goal ∷ []) tt (HasAll-append all facts (not_ goal ∷ []) (HasAll-one (not_ goal) facts) (inl refl, tt)) in
    subst MovesTold (sym z.2) (tree-told w 1 None b z.0 (Closed-all all (formulas b) ((cg, tt), cf) have) (searched_is_closed w b z.0 z.1))
