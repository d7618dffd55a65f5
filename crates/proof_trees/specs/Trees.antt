-- The proof tree of a closed tree of turns.
use Rattle.std.specs.Prelude.{[], ◌∷◌}
use Rattle.seq_calculus.specs.Calculus.{Proof}
use Rattle.search_definition.specs.Terms.{if_so}
use Rattle.search_definition.specs.Branches.{Branch}
use Rattle.search_definition.specs.Trees.{Turns, newly, meets, used_by, first_branch, second_branch}
use Rattle.search_definition.specs.Trees.Turns.{shut, one, first, both}
use Rattle.proof_trees.specs.Closings.{closing_by}
use Rattle.proof_trees.specs.By.{by}

-- The proof of a tree. A rule is left out where nothing that it newly added is used, and a side of a split where the other side uses nothing that the split newly added there.
abbrev pub proof_of_tree : Branch → Turns → Proof
proof_of_tree b (shut c) = closing_by c
proof_of_tree b (one r fs t) =
    if_so (meets (used_by (first_branch r b fs) t) (newly b fs)) (by r (proof_of_tree (first_branch r b fs) t ∷ [])) (proof_of_tree (first_branch r b fs) t)
proof_of_tree b (first r fs gs t) = proof_of_tree (first_branch r b fs) t
proof_of_tree b (both r fs gs t v) =
    if_so (meets (used_by (first_branch r b fs) t) (newly b fs))
    (if_so (meets (used_by (second_branch r b gs) v) (newly b gs)) (by r (proof_of_tree (first_branch r b fs) t ∷ proof_of_tree (second_branch r b gs) v ∷ [])) (proof_of_tree (second_branch r b gs) v))
    (proof_of_tree (first_branch r b fs) t)
