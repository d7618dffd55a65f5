-- Term splits by the term that is split: its condition, and what stands over the proofs of its two sides.
use Rattle.std.specs.Prelude.{Bool, true, false, List}
use Rattle.core_expr.specs.Tree.{Tree, in_, true_, apply_, if_, fun_}
use Rattle.seq_calculus.specs.Calculus.{Proof}
use Rattle.search_definition.specs.Values.{truth}
use Rattle.proof_trees.specs.Valued.{entries_of}
use Rattle.proof_trees.specs.Cuts.{then_by, else_by, applied_by, cut_settled}

-- the term is split by a condition
abbrev pub is_split : Tree → Bool
is_split (if_ p x y) = true
is_split (apply_ (fun_ s e) a) = true
is_split _ = false

-- the condition
abbrev pub condition_of : Tree → Tree
condition_of (if_ p x y) = p
condition_of (apply_ (fun_ s e) a) = in_ a s
condition_of _ = true_

-- where the condition holds: over a proof of the side that is added then
abbrev pub when_so : Tree → Tree → Proof → Proof
when_so (if_ p x y) f c = then_by p x y f c
when_so (apply_ (fun_ s e) a) f c = applied_by a s e f c
when_so _ f c = c

-- where it does not
abbrev pub when_not : Tree → Tree → Proof → Proof
when_not (if_ p x y) f c = else_by p x y f c
when_not _ f c = c

-- settled by the value of the condition
abbrev pub settled_by : Tree → Tree → List Tree → Proof → Proof
settled_by u f gs c = cut_settled (condition_of u) (when_so u f) (when_not u f) (truth (entries_of gs) (condition_of u)) gs c
