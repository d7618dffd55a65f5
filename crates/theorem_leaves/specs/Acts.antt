-- What steps do, as the definitions see it.
use Rattle.std.specs.Prelude.{ℕ, Bool, true, false, List, [], ◌∷◌, map, Option}
use Rattle.plain_syntax.specs.Plain.{Move as move}
use Rattle.proof_contexts.specs.Steps.{Proof, Step}
use Rattle.proof_leaves.specs.declared.step.Move.{Move}
use Rattle.proof_leaves.specs.Shown.{step_of, claim_of}
use Rattle.theorem_leaves.specs.declared.step.Written.{Written}
use Rattle.theorem_leaves.specs.declared.step.Written.TheVariants.{Claimed, Moves, Qed}

-- the steps with this label and this proof that a written step is; none for QED
abbrev pub acts_of : Option ℕ → Written → Proof → List Step
acts_of l (Claimed c) q = claim_of l c q ∷ []
acts_of l (Moves ms) q = map (step_of l) ms
acts_of l Qed q = []

-- one step without a proof of its own
abbrev pub one : Move → Written
one m = Moves (m ∷ [])

abbrev pub is_qed : Written → Bool
is_qed (Claimed c) = false
is_qed (Moves ms) = false
is_qed Qed = true

abbrev pub is_claim : Written → Bool
is_claim (Claimed c) = true
is_claim (Moves ms) = false
is_claim Qed = false

-- a step in the source that is QED
abbrev pub ends : move → Bool
ends move.qed = true
ends m = false

-- a step in the source that has a proof of its own, and is not QED
abbrev pub claims : move → Bool
claims (move.assert s) = true
claims (move.case t) = true
claims (move.suffices s) = true
claims (move.pick gs t) = true
claims m = false
