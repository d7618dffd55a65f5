-- What the code keeps, as the definitions see it.
use Rattle.std.specs.Prelude.{ℕ, Option}
use Rattle.proof_leaves.specs.declared.step.Move.{Move}
use Rattle.proof_leaves.specs.declared.step.Move.TheVariants as move
use Rattle.proof_leaves.specs.declared.step.Claim.{Claim}
use Rattle.proof_leaves.specs.declared.step.Claim.TheVariants as claim
use Rattle.proof_contexts.specs.Steps.{Proof, Step}
use Rattle.proof_contexts.specs.Steps.Step.{Assert, Case, Suffices, Have, Take, TakeIn, Witness, WitnessIn, Pick, Define, Use, Hide}
use Rattle.known_facts.specs.Shown.{sym_of, items_of, statement_of, facts_of}

-- a step without a proof of its own, with its name if it has a label
abbrev pub step_of : Option ℕ → Move → Step
step_of l (move.Have f) = Have l f
step_of l (move.Take x) = Take (sym_of x)
step_of l (move.TakeIn x s) = TakeIn l (sym_of x) s
step_of l (move.Witness t) = Witness t
step_of l (move.WitnessIn t s) = WitnessIn l t s
step_of l (move.Define u) = Define u
step_of l (move.Use fs u) = Use l (facts_of fs) u
step_of l (move.Hide xs u) = Hide xs u

-- a step with a proof of its own
abbrev pub claim_of : Option ℕ → Claim → Proof → Step
claim_of l (claim.Assert s) p = Assert l (statement_of s) p
claim_of l (claim.Case f) p = Case l f p
claim_of l (claim.Suffices s) p = Suffices l (statement_of s) p
claim_of l (claim.Pick is f) p = Pick l (items_of is) f p
