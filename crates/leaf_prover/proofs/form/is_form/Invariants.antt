use Rattle.std.proofs.Common.{◌≡◌, drop}
use Rattle.leaf_prover.specs.Forms.{are_form_parts}
use Rattle.leaf_prover.proofs.form.is_form.Given as goal

abbrev pub invariant-loop-fact : goal.invariant-loop-fact
invariant-loop-fact l = are_form_parts (drop l.fact-index l.canon.facts) ≡ are_form_parts l.canon.facts
