use Rattle.std.proofs.Common.{◌≡◌, drop}
use Rattle.proof_contexts.specs.Expansion.{unfold_head}
use Rattle.known_facts.proofs.table.unfold_heads.Given as goal

abbrev pub invariant-loop-k : goal.invariant-loop-k
invariant-loop-k l = l.unfolded ≡ unfold_head (drop l.k l.definitions) l.e
