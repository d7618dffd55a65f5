-- The proof that a cache gives for a canonical form.
use Rattle.std.specs.Prelude.{Bool, List, [], ◌∷◌, Option}
use Rattle.std.specs.List.{find}
use Rattle.core_expr.specs.declared.canon.Canon.{Canon}
use Rattle.seq_calculus.specs.Steps.{proof_of}
use Rattle.seq_calculus.specs.Lists.{Lists}
use Rattle.cache_hit.specs.Correctness.{correct}

-- the proof is correct for the form: it proves the goal from the facts
abbrev pub is_proof_of : Canon → Lists → Bool
is_proof_of c p = correct (proof_of p) c.facts (c.goal ∷ [])

-- the first of these proofs that is correct for the form
abbrev pub hit : Canon → List Lists → Option Lists
hit c ps = find (is_proof_of c) ps
