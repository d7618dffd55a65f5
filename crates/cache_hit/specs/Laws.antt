-- What the test and the hits mean. Each statement is the contract of a function of src/laws.rt.
use Rattle.std.specs.Prelude.{◌≡◌, ◌↔◌, true, List, [], ◌∷◌, Some}
use Rattle.core_expr.specs.declared.canon.Canon.{Canon}
use Rattle.core_expr.specs.Tree.{Tree}
use Rattle.seq_calculus.specs.Calculus.{Proof, Correct}
use Rattle.seq_calculus.specs.Steps.{proof_of}
use Rattle.seq_calculus.specs.Lists.{Lists}
use Rattle.cache_hit.specs.Correctness.{correct}
use Rattle.cache_hit.specs.Hits.{hit}

-- the test says what it is to be correct in the calculus
abbrev pub CorrectIsTested : Type 0
CorrectIsTested = (p : Proof) (g d : List Tree) → (correct p g d ≡ true) ↔ Correct p g d

-- a hit proves the goal of its form from the facts
abbrev pub HitIsCorrect : Type 0
HitIsCorrect = (c : Canon) (ps : List Lists) (p : Lists) → hit c ps ≡ Some p → Correct (proof_of p) c.facts (c.goal ∷ [])
