-- Verdicts that are right, and those that have failed.
use Rattle.std.specs.Prelude.{Bool, true, false}
use Rattle.core_expr.specs.declared.canon.Canon.{Canon}
use Rattle.proof_cache.specs.declared.verdict.Verdict.{Verdict}
use Rattle.proof_cache.specs.declared.verdict.Verdict.TheVariants.{Proved, Memory}

-- the job is not proved
abbrev pub is_failed : Verdict → Bool
is_failed (Proved p n c) = false
is_failed _ = true

-- a verdict of the form: a right one, or Memory
abbrev pub Allowed : (Canon → Verdict → Type 0) → Canon → Verdict → Type 0
Allowed right c Memory = Unit {0}
Allowed right c v = right c v
