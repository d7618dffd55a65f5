use Rattle.std.proofs.Common.{◌≡◌, map, drop}
use Rattle.plain_syntax.specs.Syntax.{fact_of}
use Rattle.proof_outline.specs.Outline.{facts_names}
use Rattle.proof_outline.proofs.walk.Walker.facts.Given as goal

abbrev pub invariant-loop-fact : goal.invariant-loop-fact
invariant-loop-fact l = facts_names (map fact_of l.facts) l.fn.self ≡ facts_names (map fact_of (drop l.fact-index l.facts)) l.self
