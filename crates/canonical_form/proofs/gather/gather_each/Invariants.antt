use Rattle.std.proofs.Common.{◌≡◌, drop}
use Rattle.proof_contexts.specs.Canonical.{each_gathered}
use Rattle.canonical_form.proofs.gather.gather_each.Given as goal

abbrev pub invariant-loop-e : goal.invariant-loop-e
invariant-loop-e l = each_gathered l.es l.fn.symbols.keys ≡ each_gathered (drop l.e-index l.es) l.symbols.keys
