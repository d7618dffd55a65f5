use Rattle.std.proofs.Common.{◌≡◌}
use Rattle.proof_contexts.specs.Canonical.{gathered, each_gathered}
use Rattle.canonical_form.specs.Gathering.{waiting, AreNodes}
use Rattle.canonical_form.proofs.gather.gather.Given as goal

abbrev pub invariant-loop : goal.invariant-loop
invariant-loop l = record {
  gathered : gathered l.e l.fn.symbols.keys ≡ each_gathered (waiting l.e l.places.items) l.symbols.keys;
  within : AreNodes l.e l.places.items;
}
