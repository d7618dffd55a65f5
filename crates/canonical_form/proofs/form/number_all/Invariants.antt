use Rattle.std.proofs.Common.{◌≡◌, ◌++◌, map, drop}
use Rattle.proof_contexts.specs.Canonical.{numbered}
use Rattle.canonical_form.specs.Named.{CoversAll}
use Rattle.canonical_form.proofs.form.number_all.Given as goal

abbrev pub invariant-loop-e : goal.invariant-loop-e
invariant-loop-e l = record {
  numbered : l.numbered ++ map (numbered l.symbols) (drop l.e-index l.es) ≡ map (numbered l.symbols) l.es;
  covered : CoversAll l.symbols (drop l.e-index l.es);
}
