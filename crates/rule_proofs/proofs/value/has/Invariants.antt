use Rattle.std.proofs.Common.{◌≡◌, drop}
use Rattle.core_expr.specs.Nodes.{picked}
use Rattle.term_bank.specs.Banks.{tree_at}
use Rattle.search_definition.specs.Branches.{has}
use Rattle.proof_trees.specs.Valued.{entries_of}
use Rattle.rule_proofs.proofs.value.has.Given as goal

abbrev pub invariant-loop-ground : goal.invariant-loop-ground
invariant-loop-ground l = has (entries_of (picked l.bank (drop l.ground-index l.grounds))) (tree_at l.bank l.f) ≡ has (entries_of (picked l.bank l.grounds)) (tree_at l.bank l.f)
