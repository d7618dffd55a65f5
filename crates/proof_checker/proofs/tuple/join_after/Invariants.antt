use Rattle.std.proofs.Common.{take, [], ◌∷◌}
use Rattle.core_expr.specs.Nodes.{picked, node_make}
use Rattle.seq_calculus.specs.Schemas.{join_from}
use Rattle.term_bank.specs.Banks.{Extends, HasTree, tree_at}
use Rattle.proof_checker.proofs.tuple.join_after.Given as goal

abbrev pub invariant-loop-i : goal.invariant-loop-i
invariant-loop-i l = HasTree l.bank l.joined (join_from (λ a b. node_make l.connective [] (a ∷ b ∷ [])) (tree_at l.fn.bank l.first) (take l.i (picked l.fn.bank l.rest))) × Extends l.fn.bank l.bank
