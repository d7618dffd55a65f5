use Rattle.std.proofs.Common.{◌≡◌, ◌∙◌, ap, subst, length, rules}
use Rattle.core_expr.specs.Nodes.{node_make, picked}
use Rattle.term_bank.specs.Banks.{HasTree}
use Rattle.proof_checker.specs.Tables.{gathered}
use Rattle.proof_checker.proofs.TurnLaws.{gathered-below, gathered-picked}
use Rattle.proof_checker.proofs.nodes.add_node.Goals as goal

pub make-requires-clause-below : goal.make-requires-clause-below
make-requires-clause-below c =
    let o : c.as_slice.result.now ≡ gathered c.args.places.now c.args.parts.now = search rules in
    rw o (gathered-below (length c.args.bank.now) c.args.places.now c.args.parts.now c.requires.places c.requires.node.1)

pub returns-clause-ok : goal.returns-clause-ok
returns-clause-ok c =
    let o : c.as_slice.result.now ≡ gathered c.args.places.now c.args.parts.now = search rules in
    subst (λ us. HasTree c.make.new.self c.in_ok-index.index (node_make c.args.head c.args.numbers.now us)) (ap (picked c.args.bank.now) o ∙ gathered-picked c.args.bank.now c.args.places.now c.args.parts.now c.requires.node.1) c.in_ok-index.ensures.ok
