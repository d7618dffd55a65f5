use Rattle.std.proofs.Common.{◌≡◌, [], ◌∷◌, arith, refl, take}
use Rattle.std.proofs.lemmas.List.{take_all}
use Rattle.core_expr.specs.Nodes.{picked, node_make}
use Rattle.seq_calculus.specs.Schemas.{join_from}
use Rattle.term_bank.specs.Banks.{HasTree, tree_at}
use Rattle.term_bank.proofs.TableLaws.{length-picked}
use Rattle.term_bank.proofs.InstLaws.{Extends-trans}
use Rattle.proof_checker.proofs.TupleLaws.{below_later, joined_step}
use Rattle.proof_checker.proofs.tuple.join_after.Goals as goal

pub make-requires-clause-below : goal.make-requires-clause-below
make-requires-clause-below c = (c.loop-i.invariant.0.within, (below_later c.args.bank.now c.loop-i.bank c.args.rest.now c.loop-i.i _ c.loop-i.invariant.1 c.requires.rest c.loop-i-test.true refl, tt))

pub loop-i-preserved : goal.loop-i-preserved
loop-i-preserved c = (
  joined_step (λ a b. node_make c.args.connective [] (a ∷ b ∷ [])) c.args.bank.now c.loop-i.bank c.make.new.self c.args.rest.now c.loop-i.i _ c.loop-i.joined c.in_ok-next.next c.loop-i-test.true c.requires.rest c.loop-i.invariant.1 refl (tree_at c.args.bank.now c.args.first) c.loop-i.invariant.0 c.in_ok-next.ensures.ok,
  Extends-trans c.args.bank.now c.loop-i.bank c.make.new.self c.loop-i.invariant.1 c.make.ensures.extends,
)

pub returns-clause-ok : goal.returns-clause-ok
returns-clause-ok c =
    let l : ◌≡◌ (take c.loop-i.i (picked c.args.bank.now c.args.rest.now)) (picked c.args.bank.now c.args.rest.now) = take_all c.loop-i.i (picked c.args.bank.now c.args.rest.now) (omega (arith, length-picked c.args.bank.now c.args.rest.now, c.loop-i-test.false)) in
    coe 0 1 (i. HasTree c.loop-i.bank c.loop-i.joined (join_from (λ a b. node_make c.args.connective [] (a ∷ b ∷ [])) (tree_at c.args.bank.now c.args.first) (l i))) c.loop-i.invariant.0
