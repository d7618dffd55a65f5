use Rattle.std.proofs.Common.{length, true, false}
use Rattle.term_bank.proofs.TableLaws.{AreBelow-take}
use Rattle.proof_checker.proofs.NodeLaws.{below_drop}
use Rattle.proof_checker.proofs.TurnLaws.{moves_weakened}
use Rattle.proof_checker.proofs.run.weakened.Goals as goal

pub returns-then-begun : goal.returns-then-begun
returns-then-begun c =
    let n = c.number_at.result in
    rw c.adding.ensures (moves_weakened c.args.bank.now c.args.left.now c.args.right.now c.weaken.new.left c.weaken.new.right n c.args.numbers.now c.args.operands.now true c.number_at.ensures c.requires.sides (AreBelow-take (length c.args.bank.now) n c.args.operands.now c.requires.below) (below_drop (length c.args.bank.now) n c.args.operands.now c.requires.below) (rw c.if-begun.true at c.in_ok-begun.ensures))

pub returns : goal.returns
returns c =
    let n = c.number_at.result in
    moves_weakened c.args.bank.now c.args.left.now c.args.right.now c.weaken.new.left c.weaken.new.right n c.args.numbers.now c.args.operands.now false c.number_at.ensures c.requires.sides (AreBelow-take (length c.args.bank.now) n c.args.operands.now c.requires.below) (below_drop (length c.args.bank.now) n c.args.operands.now c.requires.below) (rw c.if-begun.false at c.in_ok-begun.ensures)
