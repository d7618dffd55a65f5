use Rattle.std.proofs.Common.{◌+◌, rules, sym, ◌∙◌}
use Rattle.std.proofs.lemmas.Bool.{false≢true}
use Rattle.proof_checker.specs.Sides.{AddsClosed, IsEntered}
use Rattle.proof_checker.proofs.TurnLaws.{entered}
use Rattle.proof_checker.proofs.run.enter.Goals as goal

pub returns-then-not-branch-clause-no : goal.returns-then-not-branch-clause-no
returns-then-not-branch-clause-no c = λ _ k. false≢true (sym c.if-not-branch.true ∙ c.in_ok-enter.ensures.closed.1 k.0)

pub returns-clause-yes : goal.returns-clause-yes
returns-clause-yes c = λ h.
    let el : IsEntered c.args.task.left c.args.left.now.trail c.enter.new.self = c.in_ok-enter.ensures.entered (search (rules, c.if-not-branch.false)) in
    let cl : AddsClosed c.args.bank.now c.args.task.left.adds = c.in_ok-enter.ensures.closed.0 (search (rules, c.if-not-branch.false)) in
    entered c.args.bank.now (c.args.task.step + 1) c.args.left.now c.args.right.now c.args.task c.enter.new.self c.enter-2.new.self c.requires.sides c.requires.top el (c.in_ok-entered.ensures.entered h) cl (c.in_ok-entered.ensures.closed.0 h)

pub returns-clause-no : goal.returns-clause-no
returns-clause-no c = λ n k. n (c.in_ok-entered.ensures.closed.1 k.1)
