use Rattle.std.proofs.Common.{◌≡◌, length, rules}
use Rattle.core_expr.specs.Nodes.{picked}
use Rattle.seq_calculus.specs.Steps.{proofs_of}
use Rattle.proof_checker.specs.Tables.{gathered}
use Rattle.proof_checker.specs.Runs.{AreEntered}
use Rattle.proof_checker.proofs.TurnLaws.{turn_open, turn_yes, turn_no, this_step, this_top, gathered-below, gathered-length}
use Rattle.proof_checker.proofs.run.turn.Goals as goal

pub enter-requires-clause-top : goal.enter-requires-clause-top
enter-requires-clause-top c = this_top (length c.args.bank.now) (length c.args.steps.now) (length c.args.left.now.trail) (length c.args.right.now.trail) c.args.task c.requires.top

pub returns-then-not-entered-clause-no : goal.returns-then-not-entered-clause-no
returns-then-not-entered-clause-no c = λ h k. turn_open c.args.bank.now (proofs_of (picked c.args.bank.now c.args.places.now) c.args.steps.now) c.args.left.now.trail c.args.right.now.trail c.args.task (c.in_ok-entered.ensures.no (search (rules, c.if-not-entered.true))) k

pub fetch-requires : goal.fetch-requires
fetch-requires c = rw c.as_slice.ensures ((this_step (length c.args.places.now) c.args.steps.now c.args.task.step c.step_at-step.result.now c.requires.steps c.requires.top.task.step c.step_at-step.ensures).exprs)

pub put_step-requires-clause-sides : goal.put_step-requires-clause-sides
put_step-requires-clause-sides c = let e : AreEntered c.args.bank.now c.args.task c.args.left.now.trail c.args.right.now.trail c.enter.new.left c.enter.new.right = c.in_ok-entered.ensures.yes (search (rules, c.if-not-entered.false)) in e.sides

pub put_step-requires-clause-left_base : goal.put_step-requires-clause-left_base
put_step-requires-clause-left_base c = let e : AreEntered c.args.bank.now c.args.task c.args.left.now.trail c.args.right.now.trail c.enter.new.left c.enter.new.right = c.in_ok-entered.ensures.yes (search (rules, c.if-not-entered.false)) in e.left_base

pub put_step-requires-clause-right_base : goal.put_step-requires-clause-right_base
put_step-requires-clause-right_base c = let e : AreEntered c.args.bank.now c.args.task c.args.left.now.trail c.args.right.now.trail c.enter.new.left c.enter.new.right = c.in_ok-entered.ensures.yes (search (rules, c.if-not-entered.false)) in e.right_base

pub put_step-requires-clause-below : goal.put_step-requires-clause-below
put_step-requires-clause-below c =
    let s = this_step (length c.args.places.now) c.args.steps.now c.args.task.step c.step_at-step.result.now c.requires.steps c.requires.top.task.step c.step_at-step.ensures in
    let o : c.as_slice-2.result.now ≡ gathered c.args.places.now c.step_at-step.result.now.exprs = search rules in
    rw o (gathered-below (length c.args.bank.now) c.args.places.now c.step_at-step.result.now.exprs c.requires.places s.exprs)

pub put_step-requires-clause-form : goal.put_step-requires-clause-form
put_step-requires-clause-form c = (this_step (length c.args.places.now) c.args.steps.now c.args.task.step c.step_at-step.result.now c.requires.steps c.requires.top.task.step c.step_at-step.ensures).form

pub put_step-requires-clause-count : goal.put_step-requires-clause-count
put_step-requires-clause-count c =
    let o : c.as_slice-2.result.now ≡ gathered c.args.places.now c.step_at-step.result.now.exprs = search rules in
    rw o (gathered-length c.args.places.now c.step_at-step.result.now.exprs)

pub returns-clause-yes : goal.returns-clause-yes
returns-clause-yes c = λ h.
    let e : AreEntered c.args.bank.now c.args.task c.args.left.now.trail c.args.right.now.trail c.enter.new.left c.enter.new.right = c.in_ok-entered.ensures.yes (search (rules, c.if-not-entered.false)) in
    let o : c.as_slice-2.result.now ≡ gathered c.args.places.now c.step_at-step.result.now.exprs = search rules in
    turn_yes c.args.bank.now c.put_step.new.bank c.args.places.now c.as_slice-2.result.now c.args.steps.now c.args.left.now.trail c.args.right.now.trail c.args.task c.step_at-step.result.now c.enter.new.left c.enter.new.right c.put_step.new.left c.put_step.new.right c.args.todo.now.items c.put_step.new.todo.items c.in_ok-put.put (record { steps = c.requires.steps; step_is = c.step_at-step.ensures; operands = o; top = c.requires.top }) e c.in_ok-put.ensures h

pub returns-clause-no : goal.returns-clause-no
returns-clause-no c = λ h k.
    let e : AreEntered c.args.bank.now c.args.task c.args.left.now.trail c.args.right.now.trail c.enter.new.left c.enter.new.right = c.in_ok-entered.ensures.yes (search (rules, c.if-not-entered.false)) in
    let o : c.as_slice-2.result.now ≡ gathered c.args.places.now c.step_at-step.result.now.exprs = search rules in
    turn_no c.args.bank.now c.put_step.new.bank c.args.places.now c.as_slice-2.result.now c.args.steps.now c.args.left.now.trail c.args.right.now.trail c.args.task c.step_at-step.result.now c.enter.new.left c.enter.new.right c.put_step.new.left c.put_step.new.right c.args.todo.now.items c.put_step.new.todo.items c.in_ok-put.put (record { steps = c.requires.steps; step_is = c.step_at-step.ensures; operands = o; top = c.requires.top }) e c.in_ok-put.ensures h k
