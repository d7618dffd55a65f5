use Rattle.std.proofs.Common.{◌≡◌, ◌++◌, ◌∷◌, [], length, rules, sym, ◌∙◌, subst}
use Rattle.std.proofs.lemmas.Bool.{false≢true}
use Rattle.core_expr.specs.Nodes.{picked}
use Rattle.seq_calculus.specs.Steps.{proofs_of}
use Rattle.term_bank.proofs.TableLaws.{AreBelow-more}
use Rattle.term_bank.proofs.InstLaws.{Extends-trans}
use Rattle.proof_checker.specs.Runs.{Claim, IsTurn}
use Rattle.proof_checker.proofs.SideLaws.{longer}
use Rattle.proof_checker.proofs.RunLaws.{run_begins, run_top, run_claim, run_more, work_falls, same_table}
use Rattle.proof_checker.proofs.run.run.Goals as goal

pub loop-task-init : goal.loop-task-init
loop-task-init c = (run_begins c.args.bank.now (proofs_of (picked c.args.bank.now c.args.places.now) c.args.steps.now) (length c.args.steps.now) c.args.left.now c.new-right.result c.args.goal c.push.new.self.items (search rules) (search rules) c.requires.some c.requires.left c.requires.base c.requires.goal, search rules)

pub turn-requires-clause-places : goal.turn-requires-clause-places
turn-requires-clause-places c = AreBelow-more (length c.args.bank.now) (length c.loop-task.bank) c.args.places.now (longer c.args.bank.now c.loop-task.bank c.loop-task.invariant.1) c.requires.places

pub turn-requires-clause-top : goal.turn-requires-clause-top
turn-requires-clause-top c =
    let e : c.loop-task.todo.items ≡ c.pop.new.self.items ++ c.in-Some.task ∷ [] = search rules in
    run_top c.loop-task.bank (proofs_of (picked c.args.bank.now c.args.places.now) c.args.steps.now) (length c.args.steps.now) c.loop-task.left.trail c.loop-task.right.trail c.loop-task.todo.items c.pop.new.self.items c.in-Some.task _ e c.loop-task.invariant.0

pub returns-then-not-holds : goal.returns-then-not-holds
returns-then-not-holds c =
    let e : c.loop-task.todo.items ≡ c.pop.new.self.items ++ c.in-Some.task ∷ [] = search rules in
    let ps = proofs_of (picked c.args.bank.now c.args.places.now) c.args.steps.now in (
      λ h. absurd (false≢true h),
      λ h. absurd (c.in_ok-holds.ensures.no (λ z. false≢true (sym c.if-not-holds.true ∙ z)) (subst (λ ps. Claim c.loop-task.bank ps c.loop-task.left.trail c.loop-task.right.trail c.in-Some.task) (sym (same_table c.args.bank.now c.loop-task.bank c.args.places.now c.args.steps.now c.loop-task.invariant.1 c.requires.places)) (run_claim c.loop-task.bank ps (length c.args.steps.now) c.loop-task.left.trail c.loop-task.right.trail c.loop-task.todo.items c.pop.new.self.items c.in-Some.task _ e c.loop-task.invariant.0 h))),
    )

pub loop-task-smaller : goal.loop-task-smaller
loop-task-smaller c =
    let e : c.loop-task.todo.items ≡ c.pop.new.self.items ++ c.in-Some.task ∷ [] = search rules in
    let t : IsTurn c.loop-task.bank c.turn.new.bank (proofs_of (picked c.loop-task.bank c.args.places.now) c.args.steps.now) (length c.args.steps.now) c.loop-task.left.trail c.loop-task.right.trail c.in-Some.task c.turn.new.left.trail c.turn.new.right.trail c.pop.new.self.items c.turn.new.todo.items = c.in_ok-holds.ensures.yes (search (rules, c.if-not-holds.false)) in
    work_falls c.loop-task.bank c.turn.new.bank (proofs_of (picked c.args.bank.now c.args.places.now) c.args.steps.now) (length c.args.steps.now) c.loop-task.left.trail c.loop-task.right.trail c.turn.new.left.trail c.turn.new.right.trail c.loop-task.todo.items c.pop.new.self.items c.turn.new.todo.items c.in-Some.task e (subst (λ ps. IsTurn c.loop-task.bank c.turn.new.bank ps (length c.args.steps.now) c.loop-task.left.trail c.loop-task.right.trail c.in-Some.task c.turn.new.left.trail c.turn.new.right.trail c.pop.new.self.items c.turn.new.todo.items) (same_table c.args.bank.now c.loop-task.bank c.args.places.now c.args.steps.now c.loop-task.invariant.1 c.requires.places) t)

pub loop-task-preserved : goal.loop-task-preserved
loop-task-preserved c =
    let e : c.loop-task.todo.items ≡ c.pop.new.self.items ++ c.in-Some.task ∷ [] = search rules in
    let t : IsTurn c.loop-task.bank c.turn.new.bank (proofs_of (picked c.loop-task.bank c.args.places.now) c.args.steps.now) (length c.args.steps.now) c.loop-task.left.trail c.loop-task.right.trail c.in-Some.task c.turn.new.left.trail c.turn.new.right.trail c.pop.new.self.items c.turn.new.todo.items = c.in_ok-holds.ensures.yes (search (rules, c.if-not-holds.false)) in
    (run_more c.loop-task.bank c.turn.new.bank (proofs_of (picked c.args.bank.now c.args.places.now) c.args.steps.now) (length c.args.steps.now) c.loop-task.left.trail c.loop-task.right.trail c.turn.new.left.trail c.turn.new.right.trail c.loop-task.todo.items c.pop.new.self.items c.turn.new.todo.items c.in-Some.task _ e c.loop-task.invariant.0 (subst (λ ps. IsTurn c.loop-task.bank c.turn.new.bank ps (length c.args.steps.now) c.loop-task.left.trail c.loop-task.right.trail c.in-Some.task c.turn.new.left.trail c.turn.new.right.trail c.pop.new.self.items c.turn.new.todo.items) (same_table c.args.bank.now c.loop-task.bank c.args.places.now c.args.steps.now c.loop-task.invariant.1 c.requires.places) t), Extends-trans c.args.bank.now c.loop-task.bank c.turn.new.bank c.loop-task.invariant.1 t.extends)
