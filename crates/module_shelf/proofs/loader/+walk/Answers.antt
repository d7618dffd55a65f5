use Rattle.std.proofs.Common.{◌∙◌, arith}
use Rattle.module_shelf.proofs.Told.{lacking}
use Rattle.module_shelf.proofs.Stand.{visited-next}
use Rattle.module_shelf.proofs.Steps.{walks-first, one-deeper, walks-on, walks-stop, walks-last, walks-reached}
use Rattle.module_shelf.proofs.loader.+walk.Goals as goal

pub complete-loop-extended-init : goal.complete-loop-extended-init
complete-loop-extended-init g t c = walks-first c.args.path.now c.as_slice-now.result.now c.args.module c.args.done.now _ c.requires.fine c.requires.begins (c.as_slice-now.ensures ∙ c.in_ok-longer.ensures)

pub complete-visit-requires : goal.complete-visit-requires
complete-visit-requires g t c κs within =
    let inv = c.loop-extended.invariant in let deeper = one-deeper inv in let few = inv.fine.few in
    (omega (arith, deeper, few, c.decreases), (within, inv.fine))

pub complete-returns-in_err-visit-clause-loads : goal.complete-returns-in_err-visit-clause-loads
complete-returns-in_err-visit-clause-loads g t c =
    walks-stop c.loop-extended.invariant c.as_slice-extended-items.ensures c.loop-extended-test.true c.extended-item.is c.from_residual-in_err-visit.ensures.1 c.in_err-visit.ensures.loads

pub complete-loop-extended-preserved : goal.complete-loop-extended-preserved
complete-loop-extended-preserved g t c =
    walks-on c.loop-extended.invariant c.as_slice-extended-items.ensures c.loop-extended-test.true c.extended-item.is c.in_ok-visit.ensures.loads c.in_ok-visit.ensures.order

pub complete-returns-in_err-push-clause-loads : goal.complete-returns-in_err-push-clause-loads
complete-returns-in_err-push-clause-loads g t c = lacking c.from_residual-in_err-push.ensures.1 c.loop-extended.invariant.seen

pub complete-returns-clause-loads : goal.complete-returns-clause-loads
complete-returns-clause-loads g t c = walks-last c.loop-extended.invariant c.as_slice-extended-items.ensures c.loop-extended-test.false c.in_ok-push.ensures.ok

pub complete-returns-clause-order : goal.complete-returns-clause-order
complete-returns-clause-order g t c = walks-reached c.loop-extended.invariant c.as_slice-extended-items.ensures c.loop-extended-test.false c.in_ok-push.ensures.ok c.requires.begins

pub visit-returns-clause-order : goal.visit-returns-clause-order
visit-returns-clause-order g t c = visited-next c.complete.result c.args.path.now c.args.done.now c.complete.new.done c.args.extended.now c.in_ok-next.next c.in_ok-next.ensures.name c.complete.ensures.order
