use Rattle.std.proofs.lemmas.Result.{err_from_is_err_and}
use Rattle.std.proofs.Common.{◌-◌, ◌+◌, arith}
use Rattle.proof_text.specs.Readers.{node, one_more}
use Rattle.proof_text.proofs.ReadLaws.{many_step, many_fault, fault_moves}
use Rattle.proof_text.proofs.table.nodes.Goals as goal

pub loop-i-preserved : goal.loop-i-preserved
loop-i-preserved c =
    many_step node one_more _ _ _ _ _ c.loop-i.i _ _ _ _ (omega (arith, c.loop-i-test.true)) (omega arith) c.in_ok-push.ensures.items c.loop-i.invariant c.in_ok-item.ensures

pub returns-in_err-item : goal.returns-in_err-item
returns-in_err-item c =
    let p = err_from_is_err_and c.from_residual.result c.from_residual.ensures.1 in
    rw (p.1, p.2) (fault_moves c.in_err-item.field-0.0 _ _ (λ n. many_fault node one_more _ c.loop-i.items.items (c.args.count - c.loop-i.i) (c.args.count - (c.loop-i.i + 1)) c.loop-i.i c.loop-i.cursor n (omega (arith, c.loop-i-test.true)) c.loop-i.invariant) c.in_err-item.ensures)
