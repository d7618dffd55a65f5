use Rattle.std.proofs.Common.{◌≡◌, ◌+◌, length, arith, rules}
use Rattle.proof_contexts.specs.Contexts.{hidden}
use Rattle.known_facts.proofs.Growing.{change-next}
use Rattle.known_facts.proofs.known.hide_marks.Goals as goal

pub loop-i-preserved : goal.loop-i-preserved
loop-i-preserved c =
    let len : c.len-i-end.result ≡ length c.args.known.now.items = search rules in
    change-next (hidden c.args.marks.now) c.loop-i.known.items c.args.known.now.items c.loop-i.i (c.loop-i.i + 1) c.len-i-end.result c.index_mut.result.now c.hide_by.new.self
    (omega arith) c.loop-i-test.true len c.index_mut.ensures.value c.hide_by.ensures c.loop-i.invariant
