use Rattle.std.proofs.Common.{sym, ◌∙◌}
use Rattle.search_loop.proofs.SetLaws.{contains_at, contains_next, contains_end, falls_next}
use Rattle.search_loop.proofs.sets.contains.Goals as goal

pub returns-then-member-number : goal.returns-then-member-number
returns-then-member-number c =
    let v = c.loop-member.invariant in
    sym (v.same ∙ contains_at c.args.set.now c.loop-member.member-index c.args.number c.loop-member-test.true v.falls c.if-member-number.true)

pub loop-member-preserved : goal.loop-member-preserved
loop-member-preserved c =
    let v = c.loop-member.invariant in
    record {
      same = v.same ∙ contains_next c.args.set.now c.loop-member.member-index c.args.number c.loop-member-test.true c.if-member-number.false;
      falls = falls_next c.args.set.now c.loop-member.member-index c.loop-member-test.true v.falls;
    }

pub returns : goal.returns
returns c = sym (c.loop-member.invariant.same ∙ contains_end c.args.set.now c.loop-member.member-index c.args.number c.loop-member-test.false)
