use Rattle.std.proofs.Common.{◌+◌, ◌≡◌, length, take, sym, ◌∙◌, arith, rules}
use Rattle.known_facts.specs.Shown.{entries_of}
use Rattle.known_facts.proofs.Growing.{restore-begins, short-take, length-change, restore-next, restore-ends}
use Rattle.known_facts.proofs.known.restore_states.Goals as goal

pub loop-i-init : goal.loop-i-init
loop-i-init c =
    let len : c.len-i-end.result ≡ length c.truncate.new.self.items = search rules in
    record {
      restored = restore-begins c.args.states.now c.args.known.now.items c.truncate.new.self.items c.truncate.ensures.items;
      short = short-take (length c.args.states.now) c.args.known.now.items c.truncate.new.self.items c.truncate.ensures.items;
      same = len;
    }

pub loop-i-preserved : goal.loop-i-preserved
loop-i-preserved c =
    let ks = c.loop-i.known.items in
    let n = length-change ks c.loop-i.i c.restore.new.self in
    let t = c.loop-i-test.true in
    let short = c.loop-i.invariant.short in
    let same = c.loop-i.invariant.same in
    record {
      restored =
          restore-next c.args.states.now (take (length c.args.states.now) (entries_of c.args.known.now.items)) ks c.loop-i.i (c.loop-i.i + 1) c.index_mut.result.now c.restore.new.self c.state_at.result
          (omega arith) (omega (arith, t, same)) (omega (arith, t, same, short)) c.index_mut.ensures.value c.state_at.ensures c.restore.ensures c.loop-i.invariant.restored;
      short = omega (arith, n, short);
      same = same ∙ sym n;
    }

pub returns : goal.returns
returns c =
    let t = c.loop-i-test.false in
    let same = c.loop-i.invariant.same in
    restore-ends c.args.states.now (take (length c.args.states.now) (entries_of c.args.known.now.items)) c.loop-i.known.items c.loop-i.i (omega (arith, t, same)) c.loop-i.invariant.restored
