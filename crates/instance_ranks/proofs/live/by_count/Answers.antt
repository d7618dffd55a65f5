use Rattle.std.proofs.Common.{◌≡◌, ◌<◌, ◌+◌, ◌-◌, length, arith}
use Rattle.branch_state.specs.Parts.{shown}
use Rattle.instance_ranks.proofs.PlaceLaws.{count_next}
use Rattle.instance_ranks.proofs.live.by_count.Goals as goal

pub loop-left-preserved : goal.loop-left-preserved
loop-left-preserved c =
    let ts = c.args.bank.now in
    let es = (shown c.args.parts.now).now in
    let t = c.loop-left-test.true in
    let w = c.loop-left.invariant.within in
    let q : c.loop-left.left ≡ (c.loop-left.left - 1) + 1 = omega (arith, t) in
    let l : c.loop-left.left - 1 < length es = omega (arith, t, w) in
    record {
      within = omega (arith, w);
      live = c.in_ok-put_entry.ensures.live;
      sorted = count_next ts es (c.loop-left.left - 1) c.loop-left.left c.loop-left.list.items _ q l c.in_ok-put_entry.ensures.places c.loop-left.invariant.sorted;
    }
