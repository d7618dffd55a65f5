use Rattle.std.proofs.Common.{◌+◌, ◌-◌, ◌<◌, ◌++◌, refl, subst, ◌∙◌, arith}
use Rattle.search_definition.specs.Search.{run, moves}
use Rattle.search_loop.specs.Stacks.{stack_of}
use Rattle.search_loop.specs.Turns.{RoundIs, start_at}
use Rattle.search_loop.proofs.Running.{stuck_kept, more_kept}
use Rattle.search_loop.proofs.run.search.Goals as goal

pub returns-in-Ends-clause-ends : goal.returns-in-Ends-clause-ends
returns-in-Ends-clause-ends g c =
    let u = c.turns.used in
    let n = c.args.limit in
    let v = c.turns.invariant in
    let o = g.W.Work.state c.args.work.now in
    let s = g.W.Work.state c.turns.work in
    let new = g.W.Work.state c.take_turn.new.work in
    let fs = stack_of c.turns.frames.items in
    let gs = stack_of c.take_turn.new.frames.items in
    let q = subst (λ r. RoundIs (u + 1) s fs new gs r) c.in-Ends.is c.in_ok-take_turn.ensures.round in
    (stuck_kept (n - u) u (u + 1) s new fs gs (run o.fresh n 0 (start_at o)) (o.moves ++ moves o.fresh n 0 (start_at o)) refl q v.run v.steps).0

pub turns-preserved : goal.turns-preserved
turns-preserved g c =
    let u = c.turns.used in
    let n = c.args.limit in
    let v = c.turns.invariant in
    let o = g.W.Work.state c.args.work.now in
    let s = g.W.Work.state c.turns.work in
    let new = g.W.Work.state c.take_turn.new.work in
    let fs = stack_of c.turns.frames.items in
    let gs = stack_of c.take_turn.new.frames.items in
    let q = subst (λ r. RoundIs (u + 1) s fs new gs r) c.in-More.is c.in_ok-take_turn.ensures.round in
    let below : u < n = omega (arith, v.within, c.if-used-limit-2.false) in
    let f = c.in_ok-take_turn.ensures.fresh in
    let t = more_kept (n - u) (n - (u + 1)) u (u + 1) s new fs gs (run o.fresh n 0 (start_at o)) (o.moves ++ moves o.fresh n 0 (start_at o)) refl (omega (arith, below)) q f v.run v.steps in
    record {
      holds = c.in_ok-take_turn.ensures.holds;
      follows = g.met.W.Work.keeps_on c.args.work.now c.turns.work c.take_turn.new.work v.follows c.in_ok-take_turn.ensures.follows;
      within = omega (arith, below);
      stacked = q.3;
      falling = c.in_ok-take_turn.ensures.falling;
      fresh = f ∙ v.fresh;
      run = t.0;
      steps = t.1;
    }
