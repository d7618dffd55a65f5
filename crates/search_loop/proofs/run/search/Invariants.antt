use Rattle.std.proofs.Common.{◌≡◌, ◌-◌, ◌≤◌, ◌++◌}
use Rattle.search_definition.specs.Search.{run, moves}
use Rattle.search_loop.specs.Stacks.{stack_of, AreStacked, AreFalling}
use Rattle.search_loop.specs.Turns.{opens_at, start_at}
use Rattle.search_loop.proofs.run.search.Given as goal

abbrev pub invariant-turns : goal.invariant-turns
invariant-turns g l =
    record {
      holds : g.W.Work.holds l.work;
      follows : g.W.Work.follows l.fn.work l.work;
      within : l.used ≤ l.limit;
      stacked : AreStacked (g.W.Work.state l.work).count (stack_of l.frames.items);
      falling : AreFalling (stack_of l.frames.items);
      fresh : (g.W.Work.state l.work).fresh ≡ (g.W.Work.state l.fn.work).fresh;
      run : run (g.W.Work.state l.fn.work).fresh l.limit 0 (start_at (g.W.Work.state l.fn.work)) ≡ run (g.W.Work.state l.work).fresh (l.limit - l.used) l.used (opens_at (g.W.Work.state l.work) (stack_of l.frames.items));
      steps : (g.W.Work.state l.fn.work).moves ++ moves (g.W.Work.state l.fn.work).fresh l.limit 0 (start_at (g.W.Work.state l.fn.work)) ≡ (g.W.Work.state l.work).moves ++ moves (g.W.Work.state l.work).fresh (l.limit - l.used) l.used (opens_at (g.W.Work.state l.work) (stack_of l.frames.items));
    }

abbrev pub decreases-turns : goal.decreases-turns
decreases-turns g l = l.limit - l.used
