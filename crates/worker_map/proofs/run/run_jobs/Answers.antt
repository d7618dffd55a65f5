use Rattle.std.proofs.Common.{subst}
use Rattle.claim_board.specs.Seats.{view_of}
use Rattle.worker_map.specs.Stops.{IsLeast, IsNoted}
use Rattle.worker_map.proofs.Finish.{skips_behind_least}
use Rattle.worker_map.proofs.run.run_jobs.Goals as goal

pub returns-clause-alone : goal.returns-clause-alone
returns-clause-alone g c one s =
    let f = c.in_ok-filled.ensures in
    skips_behind_least c.least_failed-least.result (view_of c.run_numbers.new.seat).noted c.in_ok-filled.filled.verdicts.items
    (subst (IsLeast c.least_failed-least.result) c.as_slice.ensures.value c.least_failed-least.ensures)
    (subst (λ b. IsNoted b (view_of c.run_numbers.new.seat).noted c.in_ok-filled.filled.verdicts.items) s f.noted) (f.alone one s)
