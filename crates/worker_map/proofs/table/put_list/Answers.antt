use Rattle.std.proofs.Common.{◌∙◌, ◌+◌, ℕ, sym, ap, subst, length, length-set, arith, List, Option}
use Rattle.std.specs.List.{AllByRecursion}
use Rattle.pool_core.specs.Numbers.{times, times_all}
use Rattle.claim_board.specs.Seats.{view_of}
use Rattle.proof_cache.specs.declared.verdict.Verdict.{Verdict}
use Rattle.worker_map.specs.Crew.{jobs_in}
use Rattle.worker_map.specs.Settled.{Pending, Fits, lists_of}
use Rattle.worker_map.proofs.Failed.{all_last}
use Rattle.worker_map.proofs.Settles.{put_one, none_left}
use Rattle.worker_map.proofs.table.put_list.Goals as goal

pub loop-job-preserved : goal.loop-job-preserved
loop-job-preserved g c =
    let answers = g.A.Answers.right c.args.answers.now in
    let stop = c.args.stop in
    let seat = view_of c.args.seat.now in
    let table : List (Option Verdict) = c.loop-job.table.items in
    let job = c.in-Some.job in
    let verdict = c.in-Some.verdict in
    let rest : List (ℕ × Option Verdict) = c.pop.new.self.items in
    let is = c.set.ensures.items in
    let len = ap length is ∙ length-set table job verdict in
    let items = c.in-Some.ensures.items in
    let all = subst (AllByRecursion (Fits stop answers seat (length table))) items c.loop-job.invariant.fits in
    let last = all_last (Fits stop answers seat (length table)) rest (job, verdict) all in
    let others : ℕ → ℕ = λ x. times_all x (lists_of c.args.others.now.items) in
    record {
      len = len ∙ c.loop-job.invariant.len;
      fits = subst (λ n. AllByRecursion (Fits stop answers seat n) rest) (sym len) last.0;
      table = subst (Pending stop answers seat (λ x. times x (jobs_in rest) + others x)) (sym is) (put_one stop answers seat table rest job verdict others last.1.1
          (subst (λ (es : List (ℕ × Option Verdict)). Pending stop answers seat (λ x. times x (jobs_in es) + others x) table) items c.loop-job.invariant.table));
    }

pub returns-clause-table : goal.returns-clause-table
returns-clause-table g c j v at none =
    let empty = c.in_default.ensures.cases.0 in
    c.loop-job.invariant.table j v at (let e = none_left j c.loop-job.rest.items (omega arith) in omega arith)
