use Rattle.std.proofs.Common.{subst}
use Rattle.std.specs.Prelude.{IfOk}
use Rattle.leaf_prover.specs.Provers.{IsAnswered}
use Rattle.proof_cache.specs.Records.{kept_for}
use Rattle.worker_map.specs.Answers.{IsVerdict}
use Rattle.worker_map.specs.Stops.{AllGiven}
use Rattle.worker_map.specs.declared.run.Done.{Done}
use Rattle.proof_manager.proofs.jobs.run_plan.Goals as goal

pub returns-clause-given : goal.returns-clause-given
returns-clause-given g c =
    subst (λ n. IfOk c.run_jobs-done.result (λ (d : Done). AllGiven (IsVerdict (λ x. IsAnswered (kept_for c.args.cache.now x) n x) c.args.plan.now.jobs.items) d.verdicts.items)) c.in-Some.ensures.some.0
    (subst (λ js. IfOk c.run_jobs-done.result (λ (d : Done). AllGiven (IsVerdict (λ x. IsAnswered (kept_for c.args.cache.now x) c.in-Some.limit x) js) d.verdicts.items)) c.as_slice.ensures.value c.run_jobs-done.ensures.verdicts)
