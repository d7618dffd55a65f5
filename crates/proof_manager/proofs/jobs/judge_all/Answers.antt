use Rattle.std.proofs.Common.{sym, subst, ap, ◌∙◌, []}
use Rattle.indexmap.specs.IndexSet.{insert_all}
use Rattle.core_expr.specs.Equality.{same_canon}
use Rattle.job_plan.specs.Plan.{canons_of}
use Rattle.proof_cache.specs.Records.{kept_for}
use Rattle.cache_file.specs.Written.{file_of, proved_jobs}
use Rattle.leaf_jobs.specs.Came.{with_lost}
use Rattle.leaf_jobs.specs.Forms.{forms_of}
use Rattle.leaf_jobs.specs.Judging.{judged}
use Rattle.leaf_jobs.specs.Plans.{ComeTo}
use Rattle.leaf_jobs.specs.Stopping.{reported}
use Rattle.command_words.specs.Requests.{asked_by}
use Rattle.proof_manager.specs.Runs.{came}
use Rattle.proof_manager.specs.Caching.{made_where}
use Rattle.proof_manager.specs.Causes.{read_in}
use Rattle.proof_manager.proofs.Lost.{is_lost}
use Rattle.proof_manager.proofs.NewCache.{is-judged}
use Rattle.proof_manager.proofs.jobs.judge_all.Goals as goal

pub returns : goal.returns
returns g c =
    let ps = kept_for c.args.cache.now in
    let a = asked_by c.args.request in
    let r = read_in c.args.checked.now in
    let jobs = c.in_ok-plan.plan.jobs.items in
    let vs = c.in_ok-done.done.verdicts.items in
    let comes = with_lost (is_lost jobs vs) (came ps a.turns) in
    let chapters = c.as_slice-chapters.ensures ∙ c.requires.fine.chapters in
    let planned = c.in_ok-plan.ensures.jobs ∙ ap (λ fs. insert_all same_canon [] (canons_of fs)) (c.in_ok-forms.ensures ∙ ap forms_of chapters) in (
      is_lost jobs vs,
      is-judged ps a r jobs vs c.in_ok-done.done.least c.right_is_answered.ensures.says c.right_is_answered.ensures.correct c.whole_is_given.ensures c.whole_finds_memory.ensures planned c.in_ok-done.ensures.verdicts
          c.in_ok-done.ensures.given (record { judged = c.in_ok-judged.judged; next = c.in_ok-next.next })
          (λ to. c.in_ok-judged.ensures comes (subst (ComeTo comes jobs) (sym c.as_slice.ensures.value) to) ∙ ap (λ cs. reported a.stop (judged comes r.table.entries cs)) chapters)
          (c.in_ok-next.ensures ∙ (λ i. made_where (c.is_wanted-wanted.ensures i) (file_of (proved_jobs (c.as_slice-2.ensures.value i) (c.as_slice-3.ensures.value i))))),
    )
