use Rattle.std.proofs.Common.{◌++◌, ◌∙◌, ap, sym, subst, append-nil}
use Rattle.std.specs.List.{AllByRecursion}
use Rattle.std.proofs.lemmas.Slice.Zip.{either_empty_from_Zip}
use Rattle.cache_file.specs.Written.{IsWritten, AreReadBack, file_of, proved_jobs}
use Rattle.cache_file.proofs.WriteLaws.{records_read, none_left}
use Rattle.cache_file.proofs.write.write_cache.Goals as goal

pub returns : goal.returns
returns c =
    let file = c.loop-job.file.items in
    let inv = c.loop-job.invariant in
    let none = none_left _ _ (either_empty_from_Zip c.loop-job.job-iterator c.next.new.self c.next.result c.in-None.is c.next.ensures.steps) in
    let text = sym (append-nil file) ∙ ap (λ rs. file ++ file_of rs) (sym none) ∙ inv.text in
    let written = inv.written (subst (AllByRecursion IsWritten) (sym none) tt) in
    record {
      text = text;
      read = λ h. subst (AreReadBack (proved_jobs c.args.jobs.now c.args.verdicts.now)) (sym text) (records_read c.proof_is_shown.ensures _ written h);
    }
