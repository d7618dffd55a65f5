use Rattle.std.proofs.Common.{◌∙◌, ◌++◌, ap, length, count_by}
use Rattle.status_report.specs.Styles.{counts_text}
use Rattle.status_report.specs.Telling.{told_of}
use Rattle.status_report.proofs.Styling.{theorems_are, proved_are, text_is}
use Rattle.status_report.proofs.tell.report.Goals as goal

pub returns-clause-theorems : goal.returns-clause-theorems
returns-clause-theorems c =
    ap length c.as_slice-flags.ensures.value
    ∙ theorems_are c.args.style c.args.modules.now _ (told_of c.tell_body.new.told) (λ i. record { seen = c.new.ensures i; text = c.new-2.ensures.items i; proved = c.new-3.ensures.items i }) c.in_ok-tell_body.ensures

pub returns-clause-proved : goal.returns-clause-proved
returns-clause-proved c =
    c.count_true-proved.ensures ∙ ap (count_by (λ v. v)) c.as_slice-flags.ensures.value
    ∙ proved_are c.args.style c.args.modules.now _ (told_of c.tell_body.new.told) (λ i. record { seen = c.new.ensures i; text = c.new-2.ensures.items i; proved = c.new-3.ensures.items i }) c.in_ok-tell_body.ensures

pub returns-clause-text : goal.returns-clause-text
returns-clause-text c =
    let told = c.tell_body.new.told in
    text_is c.args.style c.args.modules.now _ (told_of told) c.args.stopped c.push_counts.new.out.items (λ i. record { seen = c.new.ensures i; text = c.new-2.ensures.items i; proved = c.new-3.ensures.items i })
    c.in_ok-tell_body.ensures
    (c.in_ok-push_counts.ensures
    ∙ (λ i. told.text.items ++ counts_text c.args.style c.args.stopped ((ap length c.as_slice-flags.ensures.value) i) ((c.count_true-proved.ensures ∙ ap (count_by (λ v. v)) c.as_slice-flags.ensures.value) i)))
