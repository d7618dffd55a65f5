use Rattle.std.proofs.Common.{◌≡◌, ◌∙◌, sym, subst}
use Rattle.leaf_jobs.specs.Forms.{forms_of}
use Rattle.leaf_jobs.specs.Stopping.{stops}
use Rattle.leaf_jobs.specs.Filling.{shown_all}
use Rattle.leaf_jobs.proofs.Meets.{Meets, modules-meet}
use Rattle.leaf_jobs.proofs.Order.{plan-meets}
use Rattle.leaf_jobs.proofs.teller.judge.Goals as goal

pub returns : goal.returns
returns c = λ came to.
    let es = c.args.scoped.now.entries in
    let plan = c.args.plan.now in
    let forms = forms_of c.args.chapters.now in
    let shown = c.into_iter.result.rest.items in
    let same : shown ≡ shown_all es c.args.verdicts.now plan.names.items plan.of_leaf.items =
    c.into_iter.ensures.rest ∙ c.in_ok-shown.ensures ∙ (λ i. shown_all es c.args.verdicts.now (c.as_slice.ensures.value i) (c.as_slice-2.ensures.value i)) in
    c.in_ok-modules.ensures
    ∙ modules-meet (stops c.args.stop) came es c.args.chapters.now shown
    (subst (Meets (stops c.args.stop) came es forms) (sym same) (plan-meets c.args.stop c.args.least c.args.verdicts.now came es forms plan c.requires.plan c.requires.verdicts to))
