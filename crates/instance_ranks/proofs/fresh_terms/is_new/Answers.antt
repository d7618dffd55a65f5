use Rattle.std.proofs.Common.{ap, sym, ◌∙◌}
use Rattle.branch_values.specs.Judging.{truth_of}
use Rattle.branch_state.specs.Parts.{shown}
use Rattle.instance_ranks.proofs.NewLaws.{stands_old, value_new}
use Rattle.instance_ranks.proofs.fresh_terms.is_new.Goals as goal

pub returns-then-has-clause-ok : goal.returns-then-has-clause-ok
returns-then-has-clause-ok c = stands_old c.args.bank.now (shown c.args.parts.now).now c.args.f c.has.result c.count-count.ensures.distinct c.requires.known c.requires.within c.has.ensures c.if-has.true

pub returns-in-No-clause-ok : goal.returns-in-No-clause-ok
returns-in-No-clause-ok c =
    value_new c.args.bank.now (shown c.args.parts.now).now c.args.f c.has.result _ c.count-count.ensures.distinct c.requires.known c.requires.within c.has.ensures c.if-has.false (ap truth_of (sym c.in-No.is) ∙ c.in_ok-value_on.ensures.value)

pub returns-in-Unknown-clause-ok : goal.returns-in-Unknown-clause-ok
returns-in-Unknown-clause-ok c =
    value_new c.args.bank.now (shown c.args.parts.now).now c.args.f c.has.result _ c.count-count.ensures.distinct c.requires.known c.requires.within c.has.ensures c.if-has.false (ap truth_of (sym c.in-Unknown.is) ∙ c.in_ok-value_on.ensures.value)
