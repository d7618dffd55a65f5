use Rattle.std.proofs.Common.{◌∙◌}
use Rattle.term_bank.specs.Banks.{tree_at}
use Rattle.branch_state.specs.Parts.{shown}
use Rattle.tableau_search.specs.Entries.{branch_of}
use Rattle.tableau_search.proofs.LiftLaws.{tree_kept}
use Rattle.branch_values.proofs.Keeping.{judged_grounds}
use Rattle.branch_values.proofs.judge.grounds_on.Goals as goal

pub returns-clause-below : goal.returns-clause-below
returns-clause-below c =
    (judged_grounds c.plan.new.bank (branch_of c.args.bank.now (shown c.args.parts.now).now) c.args.f (tree_at c.args.bank.now c.args.f) c.in_ok-tasks.tasks.items c.as_slice.result.now c.as_slice-2.result.now c.in_ok-values.values.entries c.in_ok-grounds.grounds.entries c.in_ok-from_slice.field-0.items c.plan.ensures.distinct c.in_ok-tasks.ensures.ok c.as_slice.ensures.value c.as_slice-2.ensures.value c.in_ok-values.ensures c.in_ok-grounds.ensures (c.in_ok-from_slice.ensures.items ∙ c.grounds_at.ensures) (tree_kept c.args.bank.now c.plan.new.bank c.args.f c.plan.ensures.extends c.requires.within)).1

pub returns-clause-grounds : goal.returns-clause-grounds
returns-clause-grounds c =
    (judged_grounds c.plan.new.bank (branch_of c.args.bank.now (shown c.args.parts.now).now) c.args.f (tree_at c.args.bank.now c.args.f) c.in_ok-tasks.tasks.items c.as_slice.result.now c.as_slice-2.result.now c.in_ok-values.values.entries c.in_ok-grounds.grounds.entries c.in_ok-from_slice.field-0.items c.plan.ensures.distinct c.in_ok-tasks.ensures.ok c.as_slice.ensures.value c.as_slice-2.ensures.value c.in_ok-values.ensures c.in_ok-grounds.ensures (c.in_ok-from_slice.ensures.items ∙ c.grounds_at.ensures) (tree_kept c.args.bank.now c.plan.new.bank c.args.f c.plan.ensures.extends c.requires.within)).0
