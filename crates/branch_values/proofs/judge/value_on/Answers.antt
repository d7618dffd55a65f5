use Rattle.term_bank.specs.Banks.{tree_at}
use Rattle.branch_state.specs.Parts.{shown}
use Rattle.tableau_search.specs.Entries.{branch_of}
use Rattle.tableau_search.proofs.LiftLaws.{tree_kept}
use Rattle.branch_values.proofs.Keeping.{judged_value}
use Rattle.branch_values.proofs.judge.value_on.Goals as goal

pub returns-clause-value : goal.returns-clause-value
returns-clause-value c =
    judged_value c.plan.new.bank (branch_of c.args.bank.now (shown c.args.parts.now).now) c.args.f (tree_at c.args.bank.now c.args.f) c.in_ok-tasks.tasks.items c.as_slice.result.now c.in_ok-values.values.entries c.value_at.result c.in_ok-tasks.ensures.ok c.as_slice.ensures.value c.in_ok-values.ensures c.value_at.ensures (tree_kept c.args.bank.now c.plan.new.bank c.args.f c.plan.ensures.extends c.requires.within)
