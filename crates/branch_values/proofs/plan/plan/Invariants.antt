use Rattle.term_bank.specs.Banks.{IsDistinct, Extends}
use Rattle.term_bank.specs.Images.{height}
use Rattle.branch_state.specs.Parts.{shown}
use Rattle.tableau_search.specs.Entries.{branch_of}
use Rattle.branch_values.specs.Plans.{IsPlan}
use Rattle.branch_values.proofs.plan.plan.Given as goal

abbrev pub invariant-loop-index : goal.invariant-loop-index
invariant-loop-index l =
    record {
      plan : IsPlan l.bank (branch_of l.initial.bank (shown l.parts).now) l.e l.tasks.items l.todo.keys;
      extends : Extends l.initial.bank l.bank;
      distinct : IsDistinct l.bank;
    }

abbrev pub decreases-loop-index : goal.decreases-loop-index
decreases-loop-index l = height l.todo.keys
