use Rattle.std.proofs.Common.{[], sym, append-nil}
use Rattle.term_bank.proofs.MarkLaws.{lower_all}
use Rattle.term_bank.proofs.InstLaws.{Extends-trans}
use Rattle.term_bank.proofs.MarkLaws.{is_last}
use Rattle.term_walks.proofs.WalkLaws.{lower}
use Rattle.branch_state.specs.Parts.{shown}
use Rattle.tableau_search.specs.Entries.{branch_of}
use Rattle.tableau_search.proofs.LiftLaws.{branch_kept}
use Rattle.branch_values.proofs.Reasoning.{known_grown}
use Rattle.branch_values.proofs.Planning.{plan_first, plan_turn, needed_only}
use Rattle.branch_values.proofs.plan.plan.Goals as goal

pub loop-index-init : goal.loop-index-init
loop-index-init c =
    record {
      plan = plan_first c.args.bank.now (branch_of c.args.bank.now (shown c.args.parts.now).now) c.args.e c.new-tasks.result.items c.new-todo.result.keys c.put.new.todo.keys c.new-tasks.ensures.items c.new-todo.ensures.empty c.requires.start c.in_ok-put.ensures;
      extends = ([], sym (append-nil c.args.bank.now));
      distinct = c.count-count.ensures.distinct;
    }

pub work_at-requires-clause-within : goal.work_at-requires-clause-within
work_at-requires-clause-within c = c.loop-index.invariant.plan.within c.in-Some.index (is_last c.in-Some.index c.loop-index.todo.keys c.pop_last.new.self.keys c.in-Some.ensures.removal)

pub work_at-requires-clause-known : goal.work_at-requires-clause-known
work_at-requires-clause-known c = known_grown c.args.bank.now c.loop-index.bank (shown c.args.parts.now).now c.loop-index.invariant.extends c.requires.known

pub loop-index-smaller : goal.loop-index-smaller
loop-index-smaller c =
    lower c.in-Some.index c.loop-index.todo.keys c.pop_last.new.self.keys c.put_needed.new.todo.keys c.in-Some.ensures.removal (lower_all c.in-Some.index c.pop_last.new.self.keys c.in-Some.ensures.all_below)
    (needed_only c.work_at.new.bank (branch_of c.loop-index.bank (shown c.args.parts.now).now) c.in-Some.index c.in_ok-work.work c.pop_last.new.self.keys c.put_needed.new.todo.keys c.in_ok-work.ensures.ok c.in_ok-put_needed.ensures)

pub loop-index-preserved : goal.loop-index-preserved
loop-index-preserved c =
    let ts = c.args.bank.now in
    let us = c.loop-index.bank in
    let es = (shown c.args.parts.now).now in
    record {
      plan = plan_turn us c.work_at.new.bank (branch_of ts es) (branch_of us es) c.args.e c.in-Some.index c.in_ok-work.work c.loop-index.tasks.items c.push.new.self.items c.loop-index.todo.keys c.pop_last.new.self.keys c.put_needed.new.todo.keys c.work_at.ensures.extends (branch_kept ts us es c.loop-index.invariant.extends c.requires.known) c.in_ok-push.ensures.items c.in-Some.ensures.removal c.in_ok-work.ensures.ok c.in_ok-put_needed.ensures c.loop-index.invariant.plan;
      extends = Extends-trans ts us c.work_at.new.bank c.loop-index.invariant.extends c.work_at.ensures.extends;
      distinct = c.work_at.ensures.distinct;
    }
