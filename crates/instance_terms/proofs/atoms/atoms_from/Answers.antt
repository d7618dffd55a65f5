use Rattle.std.proofs.Common.{arith}
use Rattle.formula_rules.specs.Answers.{universal_of}
use Rattle.term_bank.specs.Banks.{tree_at}
use Rattle.term_bank.proofs.InstLaws.{Extends-trans}
use Rattle.core_expr.specs.Terms.{nodes}
use Rattle.instance_terms.specs.Fresh.{meta_from}
use Rattle.instance_terms.proofs.TaskLaws.{taken_task, listing_turn, listing_start, in_room}
use Rattle.instance_terms.proofs.atoms.atoms_from.Goals as goal

pub loop-init : goal.loop-init
loop-init c =
    listing_start c.atoms_have_room.ensures c.args.bank.now c.make.new.bank c.inst.new.self c.args.first c.in_ok-meta_at.field-0 c.in_ok-meta.meta c.in_ok-formula.formula c.args.u c.new-found.result.items c.new-stack.result.items c.push.new.self.items c.inst.ensures.distinct c.make.ensures.extends c.inst.ensures.extends c.requires.within c.in_ok-meta_at.ensures c.in_ok-meta.ensures.ok c.in_ok-formula.ensures.ok c.new-found.ensures.items c.new-stack.ensures.items c.in_ok-push.ensures.items

pub returns-in_default-clause-extends : goal.returns-in_default-clause-extends
returns-in_default-clause-extends c = c.loop.invariant.extends

pub returns-in_default-clause-distinct : goal.returns-in_default-clause-distinct
returns-in_default-clause-distinct c = c.loop.invariant.distinct

pub returns-in_default-clause-below : goal.returns-in_default-clause-below
returns-in_default-clause-below c = c.loop.invariant.below

pub turn-requires-clause-task : goal.turn-requires-clause-task
turn-requires-clause-task c =
    (taken_task c.args.bank.now c.loop.bank (meta_from c.args.first) (universal_of c.args.bank.now c.args.u) c.loop.counter c.loop.found.items c.loop.stack.items c.pop.new.self.items c.in-Some.task c.in-Some.ensures.items c.loop.invariant).1

pub turn-requires-clause-steps : goal.turn-requires-clause-steps
turn-requires-clause-steps c =
    let s = (taken_task c.args.bank.now c.loop.bank (meta_from c.args.first) (universal_of c.args.bank.now c.args.u) c.loop.counter c.loop.found.items c.loop.stack.items c.pop.new.self.items c.in-Some.task c.in-Some.ensures.items c.loop.invariant).2 in
    let t = c.loop-test.true in
    omega (arith, s, t)

pub returns-in_err-turn-clause-extends : goal.returns-in_err-turn-clause-extends
returns-in_err-turn-clause-extends c = Extends-trans c.args.bank.now c.loop.bank c.turn.new.bank c.loop.invariant.extends c.turn.ensures.extends

pub loop-preserved : goal.loop-preserved
loop-preserved c =
    let u = universal_of c.args.bank.now c.args.u in
    let s = (taken_task c.args.bank.now c.loop.bank (meta_from c.args.first) u c.loop.counter c.loop.found.items c.loop.stack.items c.pop.new.self.items c.in-Some.task c.in-Some.ensures.items c.loop.invariant).2 in
    let t = c.loop-test.true in
    listing_turn c.args.bank.now c.loop.bank c.turn.new.bank (meta_from c.args.first) u c.loop.counter c.loop.found.items c.turn.new.found.items c.loop.stack.items c.pop.new.self.items c.turn.new.stack.items c.in-Some.task c.in-Some.ensures.items (in_room c.in-Some.task.steps (nodes (tree_at c.args.bank.now c.args.u.body)) (omega (arith, s, t))) c.turn.ensures.extends c.turn.ensures.distinct c.in_ok-turn.ensures.ok c.loop.invariant

pub returns-clause-extends : goal.returns-clause-extends
returns-clause-extends c = c.loop.invariant.extends

pub returns-clause-distinct : goal.returns-clause-distinct
returns-clause-distinct c = c.loop.invariant.distinct
