use Rattle.std.proofs.Common.{◌≡◌, ◌∷◌, ◌++◌, [], Some, arith, rules, sym, ◌∙◌}
use Rattle.term_bank.specs.Banks.{tree_at}
use Rattle.term_patterns.specs.Depths.{spot, image_at}
use Rattle.term_patterns.proofs.AbstractedLaws.{no_occurrence}
use Rattle.term_patterns.proofs.WalkedLaws.{turn_node, turn_depth, turn_within, way_turn, turn_lighter}
use Rattle.term_patterns.proofs.abstracting.pattern.Goals as goal

pub returns-then-is_bound-clause-ok : goal.returns-then-is_bound-clause-ok
returns-then-is_bound-clause-ok c =
    record {
      within = c.requires.start;
      tree = sym (no_occurrence (tree_at c.args.bank.now c.args.s) 0 (tree_at c.args.bank.now c.args.e) (sym c.is_bound.ensures ∙ c.if-is_bound.true));
    }

pub turn-requires-clause-node : goal.turn-requires-clause-node
turn-requires-clause-node c =
    let is : c.loop-task.tasks.items ≡ c.pop.new.self.items ++ c.in-Some.task ∷ [] = search rules in
    turn_node c.args.bank.now c.loop-task.bank c.args.s c.args.e c.loop-task.images c.loop-task.tasks.items c.pop.new.self.items c.in-Some.task c.requires.start is c.loop-task.invariant

pub turn-requires-clause-depth : goal.turn-requires-clause-depth
turn-requires-clause-depth c =
    let is : c.loop-task.tasks.items ≡ c.pop.new.self.items ++ c.in-Some.task ∷ [] = search rules in
    let k = turn_depth c.args.bank.now c.loop-task.bank c.args.s c.args.e c.loop-task.images c.loop-task.tasks.items c.pop.new.self.items c.in-Some.task c.requires.start is c.loop-task.invariant in
    omega (arith, k)

pub turn-requires-clause-images : goal.turn-requires-clause-images
turn-requires-clause-images c =
    let is : c.loop-task.tasks.items ≡ c.pop.new.self.items ++ c.in-Some.task ∷ [] = search rules in
    turn_within c.args.bank.now c.loop-task.bank c.args.s c.args.e c.loop-task.images c.loop-task.tasks.items c.pop.new.self.items c.in-Some.task c.requires.start is c.loop-task.invariant

pub loop-task-smaller : goal.loop-task-smaller
loop-task-smaller c =
    let is : c.loop-task.tasks.items ≡ c.pop.new.self.items ++ c.in-Some.task ∷ [] = search rules in
    turn_lighter c.args.bank.now c.loop-task.bank c.args.s c.args.e c.loop-task.images c.loop-task.tasks.items c.pop.new.self.items c.in-Some.task c.requires.start is c.loop-task.invariant
    c.turn.new.bank c.turn.new.tasks.items c.turn.new.images c.count-count.ensures.distinct c.requires.term (sym c.is_bound.ensures ∙ c.if-is_bound.false) c.turn.ensures.extends c.turn.ensures.distinct c.in_ok-turn.ensures.ok

pub loop-task-preserved : goal.loop-task-preserved
loop-task-preserved c =
    let is : c.loop-task.tasks.items ≡ c.pop.new.self.items ++ c.in-Some.task ∷ [] = search rules in
    way_turn c.args.bank.now c.loop-task.bank c.args.s c.args.e c.loop-task.images c.loop-task.tasks.items c.pop.new.self.items c.in-Some.task c.requires.start is c.loop-task.invariant
    c.turn.new.bank c.turn.new.tasks.items c.turn.new.images c.count-count.ensures.distinct c.requires.term (sym c.is_bound.ensures ∙ c.if-is_bound.false) c.turn.ensures.extends c.turn.ensures.distinct c.in_ok-turn.ensures.ok

pub returns-in-Some-at-clause-ok : goal.returns-in-Some-at-clause-ok
returns-in-Some-at-clause-ok c =
    let z : image_at c.loop-task.images (spot c.args.e 0) ≡ Some c.in-Some-at.image = search rules in
    (c.loop-task.invariant.images (spot c.args.e 0) c.in-Some-at.image z).tree
