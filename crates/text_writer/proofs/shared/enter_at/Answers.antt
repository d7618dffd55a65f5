use Rattle.std.proofs.Common.{[], ◌∷◌, length, ap, sym, ◌∙◌, subst}
use Rattle.core_expr.specs.Nodes.{AreBelow}
use Rattle.text_writer.specs.Shared.{here, enter_last_first}
use Rattle.text_writer.proofs.SharedLaws.{enter-append, below-split}
use Rattle.text_writer.proofs.shared.enter_at.Goals as goal
use Rattle.text_writer.proofs.shared.enter_at.Goals.{In-Some}

below : (c : In-Some) → AreBelow (length c.args.nodes.now) (c.pop.new.self.items) × AreBelow (length c.args.nodes.now) (c.in-Some.i ∷ [])
below c =
    let n = length c.args.nodes.now in
    below-split n c.pop.new.self.items (c.in-Some.i ∷ []) (subst (AreBelow n) c.in-Some.ensures.items c.loop.invariant.waiting)

pub go_on-requires-clause-waiting : goal.go_on-requires-clause-waiting
go_on-requires-clause-waiting c = (below (goal.at.go_on-requires-clause-waiting c).In-Some).0

pub go_on-requires-clause-node : goal.go_on-requires-clause-node
go_on-requires-clause-node c = (below (goal.at.go_on-requires-clause-node c).In-Some).1.0

pub loop-preserved : goal.loop-preserved
loop-preserved c =
    let a = here c.loop.growing.table.keys c.loop.place in
    record {
      entered =
          c.in_ok-place.ensures.entered
          ∙ sym (ap (λ is. enter_last_first c.args.nodes.now is a) c.in-Some.ensures.items ∙ enter-append c.args.nodes.now c.pop.new.self.items (c.in-Some.i ∷ []) a) ∙ c.loop.invariant.entered;
      noted = c.in_ok-place.ensures.noted;
      waiting = c.in_ok-place.ensures.waiting;
    }
