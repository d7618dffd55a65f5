use Rattle.std.proofs.Common.{ap, sym, subst, ◌∙◌}
use Rattle.proof_contexts.specs.Canonical.{each_gathered}
use Rattle.canonical_form.specs.Gathering.{met, waiting, AreNodes}
use Rattle.canonical_form.proofs.Gathering.{last-node, next_gathered}
use Rattle.canonical_form.proofs.gather.gather.Goals as goal

pub kind-requires : goal.kind-requires
kind-requires c = (last-node c.args.e.now c.pop.new.self.items c.in-Some.i (subst (AreNodes c.args.e.now) c.in-Some.ensures.items c.loop.invariant.within)).0

pub wait_for_parts-requires : goal.wait_for_parts-requires
wait_for_parts-requires c = (last-node c.args.e.now c.pop.new.self.items c.in-Some.i (subst (AreNodes c.args.e.now) c.in-Some.ensures.items c.loop.invariant.within)).0

pub loop-preserved : goal.loop-preserved
loop-preserved c =
    let e = c.args.e.now in
    let xs = c.loop.symbols.keys in
    record {
      gathered =
          c.loop.invariant.gathered ∙ ap (λ ps. each_gathered (waiting e ps) xs) c.in-Some.ensures.items
          ∙ next_gathered e c.pop.new.self.items c.wait_for_parts.new.places.items c.in-Some.i xs c.in_ok-wait_for_parts.ensures.waiting
          ∙ ap (each_gathered (waiting e c.wait_for_parts.new.places.items)) (ap (λ k. met k xs) (sym c.kind.ensures.tree) ∙ sym c.in_ok-meet.ensures);
      within = c.in_ok-wait_for_parts.ensures.within (last-node e c.pop.new.self.items c.in-Some.i (subst (AreNodes e) c.in-Some.ensures.items c.loop.invariant.within)).1;
    }
