use Rattle.std.proofs.Common.{◌+◌, ◌∷◌, map, drop, ap, sym, ◌∙◌, arith}
use Rattle.obligation.specs.Unfolding.{unfolded}
use Rattle.canonical_form.proofs.Facts.{next-distinct, place-next}
use Rattle.canonical_form.proofs.form.distinct_facts.Goals as goal

pub loop-fact-preserved : goal.loop-fact-preserved
loop-fact-preserved c =
    let u = map (unfolded c.args.defs.now) in
    next-distinct _ c.loop-fact.found.keys (u (drop c.loop-fact.fact-index c.args.facts.now)) (u (drop (c.loop-fact.fact-index + 1) c.args.facts.now)) c.in_ok-unfold.field-0 c.insert_full.new.self.keys
    (ap u (place-next c.args.facts.now c.loop-fact.fact-index (c.loop-fact.fact-index + 1) c.fact-item.result (omega arith) c.loop-fact-test.true c.fact-item.is) ∙ ap (λ x. x ∷ u (drop (c.loop-fact.fact-index + 1) c.args.facts.now)) (sym c.in_ok-unfold.ensures))
    c.in_ok-insert_full.ensures.keys c.loop-fact.invariant
