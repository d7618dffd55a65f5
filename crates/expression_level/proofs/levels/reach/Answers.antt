use Rattle.std.proofs.Common.{◌++◌, [], ◌∷◌, ap, ◌∙◌}
use Rattle.expression_level.specs.Weights.{depth_of, function_of}
use Rattle.expression_level.proofs.Kept.{more-at}
use Rattle.expression_level.proofs.levels.reach.Goals as goal

pub loop-known-preserved : goal.loop-known-preserved
loop-known-preserved c =
    let e = c.in_ok-push.ensures.items ∙ ap (λ k. c.loop-known.known.items ++ k ∷ []) c.arguments.ensures in
    record {
      same = (λ i n. function_of [] (more-at c.loop-known.known.items c.push.new.self.items n e i)) ∙ c.loop-known.invariant.same;
      closed = λ h n. ap depth_of (more-at c.loop-known.known.items c.push.new.self.items n e) ∙ c.loop-known.invariant.closed h n;
    }
