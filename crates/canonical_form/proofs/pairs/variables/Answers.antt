use Rattle.std.proofs.Common.{◌-◌, ◌++◌, [], ◌∷◌, ap, ◌∙◌, arith}
use Rattle.canonical_form.proofs.Variables.{variables-from}
use Rattle.canonical_form.proofs.pairs.variables.Goals as goal

pub loop-i-preserved : goal.loop-i-preserved
loop-i-preserved c =
    let t = c.loop-i-test.true in
    variables-from c.loop-i.i (c.loop-i.i - 1) c.loop-i.found.items c.push.new.self.items (omega (arith, t)) (c.in_ok-push.ensures.items ∙ ap (λ e. c.loop-i.found.items ++ e ∷ []) c.in_ok-bound.ensures) ∙ c.loop-i.invariant
