use Rattle.std.proofs.Common.{ap, sym, ◌∙◌}
use Rattle.prime_expand.specs.Walk.{finish}
use Rattle.prime_expand.proofs.Tasks.{finish-more}
use Rattle.prime_expand.proofs.env.Names.finished.Goals as goal

pub loop-preserved : goal.loop-preserved
loop-preserved c =
    let s = c.args.self.now in
    let cs = c.loop.cores.items in
    c.in_ok-step-in-Some.ensures ∙ sym (finish-more s c.pop.new.self.items _ cs) ∙ ap (λ l. finish s l cs) (sym c.in-Some.ensures.items) ∙ c.loop.invariant
