use Rattle.std.proofs.Common.{◌∙◌}
use Rattle.proof_outline.proofs.Shadows.{kept-push}
use Rattle.proof_outline.proofs.scope.Scope.enter.Goals as goal

pub invariant_of-self-in-Ok : goal.invariant_of-self-in-Ok
invariant_of-self-in-Ok c =
    kept-push c.self.inside.newest c.insert.new.self c.self.inside.names.items c.push.new.self.items (record { name = (c.args.level, c.args.label); number = c.args.number; shadowed = c.copied-shadowed.result })
    c.self.invariant c.in_ok-push.ensures.items (c.copied-shadowed.ensures ∙ c.get.ensures.value) (c.in-Ok.ensures.updates.0)
