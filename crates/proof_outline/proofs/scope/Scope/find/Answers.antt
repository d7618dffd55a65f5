use Rattle.std.proofs.Common.{◌≡◌, ap, ◌∙◌}
use Rattle.proof_outline.specs.Outline.{found}
use Rattle.proof_outline.specs.Kept.{Key, name_of, in_scope}
use Rattle.proof_outline.proofs.scope.Scope.find.Goals as goal

pub returns : goal.returns
returns c =
    let q : Key = (c.args.level, c.args.label) in
    let h : c.copied.result ≡ found (name_of q) (in_scope c.self.inside.names.items) = c.copied.ensures ∙ c.get.ensures.value ∙ c.self.invariant.0 q in
    h ∙ ap (found (name_of q)) c.self.view_is
