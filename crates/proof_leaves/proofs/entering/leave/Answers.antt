use Rattle.std.proofs.Common.{ap, ◌∙◌}
use Rattle.known_facts.specs.Shown.{context_of}
use Rattle.proof_contexts.specs.Contexts.{with_goal}
use Rattle.proof_leaves.proofs.Undone.{left_is}
use Rattle.proof_leaves.proofs.entering.leave.Goals as goal

pub returns : goal.returns
returns c = λ s d entered is.
    c.replace_goal.ensures.goal ∙ ap (λ x. with_goal x c.args.entered.goal) c.leave.ensures ∙ left_is c.args.entered s d (context_of c.args.context.now) entered is
