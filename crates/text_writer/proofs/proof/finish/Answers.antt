use Rattle.std.proofs.Common.{◌≡◌, length, get_or, ap, sym, ◌∙◌, subst₂}
use Rattle.std.proofs.lemmas.List.{get_or_default}
use Rattle.core_expr.specs.Nodes.{AreBelow}
use Rattle.text_writer.specs.Tasks.{no_step, step_at}
use Rattle.text_writer.proofs.StepLaws.{step-is}
use Rattle.text_writer.proofs.proof.finish.Goals as goal

pub enter_each-requires-clause-roots : goal.enter_each-requires-clause-roots
enter_each-requires-clause-roots c =
    let l = c.args.proof.now in
    let s = step-is l c.nodes-nodes.ensures.lists c.args.i c.requires.step in
    let e : (step_at l c.args.i).exprs ≡ c.as_slice.result.now =
    sym (c.as_slice.ensures ∙ ap (λ s. s.exprs) c.index-steps-i.is ∙ ap (λ ss. (get_or ss c.args.i c.index-steps-i.result).exprs) c.steps.ensures.steps ∙ ap (λ s. s.exprs) (get_or_default l.steps c.args.i c.index-steps-i.result no_step c.requires.step)) in
    subst₂ AreBelow (ap length (sym c.nodes-nodes.ensures.nodes)) e s.exprs
