use Rattle.std.proofs.Common.{◌∙◌, refl}
use Rattle.operator_chain.proofs.StackLemmas.{shows-infix}
use Rattle.operator_chain.proofs.stack.Stack.infix.Goals as goal

pub returns : goal.returns
returns c = λ s h. (
    let keeps = c.in_ok-left.ensures (s.frames, s.last) (h.parts, c.replace-last.ensures.value ∙ h.last) in
    shows-infix s c.args.operator c.in_ok-left.left c.take_over.new.parts c.stands-may.result c.args.self.now c.note.new.self h keeps
    (c.stands-may.ensures _ keeps.0)
    (rw (c.note.ensures, c.in_ok-push.ensures.ok, c.replace-last.ensures.after, c.plain.ensures, c.both-self.ensures) refl))
