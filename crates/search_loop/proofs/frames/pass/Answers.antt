use Rattle.std.proofs.Common.{◌≡◌, ◌++◌, ◌∷◌, [], sym, subst, ap, ◌∙◌, rules}
use Rattle.search_definition.specs.Needs.{union, without}
use Rattle.search_loop.specs.declared.frames.Frame.TheVariants.{Second}
use Rattle.search_loop.specs.Stacks.{AreFalling, Falls, FallsIn, frame_of, stack_of}
use Rattle.search_loop.proofs.SetLaws.{falls_without, falls_union, stack_push}
use Rattle.search_loop.proofs.frames.pass.Goals as goal

pub returns-in-First-clause-frames : goal.returns-in-First-clause-frames
returns-in-First-clause-frames c =
    let n = c.in-First.number in
    let r = c.in_ok-rest-in-First.rest in
    let e : c.push.new.self.items ≡ c.args.frames.now.items ++ Second n r ∷ [] = search rules in
    let w = c.in_ok-rest-in-First.ensures ∙ ap (λ us. without us n) c.deref-in-First.ensures.value in
    subst AreFalling (sym (ap stack_of e ∙ stack_push c.args.frames.now.items (Second n r))) (subst Falls (sym w) (falls_without n c.args.needed.items c.requires.falls), c.requires.frames)

pub returns-clause-falls : goal.returns-clause-falls
returns-clause-falls c =
    let n = c.in-Second.number in
    let u = c.args.needed.items in
    let k = c.in-Second.other.items in
    let f : Falls k = subst (λ x. FallsIn (frame_of x)) c.in-Second.is c.requires.frame in
    let e = c.in_ok-both-in-Second.ensures ∙ (λ t. union (c.deref-in-Second.ensures.value t) (c.deref-in-Second-2.ensures.value t)) in
    let w = c.in_ok-rest-in-Second.ensures ∙ ap (λ us. without us n) (c.deref-in-Second-3.ensures.value ∙ e) in
    subst Falls (sym w) (falls_without n (union u k) (falls_union u k c.requires.falls f))
