use Rattle.std.proofs.Common.{rules, ◌≡◌, [], ◌∷◌, ◌++◌, ap, sym, ◌∙◌, append-nil}
use Rattle.core_expr.specs.declared.head.Head.TheVariants.{False, Not, Or}
use Rattle.prime_expand.specs.Both.{unary, joined}
use Rattle.prime_expand.specs.Forms.{arm, arms, guards, otherwise}
use Rattle.prime_expand.proofs.forms.arms.Goals as goal

pub returns-in_default-next : goal.returns-in_default-next
returns-in_default-next c =
    let all = c.args.parts.items in
    let r : c.loop-part.parts.rest.items ≡ c.in-Some.part ∷ [] = search rules in
    let g : guards all ≡ c.loop-part.guards.items = c.loop-part.invariant.guards ∙ ap (λ l. c.loop-part.guards.items ++ guards l) r ∙ append-nil c.loop-part.guards.items in
    let o = c.in_ok-other.ensures ∙ ap (λ gs. unary Not (joined Or False gs)) (sym g) in
    c.in_ok-push.ensures.items ∙ ap (λ a. c.loop-part.done.items ++ a ∷ []) (c.in_ok-arm.ensures ∙ ap (λ b. arm b c.in-Some.part) o)
    ∙ sym (c.loop-part.invariant.arms ∙ ap (λ l. c.loop-part.done.items ++ arms (otherwise all) l) r)
