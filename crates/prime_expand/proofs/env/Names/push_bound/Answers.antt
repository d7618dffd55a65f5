use Rattle.std.proofs.Common.{◌∷◌, ◌++◌, [], Some, refl, ap, sym, ◌∙◌, append_assoc}
use Rattle.plain_syntax.specs.Syntax.{term_of}
use Rattle.prime_expand.specs.Both.{part_at, quantified, bounded}
use Rattle.prime_expand.specs.Walk.{quantified_by, point, placed, finish, core_from, bound_once}
use Rattle.prime_expand.proofs.Tasks.{reads-last, joins}
use Rattle.prime_expand.proofs.env.Names.push_bound.Goals as goal

pub returns-in_ok-push-in-None : goal.returns-in_ok-push-in-None
returns-in_ok-push-in-None c vs p =
    let s = c.args.self.now in
    let q = point s c.args.spot.now in
    joins s c.args.tasks.now.items c.push.new.self.items _ 1 (λ bs. quantified (quantified_by c.args.binder) (part_at 0 bs)) vs (p ∷ []) _ c.in_ok-push-in-None.ensures.items (λ ws. refl) refl refl
    ∙ ap (λ o. finish s c.args.tasks.now.items (vs ++ bound_once s q (quantified_by c.args.binder) o c.args.depth p ∷ [])) (sym c.in-None.is)

pub returns-in_ok-push-in-Some-2 : goal.returns-in_ok-push-in-Some-2
returns-in_ok-push-in-Some-2 c vs p =
    let s = c.args.self.now in
    let q = point s c.args.spot.now in
    let n = c.get.result.now in
    let x = core_from s (placed c.args.depth q) (term_of n) in
    reads-last s c.push-in-Some.new.self.items c.push-in-Some-2.new.self.items _ (placed c.args.depth q) n (vs ++ p ∷ []) c.in_ok-push-in-Some-2.ensures.items
    (λ ws. ap (λ r. ws ++ core_from s r (term_of n) ∷ []) (c.in_ok-spot-in-Some.ensures s))
    ∙ ap (finish s c.push-in-Some.new.self.items) (append_assoc vs (p ∷ []) (x ∷ []))
    ∙ joins s c.args.tasks.now.items c.push-in-Some.new.self.items _ 2 (λ bs. bounded (quantified_by c.args.binder) (part_at 1 bs) (part_at 0 bs)) vs (p ∷ x ∷ []) _
    c.in_ok-push-in-Some.ensures.items (λ ws. refl) refl refl
    ∙ ap (λ o. finish s c.args.tasks.now.items (vs ++ bound_once s q (quantified_by c.args.binder) o c.args.depth p ∷ [])) (ap Some c.get.ensures ∙ sym c.in-Some.is)
