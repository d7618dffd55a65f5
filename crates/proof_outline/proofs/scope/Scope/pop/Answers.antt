use Rattle.std.proofs.Common.{cond, IsSome, refl, sym, ap, subst, ◌∙◌}
use Rattle.indexmap.specs.IndexMap.{get}
use Rattle.proof_outline.specs.Kept.{same_key}
use Rattle.proof_outline.proofs.Shadows.{kept-pop, newest-found}
use Rattle.proof_outline.proofs.scope.Scope.pop.Goals as goal

pub invariant_of-self-in-None : goal.invariant_of-self-in-None
invariant_of-self-in-None c =
    kept-pop c.self.inside.newest c.swap_remove.new.self c.pop.new.self.items c.self.inside.names.items c.in-Some.named c.self.invariant c.in-Some.ensures.items
    (λ q. c.swap_remove.ensures.updates.0 q ∙ ap (λ o. cond (same_key c.in-Some.named.name q) o (get same_key c.self.inside.newest q)) (sym c.in-None.is))

pub invariant_of-self-in-Some-get_mut : goal.invariant_of-self-in-Some-get_mut
invariant_of-self-in-Some-get_mut c =
    let m = c.self.inside.newest in
    let e = c.in-Some.named in
    let there = newest-found m m c.pop.new.self.items c.self.inside.names.items e c.self.invariant c.in-Some.ensures.items in
    let written = (c.get_mut.follows.holds c.in-Some-shadowed.before).3 (subst IsSome (sym there) refl) in
    kept-pop m (c.get_mut.follows.lender c.in-Some-shadowed.before) c.pop.new.self.items c.self.inside.names.items e c.self.invariant c.in-Some.ensures.items
    (λ q. written.0 q ∙ ap (λ o. cond (same_key e.name q) o (get same_key m q)) (sym c.in-Some-shadowed.is))

pub invariant_of-self-in_default-get_mut : goal.invariant_of-self-in_default-get_mut
invariant_of-self-in_default-get_mut c =
    let n = newest-found c.self.inside.newest c.self.inside.newest c.pop.new.self.items c.self.inside.names.items c.in-Some.named c.self.invariant c.in-Some.ensures.items in
    let e = c.in_default-get_mut.ensures.value ∙ n in cc
