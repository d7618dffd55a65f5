use Rattle.std.proofs.Common.{cond, IsSome, refl, sym, ap, subst, ◌∙◌}
use Rattle.indexmap.specs.IndexMap.{get}
use Rattle.expression_level.specs.Levels.{is_word}
use Rattle.module_scope.specs.Kept.{same_name}
use Rattle.module_scope.proofs.Shadows.{kept-pop, newest-found}
use Rattle.module_scope.proofs.scope.Scope.pop.Goals as goal

pub invariant_of-self-in-None : goal.invariant_of-self-in-None
invariant_of-self-in-None c =
    kept-pop c.self.inside.newest c.swap_remove.new.self c.pop.new.self.items c.self.inside.names.items c.in_ok-named.named c.self.invariant c.in_ok-named.ensures.items
    (λ q. c.swap_remove.ensures.updates.0 q ∙ ap (λ o. cond (is_word c.in_ok-named.named.name.now q.now) o (get same_name c.self.inside.newest q)) (sym c.in-None.is))

pub invariant_of-self-in-Some-get_mut : goal.invariant_of-self-in-Some-get_mut
invariant_of-self-in-Some-get_mut c =
    let m = c.self.inside.newest in
    let e = c.in_ok-named.named in
    let there = newest-found m m c.pop.new.self.items c.self.inside.names.items e c.self.invariant c.in_ok-named.ensures.items in
    let written = (c.get_mut.follows.holds c.in-Some.before).3 (subst IsSome (sym there) refl) in
    kept-pop m (c.get_mut.follows.lender c.in-Some.before) c.pop.new.self.items c.self.inside.names.items e c.self.invariant c.in_ok-named.ensures.items
    (λ q. written.0 q ∙ ap (λ o. cond (is_word e.name.now q.now) o (get same_name m q)) (sym c.in-Some.is))

pub invariant_of-self-in_default : goal.invariant_of-self-in_default
invariant_of-self-in_default c =
    let n = newest-found c.self.inside.newest c.self.inside.newest c.pop.new.self.items c.self.inside.names.items c.in_ok-named.named c.self.invariant c.in_ok-named.ensures.items in
    let e = c.in_default.ensures.value ∙ n in cc
