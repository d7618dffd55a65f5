-- What is taken off again behind a step's own proof.
use Rattle.std.proofs.Common.{◌≡◌, ℕ, List, [], ◌∷◌, ◌++◌, take, length, refl, ap, ◌∙◌}
use Rattle.std.specs.Prelude.{Option}
use Rattle.core_expr.specs.Tree.{in_}
use Rattle.obligation.specs.declared.obligation.Definition.{Definition}
use Rattle.proof_contexts.specs.Expansion.{name}
use Rattle.proof_contexts.specs.Steps.{Item, Step}
use Rattle.proof_contexts.specs.Steps.Item.{New, NewIn, Given}
use Rattle.proof_contexts.specs.Steps.Step.{Assert, Case, Suffices}
use Rattle.proof_contexts.specs.Contexts.{Context, Entry, told, usable, add, with_goal, with_known, with_items, fact_of, inside}
use Rattle.proof_leaves.specs.declared.entering.Entered.{Entered}
use Rattle.proof_leaves.specs.Made.{IsInside, IsEntered}

abbrev first-of : Entry → List Entry → Entry
first-of d [] = d
first-of d (e ∷ es) = e

abbrev rest-of : List Entry → List Entry
rest-of [] = []
rest-of (e ∷ es) = es

whole : (es : List Entry) → take (length es) es ≡ es
whole [] = refl
whole (e ∷ es) = ap (λ l. e ∷ l) (whole es)

-- a list stays at the front of a longer one
further : (es ks more : List Entry) → take (length es) ks ≡ es → take (length es) (ks ++ more) ≡ es
further [] ks more h = refl
further (e ∷ es) [] more h = cc
further (e ∷ es) (k ∷ ks) more h = λ i. ap (first-of e) h i ∷ further es ks more (ap rest-of h) i

items-further : (l : Option ℕ) (is : List Item) (c : Context) (es : List Entry) → take (length es) c.known ≡ es → take (length es) (with_items l is c).known ≡ es
items-further l [] c es h = h
items-further l (New x ∷ is) c es h = items-further l is c es h
items-further l (NewIn x s ∷ is) c es h =
    let e = usable l (in_ (name x) s) in items-further l is (add c e) es (further es c.known (e ∷ []) h)
items-further l (Given a ∷ is) c es h = let e = told l a in items-further l is (add c e) es (further es c.known (e ∷ []) h)

items-defs : (l : Option ℕ) (is : List Item) (c : Context) → (with_items l is c).defs ≡ c.defs
items-defs l [] c = refl
items-defs l (New x ∷ is) c = items-defs l is c
items-defs l (NewIn x s ∷ is) c = items-defs l is (add c (usable l (in_ (name x) s)))
items-defs l (Given a ∷ is) c = items-defs l is (add c (told l a))

-- inside of a step the known facts of its context are the oldest
pub inside_known : (defs : List Definition) (s : Step) (c : Context) → take (length c.known) (inside defs s c).known ≡ c.known
inside_known defs (Assert l s p) c = items-further l s.items c c.known (whole c.known)
inside_known defs (Case l f p) c = further c.known c.known (told l f ∷ []) (whole c.known)
inside_known defs (Suffices l s p) c = further c.known c.known (usable l (fact_of s.items s.goal) ∷ []) (whole c.known)
inside_known defs s c = whole c.known

-- and the same definitions are usable
pub inside_defs : (defs : List Definition) (s : Step) (c : Context) → (inside defs s c).defs ≡ c.defs
inside_defs defs (Assert l s p) c = items-defs l s.items c
inside_defs defs s c = refl

-- the context of a step from the one inside of it, by what was kept
pub left_is : (e : Entered) (s : Step) (c d : Context) → IsEntered e c → IsInside s c d → with_goal (with_known d (take e.mark d.known)) e.goal ≡ c
left_is e s c d entered is =
    let w = is [] in
    let k : take e.mark d.known ≡ c.known = (λ i. take (entered.mark i) (w i).known) ∙ inside_known [] s c in
    let u : d.defs ≡ c.defs = ap (λ (x : Context). x.defs) w ∙ inside_defs [] s c in
    λ i. record { known = k i; defs = u i; goal = entered.goal i }
