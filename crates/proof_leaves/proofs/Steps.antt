-- What is known before a step is known after it.
use Rattle.std.proofs.Common.{◌≡◌, ℕ, Bool, true, false, List, [], ◌∷◌, refl, sym, subst}
use Rattle.std.specs.Prelude.{Option, Some, None, map}
use Rattle.core_expr.specs.Tree.{imp_, in_}
use Rattle.core_expr.specs.Put.{inst}
use Rattle.obligation.specs.declared.obligation.Definition.{Definition}
use Rattle.proof_contexts.specs.Expansion.{name}
use Rattle.proof_contexts.specs.Steps.{Item, Step}
use Rattle.proof_contexts.specs.Steps.Item.{New, NewIn, Given}
use Rattle.proof_contexts.specs.Steps.Step.{Assert, Case, Suffices, Have, Take, TakeIn, Witness, WitnessIn, Pick, Define, Use, Hide}
use Rattle.proof_contexts.specs.Contexts.{Context, Entry, told, usable, add, with_goal, with_items, fact_of, use_facts, hidden, as_all, as_ex, as_imp, given, all_in, ex_in, top, after}
use Rattle.known_facts.specs.Grown.{Grown}
use Rattle.known_facts.proofs.Growing.{grown-self, grown-more, grown-then, use_grows, hide_grows}
use Rattle.proof_leaves.specs.Made.{Goes}

-- one more fact
pub add_grows : (c : Context) (e : Entry) → Grown c.known (add c e).known
add_grows c e = grown-more c.known c.known (e ∷ []) (grown-self c.known)

pub items_grow : (l : Option ℕ) (is : List Item) (c : Context) → Grown c.known (with_items l is c).known
items_grow l [] c = grown-self c.known
items_grow l (New x ∷ is) c = items_grow l is c
items_grow l (NewIn x s ∷ is) c =
    let d = add c (usable l (in_ (name x) s)) in grown-then c.known d.known (with_items l is d).known (add_grows c (usable l (in_ (name x) s))) (items_grow l is d)
items_grow l (Given a ∷ is) c =
    let d = add c (told l a) in grown-then c.known d.known (with_items l is d).known (add_grows c (told l a)) (items_grow l is d)

-- a context by what was told since
pub grows_by_fact : (c d : Context) (e : Entry) → d ≡ add c e → Grown c.known d.known
grows_by_fact c d e h = subst (λ (x : Context). Grown c.known x.known) (sym h) (add_grows c e)

pub grows_by_items : (l : Option ℕ) (is : List Item) (c d : Context) → d ≡ with_items l is c → Grown c.known d.known
grows_by_items l is c d h = subst (λ (x : Context). Grown c.known x.known) (sym h) (items_grow l is c)

-- where the context after a step is this one, it has what is known in this one
grows-to : (c d e : Context) → Grown c.known d.known → Some d ≡ Some e → Grown c.known e.known
grows-to c d e g h = let k : d ≡ e = cc in subst (λ (x : Context). Grown c.known x.known) k g

given-grows : {A : Type 0} (c e : Context) (o : Option A) (f : A → Context) → ((x : A) → Grown c.known (f x).known) → given o None (λ x. Some (f x)) ≡ Some e → Grown c.known e.known
given-grows c e None f g h = cc
given-grows c e (Some x) f g h = grows-to c (f x) e (g x) h

-- a step leaves what is known before it
pub after_grows : (defs : List Definition) (s : Step) (c d : Context) → after defs s c ≡ Some d → Grown c.known d.known
after_grows defs (Assert l s p) c d h = grows-to c _ d (add_grows c (told l (fact_of s.items s.goal))) h
after_grows defs (Case l f p) c d h = grows-to c _ d (add_grows c (told l (imp_ f c.goal))) h
after_grows defs (Suffices l s p) c d h = grows-to c _ d (items_grow l s.items c) h
after_grows defs (Have l f) c d h =
    given-grows c d (as_imp (top defs c)) (λ q. with_goal (add c (told l f)) q.second) (λ q. add_grows c (told l f)) h
after_grows defs (Take x) c d h = given-grows c d (as_all (top defs c)) (λ p. with_goal c (inst p (name x))) (λ p. grown-self c.known) h
after_grows defs (TakeIn l x s) c d h =
    given-grows c d (all_in defs c s (top defs c)) (λ p. with_goal (add c (usable l (in_ (name x) s))) (inst p (name x))) (λ p. add_grows c (usable l (in_ (name x) s))) h
after_grows defs (Witness t) c d h = given-grows c d (as_ex (top defs c)) (λ p. with_goal c (inst p t)) (λ p. grown-self c.known) h
after_grows defs (WitnessIn l t s) c d h =
    given-grows c d (ex_in defs c s (top defs c)) (λ p. with_goal (add c (told l (in_ t s))) (inst p t)) (λ p. add_grows c (told l (in_ t s))) h
after_grows defs (Pick l is f p) c d h =
    let e = with_items l is c in
    grows-to c _ d (grown-then c.known e.known (add e (told l f)).known (items_grow l is c) (add_grows e (told l f))) h
after_grows defs (Define u) c d h = grows-to c _ d (grown-self c.known) h
after_grows defs (Use l fs u) c d h = grows-to c _ d (use_grows l fs c.known (use_facts l fs c.known) refl) h
after_grows defs (Hide xs u) c d h = grows-to c _ d (hide_grows xs c.known (map (hidden xs) c.known) refl) h

pub goes_grown : (defs : List Definition) (s : Step) (c : Context) (on : Bool) (d : Context) → Goes defs s c on d → Grown c.known d.known
goes_grown defs s c true d h = after_grows defs s c d h
goes_grown defs s c false d h = subst (λ (x : Context). Grown c.known x.known) (sym h.1) (grown-self c.known)
