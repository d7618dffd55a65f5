-- The terms by which universals are instantiated are closed.
use Rattle.std.proofs.Common.{◌≡◌, Option, Some, None, List, refl, ap, subst}
use Rattle.core_expr.specs.declared.head.Sym.{Sym}
use Rattle.core_expr.specs.Tree.{Tree, not_, all_, ex_, eq_}
use Rattle.core_expr.specs.Tree.Tree.{app}
use Rattle.core_expr.specs.Tree.Parts.{end}
use Rattle.core_expr.specs.Put.{IsScoped}
use Rattle.seq_calculus.specs.Calculus.{IsClosed}
use Rattle.unifier_definition.specs.Unify.{Binding, mgu, bound_to}
use Rattle.unifier_definition.proofs.Substituted.{scoped-assign}
use Rattle.unifier_definition.proofs.Rounds.{mgu-unifies}
use Rattle.search_definition.specs.Terms.{after, first_some, closed_subterms}
use Rattle.search_definition.specs.Branches.{Branch, alive}
use Rattle.search_definition.specs.Splits.{is_literal}
use Rattle.search_definition.specs.Instances.{Fresh, spare_term, own_meta, partner_meta, own_metas, both_metas, Universal, universal, instance, Signed, signed_literal, are_opposite, instance_term, grounded, mapped, equation_term, sides_term, signed_term, literal_term, signed_atoms, is_new, new_term, is_side, at_literal, at_atom, by_universal, at_universal, at_subterm, at_subterms, at_side, at_sides, by_atom, found_term}
use Rattle.search_definition.proofs.Standing.{Holds, or-holds, after-holds, if-holds, first-holds, each}
use Rattle.search_definition.proofs.Telling.{if-fine}

bound_closed : (ms : List Sym) (s t : Tree) (m : Sym) (o : Option (List Binding)) → mgu ms s t ≡ o → Holds IsClosed (after (bound_to m) o)
bound_closed ms s t m None e = tt
bound_closed ms s t m (Some bs) e = go (bound_to m bs) refl
  where
    go : (o : Option Tree) → bound_to m bs ≡ o → Holds IsClosed o
    go None q = tt
    go (Some u) q = subst IsClosed (ap (λ x. elim x [ None ↦ app m end | Some v ↦ v ]) q) ((mgu-unifies ms s t bs e).0 m)

pub instance_closed : (w : Fresh) (ms : List Sym) (s t : Tree) → Holds IsClosed (instance_term w ms s t)
unfolding instance_term
instance_closed w ms s t = go (after (bound_to (own_meta w 0)) (mgu ms s t)) (bound_closed ms s t (own_meta w 0) (mgu ms s t) refl)
  where
    go : (o : Option Tree) → Holds IsClosed o → Holds IsClosed (mapped (grounded w ms) o)
    go None h = tt
    go (Some u) h = scoped-assign ms (λ f. spare_term w) (λ f. tt) 0 u h

pub sides_closed : (w : Fresh) (a : Signed) → Holds IsClosed (sides_term w a)
sides_closed w a = if-holds IsClosed a.holds None (equation_term w (own_metas w a) a.atom) tt (equation a.atom)
  where
    equation : (f : Tree) → Holds IsClosed (equation_term w (own_metas w a) f)
    equation (eq_ s t) = instance_closed w (own_metas w a) s t
    equation _ = tt

pub signed_closed : (w : Fresh) (a c : Signed) → Holds IsClosed (signed_term w a c)
signed_closed w a c = if-holds IsClosed (are_opposite a.holds c.holds) _ None (instance_closed w (both_metas w a c) a.atom c.atom) tt

pub literal_closed : (w : Fresh) (a : Signed) (f : Tree) → Holds IsClosed (literal_term w a f)
literal_closed w a f = if-holds IsClosed (is_literal f) _ None (signed_closed w a (signed_literal f)) tt

-- the body of a closed universal has no loose variable but its own
pub universal_scoped : (f : Tree) → IsScoped 0 f → Holds (λ v. IsScoped 1 v.body) (universal f)
universal_scoped (all_ p) h = h.1
universal_scoped (not_ (ex_ p)) h = h.0.1
universal_scoped _ h = tt

-- the first new instance is by a closed term
new_closed : (b : Branch) (u : Universal) (o : Option Tree) → Holds IsClosed o → Holds IsClosed (after (new_term b u) o)
new_closed b u o h = after-holds IsClosed (new_term b u) IsClosed (λ t k. if-fine IsClosed (is_new b (instance u t)) t k) o h

module _ (b : Branch) (w : Fresh) (u : Universal) (a : Signed) where
  among : (g : Tree → Option Tree) → ((f : Tree) → Holds IsClosed (g f)) → (fs : List Tree) → Holds IsClosed (first_some g fs)
  among g h fs = first-holds IsClosed g (λ f. Unit {0}) (λ f k. h f) fs (each (λ f. Unit {0}) (λ f. tt) fs)

  opposite_closed : (v : Universal) → Holds IsClosed (by_universal b w u a v)
  opposite_closed v =
      first-holds IsClosed (at_atom b w u a) (λ c. Unit {0}) (λ c k. new_closed b u (signed_term w a c) (signed_closed w a c)) (signed_atoms (partner_meta w) v) (each (λ c. Unit {0}) (λ c. tt) (signed_atoms (partner_meta w) v))

  universal_closed : (o : Option Universal) → Holds IsClosed (after (by_universal b w u a) o)
  universal_closed None = tt
  universal_closed (Some v) = opposite_closed v

  side_closed : (l : Tree) → Holds IsClosed (at_side b w u a l)
  side_closed l =
      if-holds IsClosed (is_side (own_metas w a) l) _ None
      (among (at_subterms b w u a l)
      (λ f. if-holds IsClosed (is_literal f) _ None (among (at_subterm b w u a l) (λ t. new_closed b u (instance_term w (own_metas w a) l t) (instance_closed w (own_metas w a) l t)) (closed_subterms f)) tt) (alive b)) tt

  held_closed : (f : Tree) → Holds IsClosed (at_sides b w u a f)
  held_closed (eq_ l r) = or-holds IsClosed (at_side b w u a l) (at_side b w u a r) (side_closed l) (side_closed r)
  held_closed _ = tt

  atom_closed : Holds IsClosed (by_atom b w u a)
  atom_closed =
      or-holds IsClosed (after (new_term b u) (sides_term w a)) _ (new_closed b u (sides_term w a) (sides_closed w a))
      (or-holds IsClosed (first_some (at_literal b w u a) (alive b)) _ (among (at_literal b w u a) (λ f. new_closed b u (literal_term w a f) (literal_closed w a f)) (alive b))
      (or-holds IsClosed (first_some (at_universal b w u a) (alive b)) _ (among (at_universal b w u a) (λ f. universal_closed (universal f)) (alive b)) (if-holds IsClosed a.holds (at_sides b w u a a.atom) None (held_closed a.atom) tt)))

pub found_closed : (b : Branch) (w : Fresh) (u : Universal) → Holds IsClosed (found_term b w u)
unfolding found_term
found_closed b w u =
    first-holds IsClosed (by_atom b w u) (λ a. Unit {0}) (λ a k. atom_closed b w u a) (signed_atoms (own_meta w) u) (each (λ a. Unit {0}) (λ a. tt) (signed_atoms (own_meta w) u))
