-- The terms of instances are closed.
use Rattle.std.specs.Prelude.{◌≡◌, ℕ, Bool, true, false, nat_eq, Option, Some, None, List, [], ◌∷◌}
use Rattle.std.proofs.Common.{refl, ap, subst}
use Rattle.core_expr.specs.declared.head.Sym.{Sym}
use Rattle.core_expr.specs.Tree.{Tree, not_, eq_, all_, ex_}
use Rattle.core_expr.specs.Tree.Tree.{app}
use Rattle.core_expr.specs.Tree.Parts.{end}
use Rattle.seq_calculus.specs.Calculus.{IsClosed}
use Rattle.unifier_definition.specs.Unify.{Binding, mgu, bound_to}
use Rattle.unifier_definition.proofs.Substituted.{scoped-assign}
use Rattle.unifier_definition.proofs.Rounds.{mgu-unifies}
use Rattle.search_definition.specs.declared.rule.Rule.TheVariants as rule
use Rattle.search_definition.specs.Terms.{if_so, after, first_some, closed_subterms}
use Rattle.search_definition.specs.Branches.{Branch, alive}
use Rattle.search_definition.specs.Rules.{Result}
use Rattle.search_definition.specs.Splits.{is_literal}
use Rattle.search_definition.specs.Instances.{Fresh, spare_term, own_meta, Universal, universal, instance, Signed, instance_term, grounded, mapped, equation_term, sides_term, signed_term, literal_term, new_term, is_new, at_atom, by_universal, at_universal, at_literal, at_subterm, at_subterms, at_side, at_sides, by_atom, found_term, signed_atoms, partner_meta, own_metas, both_metas, is_side, are_opposite, signed_literal, Place, place_before, places, insert, by_count, instance_step, at_place, instance_rule, spare_at, spare_rule}
use Rattle.search_definition.proofs.Standing.{Holds, or-holds, after-holds, if-holds, Each, first-holds, each}
use Rattle.search_definition.proofs.Telling.{if-fine}
use Rattle.proof_trees.proofs.Ranked.{Fits, all-says, not-ex-says}
use Rattle.std.specs.Prelude.{suc, nat_le}

bound-closed : (ms : List Sym) (s t : Tree) (m : Sym) (o : Option (List Binding)) → mgu ms s t ≡ o → Holds IsClosed (after (bound_to m) o)
bound-closed ms s t m None e = tt
bound-closed ms s t m (Some bs) e = go (bound_to m bs) refl
  where
    go : (o : Option Tree) → bound_to m bs ≡ o → Holds IsClosed o
    go None q = tt
    go (Some u) q = subst IsClosed (ap (λ x. elim x [ None ↦ app m end | Some v ↦ v ]) q) ((mgu-unifies ms s t bs e).0 m)

instance-term-closed : (w : Fresh) (ms : List Sym) (s t : Tree) → Holds IsClosed (instance_term w ms s t)
unfolding instance_term
instance-term-closed w ms s t = go (after (bound_to (own_meta w 0)) (mgu ms s t)) (bound-closed ms s t (own_meta w 0) (mgu ms s t) refl)
  where
    go : (o : Option Tree) → Holds IsClosed o → Holds IsClosed (mapped (grounded w ms) o)
    go None h = tt
    go (Some u) h = scoped-assign ms (λ f. spare_term w) (λ f. tt) 0 u h

new-closed : (b : Branch) (u : Universal) (o : Option Tree) → Holds IsClosed o → Holds IsClosed (after (new_term b u) o)
new-closed b u o h = after-holds IsClosed (new_term b u) IsClosed (λ t k. if-fine IsClosed (is_new b (instance u t)) t k) o h

signed-closed : (w : Fresh) (a c : Signed) → Holds IsClosed (signed_term w a c)
signed-closed w a c = if-holds IsClosed (are_opposite a.holds c.holds) _ None (instance-term-closed w (both_metas w a c) a.atom c.atom) tt

by-atom-closed : (b : Branch) (w : Fresh) (u : Universal) (a : Signed) → Holds IsClosed (by_atom b w u a)
by-atom-closed b w u a =
    or-holds IsClosed (after (new_term b u) (sides_term w a)) _ (new-closed b u (sides_term w a) (if-holds IsClosed a.holds None (equation_term w (own_metas w a) a.atom) tt (equation a.atom)))
    (or-holds IsClosed (first_some (at_literal b w u a) (alive b)) _ (search_all (at_literal b w u a) (λ f. new-closed b u (literal_term w a f) (if-holds IsClosed (is_literal f) _ None (signed-closed w a (signed_literal f)) tt)) (alive b))
    (or-holds IsClosed (first_some (at_universal b w u a) (alive b)) _
    (search_all (at_universal b w u a)
    (λ f. after-holds IsClosed (by_universal b w u a) (λ v. Unit {0}) (λ v k. search_signed (at_atom b w u a) (λ c. new-closed b u (signed_term w a c) (signed-closed w a c)) (signed_atoms (partner_meta w) v)) (universal f) (any (universal f))) (alive b))
    (if-holds IsClosed a.holds (at_sides b w u a a.atom) None (sides a.atom) tt)))
  where
    any : (o : Option Universal) → Holds (λ v. Unit {0}) o
    any None = tt
    any (Some v) = tt

    equation : (f : Tree) → Holds IsClosed (equation_term w (own_metas w a) f)
    equation (eq_ s t) = instance-term-closed w (own_metas w a) s t
    equation _ = tt

    search_all : (g : Tree → Option Tree) → ((f : Tree) → Holds IsClosed (g f)) → (fs : List Tree) → Holds IsClosed (first_some g fs)
    search_all g h fs = first-holds IsClosed g (λ f. Unit {0}) (λ f k. h f) fs (each (λ f. Unit {0}) (λ f. tt) fs)

    search_signed : (g : Signed → Option Tree) → ((c : Signed) → Holds IsClosed (g c)) → (cs : List Signed) → Holds IsClosed (first_some g cs)
    search_signed g h cs = first-holds IsClosed g (λ c. Unit {0}) (λ c k. h c) cs (each (λ c. Unit {0}) (λ c. tt) cs)

    side : (l : Tree) → Holds IsClosed (at_side b w u a l)
    side l =
        if-holds IsClosed (is_side (own_metas w a) l) _ None
        (search_all (at_subterms b w u a l)
        (λ f. if-holds IsClosed (is_literal f) _ None (search_all (at_subterm b w u a l) (λ t. new-closed b u (instance_term w (own_metas w a) l t) (instance-term-closed w (own_metas w a) l t)) (closed_subterms f)) tt) (alive b)) tt

    sides : (f : Tree) → Holds IsClosed (at_sides b w u a f)
    sides (eq_ l r) = or-holds IsClosed (at_side b w u a l) (at_side b w u a r) (side l) (side r)
    sides _ = tt

pub found-closed : (b : Branch) (w : Fresh) (u : Universal) → Holds IsClosed (found_term b w u)
unfolding found_term
found-closed b w u = first-holds IsClosed (by_atom b w u) (λ a. Unit {0}) (λ a k. by-atom-closed b w u a) (signed_atoms (own_meta w) u) (each (λ a. Unit {0}) (λ a. tt) (signed_atoms (own_meta w) u))

-- the places are of universals
abbrev Universals : Place → Type 0
Universals p = universal p.formula ≡ Some p.universal

places-universal : (i : ℕ) (b : Branch) → Each Universals (places i b)
places-universal i [] = tt
places-universal i (e ∷ b) = go e.live (places-universal (suc i) b)
  where
    this : (o : Option Universal) → universal e.formula ≡ o → Each Universals (places (suc i) b) → Each Universals (place_before i e.count e.formula o (places (suc i) b))
    this None q h = h
    this (Some u) q h = (q, h)

    go : (x : Bool) → Each Universals (places (suc i) b) → Each Universals (if_so x (place_before i e.count e.formula (universal e.formula) (places (suc i) b)) (places (suc i) b))
    go true h = this (universal e.formula) refl h
    go false h = h

insert-each : (Q : Place → Type 0) (p : Place) (ps : List Place) → Q p → Each Q ps → Each Q (insert p ps)
insert-each Q p [] h k = (h, tt)
insert-each Q p (q ∷ qs) h k = go (nat_le p.count q.count) (insert-each Q p qs h k.1)
  where
    go : (x : Bool) → Each Q (insert p qs) → Each Q (if_so x (p ∷ q ∷ qs) (q ∷ insert p qs))
    go true r = (h, k)
    go false r = (k.0, r)

count-each : (Q : Place → Type 0) (ps : List Place) → Each Q ps → Each Q (by_count ps)
count-each Q [] h = tt
count-each Q (p ∷ ps) h = insert-each Q p (by_count ps) h.0 (count-each Q ps h.1)

-- the result's step is carried
abbrev pub ResultFits : Result → Type 0
ResultFits r = Fits r.step

-- a universal's instance by a closed term is carried
universal-fits : (i n : ℕ) (f t : Tree) (u : Universal) → universal f ≡ Some u → IsClosed t
    → ResultFits (instance_step rule.Instance (record { entry = i; count = n; formula = f; universal = u }) t) × ResultFits (instance_step rule.Spare (record { entry = i; count = n; formula = f; universal = u }) t)
universal-fits i n (all_ p) t u q c = subst (λ v. ResultFits (instance_step rule.Instance (record { entry = i; count = n; formula = all_ p; universal = v }) t) × ResultFits (instance_step rule.Spare (record { entry = i; count = n; formula = all_ p; universal = v }) t)) (inside q)
    ((λ us m d k. all-says d us p t c m.0 k), (λ us m d k. all-says d us p t c m.0 k))
  where
    inside : Some (record { holds = true; body = p }) ≡ Some u → record { holds = true; body = p } ≡ u
    inside q = cc
universal-fits i n (not_ (ex_ p)) t u q c = subst (λ v. ResultFits (instance_step rule.Instance (record { entry = i; count = n; formula = not_ (ex_ p); universal = v }) t) × ResultFits (instance_step rule.Spare (record { entry = i; count = n; formula = not_ (ex_ p); universal = v }) t)) (inside q)
    ((λ us m d k. not-ex-says d us p t c m.0 k), (λ us m d k. not-ex-says d us p t c m.0 k))
  where
    inside : Some (record { holds = false; body = p }) ≡ Some u → record { holds = false; body = p } ≡ u
    inside q = cc
universal-fits i n _ t u q c = absurd (never q)
  where
    never : None ≡ Some u → ⊥
    never q = cc

instance-fits : (p : Place) → Universals p → (o : Option Tree) → Holds IsClosed o → Holds ResultFits (mapped (instance_step rule.Instance p) o)
instance-fits p q None h = tt
instance-fits p q (Some t) h = (universal-fits p.entry p.count p.formula t p.universal q h).0

spare-fits : (p : Place) → Universals p → (o : Option Tree) → Holds IsClosed o → Holds ResultFits (mapped (instance_step rule.Spare p) o)
spare-fits p q None h = tt
spare-fits p q (Some t) h = (universal-fits p.entry p.count p.formula t p.universal q h).1

pub instance-rule-fits : (w : Fresh) (b : Branch) → Holds ResultFits (instance_rule w b)
instance-rule-fits w b =
    first-holds ResultFits (at_place b w) Universals (λ p q. instance-fits p q (found_term b w p.universal) (found-closed b w p.universal)) (by_count (places 0 b)) (count-each Universals (places 0 b) (places-universal 0 b))

pub spare-rule-fits : (w : Fresh) (b : Branch) → Holds ResultFits (spare_rule w b)
spare-rule-fits w b =
    first-holds ResultFits (spare_at b w) Universals
    (λ p q. if-holds ResultFits (nat_eq p.count 0) _ None
    (spare-fits p q (new_term b p.universal (spare_term w)) (if-fine IsClosed (is_new b (instance p.universal (spare_term w))) (spare_term w) tt)) tt) (places 0 b) (places-universal 0 b)
