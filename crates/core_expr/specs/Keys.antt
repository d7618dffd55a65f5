-- Equality and hashes of expressions and canonical forms keep the laws that keys of maps need.
use Rattle.std.proofs.Common.{◌≡◌, true, refl, ap}
use Rattle.std.specs.Bool.{Decides}
use Rattle.std.specs.Cmp.{IsPartialEquivalence, IsEquivalence, decided, partial_equiv_from_equiv}
use Rattle.std.specs.Cmp.Lexicographic.{pointwise}
use Rattle.std.proofs.lemmas.Slice.Eq.{slice_eq-Decides}
use Rattle.std.proofs.lemmas.Bool.{and_parts, and_from}
use Rattle.core_expr.specs.declared.canon.Canon.{Canon}
use Rattle.core_expr.specs.Tree.{Tree}
use Rattle.core_expr.specs.Terms.{same}
use Rattle.core_expr.specs.Equality.{tree_fed, same_canon, canon_fed}
use Rattle.core_expr.specs.Equal.{same-true, true-same}

pub same-Decides : (a b : Tree) → Decides (same a b) (a ≡ b)
same-Decides a b = (same-true a b, true-same a b)

pub tree_equal : IsEquivalence same
tree_equal = decided same same-Decides

pub tree_laws : IsPartialEquivalence same
tree_laws = partial_equiv_from_equiv tree_equal

pub tree_alike : (a b : Tree) → same a b ≡ true → tree_fed a ≡ tree_fed b
tree_alike a b h = ap tree_fed (same-true a b h)

pub canon-Decides : (a b : Canon) → Decides (same_canon a b) (a ≡ b)
canon-Decides a b = (to, from)
  where
    facts : Decides (pointwise same a.facts b.facts) (a.facts ≡ b.facts)
    facts = slice_eq-Decides same-Decides a.facts b.facts (pointwise same a.facts b.facts) refl

    to : same_canon a b ≡ true → a ≡ b
    to h =
        let p = and_parts (pointwise same a.facts b.facts) (same a.goal b.goal) h in
        let e = facts.0 p.0 in
        let f = same-true a.goal b.goal p.1 in
        λ i. record { facts = e i; goal = f i }

    from : a ≡ b → same_canon a b ≡ true
    from e = and_from _ _ (facts.1 (ap (λ (c : Canon). c.facts) e)) (true-same a.goal b.goal (ap (λ (c : Canon). c.goal) e))

pub canon_equal : IsEquivalence same_canon
canon_equal = decided same_canon canon-Decides

pub canon_laws : IsPartialEquivalence same_canon
canon_laws = partial_equiv_from_equiv canon_equal

pub canon_alike : (a b : Canon) → same_canon a b ≡ true → canon_fed a ≡ canon_fed b
canon_alike a b h = ap canon_fed ((canon-Decides a b).0 h)
