-- Nodes of a table as keys of a set.
use Rattle.std.specs.Prelude.{ℕ, Bool, nat_eq, ◌&&◌, List, ◌++◌}
use Rattle.std.specs.Hash.{u64, slice}
use Rattle.std.specs.Bool.{Decides}
use Rattle.std.specs.Cmp.{IsPartialEquivalence, IsEquivalence, decided, partial_equiv_from_equiv}
use Rattle.std.specs.Cmp.Lexicographic.{pointwise}
use Rattle.std.specs.Coded.{Coded}
use Rattle.std.proofs.Common.{◌≡◌, true, refl, ap, eqb-true, eq-eqb}
use Rattle.std.proofs.lemmas.Slice.Eq.{slice_eq-Decides}
use Rattle.std.proofs.lemmas.Bool.{and_parts, and_from}
use Rattle.seq_calculus.specs.declared.lists.ProofNode.{ProofNode}
use Rattle.seq_calculus.specs.contracts.lists.ProofNode.{the_row}

-- nodes are equal where their heads, their numbers and their parts are
abbrev pub same_node : ProofNode → ProofNode → Bool
same_node a b = nat_eq a.head b.head && (pointwise nat_eq a.numbers b.numbers && pointwise nat_eq a.parts b.parts)

-- what a node feeds a hasher
abbrev pub node_fed : ProofNode → List (List ℕ)
node_fed n = u64 n.head ++ (slice u64 n.numbers ++ slice u64 n.parts)

abbrev pub node_code : Coded ProofNode
node_code = the_row.coded

nat-Decides : (a b : ℕ) → Decides (nat_eq a b) (a ≡ b)
nat-Decides a b = (eqb-true a b, eq-eqb a b)

list-Decides : (xs ys : List ℕ) → Decides (pointwise nat_eq xs ys) (xs ≡ ys)
list-Decides xs ys = slice_eq-Decides nat-Decides xs ys (pointwise nat_eq xs ys) refl

-- the test of nodes says equality
pub node-Decides : (a b : ProofNode) → Decides (same_node a b) (a ≡ b)
node-Decides a b = (to, from)
  where
    to : same_node a b ≡ true → a ≡ b
    to h =
        let p = and_parts (nat_eq a.head b.head) (pointwise nat_eq a.numbers b.numbers && pointwise nat_eq a.parts b.parts) h in
        let q = and_parts (pointwise nat_eq a.numbers b.numbers) (pointwise nat_eq a.parts b.parts) p.1 in
        let e = (nat-Decides a.head b.head).0 p.0 in
        let f = (list-Decides a.numbers b.numbers).0 q.0 in
        let g = (list-Decides a.parts b.parts).0 q.1 in
        λ i. record { head = e i; numbers = f i; parts = g i }

    from : a ≡ b → same_node a b ≡ true
    from e =
        and_from _ _ ((nat-Decides a.head b.head).1 (ap (λ (n : ProofNode). n.head) e))
        (and_from _ _ ((list-Decides a.numbers b.numbers).1 (ap (λ (n : ProofNode). n.numbers) e)) ((list-Decides a.parts b.parts).1 (ap (λ (n : ProofNode). n.parts) e)))

pub node_equal : IsEquivalence same_node
node_equal = decided same_node node-Decides

pub node_laws : IsPartialEquivalence same_node
node_laws = partial_equiv_from_equiv node_equal

pub node_alike : (a b : ProofNode) → same_node a b ≡ true → node_fed a ≡ node_fed b
node_alike a b h = ap node_fed ((node-Decides a b).0 h)
