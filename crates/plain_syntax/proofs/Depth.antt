-- No operand is deeper than its operator.
use Rattle.std.proofs.Common.{◌≡◌, ◌≤◌, ◌++◌, ℕ, zero, suc, Bool, true, false, if◌then◌else◌, List, [], ◌∷◌, map, reverse, All, subst, sym, ap, ◌∙◌, arith}
use Rattle.std.specs.Borrow.{Bor}
use Rattle.std.proofs.lemmas.List.{map-append, reverse-append}
use denote.Param.Weighed.{most}
use Rattle.tla_ast.specs.declared.tree.Node.{Node, out-Node, size-Node, size_is-Node}
use Rattle.plain_syntax.specs.Order.{joins, operands}

-- the nodes are no deeper than this
abbrev pub Within : ℕ → List (Bor Node) → Type 0
Within k ns = most size-Node (map (λ n. n.now) ns) ≤ k

both : (k : ℕ) (xs ys : List Node) → most size-Node xs ≤ k → most size-Node ys ≤ k → most size-Node (xs ++ ys) ≤ k
both k [] ys a b = b
both k (x ∷ xs) ys a b = let c = both k xs ys (omega arith) b in omega arith

parted : (k : ℕ) (xs ys : List Node) → most size-Node (xs ++ ys) ≤ k → (most size-Node xs ≤ k) × (most size-Node ys ≤ k)
parted k [] ys a = (omega arith, a)
parted k (x ∷ xs) ys a = let c = parted k xs ys (omega arith) in (let d = c.0 in omega arith, c.1)

chosen : (k : ℕ) (b : Bool) (ns : List Node) → most size-Node ns ≤ k → most size-Node (if b then ns else []) ≤ k
chosen k true ns h = h
chosen k false ns h = omega arith

-- an operator that is taken from a stack, and its operands in its place
pub within-step : (k : ℕ) (stack rest next : List (Bor Node)) (n : Bor Node) → Within k stack → stack ≡ rest ++ n ∷ [] → map (λ m. m.now) next ≡ map (λ m. m.now) rest ++ operands n.now
    → (size-Node n.now ≤ k) × Within k next
within-step k stack rest next n h e f =
    let p = parted k (map (λ m. m.now) rest) (n.now ∷ []) (subst (λ l. most size-Node l ≤ k) (ap (map (λ m. m.now)) e ∙ map-append (λ m. m.now) rest (n ∷ [])) h) in
    let a : size-Node n.now ≤ k = let b = p.1 in omega arith in
    let c = size_is-Node n.now in
    (a, subst (λ l. most size-Node l ≤ k) (sym f) (both k (map (λ m. m.now) rest) (operands n.now) (p.0) (chosen k (joins (out-Node n.now).form) (out-Node n.now).parts (omega arith))))

pub within-more : (k : ℕ) (found more : List (Bor Node)) (n : Bor Node) → Within k found → size-Node n.now ≤ k → more ≡ found ++ n ∷ [] → Within k more
within-more k found more n h s e =
    subst (λ l. most size-Node l ≤ k) (sym (ap (map (λ m. m.now)) e ∙ map-append (λ m. m.now) found (n ∷ []))) (both k (map (λ m. m.now) found) (n.now ∷ []) h (omega arith))

backwards : (k : ℕ) (ns : List (Bor Node)) → Within k ns → Within k (reverse ns)
backwards k [] h = h
backwards k (n ∷ ns) h = within-more k (reverse ns) (reverse (n ∷ ns)) n (backwards k ns (omega arith)) (omega arith) (reverse-append (n ∷ []) ns)

each-within : (k : ℕ) (ns : List (Bor Node)) → Within k ns → All (λ n. size-Node n.now ≤ k) ns
each-within k [] h i d l = absurd (omega arith)
each-within k (n ∷ ns) h zero d l = omega arith
each-within k (n ∷ ns) h (suc i) d l = each-within k ns (omega arith) i d (omega arith)

pub all-within : (k : ℕ) (found ns : List (Bor Node)) → Within k found → ns ≡ reverse found → All (λ n. size-Node n.now ≤ k) ns
all-within k found ns h e = each-within k ns (subst (Within k) (sym e) (backwards k found h))
