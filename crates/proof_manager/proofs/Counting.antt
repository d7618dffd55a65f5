-- The symbols of a canonical form have numbers below the count of its symbols.
use Rattle.std.specs.Prelude.{ℕ, suc, ◌<◌, ◌≤◌, max, List, [], ◌∷◌, map}
use Rattle.std.proofs.Common.{refl, arith, le_trans}
use Rattle.core_expr.specs.declared.head.Sym.{Sym}
use Rattle.core_expr.specs.Tree.{Tree, Parts, not_, and_, or_, imp_, iff_}
use Rattle.core_expr.specs.Tree.Tree.{bound, app, node, bind}
use Rattle.core_expr.specs.Tree.Parts.{end, part}
use Rattle.proof_contexts.specs.Canonical.{place_of, numbered, distinct, symbols_of, canon_of}
use Rattle.propositional_laws.specs.Formulas.{above, all_above, each_above, IsNumbered, AreNumbered, HasNumbers}

mutual
  grows : (t : Tree) (k : ℕ) → k ≤ above t k
  grows (bound i) k = omega arith
  grows (app f ps) k = let h : k ≤ max k (suc f.number) = omega arith in le_trans h (all-grow ps (max k (suc f.number)))
  grows (node h ns ps) k = all-grow ps k
  grows (bind b ps e) k = le_trans (all-grow ps k) (grows e (all_above ps k))

  all-grow : (ps : Parts) (k : ℕ) → k ≤ all_above ps k
  all-grow end k = omega arith
  all-grow (part e ps) k = le_trans (grows e k) (all-grow ps (above e k))

each-grow : (es : List Tree) (k : ℕ) → k ≤ each_above es k
each-grow [] k = omega arith
each-grow (e ∷ es) k = le_trans (grows e k) (each-grow es (above e k))

below : (n : ℕ) (xs : List Sym) (t : Tree) (k : ℕ) → above (numbered xs t) k ≤ n → IsNumbered n (numbered xs t)
below n xs (app f end) k h = let l : place_of xs f < n = omega arith in (refl, l)
below n xs (not_ a) k h = below n xs a k h
below n xs (and_ a b) k h = (below n xs a k (le_trans (grows (numbered xs b) (above (numbered xs a) k)) h), below n xs b (above (numbered xs a) k) h)
below n xs (or_ a b) k h = (below n xs a k (le_trans (grows (numbered xs b) (above (numbered xs a) k)) h), below n xs b (above (numbered xs a) k) h)
below n xs (imp_ a b) k h = (below n xs a k (le_trans (grows (numbered xs b) (above (numbered xs a) k)) h), below n xs b (above (numbered xs a) k) h)
below n xs (iff_ a b) k h = (below n xs a k (le_trans (grows (numbered xs b) (above (numbered xs a) k)) h), below n xs b (above (numbered xs a) k) h)
below n xs _ k h = tt

each-below : (n : ℕ) (xs : List Sym) (es : List Tree) (k : ℕ) → each_above (map (numbered xs) es) k ≤ n → AreNumbered n (map (numbered xs) es)
each-below n xs [] k h = tt
each-below n xs (e ∷ es) k h =
    (below n xs e k (le_trans (each-grow (map (numbered xs) es) (above (numbered xs e) k)) h), each-below n xs es (above (numbered xs e) k) h)

pub forms_are_numbered : (fs : List Tree) (g : Tree) → HasNumbers (canon_of fs g)
forms_are_numbered fs g =
    let xs = symbols_of (distinct [] fs) g in
    let es = map (numbered xs) (distinct [] fs) in
    let n = above (numbered xs g) (each_above es 0) in
    let l : n ≤ n = omega arith in
    (each-below n xs (distinct [] fs) 0 (grows (numbered xs g) (each_above es 0)), below n xs g (each_above es 0) l)
