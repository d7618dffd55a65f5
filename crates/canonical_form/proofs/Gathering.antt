-- The steps of the walk that gathers symbols.
use Rattle.std.proofs.Common.{◌≡◌, ℕ, zero, suc, ◌+◌, ◌-◌, ◌<◌, List, [], ◌∷◌, ◌++◌, map, drop, length, slice_index_or, refl, sym, ap, ◌∙◌, arith}
use Rattle.std.proofs.lemmas.List.{reverse-append}
use Rattle.core_expr.specs.declared.head.Sym.{Sym}
use Rattle.core_expr.specs.Tree.{Tree, Parts, true_}
use Rattle.core_expr.specs.Tree.Tree.{bound, app, node, bind}
use Rattle.core_expr.specs.Tree.Parts.{end, part}
use Rattle.core_expr.specs.Heads.{subtrees, list_of}
use Rattle.core_expr.specs.Flat.{rows_of}
use Rattle.core_expr.specs.Places.{subtree, kind_of}
use Rattle.proof_contexts.specs.Canonical.{with_symbol, gathered, all_gathered, each_gathered}
use Rattle.canonical_form.specs.Gathering.{met, waiting, AreNodes}

-- a place put last is the next
pub waiting-last : (t : Tree) (places : List ℕ) (i : ℕ) → waiting t (places ++ i ∷ []) ≡ subtree t i ∷ waiting t places
waiting-last t places i = ap (map (subtree t)) (reverse-append places (i ∷ []))

pub nodes-last : (t : Tree) (places : List ℕ) (i : ℕ) → AreNodes t places → i < length (rows_of t) → AreNodes t (places ++ i ∷ [])
nodes-last t [] i h l = (l, tt)
nodes-last t (j ∷ places) i h l = (h.0, nodes-last t places i h.1 l)

pub last-node : (t : Tree) (places : List ℕ) (i : ℕ) → AreNodes t (places ++ i ∷ []) → (i < length (rows_of t)) × AreNodes t places
last-node t [] i h = (h.0, tt)
last-node t (j ∷ places) i h = let r = last-node t places i h.1 in (r.0, (h.0, r.1))

each-append : (ts us : List Tree) (xs : List Sym) → each_gathered (ts ++ us) xs ≡ each_gathered us (each_gathered ts xs)
each-append [] us xs = refl
each-append (t ∷ ts) us xs = each-append ts us (gathered t xs)

of-parts : (ps : Parts) (xs : List Sym) → each_gathered (list_of ps) xs ≡ all_gathered ps xs
of-parts end xs = refl
of-parts (part e ps) xs = of-parts ps (gathered e xs)

-- the root of a tree first, and then its parts
of-root : (t : Tree) (xs : List Sym) → gathered t xs ≡ each_gathered (subtrees t) (met (kind_of t) xs)
of-root (bound i) xs = refl
of-root (app f ps) xs = sym (of-parts ps (with_symbol f xs))
of-root (node h ns ps) xs = sym (of-parts ps xs)
of-root (bind b ps e) xs = ap (gathered e) (sym (of-parts ps xs)) ∙ sym (each-append (list_of ps) (e ∷ []) xs)

-- the next place, once its node is met and its parts wait
pub next_gathered : (t : Tree) (before after : List ℕ) (i : ℕ) (xs : List Sym) → waiting t after ≡ subtrees (subtree t i) ++ waiting t before
    → each_gathered (waiting t (before ++ i ∷ [])) xs ≡ each_gathered (waiting t after) (met (kind_of (subtree t i)) xs)
next_gathered t before after i xs h =
    ap (λ ts. each_gathered ts xs) (waiting-last t before i) ∙ ap (each_gathered (waiting t before)) (of-root (subtree t i) xs)
    ∙ sym (ap (λ ts. each_gathered ts (met (kind_of (subtree t i)) xs)) h ∙ each-append (subtrees (subtree t i)) (waiting t before) (met (kind_of (subtree t i)) xs))

first-of : (ts : List Tree) (k : ℕ) → k < length ts → drop k ts ≡ slice_index_or ts k true_ ∷ drop (suc k) ts
first-of [] k h = absurd (omega arith)
first-of (t ∷ ts) zero h = refl
first-of (t ∷ ts) (suc k) h = first-of ts k (omega arith)

-- one more part waits, before those behind it
pub part-waits : (t x : Tree) (i k m : ℕ) (before new more : List ℕ) → m ≡ suc k → k < length (subtrees x) → subtree t i ≡ slice_index_or (subtrees x) k true_ → more ≡ new ++ i ∷ []
    → waiting t new ≡ drop m (subtrees x) ++ waiting t before → waiting t more ≡ drop k (subtrees x) ++ waiting t before
part-waits t x i k m before new more q l s p h =
    ap (waiting t) p ∙ waiting-last t new i ∙ (λ j. s j ∷ h j) ∙ (λ j. slice_index_or (subtrees x) k true_ ∷ (drop (q j) (subtrees x) ++ waiting t before))
    ∙ ap (λ us. us ++ waiting t before) (sym (first-of (subtrees x) k l))
