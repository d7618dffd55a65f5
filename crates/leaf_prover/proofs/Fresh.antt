-- The symbols that are gathered are those of the search, the latest first.
use Rattle.std.specs.Prelude.{◌≡◌, ℕ, suc, Bool, true, false, ◌||◌, cond, List, [], ◌∷◌, ◌++◌, reverse}
use Rattle.std.proofs.Common.{refl, ap, sym, ◌∙◌, arith, length, ◌+◌}
use Rattle.std.proofs.lemmas.List.{length-reverse, reverse-append}
use Rattle.core_expr.specs.declared.head.Sym.{Sym}
use Rattle.core_expr.specs.Tree.{Tree, Parts}
use Rattle.core_expr.specs.Tree.Tree.{bound, app, node, bind}
use Rattle.core_expr.specs.Tree.Parts.{end, part}
use Rattle.core_expr.specs.Terms.{same_sym}
use Rattle.proof_contexts.specs.Canonical.{is_listed, with_symbol, gathered, all_gathered, each_gathered}
use Rattle.unifier_definition.specs.Metas.{listed}
use Rattle.propositional_laws.specs.Formulas.{above as most, each_above}
use Rattle.search_definition.specs.Terms.{if_so}
use Rattle.search_definition.specs.Instances.{Fresh}
use Rattle.leaf_prover.proofs.CountLaws.{count_is}
use Rattle.search_definition.specs.Search.{symbols_before, all_symbols_before, symbols_of, above, larger, fresh, fresh_by}

listed-over : (xs ys : List Sym) (f : Sym) → listed (xs ++ ys) f ≡ (listed xs f || listed ys f)
listed-over [] ys f = refl
listed-over (x ∷ xs) ys f = go (same_sym x f) (listed-over xs ys f)
  where
    go : (b : Bool) → listed (xs ++ ys) f ≡ (listed xs f || listed ys f) → elim b [ true ↦ true | false ↦ listed (xs ++ ys) f ] ≡ (elim b [ true ↦ true | false ↦ listed xs f ] || listed ys f)
    go true e = refl
    go false e = e

or-false : (b : Bool) → (b || false) ≡ b
or-false true = refl
or-false false = refl

or-swap : (a b : Bool) → (a || b) ≡ (b || a)
or-swap true true = refl
or-swap true false = refl
or-swap false b = sym (or-false b)

listed-back : (xs : List Sym) (f : Sym) → listed (reverse xs) f ≡ is_listed xs f
listed-back [] f = refl
listed-back (x ∷ xs) f =
    ap (λ l. listed l f) (reverse-append (x ∷ []) xs)
    ∙ listed-over (reverse xs) (x ∷ []) f ∙ (λ i. listed-back xs f i || one (same_sym x f) i) ∙ or-swap (is_listed xs f) (same_sym x f)
  where
    one : (b : Bool) → elim b [ true ↦ true | false ↦ false ] ≡ b
    one true = refl
    one false = refl

with-back : (f : Sym) (xs : List Sym) → if_so (listed (reverse xs) f) (reverse xs) (f ∷ reverse xs) ≡ reverse (with_symbol f xs)
with-back f xs = ap (λ b. if_so b (reverse xs) (f ∷ reverse xs)) (listed-back xs f) ∙ go (is_listed xs f)
  where
    go : (b : Bool) → if_so b (reverse xs) (f ∷ reverse xs) ≡ reverse (cond b xs (xs ++ f ∷ []))
    go true = refl
    go false = sym (reverse-append xs (f ∷ []))

mutual
  before-back : (e : Tree) (xs : List Sym) → symbols_before e (reverse xs) ≡ reverse (gathered e xs)
  before-back (bound i) xs = refl
  before-back (app f ps) xs = ap (all_symbols_before ps) (with-back f xs) ∙ all-back ps (with_symbol f xs)
  before-back (node h ns ps) xs = all-back ps xs
  before-back (bind b ps e) xs = ap (symbols_before e) (all-back ps xs) ∙ before-back e (all_gathered ps xs)

  all-back : (ps : Parts) (xs : List Sym) → all_symbols_before ps (reverse xs) ≡ reverse (all_gathered ps xs)
  all-back end xs = refl
  all-back (part e ps) xs = ap (all_symbols_before ps) (before-back e xs) ∙ all-back ps (gathered e xs)

each-back : (es : List Tree) (xs : List Sym) → symbols_of es (reverse xs) ≡ reverse (each_gathered es xs)
each-back [] xs = refl
each-back (e ∷ es) xs = ap (symbols_of es) (before-back e xs) ∙ each-back es (gathered e xs)

pub gathered_back : (facts : List Tree) (goal : Tree) → symbols_of (goal ∷ facts) [] ≡ reverse (each_gathered facts (gathered goal []))
gathered_back facts goal = each-back (goal ∷ facts) []

-- the number above all of them
pub above_is : (facts : List Tree) (goal : Tree) (keys : List Sym) (up : ℕ) → keys ≡ each_gathered facts (gathered goal []) → up ≡ above (reverse keys) → up ≡ most goal (each_above facts 0)
above_is facts goal keys up is e = e ∙ ap above (sym (gathered_back facts goal ∙ ap reverse (sym is))) ∙ count_is facts goal

-- so the symbols that are unused are those of the search
pub unused_is : (facts : List Tree) (goal : Tree) (keys : List Sym) (spare metas up : ℕ) → keys ≡ each_gathered facts (gathered goal []) → spare ≡ length keys → up ≡ above (reverse keys) → metas ≡ larger (spare + 1) up
    → ◌≡◌ {A = Fresh} (record { spare = spare; metas = metas }) (fresh facts goal)
unused_is facts goal keys spare metas up is count most more =
    let all : symbols_of (goal ∷ facts) [] ≡ reverse keys = gathered_back facts goal ∙ ap reverse (sym is) in
    let long : spare ≡ length (reverse keys) = count ∙ sym (length-reverse keys) in
    let next : spare + 1 ≡ suc (length (reverse keys)) = omega arith in
    (λ i. record { spare = long i; metas = (more ∙ (λ j. larger (next j) (most j))) i }) ∙ sym (ap fresh_by all)
