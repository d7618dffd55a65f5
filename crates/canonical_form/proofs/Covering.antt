-- The symbols that are gathered cover what they are gathered from.
use Rattle.std.proofs.Common.{◌≡◌, Bool, true, false, ◌||◌, cond, List, [], ◌∷◌, ◌++◌, refl, sym, ap, subst}
use Rattle.core_expr.specs.declared.head.Sym.{Sym}
use Rattle.core_expr.specs.Tree.{Tree, Parts}
use Rattle.core_expr.specs.Tree.Tree.{bound, app, node, bind}
use Rattle.core_expr.specs.Tree.Parts.{end, part}
use Rattle.core_expr.specs.Terms.{same_sym}
use Rattle.core_expr.specs.Equal.{sym-refl}
use Rattle.proof_contexts.specs.Canonical.{is_listed, with_symbol, gathered, all_gathered, each_gathered, symbols_of}
use Rattle.canonical_form.specs.Named.{Covers, CoversParts, CoversAll}

-- whatever is listed in the one is listed in the other
abbrev Within : List Sym → List Sym → Type 0
Within xs ys = (f : Sym) → is_listed xs f ≡ true → is_listed ys f ≡ true

listed-before : (xs ys : List Sym) (f : Sym) → is_listed xs f ≡ true → is_listed (xs ++ ys) f ≡ true
listed-before [] ys f h = cc
listed-before (x ∷ xs) ys f h = go (same_sym x f) (listed-before xs ys f) h
  where
    go : (b : Bool) → (is_listed xs f ≡ true → is_listed (xs ++ ys) f ≡ true) → (b || is_listed xs f) ≡ true → (b || is_listed (xs ++ ys) f) ≡ true
    go true g h = refl
    go false g h = g h

listed-last : (xs : List Sym) (f : Sym) → is_listed (xs ++ f ∷ []) f ≡ true
listed-last [] f = ap (λ b. b || false) (sym-refl f)
listed-last (x ∷ xs) f = go (same_sym x f) (listed-last xs f)
  where
    go : (b : Bool) → is_listed (xs ++ f ∷ []) f ≡ true → (b || is_listed (xs ++ f ∷ []) f) ≡ true
    go true g = refl
    go false g = g

with-more : (g : Sym) (xs : List Sym) → Within xs (with_symbol g xs)
with-more g xs f h = go (is_listed xs g)
  where
    go : (b : Bool) → is_listed (cond b xs (xs ++ g ∷ [])) f ≡ true
    go true = h
    go false = listed-before xs (g ∷ []) f h

with-it : (g : Sym) (xs : List Sym) → is_listed (with_symbol g xs) g ≡ true
with-it g xs = go (is_listed xs g) refl
  where
    go : (b : Bool) → is_listed xs g ≡ b → is_listed (cond b xs (xs ++ g ∷ [])) g ≡ true
    go true e = e
    go false e = listed-last xs g

mutual
  more : (e : Tree) (xs : List Sym) → Within xs (gathered e xs)
  more (bound i) xs f h = h
  more (app g ps) xs f h = more-parts ps (with_symbol g xs) f (with-more g xs f h)
  more (node m ns ps) xs f h = more-parts ps xs f h
  more (bind b ps e) xs f h = more e (all_gathered ps xs) f (more-parts ps xs f h)

  more-parts : (ps : Parts) (xs : List Sym) → Within xs (all_gathered ps xs)
  more-parts end xs f h = h
  more-parts (part e ps) xs f h = more-parts ps (gathered e xs) f (more e xs f h)

mutual
  covers-more : (e : Tree) (xs ys : List Sym) → Within xs ys → Covers xs e → Covers ys e
  covers-more (bound i) xs ys w h = tt
  covers-more (app f ps) xs ys w h = (w f h.0, parts-more ps xs ys w h.1)
  covers-more (node m ns ps) xs ys w h = parts-more ps xs ys w h
  covers-more (bind b ps e) xs ys w h = (parts-more ps xs ys w h.0, covers-more e xs ys w h.1)

  parts-more : (ps : Parts) (xs ys : List Sym) → Within xs ys → CoversParts xs ps → CoversParts ys ps
  parts-more end xs ys w h = tt
  parts-more (part e ps) xs ys w h = (covers-more e xs ys w h.0, parts-more ps xs ys w h.1)

mutual
  covered : (e : Tree) (xs : List Sym) → Covers (gathered e xs) e
  covered (bound i) xs = tt
  covered (app f ps) xs = (more-parts ps (with_symbol f xs) f (with-it f xs), parts-covered ps (with_symbol f xs))
  covered (node m ns ps) xs = parts-covered ps xs
  covered (bind b ps e) xs = (parts-more ps (all_gathered ps xs) (gathered e (all_gathered ps xs)) (more e (all_gathered ps xs)) (parts-covered ps xs), covered e (all_gathered ps xs))

  parts-covered : (ps : Parts) (xs : List Sym) → CoversParts (all_gathered ps xs) ps
  parts-covered end xs = tt
  parts-covered (part e ps) xs =
      (covers-more e (gathered e xs) (all_gathered ps (gathered e xs)) (more-parts ps (gathered e xs)) (covered e xs), parts-covered ps (gathered e xs))

each-more : (es : List Tree) (xs : List Sym) → Within xs (each_gathered es xs)
each-more [] xs f h = h
each-more (e ∷ es) xs f h = each-more es (gathered e xs) f (more e xs f h)

all-more : (es : List Tree) (xs ys : List Sym) → Within xs ys → CoversAll xs es → CoversAll ys es
all-more [] xs ys w h = tt
all-more (e ∷ es) xs ys w h = (covers-more e xs ys w h.0, all-more es xs ys w h.1)

all-covered : (es : List Tree) (xs : List Sym) → CoversAll (each_gathered es xs) es
all-covered [] xs = tt
all-covered (e ∷ es) xs = (covers-more e (gathered e xs) (each_gathered es (gathered e xs)) (each-more es (gathered e xs)) (covered e xs), all-covered es (gathered e xs))

pub facts_covered : (xs : List Sym) (fs : List Tree) (g : Tree) → xs ≡ symbols_of fs g → CoversAll xs fs
facts_covered xs fs g h = subst (λ ys. CoversAll ys fs) (sym h) (all-more fs (each_gathered fs []) (gathered g (each_gathered fs [])) (more g (each_gathered fs [])) (all-covered fs []))

pub goal_covered : (xs : List Sym) (fs : List Tree) (g : Tree) → xs ≡ symbols_of fs g → Covers xs g
goal_covered xs fs g h = subst (λ ys. Covers ys g) (sym h) (covered g (each_gathered fs []))
