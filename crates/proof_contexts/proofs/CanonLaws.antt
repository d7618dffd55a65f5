-- The numbering of a canonical form is undone by a map from symbols.
use Rattle.std.specs.Prelude.{◌≡◌, ℕ, zero, suc, ◌-◌, ◌<◌, ◌≤◌, Bool, true, false, ◌||◌, cond, nat_lt, nat_eq, Option, Some, None, List, [], ◌∷◌, ◌++◌, map}
use Rattle.std.proofs.Common.{refl, ap, sym, ◌∙◌, arith, subst, inl}
use Rattle.std.proofs.lemmas.Bool.Decides.{nat_tests}
use Rattle.core_expr.specs.declared.head.Sym.{Sym}
use Rattle.core_expr.specs.Tree.{Tree, Parts, size}
use Rattle.core_expr.specs.Tree.Tree.{bound, app, node, bind}
use Rattle.core_expr.specs.Tree.Parts.{end, part}
use Rattle.core_expr.specs.Put.{shift, argument, put, puts, apply_body, sub, subs}
use Rattle.core_expr.specs.Nodes.{canon_sym}
use Rattle.core_expr.specs.Terms.{same_sym}
use Rattle.core_expr.proofs.Equal.{sym-same, sym-refl}
use Rattle.seq_calculus.specs.Calculus.{HasAll}
use Rattle.proof_contexts.specs.Canonical.{is_listed, with_symbol, gathered, all_gathered, each_gathered, place_of, numbered, all_numbered, has_equal, distinct, symbols_of, canon_of}
use Rattle.proof_contexts.proofs.Rules.{HasAll-cons}
use Rattle.proof_contexts.proofs.Putting.{shift_nothing}

abbrev symbol_at : List Sym → ℕ → Option Sym
symbol_at [] i = None
symbol_at (x ∷ xs) zero = Some x
symbol_at (x ∷ xs) (suc i) = symbol_at xs i

-- the loose variables of a body with n parameters, in order
abbrev variables : ℕ → Parts
variables zero = end
variables (suc n) = part (bound n) (variables n)

abbrev applied : Option Sym → ℕ → Option Tree
applied None n = None
applied (Some f) n = Some (app f (variables n))

-- what each number stands for
abbrev back : List Sym → Sym → Option Tree
back xs g = applied (symbol_at xs g.number) g.arity

argument_here : (e : Tree) (ps : Parts) → put 0 (part e ps) (bound (size ps)) ≡ e
argument_here e ps = go (size ps) (argument ps (size ps - 0)) ∙ shift_nothing 0 e
  where
    go : (n : ℕ) (x : Tree) → cond (nat_lt n 0) (bound n) (shift 0 0 (cond (nat_eq (n - 0) n) e x)) ≡ shift 0 0 e
    go n x = grind (arith, nat_tests)

argument_past : (e : Tree) (ps : Parts) (j : ℕ) → j < size ps → put 0 (part e ps) (bound j) ≡ put 0 ps (bound j)
argument_past e ps j h = go (size ps) (argument ps (j - 0)) h
  where
    go : (n : ℕ) (x : Tree) → j < n → cond (nat_lt j 0) (bound j) (shift 0 0 (cond (nat_eq (j - 0) n) e x)) ≡ cond (nat_lt j 0) (bound j) (shift 0 0 x)
    go n x h = grind (arith, nat_tests)

variables_past : (e : Tree) (ps : Parts) (k : ℕ) → k ≤ size ps → puts 0 (part e ps) (variables k) ≡ puts 0 ps (variables k)
variables_past e ps zero h = refl
variables_past e ps (suc k) h = λ i. part (argument_past e ps k (omega arith) i) (variables_past e ps k (omega arith) i)

put_variables : (ps : Parts) → puts 0 ps (variables (size ps)) ≡ ps
put_variables end = refl
put_variables (part e ps) = λ i. part (argument_here e ps i) ((variables_past e ps (size ps) (omega arith) ∙ put_variables ps) i)

-- f has its number
abbrev IsFound : List Sym → Sym → Type 0
IsFound xs f = symbol_at xs (place_of xs f) ≡ Some f

found_first : (x f : Sym) (xs : List Sym) (b : Bool) → same_sym x f ≡ b → (b ≡ false → IsFound xs f) → symbol_at (x ∷ xs) (cond b 0 (suc (place_of xs f))) ≡ Some f
found_first x f xs true e h = ap Some (sym-same x f e)
found_first x f xs false e h = h refl

unfound : (x f : Sym) (xs : List Sym) → same_sym x f ≡ false → IsFound (x ∷ xs) f → IsFound xs f
unfound x f xs e h = subst (λ (b : Bool). symbol_at (x ∷ xs) (cond b 0 (suc (place_of xs f))) ≡ Some f) e h

found_more : (xs : List Sym) (y f : Sym) → IsFound xs f → IsFound (xs ++ y ∷ []) f
found_more [] y f h = differ h
  where
    differ : None ≡ Some f → IsFound (y ∷ []) f
    differ h = cc
found_more (x ∷ xs) y f h = found_first x f (xs ++ y ∷ []) (same_sym x f) refl (λ e. found_more xs y f (unfound x f xs e h))

found_last : (xs : List Sym) (f : Sym) → same_sym f f ≡ true → IsFound (xs ++ f ∷ []) f
found_last [] f e = ap (λ (b : Bool). symbol_at (f ∷ []) (cond b 0 1)) e
found_last (x ∷ xs) f e = found_first x f (xs ++ f ∷ []) (same_sym x f) refl (λ _. found_last xs f e)

found_named : (xs : List Sym) (f : Sym) → is_listed xs f ≡ true → IsFound xs f
found_named [] f h = differ h
  where
    differ : false ≡ true → IsFound [] f
    differ h = cc
found_named (x ∷ xs) f h = found_first x f xs (same_sym x f) refl (λ e. found_named xs f (second (same_sym x f) (is_listed xs f) e h))
  where
    second : (a b : Bool) → a ≡ false → a || b ≡ true → b ≡ true
    second a b e h = cc

-- each symbol has its number
abbrev mutual
  AreFound : List Sym → Tree → Type 0
  AreFound xs (bound i) = Unit {0}
  AreFound xs (app f ps) = IsFound xs f × AllFound xs ps
  AreFound xs (node h ns ps) = AllFound xs ps
  AreFound xs (bind b ps e) = AllFound xs ps × AreFound xs e

  AllFound : List Sym → Parts → Type 0
  AllFound xs end = Unit {0}
  AllFound xs (part e ps) = AreFound xs e × AllFound xs ps

mutual
  numbered-back : (xs : List Sym) (e : Tree) → AreFound xs e → sub (back xs) (numbered xs e) ≡ e
  numbered-back xs (bound i) h = refl
  numbered-back xs (app f ps) h =
      let q : subs (back xs) (all_numbered xs ps) ≡ ps = all_numbered-back xs ps h.1 in
      ap (λ (o : Option Sym). apply_body (applied o (size ps)) (canon_sym (place_of xs f) (size ps)) (subs (back xs) (all_numbered xs ps))) h.0
      ∙ ap (λ (qs : Parts). app f (puts 0 qs (variables (size ps)))) q
      ∙ ap (app f) (put_variables ps)
  numbered-back xs (node k ns ps) h = ap (node k ns) (all_numbered-back xs ps h)
  numbered-back xs (bind b ps e) h = λ i. bind b (all_numbered-back xs ps h.0 i) (numbered-back xs e h.1 i)

  all_numbered-back : (xs : List Sym) (ps : Parts) → AllFound xs ps → subs (back xs) (all_numbered xs ps) ≡ ps
  all_numbered-back xs end h = refl
  all_numbered-back xs (part e ps) h = λ i. part (numbered-back xs e h.0 i) (all_numbered-back xs ps h.1 i)

-- what has a number keeps it
abbrev Grows : List Sym → List Sym → Type 0
Grows xs ys = (f : Sym) → IsFound xs f → IsFound ys f

with_symbol-grows : (g : Sym) (xs : List Sym) → Grows xs (with_symbol g xs)
with_symbol-grows g xs f h = go (is_listed xs g)
  where
    go : (b : Bool) → IsFound (cond b xs (xs ++ g ∷ [])) f
    go true = h
    go false = found_more xs g f h

with_symbol-found : (g : Sym) (xs : List Sym) → IsFound (with_symbol g xs) g
with_symbol-found g xs = go (is_listed xs g) refl
  where
    go : (b : Bool) → is_listed xs g ≡ b → IsFound (cond b xs (xs ++ g ∷ [])) g
    go true e = found_named xs g e
    go false e = found_last xs g (sym-refl g)

mutual
  grows : (e : Tree) (xs : List Sym) → Grows xs (gathered e xs)
  grows (bound i) xs f h = h
  grows (app g ps) xs f h = all-grows ps (with_symbol g xs) f (with_symbol-grows g xs f h)
  grows (node k ns ps) xs f h = all-grows ps xs f h
  grows (bind b ps e) xs f h = grows e (all_gathered ps xs) f (all-grows ps xs f h)

  all-grows : (ps : Parts) (xs : List Sym) → Grows xs (all_gathered ps xs)
  all-grows end xs f h = h
  all-grows (part e ps) xs f h = all-grows ps (gathered e xs) f (grows e xs f h)

mutual
  AreFound-more : (xs ys : List Sym) (e : Tree) → Grows xs ys → AreFound xs e → AreFound ys e
  AreFound-more xs ys (bound i) g h = tt
  AreFound-more xs ys (app f ps) g h = (g f h.0, AllFound-more xs ys ps g h.1)
  AreFound-more xs ys (node k ns ps) g h = AllFound-more xs ys ps g h
  AreFound-more xs ys (bind b ps e) g h = (AllFound-more xs ys ps g h.0, AreFound-more xs ys e g h.1)

  AllFound-more : (xs ys : List Sym) (ps : Parts) → Grows xs ys → AllFound xs ps → AllFound ys ps
  AllFound-more xs ys end g h = tt
  AllFound-more xs ys (part e ps) g h = (AreFound-more xs ys e g h.0, AllFound-more xs ys ps g h.1)

mutual
  gathered-found : (e : Tree) (xs : List Sym) → AreFound (gathered e xs) e
  gathered-found (bound i) xs = tt
  gathered-found (app f ps) xs = (all-grows ps (with_symbol f xs) f (with_symbol-found f xs), all_gathered-found ps (with_symbol f xs))
  gathered-found (node k ns ps) xs = all_gathered-found ps xs
  gathered-found (bind b ps e) xs = (AllFound-more (all_gathered ps xs) (gathered e (all_gathered ps xs)) ps (grows e (all_gathered ps xs)) (all_gathered-found ps xs), gathered-found e (all_gathered ps xs))

  all_gathered-found : (ps : Parts) (xs : List Sym) → AllFound (all_gathered ps xs) ps
  all_gathered-found end xs = tt
  all_gathered-found (part e ps) xs = (AreFound-more (gathered e xs) (all_gathered ps (gathered e xs)) e (all-grows ps (gathered e xs)) (gathered-found e xs), all_gathered-found ps (gathered e xs))

each-grows : (es : List Tree) (xs : List Sym) → Grows xs (each_gathered es xs)
each-grows [] xs f h = h
each-grows (e ∷ es) xs f h = each-grows es (gathered e xs) f (grows e xs f h)

-- every formula of the list
abbrev EachFound : List Sym → List Tree → Type 0
EachFound xs [] = Unit {0}
EachFound xs (e ∷ es) = AreFound xs e × EachFound xs es

EachFound-more : (xs ys : List Sym) (es : List Tree) → Grows xs ys → EachFound xs es → EachFound ys es
EachFound-more xs ys [] g h = tt
EachFound-more xs ys (e ∷ es) g h = (AreFound-more xs ys e g h.0, EachFound-more xs ys es g h.1)

each-found : (es : List Tree) (xs : List Sym) → EachFound (each_gathered es xs) es
each-found [] xs = tt
each-found (e ∷ es) xs = (AreFound-more (gathered e xs) (each_gathered es (gathered e xs)) e (each-grows es (gathered e xs)) (gathered-found e xs), each-found es (gathered e xs))

HasAll-distinct : (seen fs : List Tree) → HasAll fs (distinct seen fs)
HasAll-distinct seen [] = tt
HasAll-distinct seen (f ∷ fs) = go (has_equal seen f)
    (HasAll-cons f fs (distinct seen fs) (HasAll-distinct seen fs)) (HasAll-cons f fs (distinct (f ∷ seen) fs) (HasAll-distinct (f ∷ seen) fs))
  where
    go : (b : Bool) → HasAll (f ∷ fs) (distinct seen fs) → HasAll (f ∷ fs) (distinct (f ∷ seen) fs) → HasAll (f ∷ fs) (cond b (distinct seen fs) (f ∷ distinct (f ∷ seen) fs))
    go true p q = p
    go false p q = (inl refl, q)

map-back : (xs : List Sym) (es : List Tree) → EachFound xs es → map (sub (back xs)) (map (numbered xs) es) ≡ es
map-back xs [] h = refl
map-back xs (e ∷ es) h = λ i. numbered-back xs e h.0 i ∷ map-back xs es h.1 i

-- the obligation is had back from its Canon
pub canon_back : (fs : List Tree) (g : Tree) → (names : Sym → Option Tree) × HasAll fs (map (sub names) (canon_of fs g).facts) × (sub names (canon_of fs g).goal ≡ g)
canon_back fs g =
    let ds : List Tree = distinct [] fs in
    let xs : List Sym = symbols_of ds g in (
      back xs,
      subst (HasAll fs) (sym (map-back xs ds (EachFound-more (each_gathered ds []) xs ds (grows g (each_gathered ds [])) (each-found ds [])))) (HasAll-distinct [] fs),
      numbered-back xs g (gathered-found g (each_gathered ds [])),
    )
