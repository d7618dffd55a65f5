-- How many symbols a form has, by the symbols that are gathered.
use Rattle.std.specs.Prelude.{◌≡◌, ℕ, suc, ◌≤◌, Bool, true, false, nat_le, max, List, [], ◌∷◌}
use Rattle.std.proofs.Common.{refl, ap, sym, ◌∙◌, arith}
use Rattle.std.proofs.lemmas.Bool.Decides.{nat_tests}
use Rattle.core_expr.specs.declared.head.Sym.{Sym}
use Rattle.core_expr.specs.Tree.{Tree, Parts}
use Rattle.core_expr.specs.Tree.Tree.{bound, app, node, bind}
use Rattle.core_expr.specs.Tree.Parts.{end, part}
use Rattle.core_expr.specs.Terms.{same_sym}
use Rattle.core_expr.specs.Equal.{sym-same}
use Rattle.unifier_definition.specs.Metas.{listed}
use Rattle.search_definition.specs.Terms.{if_so}
use Rattle.search_definition.specs.Search.{symbols_before, all_symbols_before, symbols_of, above, larger}
use Rattle.propositional_laws.specs.Formulas.{above as most, all_above, each_above}

larger-max : (m n : ℕ) → larger m n ≡ max m n
larger-max m n = go (nat_le m n) refl
  where
    go : (b : Bool) → nat_le m n ≡ b → if_so b n m ≡ max m n
    go true e = grind (arith, nat_tests)
    go false e = grind (arith, nat_tests)

-- a symbol that is listed has a number below the first above all
listed-below : (l : List Sym) (f : Sym) → listed l f ≡ true → suc f.number ≤ above l
listed-below [] f h = cc
listed-below (g ∷ l) f h = go (same_sym g f) refl h (listed-below l f)
  where
    go : (b : Bool) → same_sym g f ≡ b → elim b [ true ↦ true | false ↦ listed l f ] ≡ true → (listed l f ≡ true → suc f.number ≤ above l) → suc f.number ≤ larger (suc g.number) (above l)
    go true e h k = let s : g.number ≡ f.number = ap (λ s. s.number) (sym-same g f e) in let m = larger-max (suc g.number) (above l) in omega arith
    go false e h k = let s = k h in let m = larger-max (suc g.number) (above l) in omega arith

-- one more symbol
with-one : (l : List Sym) (f : Sym) → above (if_so (listed l f) l (f ∷ l)) ≡ max (above l) (suc f.number)
with-one l f = go (listed l f) refl
  where
    go : (b : Bool) → listed l f ≡ b → above (if_so b l (f ∷ l)) ≡ max (above l) (suc f.number)
    go true e = let s = listed-below l f e in omega arith
    go false e = let m = larger-max (suc f.number) (above l) in omega arith

mutual
  before-most : (e : Tree) (l : List Sym) → above (symbols_before e l) ≡ most e (above l)
  before-most (bound i) l = refl
  before-most (app f ps) l = all-most ps (if_so (listed l f) l (f ∷ l)) ∙ ap (all_above ps) (with-one l f)
  before-most (node h ns ps) l = all-most ps l
  before-most (bind b ps e) l = before-most e (all_symbols_before ps l) ∙ ap (most e) (all-most ps l)

  all-most : (ps : Parts) (l : List Sym) → above (all_symbols_before ps l) ≡ all_above ps (above l)
  all-most end l = refl
  all-most (part e ps) l = all-most ps (symbols_before e l) ∙ ap (all_above ps) (before-most e l)

each-most : (es : List Tree) (l : List Sym) → above (symbols_of es l) ≡ each_above es (above l)
each-most [] l = refl
each-most (e ∷ es) l = each-most es (symbols_before e l) ∙ ap (each_above es) (before-most e l)

-- what is above already may be taken in last
mutual
  most-later : (e : Tree) (n m : ℕ) → most e (max n m) ≡ max (most e n) m
  most-later (bound i) n m = refl
  most-later (app f ps) n m =
      let swap : max (max n m) (suc f.number) ≡ max (max n (suc f.number)) m = omega arith in
      ap (all_above ps) swap ∙ all-later ps (max n (suc f.number)) m
  most-later (node h ns ps) n m = all-later ps n m
  most-later (bind b ps e) n m = ap (most e) (all-later ps n m) ∙ most-later e (all_above ps n) m

  all-later : (ps : Parts) (n m : ℕ) → all_above ps (max n m) ≡ max (all_above ps n) m
  all-later end n m = refl
  all-later (part e ps) n m = ap (all_above ps) (most-later e n m) ∙ all-later ps (most e n) m

each-later : (es : List Tree) (n m : ℕ) → each_above es (max n m) ≡ max (each_above es n) m
each-later [] n m = refl
each-later (e ∷ es) n m = ap (each_above es) (most-later e n m) ∙ each-later es (most e n) m

-- the goal first, or the facts first
goal-last : (facts : List Tree) (goal : Tree) → each_above facts (most goal 0) ≡ most goal (each_above facts 0)
goal-last facts goal =
    let a : most goal 0 ≡ max 0 (most goal 0) = omega arith in
    let b : each_above facts 0 ≡ max 0 (each_above facts 0) = omega arith in
    let swap : max (each_above facts 0) (most goal 0) ≡ max (most goal 0) (each_above facts 0) = omega arith in
    ap (each_above facts) a ∙ each-later facts 0 (most goal 0) ∙ swap ∙ sym (most-later goal 0 (each_above facts 0)) ∙ ap (most goal) (sym b)

pub count_is : (facts : List Tree) (goal : Tree) → above (symbols_of (goal ∷ facts) []) ≡ most goal (each_above facts 0)
count_is facts goal = each-most (goal ∷ facts) [] ∙ goal-last facts goal
