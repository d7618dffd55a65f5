-- The variables that stand for the arguments of a symbol.
use Rattle.std.proofs.Common.{◌≡◌, ℕ, zero, suc, ◌+◌, ◌-◌, ◌<◌, Bool, true, false, cond, nat_eq, nat_lt, List, [], ◌∷◌, ◌++◌, length, append_assoc, refl, sym, ap, ◌∙◌, arith}
use Rattle.std.proofs.lemmas.Bool.Decides.{nat_tests}
use Rattle.core_expr.specs.declared.head.Sym.{Sym}
use Rattle.core_expr.specs.Tree.{Tree, Parts, size}
use Rattle.core_expr.specs.Tree.Tree.{bound, app, node, bind}
use Rattle.core_expr.specs.Tree.Parts.{end, part}
use Rattle.core_expr.specs.Heads.{parts_of}
use Rattle.core_expr.specs.Put.{shift, shifts, argument, put, puts}
use Rattle.canonical_form.specs.Named.{variables, own}

pub count : (n : ℕ) → length (variables n) ≡ n
count zero = refl
count (suc n) = ap suc (count n)

pub as_parts : (n : ℕ) → parts_of (variables n) ≡ own n
as_parts zero = refl
as_parts (suc n) = ap (part (bound n)) (as_parts n)

same-both : (b : Bool) (x : ℕ) → cond b x x ≡ x
same-both true x = refl
same-both false x = refl

mutual
  shift-zero : (c : ℕ) (e : Tree) → shift c 0 e ≡ e
  shift-zero c (bound i) = ap bound (let z : i + 0 ≡ i = omega arith in rw z (same-both (nat_lt i c) i))
  shift-zero c (app f ps) = ap (app f) (shifts-zero c ps)
  shift-zero c (node f ns ps) = ap (node f ns) (shifts-zero c ps)
  shift-zero c (bind b ps e) = λ i. bind b (shifts-zero c ps i) (shift-zero (suc c) e i)

  shifts-zero : (c : ℕ) (ps : Parts) → shifts c 0 ps ≡ ps
  shifts-zero c end = refl
  shifts-zero c (part e ps) = λ i. part (shift-zero c e i) (shifts-zero c ps i)

-- each variable gives its argument
puts-own : (us ps : Parts) (n : ℕ) → n ≡ size ps → ((j : ℕ) → j < n → argument us j ≡ argument ps j) → puts 0 us (own n) ≡ ps
puts-own us end zero q h = refl
puts-own us end (suc n) q h = absurd (omega arith)
puts-own us (part e ps) zero q h = absurd (omega arith)
puts-own us (part e ps) (suc n) q h =
    let a : nat_lt n 0 ≡ false = grind (arith, nat_tests) in
    let z : n - 0 ≡ n = omega arith in
    let b : nat_eq n (size ps) ≡ true = grind (arith, nat_tests) in
    let here : cond (nat_lt n 0) (bound n) (shift 0 0 (argument us (n - 0))) ≡ e =
    rw (a, z) (shift-zero 0 (argument us n) ∙ h n (omega arith) ∙ ap (λ (x : Bool). cond x e (argument ps n)) b)
    in
    let rest = puts-own us ps n (omega arith) (λ j l. h j (omega arith) ∙ (let c : nat_eq j (size ps) ≡ false = grind (arith, nat_tests) in ap (λ (x : Bool). cond x e (argument ps j)) c)) in
    λ i. part (here i) (rest i)

pub put-own : (g : Sym) (n : ℕ) (ps : Parts) → n ≡ size ps → put 0 ps (app g (own n)) ≡ app g ps
put-own g n ps q = ap (app g) (puts-own ps ps n q (λ j l. refl))

-- the next variable
pub variables-from : (n m : ℕ) (found more : List Tree) → n ≡ suc m → more ≡ found ++ bound m ∷ [] → more ++ variables m ≡ found ++ variables n
variables-from n m found more q p = ap (λ us. us ++ variables m) p ∙ append_assoc found (bound m ∷ []) (variables m) ∙ ap (λ k. found ++ variables k) (sym q)
