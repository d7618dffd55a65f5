-- What the tests say.
use Rattle.std.specs.Prelude.{◌≡◌, ℕ, zero, suc, ◌<◌, Bool, true, false, nat_lt, nat_eq, List, [], ◌∷◌}
use Rattle.std.proofs.Common.{refl, ap, sym, ◌∙◌, arith}
use Rattle.std.proofs.lemmas.Bool.Decides.{nat_tests}
use Rattle.core_expr.specs.declared.head.Sym.{Sym}
use Rattle.core_expr.specs.declared.head.SymKind.{SymKind}
use Rattle.core_expr.specs.declared.head.SymKind.TheVariants.{Constant, State, Primed, Defined, DefinedPrimed, Canon}
use Rattle.core_expr.specs.declared.head.Head.{Head}
use Rattle.core_expr.specs.declared.head.Binder.{Binder}
use Rattle.core_expr.specs.declared.head.Head.TheVariants.{True, False, Num, Str, Boolean, Not, And, Or, Imp, Iff, Eq, In, Subseteq, Enum, Cup, Cap, Diff, Power, Union, FunSet, Dom, Apply, Except, Tuple, If, Temporal}
use Rattle.core_expr.specs.declared.head.Binder.TheVariants.{All, Ex, Filter, Image, Fun, Choose}
use Rattle.core_expr.specs.Tree.{Tree, Parts}
use Rattle.core_expr.specs.Tree.Tree.{bound, app, node, bind}
use Rattle.core_expr.specs.Tree.Parts.{end, part}
use Rattle.core_expr.specs.Put.{IsScoped, AreScoped}
use Rattle.core_expr.specs.Terms.{lists_equal}
use Rattle.core_expr.specs.Terms.{head_code, binder_code, kind_code, same_sym, same, sames, is_scoped, are_scoped}

-- both tests hold
pub and-both : (a b : Bool) → elim a [ true ↦ b | false ↦ false ] ≡ true → (a ≡ true) × (b ≡ true)
and-both true b h = (refl, h)
and-both false b h = cc

pub nat-same : (a b : ℕ) → nat_eq a b ≡ true → a ≡ b
nat-same a b h = grind (arith, nat_tests)

pub lists-same : (xs ys : List ℕ) → lists_equal xs ys ≡ true → xs ≡ ys
lists-same [] [] h = refl
lists-same [] (y ∷ ys) h = cc
lists-same (x ∷ xs) [] h = cc
lists-same (x ∷ xs) (y ∷ ys) h = let k = and-both (nat_eq x y) (lists_equal xs ys) h in λ i. nat-same x y k.0 i ∷ lists-same xs ys k.1 i

module _ {A : Type 0} (none : A) where
  at : List A → ℕ → A
  at [] n = none
  at (h ∷ hs) zero = h
  at (h ∷ hs) (suc n) = at hs n

heads : List Head
heads = True ∷ False ∷ Num ∷ Str ∷ Boolean ∷ True ∷ True ∷ Not ∷ And ∷ Or ∷ Imp ∷ Iff ∷ True ∷ True ∷ Eq ∷ In ∷ Subseteq ∷ Enum ∷ Cup ∷ Cap ∷ Diff ∷ Power ∷ Union ∷ True ∷ True ∷ True ∷ FunSet ∷ Dom ∷ Apply ∷ Except ∷ Tuple ∷ If ∷ True ∷ Temporal ∷ []

binders : List Binder
binders = All ∷ All ∷ All ∷ All ∷ All ∷ All ∷ All ∷ All ∷ All ∷ All ∷ All ∷ All ∷ All ∷ Ex ∷ All ∷ All ∷ All ∷ All ∷ All ∷ All ∷ All ∷ All ∷ All ∷ Filter ∷ Image ∷ Fun ∷ All ∷ All ∷ All ∷ All ∷ All ∷ All ∷ Choose ∷ []

kinds : List SymKind
kinds = Constant ∷ State ∷ Primed ∷ Defined ∷ DefinedPrimed ∷ Canon ∷ []

head_back : (h : Head) → at True heads (head_code h) ≡ h
unfolding at heads
head_back = elim [ True ↦ refl | False ↦ refl | Num ↦ refl | Str ↦ refl | Boolean ↦ refl | Not ↦ refl | And ↦ refl | Or ↦ refl | Imp ↦ refl | Iff ↦ refl | Eq ↦ refl | In ↦ refl | Subseteq ↦ refl | Enum ↦ refl | Cup ↦ refl | Cap ↦ refl | Diff ↦ refl | Power ↦ refl | Union ↦ refl | FunSet ↦ refl | Dom ↦ refl | Apply ↦ refl | Except ↦ refl | Tuple ↦ refl | If ↦ refl | Temporal ↦ refl ]

binder_back : (h : Binder) → at All binders (binder_code h) ≡ h
unfolding at binders
binder_back = elim [ All ↦ refl | Ex ↦ refl | Filter ↦ refl | Image ↦ refl | Fun ↦ refl | Choose ↦ refl ]

kind_back : (h : SymKind) → at Constant kinds (kind_code h) ≡ h
unfolding at kinds
kind_back = elim [ Constant ↦ refl | State ↦ refl | Primed ↦ refl | Defined ↦ refl | DefinedPrimed ↦ refl | Canon ↦ refl ]

pub head-same : (h k : Head) → nat_eq (head_code h) (head_code k) ≡ true → h ≡ k
head-same h k e = sym (head_back h) ∙ ap (at True heads) (nat-same (head_code h) (head_code k) e) ∙ head_back k

pub binder-same : (h k : Binder) → nat_eq (binder_code h) (binder_code k) ≡ true → h ≡ k
binder-same h k e = sym (binder_back h) ∙ ap (at All binders) (nat-same (binder_code h) (binder_code k) e) ∙ binder_back k

pub kind-same : (h k : SymKind) → nat_eq (kind_code h) (kind_code k) ≡ true → h ≡ k
kind-same h k e = sym (kind_back h) ∙ ap (at Constant kinds) (nat-same (kind_code h) (kind_code k) e) ∙ kind_back k

pub sym-same : (f g : Sym) → same_sym f g ≡ true → f ≡ g
sym-same f g h =
    let p = and-both (nat_eq f.number g.number) _ h in
    let q = and-both (nat_eq (kind_code f.kind) (kind_code g.kind)) (nat_eq f.arity g.arity) p.1 in
    let a : f.kind ≡ g.kind = kind-same f.kind g.kind q.0 in
    let b : f.number ≡ g.number = nat-same f.number g.number p.0 in
    let c : f.arity ≡ g.arity = nat-same f.arity g.arity q.1 in
    λ i. record { kind = a i; number = b i; arity = c i }

mutual
  pub same-true : (a b : Tree) → same a b ≡ true → a ≡ b
  same-true (bound i) (bound j) h = ap bound (nat-same i j h)
  same-true (app f ps) (app g qs) h = let k = and-both (same_sym f g) (sames ps qs) h in λ i. app (sym-same f g k.0 i) (sames-true ps qs k.1 i)
  same-true (node f ns ps) (node g ms qs) h =
      let k = and-both (nat_eq (head_code f) (head_code g)) (elim (lists_equal ns ms) [ true ↦ sames ps qs | false ↦ false ]) h in
      let l = and-both (lists_equal ns ms) (sames ps qs) k.1 in
      λ i. node (head-same f g k.0 i) (lists-same ns ms l.0 i) (sames-true ps qs l.1 i)
  same-true (bind f ps e) (bind g qs d) h =
      let k = and-both (nat_eq (binder_code f) (binder_code g)) (elim (same e d) [ true ↦ sames ps qs | false ↦ false ]) h in
      let l = and-both (same e d) (sames ps qs) k.1 in
      λ i. bind (binder-same f g k.0 i) (sames-true ps qs l.1 i) (same-true e d l.0 i)
  same-true _ _ h = cc

  pub sames-true : (ps qs : Parts) → sames ps qs ≡ true → ps ≡ qs
  sames-true end end h = refl
  sames-true end (part e ps) h = cc
  sames-true (part e ps) end h = cc
  sames-true (part e ps) (part d qs) h = let k = and-both (same e d) (sames ps qs) h in λ i. part (same-true e d k.0 i) (sames-true ps qs k.1 i)

mutual
  pub scoped-true : (n : ℕ) (e : Tree) → is_scoped n e ≡ true → IsScoped n e
  scoped-true n (bound i) h = var n i h
    where
      var : (n i : ℕ) → nat_lt i n ≡ true → i < n
      var n i h = grind (arith, nat_tests)
  scoped-true n (app f ps) h = all_scoped n ps h
  scoped-true n (node f ns ps) h = all_scoped n ps h
  scoped-true n (bind f ps e) h = let k = and-both (are_scoped n ps) (is_scoped (suc n) e) h in (all_scoped n ps k.0, scoped-true (suc n) e k.1)

  pub all_scoped : (n : ℕ) (ps : Parts) → are_scoped n ps ≡ true → AreScoped n ps
  all_scoped n end h = tt
  all_scoped n (part e ps) h = let k = and-both (is_scoped n e) (are_scoped n ps) h in (scoped-true n e k.0, all_scoped n ps k.1)

var_scoped : (n i : ℕ) → i < n → nat_lt i n ≡ true
var_scoped n i h = grind (arith, nat_tests)

both-and : (a b : Bool) → a ≡ true → b ≡ true → elim a [ true ↦ b | false ↦ false ] ≡ true
both-and true b p q = q
both-and false b p q = cc

mutual
  pub true-scoped : (n : ℕ) (e : Tree) → IsScoped n e → is_scoped n e ≡ true
  true-scoped n (bound i) h = var_scoped n i h
  true-scoped n (app f ps) h = true-all_scoped n ps h
  true-scoped n (node f ns ps) h = true-all_scoped n ps h
  true-scoped n (bind f ps e) h = both-and (are_scoped n ps) (is_scoped (suc n) e) (true-all_scoped n ps h.0) (true-scoped (suc n) e h.1)

  pub true-all_scoped : (n : ℕ) (ps : Parts) → AreScoped n ps → are_scoped n ps ≡ true
  true-all_scoped n end h = refl
  true-all_scoped n (part e ps) h = both-and (is_scoped n e) (are_scoped n ps) (true-scoped n e h.0) (true-all_scoped n ps h.1)

pub nat-refl : (n : ℕ) → nat_eq n n ≡ true
nat-refl n = grind (arith, nat_tests)

pub lists-refl : (xs : List ℕ) → lists_equal xs xs ≡ true
lists-refl [] = refl
lists-refl (x ∷ xs) = both-and (nat_eq x x) (lists_equal xs xs) (nat-refl x) (lists-refl xs)

pub sym-refl : (f : Sym) → same_sym f f ≡ true
sym-refl f =
    both-and (nat_eq f.number f.number) (elim (nat_eq (kind_code f.kind) (kind_code f.kind)) [ true ↦ nat_eq f.arity f.arity | false ↦ false ]) (nat-refl f.number)
    (both-and (nat_eq (kind_code f.kind) (kind_code f.kind)) (nat_eq f.arity f.arity) (nat-refl (kind_code f.kind)) (nat-refl f.arity))

mutual
  pub same-refl : (t : Tree) → same t t ≡ true
  same-refl (bound i) = nat-refl i
  same-refl (app f ps) = both-and (same_sym f f) (sames ps ps) (sym-refl f) (sames-refl ps)
  same-refl (node h ns ps) =
      both-and (nat_eq (head_code h) (head_code h)) (elim (lists_equal ns ns) [ true ↦ sames ps ps | false ↦ false ]) (nat-refl (head_code h))
      (both-and (lists_equal ns ns) (sames ps ps) (lists-refl ns) (sames-refl ps))
  same-refl (bind b ps e) =
      both-and (nat_eq (binder_code b) (binder_code b)) (elim (same e e) [ true ↦ sames ps ps | false ↦ false ]) (nat-refl (binder_code b))
      (both-and (same e e) (sames ps ps) (same-refl e) (sames-refl ps))

  pub sames-refl : (ps : Parts) → sames ps ps ≡ true
  sames-refl end = refl
  sames-refl (part e ps) = both-and (same e e) (sames ps ps) (same-refl e) (sames-refl ps)

-- equal trees are told so
pub true-same : (a b : Tree) → a ≡ b → same a b ≡ true
true-same a b e = ap (λ t. same a t) (sym e) ∙ same-refl a
