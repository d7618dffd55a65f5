-- What a walk leaves behind: its entries and symbols stay, and where it ends without faults there was none before.
use Rattle.std.specs.Prelude.{◌≡◌, ℕ, suc, ◌<◌, Bool, true, false, ◌&&◌, nat_eq, if◌then◌else◌, List, [], ◌∷◌, ◌++◌, length, take, Option, Some, None}
use Rattle.std.proofs.Common.{refl, ap, sym, ◌∙◌, arith, subst, inl, inr, get_or, append_assoc, append-nil}
use Rattle.std.proofs.lemmas.List.{length-append, get_or_append_left}
use Rattle.std.proofs.Math.Seq.{take-append_seam}
use Rattle.core_expr.specs.Equal.{nat-refl}
use Rattle.std.proofs.lemmas.Cmp.{nat_eq_equiv}
use Rattle.tla_ast.specs.declared.place.Place.{Place}
use Rattle.plain_syntax.specs.Plain.{Text}
use Rattle.symbol_table.specs.Symbols.{symbol_at, noted, unless_found}
use Rattle.expression_level.specs.Levels.{is_word}
use Rattle.module_scope.specs.Scope.{Scope, found}
use Rattle.name_places.specs.Places.{same_place, Has, Apart, AllApart}
use Rattle.proof_assembly.specs.States.{IsPrefix, Each, Free}

-- ---- lists

pub prefix_self : {A : Type 0} (xs : List A) → IsPrefix xs xs
prefix_self xs = ([], append-nil xs)

pub prefix_over : {A : Type 0} (xs ys zs : List A) → IsPrefix xs ys → IsPrefix ys zs → IsPrefix xs zs
prefix_over xs ys zs (u, e) (v, k) = (u ++ v, sym (append_assoc xs u v) ∙ ap (λ l. l ++ v) e ∙ k)

pub prefix_take : {A : Type 0} (xs zs : List A) → IsPrefix xs zs → take (length xs) zs ≡ xs
prefix_take xs zs (ys, e) = ap (take (length xs)) (sym e) ∙ take-append_seam xs ys

pub get_prefix : {A : Type 0} (d : A) (xs zs : List A) (n : ℕ) → IsPrefix xs zs → n < length xs → get_or zs n d ≡ get_or xs n d
get_prefix d xs zs n (ys, e) h = ap (λ l. get_or l n d) (sym e) ∙ get_or_append_left xs ys d n h

pub length_last : {A : Type 0} (xs : List A) (x : A) → length (xs ++ x ∷ []) ≡ suc (length xs)
length_last xs x = let e = length-append xs (x ∷ []) in omega (arith, e)

pub not_empty : {A : Type 0} (xs : List A) (x : A) (B : Type 0) → xs ++ x ∷ [] ≡ [] → B
not_empty [] x B e = cc
not_empty (y ∷ xs) x B e = cc

pub has_left : {A : Type 0} (xs ys : List A) (x : A) → Has xs x → Has (xs ++ ys) x
has_left (y ∷ xs) ys x (inl e) = inl e
has_left (y ∷ xs) ys x (inr h) = inr (has_left xs ys x h)
has_left [] ys x h = absurd h

pub has_right : {A : Type 0} (xs ys : List A) (x : A) → Has ys x → Has (xs ++ ys) x
has_right [] ys x h = h
has_right (y ∷ xs) ys x h = inr (has_right xs ys x h)

-- ---- scopes

pub each_found : (Q : ℕ → Type 0) (w : Text) (n : ℕ) (ss : Scope) → Each Q ss → found w ss ≡ Some n → Q n
each_found Q w n [] h e = cc
each_found Q w n (s ∷ ss) h e = go (found w ss) (is_word s.0 w) (each_found Q w n ss h.1) e
  where
    go : (o : Option ℕ) (b : Bool) → (o ≡ Some n → Q n) → elim o [ Some k ↦ Some k | None ↦ if b then Some s.1 else None ] ≡ Some n → Q n
    go (Some k) b f e = f e
    go None true f e = let q : s.1 ≡ n = cc in subst Q q h.0
    go None false f e = cc

pub each_map : (Q R : ℕ → Type 0) (ss : Scope) → ((n : ℕ) → Q n → R n) → Each Q ss → Each R ss
each_map Q R [] f h = tt
each_map Q R (s ∷ ss) f h = (f s.1 h.0, each_map Q R ss f h.1)

pub each_append : (Q : ℕ → Type 0) (xs ys : Scope) → Each Q xs → Each Q ys → Each Q (xs ++ ys)
each_append Q [] ys h k = k
each_append Q (x ∷ xs) ys h k = (h.0, each_append Q xs ys h.1 k)

-- ---- places

pub same-place : (p : Place) → same_place p p ≡ true
same-place p = both (nat_eq p.line p.line) (nat_eq p.column p.column) (nat-refl p.line) (nat-refl p.column)
  where
    both : (a b : Bool) → a ≡ true → b ≡ true → a && b ≡ true
    both a b p q = cc

pub same-turned : (p q : Place) → same_place p q ≡ same_place q p
same-turned p q = λ i. nat_eq_equiv.symm p.line q.line i && nat_eq_equiv.symm p.column q.column i

symbol_before : (ys us : List (Place × ℕ)) (p : Place) (n : ℕ) → symbol_at ys p ≡ Some n → symbol_at (ys ++ us) p ≡ Some n
symbol_before [] us p n h = cc
symbol_before (y ∷ ys) us p n h = go (same_place y.0 p) (symbol_before ys us p n) h
  where
    go : (b : Bool) → (symbol_at ys p ≡ Some n → symbol_at (ys ++ us) p ≡ Some n) → (if b then Some y.1 else symbol_at ys p) ≡ Some n → (if b then Some y.1 else symbol_at (ys ++ us) p) ≡ Some n
    go true f h = h
    go false f h = f h

pub symbol_prefix : (ys zs : List (Place × ℕ)) (p : Place) (n : ℕ) → IsPrefix ys zs → symbol_at ys p ≡ Some n → symbol_at zs p ≡ Some n
symbol_prefix ys zs p n (us, e) h = ap (λ l. symbol_at l p) (sym e) ∙ symbol_before ys us p n h

-- a pair put last is found at its place, if none is there before
symbol_last : (ys : List (Place × ℕ)) (p : Place) (n : ℕ) → symbol_at ys p ≡ None → symbol_at (ys ++ (p, n) ∷ []) p ≡ Some n
symbol_last [] p n h = ap (λ (b : Bool). if b then Some n else None) (same-place p)
symbol_last (y ∷ ys) p n h = go (same_place y.0 p) (symbol_last ys p n) h
  where
    go : (b : Bool) → (symbol_at ys p ≡ None → symbol_at (ys ++ (p, n) ∷ []) p ≡ Some n) → (if b then Some y.1 else symbol_at ys p) ≡ None → (if b then Some y.1 else symbol_at (ys ++ (p, n) ∷ []) p) ≡ Some n
    go true f h = cc
    go false f h = f h

symbol_apart : (ys : List (Place × ℕ)) (p q : Place) (n : ℕ) → same_place p q ≡ false → symbol_at (ys ++ (p, n) ∷ []) q ≡ symbol_at ys q
symbol_apart [] p q n h = ap (λ (b : Bool). if b then Some n else None) h
symbol_apart (y ∷ ys) p q n h = ap (λ o. if same_place y.0 q then Some y.1 else o) (symbol_apart ys p q n h)

pub noted_here : (p : Place) (n : ℕ) (ys : List (Place × ℕ)) → symbol_at ys p ≡ None → symbol_at (noted p n ys) p ≡ Some n
noted_here p n ys h = ap (λ o. symbol_at (unless_found o (p, n) ys) p) h ∙ symbol_last ys p n h

pub noted_apart : (p q : Place) (n : ℕ) (ys : List (Place × ℕ)) → same_place p q ≡ false → symbol_at (noted p n ys) q ≡ symbol_at ys q
noted_apart p q n ys h = go (symbol_at ys p)
  where
    go : (o : Option ℕ) → symbol_at (unless_found o (p, n) ys) q ≡ symbol_at ys q
    go None = symbol_apart ys p q n h
    go (Some m) = refl

pub noted_prefix : (p : Place) (n : ℕ) (ys zs : List (Place × ℕ)) → IsPrefix (noted p n ys) zs → IsPrefix ys zs
noted_prefix p n ys zs = go (symbol_at ys p)
  where
    go : (o : Option ℕ) → IsPrefix (unless_found o (p, n) ys) zs → IsPrefix ys zs
    go None h = prefix_over ys (ys ++ (p, n) ∷ []) zs ((p, n) ∷ [], refl) h
    go (Some m) h = h

apart_left : (ps qs : List Place) → AllApart (ps ++ qs) → AllApart ps
apart_left [] qs h = tt
apart_left (p ∷ ps) qs h = ((λ q k. h.0 q (has_left ps qs q k)), apart_left ps qs h.1)

apart_right : (ps qs : List Place) → AllApart (ps ++ qs) → AllApart qs
apart_right [] qs h = h
apart_right (p ∷ ps) qs h = apart_right ps qs h.1

apart_across : (ps qs : List Place) (q : Place) → AllApart (ps ++ qs) → Has qs q → Apart q ps
apart_across [] qs q h k p j = absurd j
apart_across (r ∷ ps) qs q h k p (inl e) = subst (λ (x : Place). same_place x q ≡ false) e (same-turned r q ∙ h.0 q (has_right ps qs q k))
apart_across (r ∷ ps) qs q h k p (inr j) = apart_across ps qs q h.1 k p j

pub free_left : (ys : List (Place × ℕ)) (ps qs : List Place) → Free ys (ps ++ qs) → Free ys ps
free_left ys ps qs h = record { apart = apart_left ps qs h.apart; unnoted = λ p k. h.unnoted p (has_left ps qs p k) }

pub free_right : (ys zs : List (Place × ℕ)) (ps qs : List Place) → ((q : Place) → Apart q ps → symbol_at zs q ≡ symbol_at ys q) → Free ys (ps ++ qs) → Free zs qs
free_right ys zs ps qs keeps h = record {
  apart = apart_right ps qs h.apart;
  unnoted = λ q k. keeps q (apart_across ps qs q h.apart k) ∙ h.unnoted q (has_right ps qs q k);
}
