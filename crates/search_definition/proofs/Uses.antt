-- What trees use, and the needs of what they use.
use Rattle.std.proofs.Common.{◌≡◌, ◌⊎◌, ℕ, suc, ◌<◌, ◌||◌, Bool, true, false, List, [], ◌∷◌, ◌++◌, refl, ap, sym, ◌∙◌, arith, eqb, inl, inr}
use Rattle.std.proofs.lemmas.Bool.{false≢true, eqb-true, eq-eqb}
use Rattle.core_expr.specs.Tree.{Tree}
use Rattle.core_expr.specs.Terms.{same}
use Rattle.core_expr.specs.Equal.{same-true, same-refl}
use Rattle.search_definition.specs.Terms.{if_so, either, in_list}
use Rattle.search_definition.specs.Branches.{Branch, has, add_all, used}
use Rattle.search_definition.specs.Rules.{Sides, Result, rises}
use Rattle.search_definition.specs.Rules.Sides.{Alone, Both}
use Rattle.search_definition.specs.Needs.{contains, without, needs_at, needs_of}
use Rattle.search_definition.specs.Search.{Turning, Open, split_number, added_needs, side_open}
use Rattle.search_definition.specs.Trees.{newly, minus, meets}
use Rattle.search_definition.proofs.Falling.{in_merge}
use Rattle.search_definition.proofs.Needing.{Aligned, entry_of, not-last, aligned-grown, old-grown, new-grown, aligned-used, needs-used, has-used, needs-none, newly-new}

-- either test
abbrev one_of : Bool → Bool → Type 0
one_of x y = (x ≡ true) ⊎ (y ≡ true)

pub or-one : (x y : Bool) → (x || y) ≡ true → one_of x y
or-one true y h = inl refl
or-one false y h = inr h

pub or-left : (x y : Bool) → x ≡ true → (x || y) ≡ true
or-left true y h = refl
or-left false y h = absurd (false≢true h)

pub or-right : (x y : Bool) → y ≡ true → (x || y) ≡ true
or-right true y h = refl
or-right false y h = h

pub either-one : (x y : Bool) → either x y ≡ true → one_of x y
either-one true y h = inl refl
either-one false y h = inr h

pub in-append : (xs ys : List Tree) (f : Tree) → in_list (xs ++ ys) f ≡ true → one_of (in_list xs f) (in_list ys f)
in-append [] ys f h = inr h
in-append (x ∷ xs) ys f h = go (same x f) (in-append xs ys f) h
  where
    go : (y : Bool) → (in_list (xs ++ ys) f ≡ true → one_of (in_list xs f) (in_list ys f)) → either y (in_list (xs ++ ys) f) ≡ true → one_of (either y (in_list xs f)) (in_list ys f)
    go true ih h = inl refl
    go false ih h = ih h

pub minus-in : (us ns : List Tree) (f : Tree) → in_list (minus us ns) f ≡ true → in_list us f ≡ true
minus-in [] ns f h = h
minus-in (u ∷ us) ns f h = go (in_list ns u) (minus-in us ns f) h
  where
    right : (y : Bool) → in_list us f ≡ true → either y (in_list us f) ≡ true
    right true h = refl
    right false h = h

    kept : (y : Bool) → (in_list (minus us ns) f ≡ true → in_list us f ≡ true) → either y (in_list (minus us ns) f) ≡ true → either y (in_list us f) ≡ true
    kept true ih h = refl
    kept false ih h = ih h

    go : (x : Bool) → (in_list (minus us ns) f ≡ true → in_list us f ≡ true) → in_list (if_so x (minus us ns) (u ∷ minus us ns)) f ≡ true → either (same u f) (in_list us f) ≡ true
    go true ih h = right (same u f) (ih h)
    go false ih h = kept (same u f) ih h

-- a formula of both lists
pub record Met (us ns : List Tree) : Type 0 where
  pub formula : Tree
  pub among : in_list us formula ≡ true
  pub new : in_list ns formula ≡ true

pub meets-one : (us ns : List Tree) → meets us ns ≡ true → Met us ns
meets-one [] ns h = absurd (false≢true h)
meets-one (u ∷ us) ns h = go (in_list ns u) refl (meets-one us ns) h
  where
    self : (x : Bool) → x ≡ true → either x (in_list us u) ≡ true
    self true e = refl
    self false e = absurd (false≢true e)

    later : Met us ns → Met (u ∷ us) ns
    later m = record { formula = m.formula; among = right (same u m.formula) m.among; new = m.new }
      where
        right : (y : Bool) → in_list us m.formula ≡ true → either y (in_list us m.formula) ≡ true
        right true h = refl
        right false h = h

    go : (x : Bool) → in_list ns u ≡ x → (meets us ns ≡ true → Met us ns) → either x (meets us ns) ≡ true → Met (u ∷ us) ns
    go true e ih h = record { formula = u; among = self (same u u) (same-refl u); new = e }
    go false e ih h = later (ih h)

-- the formulas us need nothing but what is in u
abbrev pub Needs : Branch → List (List ℕ) → List Tree → List ℕ → Type 0
Needs b needs us u = (f : Tree) → in_list us f ≡ true → (x : ℕ) → contains (needs_at b needs f) x ≡ true → contains u x ≡ true

-- all needs are below n
abbrev pub Below : Branch → List (List ℕ) → ℕ → Type 0
Below b needs n = (f : Tree) (x : ℕ) → contains (needs_at b needs f) x ≡ true → x < n

pub in-needs : (b : Branch) (needs : List (List ℕ)) (fs : List Tree) → Needs b needs fs (needs_of b needs fs)
in-needs b needs [] f h x c = absurd (false≢true h)
in-needs b needs (g ∷ fs) f h x c = in_merge (needs_at b needs g) (needs_of b needs fs) x ∙ go (same g f) refl (in-needs b needs fs f) h
  where
    go : (y : Bool) → same g f ≡ y → (in_list fs f ≡ true → (x : ℕ) → contains (needs_at b needs f) x ≡ true → contains (needs_of b needs fs) x ≡ true) → either y (in_list fs f) ≡ true
        → (contains (needs_at b needs g) x || contains (needs_of b needs fs) x) ≡ true
    go true e ih h = or-left (contains (needs_at b needs g) x) (contains (needs_of b needs fs) x) (ap (λ z. contains (needs_at b needs z) x) (same-true g f e) ∙ c)
    go false e ih h = or-right (contains (needs_at b needs g) x) (contains (needs_of b needs fs) x) (ih h x c)

pub needs-below : (b : Branch) (needs : List (List ℕ)) (n : ℕ) → Below b needs n → (fs : List Tree) (x : ℕ) → contains (needs_of b needs fs) x ≡ true → x < n
needs-below b needs n l [] x h = absurd (false≢true h)
needs-below b needs n l (g ∷ fs) x h =
    elim (or-one (contains (needs_at b needs g) x) (contains (needs_of b needs fs) x) (sym (in_merge (needs_at b needs g) (needs_of b needs fs) x) ∙ h)) [
      | inl c ↦ l g x c
      | inr c ↦ needs-below b needs n l fs x c
    ]

-- what a rule's additions need in the turn n
module _ (n : ℕ) (r : Result) (b : Branch) (needs : List (List ℕ)) where
  added : (x : ℕ) → contains (added_needs n r b needs) x ≡ (contains (split_number n r.step.sides) x || contains (needs_of b needs r.step.named) x)
  added x = in_merge (split_number n r.step.sides) (needs_of b needs r.step.named) x

  pub added-named : Needs b needs r.step.named (added_needs n r b needs)
  added-named f h x c = added x ∙ or-right (contains (split_number n r.step.sides) x) (contains (needs_of b needs r.step.named) x) (in-needs b needs r.step.named f h x c)

  pub added-split : (fs gs : List Tree) → r.step.sides ≡ Both fs gs → contains (added_needs n r b needs) n ≡ true
  added-split fs gs e =
      added n
      ∙ or-left (contains (split_number n r.step.sides) n) (contains (needs_of b needs r.step.named) n)
      (ap (λ s. contains (split_number n s) n) e ∙ ap (λ x. either x false) (eq-eqb n n refl))

  pub added-below : Below b needs n → (x : ℕ) → contains (added_needs n r b needs) x ≡ true → x < suc n
  added-below l x h =
      elim (or-one (contains (split_number n r.step.sides) x) (contains (needs_of b needs r.step.named) x) (sym (added x) ∙ h)) [
        | inl c ↦ split_below r.step.sides c
        | inr c ↦ omega (arith, needs-below b needs n l r.step.named x c)
      ]
    where
      split_below : (s : Sides) → contains (split_number n s) x ≡ true → x < suc n
      split_below (Alone fs) c = absurd (false≢true c)
      split_below (Both fs gs) c = go (eqb n x) refl c
        where
          go : (y : Bool) → eqb n x ≡ y → either y false ≡ true → x < suc n
          go true e c = let q : n ≡ x = eqb-true n x e in omega arith
          go false e c = absurd (false≢true c)

pub without-other : (u : List ℕ) (n x : ℕ) → contains u x ≡ true → (n ≡ x → ⊥) → contains (without u n) x ≡ true
without-other [] n x h d = absurd (false≢true h)
without-other (m ∷ u) n x h d = go (eqb m n) refl (eqb m x) refl (without-other u n x) h
  where
    go : (y : Bool) → eqb m n ≡ y → (z : Bool) → eqb m x ≡ z → (contains u x ≡ true → (n ≡ x → ⊥) → contains (without u n) x ≡ true) → either z (contains u x) ≡ true → contains (if_so y (without u n) (m ∷ without u n)) x ≡ true
    go true e true q ih h = absurd (d (sym (eqb-true m n e) ∙ eqb-true m x q))
    go true e false q ih h = ih h d
    go false e true q ih h = ap (λ w. either w (contains (without u n) x)) q
    go false e false q ih h = ap (λ w. either w (contains (without u n) x)) q ∙ ih h d

pub not-grown : (fs : List Tree) (b : Branch) (f : Tree) → has b f ≡ false → in_list fs f ≡ false → has (add_all b fs) f ≡ false
not-grown [] b f p q = p
not-grown (g ∷ fs) b f p q = go (has b g) (same g f) refl (λ c k l. not-grown fs c f k l) q
  where
    go : (x y : Bool) → same g f ≡ y → ((c : Branch) → has c f ≡ false → in_list fs f ≡ false → has (add_all c fs) f ≡ false) → either y (in_list fs f) ≡ false → has (add_all (if_so x b (b ++ entry_of g ∷ [])) fs) f ≡ false
    go x true e ih q = absurd (false≢true (sym q))
    go true false e ih q = ih b p q
    go false false e ih q = ih (b ++ entry_of g ∷ []) (not-last b g f e p) q

-- the branch of a side: c is the branch after the rule used its entry
module _ (live : Bool) (r : Result) (u : List ℕ) (path : List Turning) (b : Branch) (needs : List (List ℕ)) (fs : List Tree) (al : Aligned b needs) where
  abbrev side : Open
  side = side_open live r u path b needs fs

  abbrev base : Branch
  base = used live (rises r.step.rule) b r.entry

  based : Aligned base needs
  based = aligned-used live (rises r.step.rule) b needs r.entry al

  pub side-aligned : Aligned side.branch side.needs
  side-aligned = aligned-grown u fs base needs based

  pub side-old : (f : Tree) → has b f ≡ true → needs_at side.branch side.needs f ≡ needs_at b needs f
  side-old f h = old-grown u fs base needs f based (has-used live (rises r.step.rule) b r.entry f ∙ h) ∙ needs-used live (rises r.step.rule) b needs r.entry f

  pub side-new : (f : Tree) → in_list (newly b fs) f ≡ true → needs_at side.branch side.needs f ≡ u
  side-new f h = let p = newly-new b fs f h in new-grown u fs base needs f based (has-used live (rises r.step.rule) b r.entry f ∙ p.0) p.1

  pub side-below : (n : ℕ) → Below b needs n → ((x : ℕ) → contains u x ≡ true → x < suc n) → Below side.branch side.needs (suc n)
  side-below n l k f x c = go (has b f) refl (in_list fs f) refl
    where
      go : (y : Bool) → has b f ≡ y → (z : Bool) → in_list fs f ≡ z → x < suc n
      go true e z q = omega (arith, l f x (ap (λ v. contains v x) (sym (side-old f e)) ∙ c))
      go false e true q = k x (ap (λ v. contains v x) (sym (new-grown u fs base needs f based (has-used live (rises r.step.rule) b r.entry f ∙ e) q)) ∙ c)
      go false e false q = absurd (false≢true (ap (λ v. contains v x) (sym (needs-none side.branch side.needs f (not-grown fs base f (has-used live (rises r.step.rule) b r.entry f ∙ e) q))) ∙ c))

  -- what is used beside what is new needs what it needed
  pub side-minus : (us : List Tree) (v : List ℕ) → Needs side.branch side.needs us v → Needs b needs (minus us (newly b fs)) v
  side-minus us v k f h x c = go (has b f) refl
    where
      go : (y : Bool) → has b f ≡ y → contains v x ≡ true
      go true e = k f (minus-in us (newly b fs) f h) x (ap (λ w. contains w x) (side-old f e) ∙ c)
      go false e = absurd (false≢true (ap (λ w. contains w x) (sym (needs-none b needs f e)) ∙ c))

  -- where something new is used, what it needs is needed
  pub side-met : (us : List Tree) (v : List ℕ) → Needs side.branch side.needs us v → meets us (newly b fs) ≡ true → (x : ℕ) → contains u x ≡ true → contains v x ≡ true
  side-met us v k h x c = let m = meets-one us (newly b fs) h in k m.formula m.among x (ap (λ w. contains w x) (side-new m.formula m.new) ∙ c)
