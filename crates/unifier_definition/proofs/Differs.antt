-- What the first difference of two terms says of the substitutions that make them equal.
use Rattle.std.specs.Prelude.{◌≡◌, ℕ, Bool, true, false, nat_eq, Option, Some, None, List, []}
use Rattle.std.proofs.Common.{refl, ap, sym, ◌∙◌, subst}
use Rattle.core_expr.specs.declared.head.Sym.{Sym}
use Rattle.core_expr.specs.declared.head.Head.{Head}
use Rattle.core_expr.specs.declared.head.Head.TheVariants.{True}
use Rattle.core_expr.specs.declared.head.Binder.{Binder}
use Rattle.core_expr.specs.declared.head.Binder.TheVariants.{All}
use Rattle.core_expr.specs.Tree.{Tree, Parts}
use Rattle.core_expr.specs.Tree.Tree.{bound, app, node, bind}
use Rattle.core_expr.specs.Tree.Parts.{end, part}
use Rattle.core_expr.specs.Terms.{head_code, binder_code, lists_equal, same_sym, same}
use Rattle.core_expr.proofs.Equal.{same-true, nat-same, lists-same, same-refl, sym-refl, sym-same, head-same, binder-same, lists-refl, nat-refl}
use Rattle.unifier_definition.specs.Metas.{listed, meta_of, assign, assigns}
use Rattle.unifier_definition.specs.Unify.{Difference, against, met_by, met, then, difference, differences}
use Rattle.unifier_definition.specs.Unify.Difference.{Same, Clash, Bind}
use Rattle.unifier_definition.proofs.Substituted.{true_not_false, either, assign-meta, assign-other}

-- the first list is part of the second
abbrev pub Within : List Sym → List Sym → Type 0
Within js ks = (g : Sym) → listed js g ≡ true → listed ks g ≡ true

-- what a difference of the terms s and t says: that they are equal; that no substitution makes them equal; or that each that does gives the metavariable the term's value
abbrev pub Says : List Sym → Tree → Tree → Difference → Type 0
Says js s t Same = s ≡ t
Says js s t Clash = (v : Sym → Tree) → assign js v s ≡ assign js v t → ⊥
Says js s t (Bind m u) = (listed js m ≡ true) × (u ≡ app m end → ⊥) × ((ks : List Sym) (v : Sym → Tree) → Within js ks → assign ks v s ≡ assign ks v t → v m ≡ assign ks v u)

abbrev SaysAll : List Sym → Parts → Parts → Difference → Type 0
SaysAll js ps qs Same = ps ≡ qs
SaysAll js ps qs Clash = (v : Sym → Tree) → assigns js v ps ≡ assigns js v qs → ⊥
SaysAll js ps qs (Bind m u) = (listed js m ≡ true) × (u ≡ app m end → ⊥) × ((ks : List Sym) (v : Sym → Tree) → Within js ks → assigns ks v ps ≡ assigns ks v qs → v m ≡ assign ks v u)

-- a metavariable is a symbol without arguments
abbrev IsMeta : List Sym → Tree → Option Sym → Type 0
IsMeta js t None = Unit {0}
IsMeta js t (Some f) = (t ≡ app f end) × (listed js f ≡ true)

meta-form : (js : List Sym) (t : Tree) → IsMeta js t (meta_of js t)
meta-form js (app f end) = go (listed js f) refl
  where
    go : (x : Bool) → listed js f ≡ x → IsMeta js (app f end) (either x (Some f) None)
    go true e = (refl, e)
    go false e = tt
meta-form js (app f (part e ps)) = tt
meta-form js (bound i) = tt
meta-form js (node k ns ps) = tt
meta-form js (bind b ps e) = tt

says-against : (js : List Sym) (f : Sym) (t : Tree) → listed js f ≡ true → Says js (app f end) t (against f t)
says-against js f t lf = go (same (app f end) t) refl
  where
    go : (x : Bool) → same (app f end) t ≡ x → Says js (app f end) t (either x Same (Bind f t))
    go true e = same-true (app f end) t e
    go false e = (lf, (λ p. true_not_false (sym (same-refl (app f end)) ∙ subst (λ z. same (app f end) z ≡ false) p e)), (λ ks v w q. sym (assign-meta ks v f (w f lf)) ∙ q))

says-met : (js : List Sym) (s t : Tree) (d : Difference) → (meta_of js s ≡ None → meta_of js t ≡ None → Says js s t d) → Says js s t (met js s t d)
says-met js s t d other = go (meta_of js s) refl (meta-form js s) (meta_of js t) refl (meta-form js t)
  where
    self : (g : Sym) → meta_of js s ≡ None → listed js g ≡ true → s ≡ app g end → ⊥
    self g e l p = apart (sym (ap (meta_of js) p ∙ ap (λ x. either x (Some g) None) l) ∙ e)
      where
        apart : Some g ≡ None → ⊥
        apart e = cc

    go : (x : Option Sym) → meta_of js s ≡ x → IsMeta js s x → (y : Option Sym) → meta_of js t ≡ y → IsMeta js t y
        → Says js s t (met_by x y s t d)
    go (Some f) e p y q r = subst (λ z. Says js z t (against f t)) (sym p.0) (says-against js f t p.1)
    go None e p (Some g) q r = (r.1, self g e r.1, (λ ks v w h. sym (assign-meta ks v g (w g r.1)) ∙ sym (ap (assign ks v) r.0) ∙ sym h))
    go None e p None q r = other e q

-- the four forms of a term
abbrev form_of : Tree → ℕ
form_of (bound i) = 0
form_of (app f ps) = 1
form_of (node h ns ps) = 2
form_of (bind b ps e) = 3

-- a symbol without arguments that is no metavariable stands for itself
not-listed : (js : List Sym) (f : Sym) → meta_of js (app f end) ≡ None → listed js f ≡ false
not-listed js f h = go (listed js f) h
  where
    go : (x : Bool) → either x (Some f) None ≡ None → x ≡ false
    go true e = cc
    go false e = refl

assign-form : (js : List Sym) (v : Sym → Tree) (t : Tree) → meta_of js t ≡ None → form_of (assign js v t) ≡ form_of t
assign-form js v (bound i) h = refl
assign-form js v (app f end) h = ap form_of (assign-other js v f (not-listed js f h))
assign-form js v (app f (part e ps)) h = refl
assign-form js v (node k ns ps) h = refl
assign-form js v (bind b ps e) h = refl

abbrev symbol_at : Sym → Tree → Sym
symbol_at f (app g ps) = g
symbol_at f _ = f

abbrev head_at : Tree → Head
head_at (node h ns ps) = h
head_at _ = True

abbrev binder_at : Tree → Binder
binder_at (bind b ps e) = b
binder_at _ = All

abbrev arguments_at : Parts → Tree → Parts
arguments_at x (app g ps) = ps
arguments_at x (node h ns ps) = ps
arguments_at x (bind b ps e) = ps
arguments_at x _ = x

abbrev body_at : Tree → Tree → Tree
body_at x (bind b ps e) = e
body_at x _ = x

abbrev numbers_at : Tree → List ℕ
numbers_at (node h ns ps) = ns
numbers_at _ = []

abbrev index_at : Tree → ℕ
index_at (bound i) = i
index_at _ = 0

abbrev first_of : Tree → Parts → Tree
first_of x (part e ps) = e
first_of x end = x

abbrev rest_of : Parts → Parts
rest_of (part e ps) = ps
rest_of end = end

other_numbers : (m n : ℕ) → nat_eq m n ≡ false → m ≡ n → ⊥
other_numbers m n h e = true_not_false (sym (nat-refl n) ∙ subst (λ x. nat_eq x n ≡ false) e h)

other_lists : (ms ns : List ℕ) → lists_equal ms ns ≡ false → ms ≡ ns → ⊥
other_lists ms ns h e = true_not_false (sym (lists-refl ns) ∙ subst (λ x. lists_equal x ns ≡ false) e h)

other_symbols : (f g : Sym) → same_sym f g ≡ false → f ≡ g → ⊥
other_symbols f g h e = true_not_false (sym (sym-refl g) ∙ subst (λ x. same_sym x g ≡ false) e h)

-- what is said of the parts, in a place where equal wholes have equal parts
module _ (js : List Sym) (s t : Tree) (ps qs : Parts) (up : ps ≡ qs → s ≡ t) (down : (ks : List Sym) (v : Sym → Tree) → assign ks v s ≡ assign ks v t → assigns ks v ps ≡ assigns ks v qs) where
  says-parts : (d : Difference) → SaysAll js ps qs d → Says js s t d
  says-parts Same h = up h
  says-parts Clash h = λ v e. h v (down js v e)
  says-parts (Bind m u) h = (h.0, h.1, (λ ks v w e. h.2 ks v w (down ks v e)))

-- the arguments of an application, unless it is a symbol alone, which no substitution gives arguments where it is no metavariable
says-applied : (js : List Sym) (f : Sym) (ps qs : Parts) → meta_of js (app f ps) ≡ None → meta_of js (app f qs) ≡ None → SaysAll js ps qs (differences js ps qs) → Says js (app f ps) (app f qs) (differences js ps qs)
says-applied js f end end a b h = refl
says-applied js f end (part t qs) a b h = λ v e. h v (ap (arguments_at end) (sym (assign-other js v f (not-listed js f a)) ∙ e))
says-applied js f (part s ps) end a b h = λ v e. h v (ap (arguments_at end) (e ∙ assign-other js v f (not-listed js f b)))
says-applied js f (part s ps) (part t qs) a b h =
    says-parts js (app f (part s ps)) (app f (part t qs)) (part s ps) (part t qs) (ap (app f)) (λ ks v e. ap (arguments_at end) e) (differences js (part s ps) (part t qs)) h

-- symbols of two applications that are no metavariables
same-head : (js : List Sym) (v : Sym → Tree) (f g : Sym) (ps qs : Parts) → meta_of js (app f ps) ≡ None → meta_of js (app g qs) ≡ None → assign js v (app f ps) ≡ assign js v (app g qs) → f ≡ g
same-head js v f g ps qs a b e = sym (kept f ps a) ∙ ap (symbol_at f) e ∙ kept g qs b
  where
    kept : (h : Sym) (rs : Parts) → meta_of js (app h rs) ≡ None → symbol_at f (assign js v (app h rs)) ≡ h
    kept h end c = ap (symbol_at f) (assign-other js v h (not-listed js h c))
    kept h (part t rs) c = refl

mixed : (js : List Sym) (s t : Tree) → (form_of s ≡ form_of t → ⊥) → Says js s t (met js s t Clash)
mixed js s t ne = says-met js s t Clash (λ a b v e. ne (sym (assign-form js v s a) ∙ ap form_of e ∙ assign-form js v t b))

mutual
  pub difference-says : (js : List Sym) (s t : Tree) → Says js s t (difference js s t)
  difference-says js (bound i) (bound j) = go (nat_eq i j) refl
    where
      go : (x : Bool) → nat_eq i j ≡ x → Says js (bound i) (bound j) (either x Same Clash)
      go true e = ap bound (nat-same i j e)
      go false e = λ v q. other_numbers i j e (ap index_at q)
  difference-says js (app f ps) (app g qs) = says-met js (app f ps) (app g qs) (either (same_sym f g) (differences js ps qs) Clash) (λ a b. go a b (same_sym f g) refl (differences-say js ps qs))
    where
      go : meta_of js (app f ps) ≡ None → meta_of js (app g qs) ≡ None → (x : Bool) → same_sym f g ≡ x → SaysAll js ps qs (differences js ps qs) → Says js (app f ps) (app g qs) (either x (differences js ps qs) Clash)
      go a b true e ih = subst (λ z. meta_of js (app z qs) ≡ None → Says js (app f ps) (app z qs) (differences js ps qs)) (sym-same f g e) (λ c. says-applied js f ps qs a c ih) b
      go a b false e ih = λ v q. other_symbols f g e (same-head js v f g ps qs a b q)
  difference-says js (node k ns ps) (node l ls qs) = go (nat_eq (head_code k) (head_code l)) refl (lists_equal ns ls) refl (differences-say js ps qs)
    where
      go : (x : Bool) → nat_eq (head_code k) (head_code l) ≡ x → (y : Bool) → lists_equal ns ls ≡ y → SaysAll js ps qs (differences js ps qs)
          → Says js (node k ns ps) (node l ls qs) (either x (either y (differences js ps qs) Clash) Clash)
      go true e true q ih = says-parts js (node k ns ps) (node l ls qs) ps qs (λ h i. node (head-same k l e i) (lists-same ns ls q i) (h i)) (λ ks v h. ap (arguments_at end) h) (differences js ps qs) ih
      go true e false q ih = λ v h. other_lists ns ls q (ap numbers_at h)
      go false e y q ih = λ v h. other_numbers (head_code k) (head_code l) e (ap (λ x. head_code (head_at x)) h)
  difference-says js (bind k ps c) (bind l qs d) = go (nat_eq (binder_code k) (binder_code l)) refl (differences-say js ps qs) (difference-says js c d)
    where
      inner : nat_eq (binder_code k) (binder_code l) ≡ true → (x : Difference) → SaysAll js ps qs x → (y : Difference) → Says js c d y → Says js (bind k ps c) (bind l qs d) (then x y)
      inner e Same p Same r = λ i. bind (binder-same k l e i) (p i) (r i)
      inner e Same p Clash r = λ v h. r v (ap (body_at c) h)
      inner e Same p (Bind m u) r = (r.0, r.1, (λ ks v w h. r.2 ks v w (ap (body_at c) h)))
      inner e Clash p y r = λ v h. p v (ap (arguments_at end) h)
      inner e (Bind m u) p y r = (p.0, p.1, (λ ks v w h. p.2 ks v w (ap (arguments_at end) h)))

      go : (x : Bool) → nat_eq (binder_code k) (binder_code l) ≡ x → SaysAll js ps qs (differences js ps qs) → Says js c d (difference js c d) → Says js (bind k ps c) (bind l qs d) (either x (then (differences js ps qs) (difference js c d)) Clash)
      go true e ih jh = inner e (differences js ps qs) ih (difference js c d) jh
      go false e ih jh = λ v h. other_numbers (binder_code k) (binder_code l) e (ap (λ x. binder_code (binder_at x)) h)
  difference-says js (bound i) (app g qs) = mixed js (bound i) (app g qs) (λ e. cc)
  difference-says js (bound i) (node l ls qs) = mixed js (bound i) (node l ls qs) (λ e. cc)
  difference-says js (bound i) (bind l qs d) = mixed js (bound i) (bind l qs d) (λ e. cc)
  difference-says js (app f ps) (bound j) = mixed js (app f ps) (bound j) (λ e. cc)
  difference-says js (app f ps) (node l ls qs) = mixed js (app f ps) (node l ls qs) (λ e. cc)
  difference-says js (app f ps) (bind l qs d) = mixed js (app f ps) (bind l qs d) (λ e. cc)
  difference-says js (node k ns ps) (bound j) = mixed js (node k ns ps) (bound j) (λ e. cc)
  difference-says js (node k ns ps) (app g qs) = mixed js (node k ns ps) (app g qs) (λ e. cc)
  difference-says js (node k ns ps) (bind l qs d) = mixed js (node k ns ps) (bind l qs d) (λ e. cc)
  difference-says js (bind k ps c) (bound j) = mixed js (bind k ps c) (bound j) (λ e. cc)
  difference-says js (bind k ps c) (app g qs) = mixed js (bind k ps c) (app g qs) (λ e. cc)
  difference-says js (bind k ps c) (node l ls qs) = mixed js (bind k ps c) (node l ls qs) (λ e. cc)

  differences-say : (js : List Sym) (ps qs : Parts) → SaysAll js ps qs (differences js ps qs)
  differences-say js end end = refl
  differences-say js end (part t qs) = λ v e. cc
  differences-say js (part s ps) end = λ v e. cc
  differences-say js (part s ps) (part t qs) = inner (difference js s t) (difference-says js s t) (differences js ps qs) (differences-say js ps qs)
    where
      inner : (x : Difference) → Says js s t x → (y : Difference) → SaysAll js ps qs y → SaysAll js (part s ps) (part t qs) (then x y)
      inner Same p Same r = λ i. part (p i) (r i)
      inner Same p Clash r = λ v h. r v (ap rest_of h)
      inner Same p (Bind m u) r = (r.0, r.1, (λ ks v w h. r.2 ks v w (ap rest_of h)))
      inner Clash p y r = λ v h. p v (ap (first_of s) h)
      inner (Bind m u) p y r = (p.0, p.1, (λ ks v w h. p.2 ks v w (ap (first_of s) h)))

-- equal terms differ nowhere
mutual
  pub says-self : (js : List Sym) (s : Tree) → difference js s s ≡ Same
  says-self js (bound i) = ap (λ x. either x Same Clash) (nat-refl i)
  says-self js (app f ps) = go (meta_of js (app f ps)) (meta-form js (app f ps)) (either (same_sym f f) (differences js ps ps) Clash) (ap (λ x. either x (differences js ps ps) Clash) (sym-refl f) ∙ say-self js ps)
    where
      go : (x : Option Sym) → IsMeta js (app f ps) x → (d : Difference) → d ≡ Same → met_by x x (app f ps) (app f ps) d ≡ Same
      go (Some g) p d e = ap (λ x. either x Same (Bind g (app f ps))) (ap (same (app g end)) p.0 ∙ same-refl (app g end))
      go None p d e = e
  says-self js (node k ns ps) =
      ap (λ x. either x (either (lists_equal ns ns) (differences js ps ps) Clash) Clash) (nat-refl (head_code k)) ∙ ap (λ x. either x (differences js ps ps) Clash) (lists-refl ns) ∙ say-self js ps
  says-self js (bind b ps e) = ap (λ x. either x (then (differences js ps ps) (difference js e e)) Clash) (nat-refl (binder_code b)) ∙ ap (λ x. then x (difference js e e)) (say-self js ps) ∙ says-self js e

  say-self : (js : List Sym) (ps : Parts) → differences js ps ps ≡ Same
  say-self js end = refl
  say-self js (part s ps) = ap (λ x. then x (differences js ps ps)) (says-self js s) ∙ say-self js ps
