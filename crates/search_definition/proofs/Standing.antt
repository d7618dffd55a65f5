-- What stands on a branch: grounds, live formulas, what a search over lists finds.
use Rattle.std.specs.Prelude.{◌≡◌, ℕ, zero, suc, ◌+◌, Bool, true, false, Option, Some, None, List, [], ◌∷◌, ◌++◌}
use Rattle.std.proofs.Common.{refl, arith, subst, inl, inr}
use Rattle.std.proofs.lemmas.Bool.{false≢true}
use Rattle.core_expr.specs.Tree.{Tree, Parts, not_, and_, or_, imp_, iff_, eq_}
use Rattle.core_expr.specs.Tree.Tree.{bound, app, node, bind}
use Rattle.core_expr.specs.Tree.Parts.{end, part}
use Rattle.core_expr.specs.Put.{IsScoped, AreScoped}
use Rattle.core_expr.specs.Terms.{same, is_scoped}
use Rattle.core_expr.proofs.Equal.{same-true, scoped-true}
use Rattle.seq_calculus.specs.Calculus.{Has, HasAll, IsClosed, AllClosed}
use Rattle.search_definition.specs.Terms.{if_so, either, or_else, after, first_some, in_list, replace, replaces, where_closed, subterms_before, parts_before, closed_subterms, first_at}
use Rattle.search_definition.specs.Branches.{Entry, Branch, formulas, alive, has, add, add_all, used}
use Rattle.search_definition.specs.Values.{whole, is_plainly_true, is_plainly_false, has_mirror, has_not_mirror, mirror, truth, both_true, one_true, implied, same_truth, grounds_by, merged, where_known, is_no, grounds, first_no, Truth}
use Rattle.search_definition.specs.Values.Truth.{Yes, No, Unknown}
use Rattle.search_definition.specs.Values.Whole.{Stands, ByItself, Mirrored, NotStands, FalseItself, NotMirrored, Undecided}
use Rattle.search_definition.specs.Rules.{Step, Result, at_entry, at_live, oldest, rises}
use Rattle.search_definition.specs.Watches.{LiveAt}
use Rattle.search_definition.specs.Laws.{OldestIs, SidesStayClosed}
use Rattle.search_definition.proofs.Lefts.{scoped_more}

-- what an answer has
abbrev pub Holds : {B : Type 0} → (B → Type 0) → Option B → Type 0
Holds P None = Unit {0}
Holds P (Some y) = P y

pub held : {B : Type 0} (P : B → Type 0) (o : Option B) (y : B) → o ≡ Some y → Holds P o → P y
held P o y e h = subst (Holds P) e h

pub or-holds : {B : Type 0} (P : B → Type 0) (o p : Option B) → Holds P o → Holds P p → Holds P (or_else o p)
or-holds P None p h k = k
or-holds P (Some y) p h k = h

pub after-holds : {A B : Type 0} (P : B → Type 0) (f : A → Option B) (Q : A → Type 0) → ((x : A) → Q x → Holds P (f x)) → (o : Option A) → Holds Q o → Holds P (after f o)
after-holds P f Q h None k = tt
after-holds P f Q h (Some x) k = h x k

pub if-holds : {B : Type 0} (P : B → Type 0) (x : Bool) (o p : Option B) → Holds P o → Holds P p → Holds P (if_so x o p)
if-holds P true o p h k = h
if-holds P false o p h k = k

-- an answer of a search through a list is that of one of its elements
abbrev pub Each : {A : Type 0} → (A → Type 0) → List A → Type 0
Each Q [] = Unit {0}
Each Q (x ∷ xs) = Q x × Each Q xs

pub first-holds : {A B : Type 0} (P : B → Type 0) (f : A → Option B) (Q : A → Type 0) → ((x : A) → Q x → Holds P (f x)) → (xs : List A) → Each Q xs → Holds P (first_some f xs)
first-holds P f Q h [] k = tt
first-holds P f Q h (x ∷ xs) k = or-holds P (f x) (first_some f xs) (h x k.0) (first-holds P f Q h xs k.1)

pub each : {A : Type 0} (Q : A → Type 0) → ((x : A) → Q x) → (xs : List A) → Each Q xs
each Q h [] = tt
each Q h (x ∷ xs) = (h x, each Q h xs)

-- closed subterms are closed
closed-before : (e : Tree) (rest : List Tree) → Each IsClosed rest → Each IsClosed (where_closed e rest)
closed-before e rest h = go (is_scoped 0 e) refl
  where
    go : (x : Bool) → is_scoped 0 e ≡ x → Each IsClosed (if_so x (e ∷ rest) rest)
    go true q = (scoped-true 0 e q, h)
    go false q = h

mutual
  subterms-closed : (e : Tree) (rest : List Tree) → Each IsClosed rest → Each IsClosed (subterms_before e rest)
  subterms-closed (bound i) rest h = h
  subterms-closed (app f ps) rest h = closed-before (app f ps) (parts_before ps rest) (parts-closed ps rest h)
  subterms-closed (node k ns ps) rest h = closed-before (node k ns ps) (parts_before ps rest) (parts-closed ps rest h)
  subterms-closed (bind b ps e) rest h = closed-before (bind b ps e) (parts_before ps (subterms_before e rest)) (parts-closed ps (subterms_before e rest) (subterms-closed e rest h))

  parts-closed : (ps : Parts) (rest : List Tree) → Each IsClosed rest → Each IsClosed (parts_before ps rest)
  parts-closed end rest h = h
  parts-closed (part e ps) rest h = subterms-closed e (parts_before ps rest) (parts-closed ps rest h)

pub at-holds : {B : Type 0} (P : B → Type 0) (f : Tree → Option B) → ((t : Tree) → IsClosed t → Holds P (f t)) → (e : Tree) → Holds P (first_at f e)
at-holds P f h e = first-holds P f IsClosed h (closed_subterms e) (subterms-closed e [] tt)

-- replacing by a closed term
mutual
  pub replace-scoped : (s t : Tree) → IsClosed t → (n : ℕ) (e : Tree) → IsScoped n e → IsScoped n (replace s t e)
  replace-scoped s t ct n (bound i) h = h
  replace-scoped s t ct n (app f ps) h = go (same s (app f ps)) (replaces-scoped s t ct n ps h)
    where
      go : (x : Bool) → AreScoped n (replaces s t ps) → IsScoped n (if_so x t (app f (replaces s t ps)))
      go true k = scoped_more 0 n t (omega arith) ct
      go false k = k
  replace-scoped s t ct n (node k ns ps) h = go (same s (node k ns ps)) (replaces-scoped s t ct n ps h)
    where
      go : (x : Bool) → AreScoped n (replaces s t ps) → IsScoped n (if_so x t (node k ns (replaces s t ps)))
      go true k = scoped_more 0 n t (omega arith) ct
      go false k = k
  replace-scoped s t ct n (bind b ps e) h = go (same s (bind b ps e)) (replaces-scoped s t ct n ps h.0) (replace-scoped s t ct (suc n) e h.1)
    where
      go : (x : Bool) → AreScoped n (replaces s t ps) → IsScoped (suc n) (replace s t e) → IsScoped n (if_so x t (bind b (replaces s t ps) (replace s t e)))
      go true k l = scoped_more 0 n t (omega arith) ct
      go false k l = (k, l)

  replaces-scoped : (s t : Tree) → IsClosed t → (n : ℕ) (ps : Parts) → AreScoped n ps → AreScoped n (replaces s t ps)
  replaces-scoped s t ct n end h = tt
  replaces-scoped s t ct n (part e ps) h = (replace-scoped s t ct n e h.0, replaces-scoped s t ct n ps h.1)

pub has-stands : (b : Branch) (f : Tree) → has b f ≡ true → Has (formulas b) f
has-stands [] f h = absurd (false≢true h)
has-stands (e ∷ b) f h = go (same e.formula f) refl (has-stands b f) h
  where
    go : (x : Bool) → same e.formula f ≡ x → (has b f ≡ true → Has (formulas b) f) → either x (has b f) ≡ true → Has (formulas (e ∷ b)) f
    go true q ih h = inl (same-true e.formula f q)
    go false q ih h = inr (ih h)

mirror-stands : (b : Branch) (f : Tree) → has_mirror b f ≡ true → Has (formulas b) (mirror f)
mirror-stands b (eq_ s t) h = has-stands b (eq_ t s) h
mirror-stands b _ h = absurd (false≢true h)

not-mirror-stands : (b : Branch) (f : Tree) → has_not_mirror b f ≡ true → Has (formulas b) (not_ (mirror f))
not-mirror-stands b (eq_ s t) h = has-stands b (not_ (eq_ t s)) h
not-mirror-stands b _ h = absurd (false≢true h)

whole-stands : (b : Branch) (f : Tree) (gs : List Tree) → HasAll (formulas b) gs → HasAll (formulas b) (grounds_by (whole b f) f gs)
whole-stands b f gs h = go (has b f) refl (is_plainly_true f) (has_mirror b f) refl (has b (not_ f)) refl (is_plainly_false f) (has_not_mirror b f) refl
  where
    go : (p : Bool) → has b f ≡ p → (q r : Bool) → has_mirror b f ≡ r → (s : Bool) → has b (not_ f) ≡ s → (t u : Bool) → has_not_mirror b f ≡ u
        → HasAll (formulas b) (grounds_by (if_so p Stands (if_so q ByItself (if_so r Mirrored (if_so s NotStands (if_so t FalseItself (if_so u NotMirrored Undecided)))))) f gs)
    go true e q r er s es t u eu = (has-stands b f e, tt)
    go false e true r er s es t u eu = tt
    go false e false true er s es t u eu = (mirror-stands b f er, tt)
    go false e false false er true es t u eu = (has-stands b (not_ f) es, tt)
    go false e false false er false es true u eu = tt
    go false e false false er false es false true eu = (not-mirror-stands b f eu, tt)
    go false e false false er false es false false eu = h

pub all-append : (g xs ys : List Tree) → HasAll g xs → HasAll g ys → HasAll g (xs ++ ys)
all-append g [] ys h k = k
all-append g (x ∷ xs) ys h k = (h.0, all-append g xs ys h.1 k)

merged-stands : (g ys xs : List Tree) → HasAll g xs → HasAll g ys → HasAll g (merged xs ys)
merged-stands g [] xs h k = h
merged-stands g (y ∷ ys) xs h k = go (in_list xs y) (merged-stands g ys xs h k.1) (merged-stands g ys (xs ++ y ∷ []) (all-append g xs (y ∷ []) h (k.0, tt)) k.1)
  where
    go : (x : Bool) → HasAll g (merged xs ys) → HasAll g (merged (xs ++ y ∷ []) ys) → HasAll g (if_so x (merged xs ys) (merged (xs ++ y ∷ []) ys))
    go true h k = h
    go false h k = k

known-stands : (g : List Tree) (t : Truth) (gs : List Tree) → HasAll g gs → HasAll g (where_known t gs)
known-stands g Unknown gs h = tt
known-stands g Yes gs h = h
known-stands g No gs h = h

pub grounds-stand : (b : Branch) (f : Tree) → HasAll (formulas b) (grounds b f)
unfolding grounds
grounds-stand b (not_ a) = whole-stands b (not_ a) (grounds b a) (grounds-stand b a)
grounds-stand b (and_ x y) =
    whole-stands b (and_ x y) _ (known-stands (formulas b) (both_true (truth b x) (truth b y)) (merged (grounds b x) (grounds b y)) (merged-stands (formulas b) (grounds b y) (grounds b x) (grounds-stand b x) (grounds-stand b y)))
grounds-stand b (or_ x y) =
    whole-stands b (or_ x y) _ (known-stands (formulas b) (one_true (truth b x) (truth b y)) (merged (grounds b x) (grounds b y)) (merged-stands (formulas b) (grounds b y) (grounds b x) (grounds-stand b x) (grounds-stand b y)))
grounds-stand b (imp_ x y) =
    whole-stands b (imp_ x y) _ (known-stands (formulas b) (implied (truth b x) (truth b y)) (merged (grounds b x) (grounds b y)) (merged-stands (formulas b) (grounds b y) (grounds b x) (grounds-stand b x) (grounds-stand b y)))
grounds-stand b (iff_ x y) =
    whole-stands b (iff_ x y) _ (known-stands (formulas b) (same_truth (truth b x) (truth b y)) (merged (grounds b x) (grounds b y)) (merged-stands (formulas b) (grounds b y) (grounds b x) (grounds-stand b x) (grounds-stand b y)))
grounds-stand b f = whole-stands b f [] tt

pub first-no-stands : (b : Branch) (fs : List Tree) → HasAll (formulas b) (first_no b fs)
first-no-stands b [] = tt
first-no-stands b (f ∷ fs) = go (is_no (truth b f)) (first-no-stands b fs)
  where
    go : (x : Bool) → HasAll (formulas b) (first_no b fs) → HasAll (formulas b) (if_so x (grounds b f) (first_no b fs))
    go true h = grounds-stand b f
    go false h = h

-- live formulas stand on the branch
deeper : (f : Tree) (xs ys : List Tree) → Each (Has xs) ys → Each (Has (f ∷ xs)) ys
deeper f xs [] h = tt
deeper f xs (y ∷ ys) h = (inr h.0, deeper f xs ys h.1)

pub alive-stand : (b : Branch) → Each (Has (formulas b)) (alive b)
alive-stand [] = tt
alive-stand (e ∷ b) = go e.live (deeper e.formula (formulas b) (alive b) (alive-stand b))
  where
    go : (x : Bool) → Each (Has (formulas (e ∷ b))) (alive b) → Each (Has (formulas (e ∷ b))) (if_so x (e.formula ∷ alive b) (alive b))
    go true h = (inl refl, h)
    go false h = h

pub live-stands : (b : Branch) (i : ℕ) (f : Tree) → LiveAt b i f → Has (formulas b) f
live-stands [] i f h = absurd h
live-stands (e ∷ b) zero f h = inl h.1
live-stands (e ∷ b) (suc i) f h = inr (live-stands b i f h)

pub closed-of : (g : List Tree) (f : Tree) → AllClosed g → Has g f → IsClosed f
closed-of [] f c h = absurd h
closed-of (x ∷ g) f c (inl e) = subst IsClosed e c.0
closed-of (x ∷ g) f c (inr h) = closed-of g f c.1 h

-- the oldest entry that a rule fits
record Found (rule : Tree → Option Step) (i : ℕ) (b : Branch) (r : Result) : Type 0 where
  formula : Tree
  behind : ℕ
  place : r.entry ≡ i + behind
  live : LiveAt b behind formula
  fits : rule formula ≡ Some r.step

oldest-found : (rule : Tree → Option Step) (i : ℕ) (b : Branch) → Holds (Found rule i b) (oldest rule i b)
oldest-found rule i [] = tt
oldest-found rule i (e ∷ b) = or-holds (Found rule i (e ∷ b)) (at_entry i (at_live rule e.live e.formula)) (oldest rule (suc i) b) (here e.live refl) (later (oldest rule (suc i) b) (oldest-found rule (suc i) b))
  where
    this : e.live ≡ true → (o : Option Step) → rule e.formula ≡ o → Holds (Found rule i (e ∷ b)) (at_entry i o)
    this l None q = tt
    this l (Some s) q = record { formula = e.formula; behind = 0; place = omega arith; live = (l, refl); fits = q }

    here : (x : Bool) → e.live ≡ x → Holds (Found rule i (e ∷ b)) (at_entry i (at_live rule x e.formula))
    here true l = this l (rule e.formula) refl
    here false l = tt

    later : (o : Option Result) → Holds (Found rule (suc i) b) o → Holds (Found rule i (e ∷ b)) o
    later None h = tt
    later (Some r) h = record { formula = h.formula; behind = suc h.behind; place = next r.entry h.behind h.place; live = h.live; fits = h.fits }
      where
        next : (x j : ℕ) → x ≡ suc i + j → x ≡ i + suc j
        next x j e = omega arith

pub oldest_is : OldestIs
oldest_is rule b r e =
    let f = held (Found rule 0 b) (oldest rule 0 b) r e (oldest-found rule 0 b) in
    let q : f.behind ≡ r.entry = omega (arith, f.place) in
    (f.formula, subst (λ i. LiveAt b i f.formula) q f.live, f.fits)

-- branches of closed formulas
closed-last : (b : Branch) (e : Entry) → AllClosed (formulas b) → IsClosed e.formula → AllClosed (formulas (b ++ e ∷ []))
closed-last [] e h k = (k, tt)
closed-last (d ∷ b) e h k = (h.0, closed-last b e h.1 k)

closed-all : (fs : List Tree) (b : Branch) → AllClosed (formulas b) → AllClosed fs → AllClosed (formulas (add_all b fs))
closed-all [] b h k = h
closed-all (f ∷ fs) b h k = closed-all fs (add b f) (one (has b f)) k.1
  where
    one : (x : Bool) → AllClosed (formulas (if_so x b (b ++ record { formula = f; live = true; count = 0 } ∷ [])))
    one true = h
    one false = closed-last b (record { formula = f; live = true; count = 0 }) h k.0

closed-used : (s r : Bool) (b : Branch) (i : ℕ) → AllClosed (formulas b) → AllClosed (formulas (used s r b i))
closed-used s r [] i h = h
closed-used s r (e ∷ b) zero h = h
closed-used s r (e ∷ b) (suc i) h = (h.0, closed-used s r b i h.1)

pub sides_stay_closed : SidesStayClosed
sides_stay_closed stay b r fs h k = closed-all fs (used stay (rises r.step.rule) b r.entry) (closed-used stay (rises r.step.rule) b r.entry h) k
