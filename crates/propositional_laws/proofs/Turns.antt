-- What the turns of a propositional obligation keep, and how many there can be.
use Rattle.std.specs.Prelude.{◌≡◌, ℕ, zero, suc, ◌+◌, ◌^◌, ◌<◌, ◌≤◌, Bool, true, false, Option, Some, None, List, [], ◌∷◌, ◌++◌}
use Rattle.std.proofs.Common.{refl, sym, arith, subst, inl, inr}
use Rattle.std.proofs.Math.Nat.{pow-suc}
use Rattle.core_expr.specs.Tree.{Tree, not_}
use Rattle.seq_calculus.specs.Calculus.{Has, HasAll}
use Rattle.search_definition.specs.Terms.{if_so}
use Rattle.search_definition.specs.Branches.{Entry, Branch, formulas, has, add, add_all, raised, used, Closing, closing}
use Rattle.search_definition.specs.Rules.{Sides, Result, stays, stays_second, rises}
use Rattle.search_definition.specs.Rules.Sides.{Alone, Both}
use Rattle.search_definition.specs.Instances.{Fresh}
use Rattle.search_definition.specs.Needs.{union, without, contains, needs_of}
use Rattle.search_definition.specs.Search.{Mark, Turning, Open, first_rule, added_needs, sides_open, apply, mark_next, rest, Leaving, leaving, taken_by, taken, Next, turn_by_rule, turn_by, turn, End, last, then_run, run, denied, start, start_branch, fresh, search}
use Rattle.search_definition.specs.Search.Mark.{Left, Waiting, Needed}
use Rattle.search_definition.specs.Search.Next.{Stuck, Goes}
use Rattle.search_definition.specs.Search.End.{Closed, Saturated, Spent}
use Rattle.search_definition.specs.Watches.{LiveAt}
use Rattle.search_definition.proofs.Closings.{formulas_used}
use Rattle.search_definition.proofs.Needing.{entry_of}
use Rattle.search_definition.proofs.Standing.{Each, has-stands}
use Rattle.propositional_laws.specs.Formulas.{Formula, Formulas, all_connectives}
use Rattle.propositional_laws.specs.Formulas.Formula.{f_not}
use Rattle.propositional_laws.specs.Laws.{TurnsSuffice}
use Rattle.propositional_laws.proofs.Forms.{each-append, each-map, weight, weight-le, weights}
use Rattle.propositional_laws.proofs.Steps.{Within, Why, Side, Sided}
use Rattle.propositional_laws.proofs.Ranks.{Acts, rule-acts}

-- the weight of the live entries
abbrev load : Branch → ℕ
load [] = 0
load (e ∷ b) = if_so e.live (weight e.formula) 0 + load b

load-append : (b c : Branch) → load (b ++ c) ≡ load b + load c
load-append [] c = omega arith
load-append (e ∷ b) c = omega (arith, load-append b c)

-- What adding formulas makes of a branch.
record Grown (b c : Branch) (fs : List Tree) : Type 0 where
  within : Within b c
  added : HasAll (formulas c) fs
  loaded : load c ≤ load b + weights fs

front : (b c : Branch) → Within b (b ++ c)
front [] c f h = absurd h
front (e ∷ b) c f (inl h) = inl h
front (e ∷ b) c f (inr h) = inr (front b c f h)

at-end : (b : Branch) (e : Entry) → Has (formulas (b ++ e ∷ [])) e.formula
at-end [] e = inl refl
at-end (d ∷ b) e = inr (at-end b e)

grown-one : (b : Branch) (f : Tree) (x : Bool) → has b f ≡ x → Grown b (if_so x b (b ++ entry_of f ∷ [])) (f ∷ [])
grown-one b f true e = record { within = λ g h. h; added = (has-stands b f e, tt); loaded = omega arith }
grown-one b f false e = record { within = front b (entry_of f ∷ []); added = (at-end b (entry_of f), tt); loaded = omega (arith, load-append b (entry_of f ∷ [])) }

grown : (fs : List Tree) (b : Branch) → Grown b (add_all b fs) fs
grown [] b = record { within = λ g h. h; added = tt; loaded = omega arith }
grown (f ∷ fs) b =
    let o : Grown b (add b f) (f ∷ []) = grown-one b f (has b f) refl in
    let r : Grown (add b f) (add_all (add b f) fs) fs = grown fs (add b f) in
    record { within = λ g h. r.within g (o.within g h); added = (r.within f o.added.0, r.added); loaded = omega (arith, o.loaded, r.loaded) }

-- what holds of the entries, and of what is added as an entry
each-grown : (Q : Entry → Type 0) (fs : List Tree) (b : Branch) → Each Q b → Each (λ f. Q (entry_of f)) fs → Each Q (add_all b fs)
each-grown Q [] b h k = h
each-grown Q (f ∷ fs) b h k = each-grown Q fs (add b f) (one (has b f)) k.1
  where
    one : (x : Bool) → Each Q (if_so x b (b ++ entry_of f ∷ []))
    one true = h
    one false = each-append Q b (entry_of f ∷ []) h (k.0, tt)

entries-formulas : (P : Tree → Type 0) (b : Branch) → Each (λ (e : Entry). P e.formula) b → Each P (formulas b)
entries-formulas P [] h = tt
entries-formulas P (e ∷ b) h = (h.0, entries-formulas P b h.1)

formulas-entries : (P : Tree → Type 0) (b : Branch) → Each P (formulas b) → Each (λ (e : Entry). P e.formula) b
formulas-entries P [] h = tt
formulas-entries P (e ∷ b) h = (h.0, formulas-entries P b h.1)

-- what holds of the formulas on a branch, and of those that are added
pub each-added : (P : Tree → Type 0) (fs : List Tree) (b : Branch) → Each P (formulas b) → Each P fs → Each P (formulas (add_all b fs))
each-added P fs b h k = entries-formulas P (add_all b fs) (each-grown (λ (e : Entry). P e.formula) fs b (formulas-entries P b h) k)

-- the used entry
each-used : (Q : Entry → Type 0) (rises : Bool) (b : Branch) (i : ℕ) (f : Tree) → LiveAt b i f → ((n : ℕ) → Q (record { formula = f; live = false; count = n })) → Each Q b → Each Q (used false rises b i)
each-used Q rises [] i f l q h = tt
each-used Q rises (e ∷ b) zero f l q h = (subst (λ g. Q (record { formula = g; live = false; count = raised rises e.count })) (sym l.1) (q (raised rises e.count)), h.1)
each-used Q rises (e ∷ b) (suc i) f l q h = (h.0, each-used Q rises b i f l q h.1)

load-used : (rises : Bool) (b : Branch) (i : ℕ) (f : Tree) → LiveAt b i f → load (used false rises b i) + weight f ≡ load b
load-used rises [] i f l = absurd l
load-used rises (e ∷ b) zero f l = subst (λ g. (0 + load b) + weight g ≡ load (e ∷ b)) l.1 (go e.live l.0)
  where
    go : (x : Bool) → x ≡ true → (0 + load b) + weight e.formula ≡ if_so x (weight e.formula) 0 + load b
    go true h = omega arith
    go false h = cc
load-used rises (e ∷ b) (suc i) f l = omega (arith, load-used rises b i f l)

-- what is so of an entry on the branch c: it is a formula, which is explained once it is dead
abbrev pub Good : Branch → Entry → Type 0
Good c e = Formula e.formula × (e.live ≡ false → Why c e.formula)

-- What the turns keep of a branch: its entries are good, and it has what the search started with.
pub record Keeps (all : List Tree) (b : Branch) : Type 0 where
  pub entries : Each (Good b) b
  pub started : HasAll (formulas b) all

pub keeps-formed : (all : List Tree) (b : Branch) → Keeps all b → Formulas (formulas b)
keeps-formed all b k = entries-formulas Formula b (each-map (Good b) (λ (e : Entry). Formula e.formula) (λ e g. g.0) b k.entries)

has-within : (b c : Branch) (fs : List Tree) → Within b c → HasAll (formulas b) fs → HasAll (formulas c) fs
has-within b c [] w h = tt
has-within b c (f ∷ fs) w h = (w f h.0, has-within b c fs w h.1)

why-within : (b c : Branch) (f : Tree) → Within b c → Why b f → Why c f
why-within b c f w y v t = y v (λ g h l. t g (w g h) l)

-- the branch of a side: it keeps all that, and has a smaller load
abbrev NextSide : List Tree → Branch → Branch → Type 0
NextSide all b c = Keeps all c × (load c < load b)

module _ (all : List Tree) (b : Branch) (i : ℕ) (rises : Bool) (f : Tree) (fs : List Tree) (p : Formula f) (l : LiveAt b i f) (k : Keeps all b) (s : Side b f fs) where
  abbrev dead : Branch
  dead = used false rises b i

  abbrev c : Branch
  c = add_all dead fs

  within : Within b c
  within h m = (grown fs dead).within h (subst (λ xs. Has xs h) (sym (formulas_used false rises b i)) m)

  why : Why c f
  why = s.explains c within (grown fs dead).added

  entries : Each (Good c) c
  entries =
      each-grown (Good c) fs dead
      (each-used (Good c) rises b i f l (λ n. (p, λ e. why)) (each-map (Good b) (Good c) (λ e h. (h.0, λ m. why-within b c e.formula within (h.1 m))) b k.entries))
      (each-map Formula (λ h. Good c (entry_of h)) (λ h q. (q, λ m. cc)) fs s.formed)

  dead-side : NextSide all b c
  dead-side = (record { entries = entries; started = has-within b c all within k.started }, omega (arith, (grown fs dead).loaded, load-used rises b i f l, s.lighter))

  next-side : (stay : Bool) → stay ≡ false → NextSide all b (add_all (used stay rises b i) fs)
  next-side stay d = subst (λ x. NextSide all b (add_all (used x rises b i) fs)) (sym d) dead-side

-- turns that are enough for a branch of this load
abbrev enough : ℕ → ℕ
enough zero = 1
enough (suc n) = suc (enough n + enough n)

enough-some : (n : ℕ) → 0 < enough n
enough-some zero = omega arith
enough-some (suc n) = omega arith

enough-grows : (n m : ℕ) → m ≤ n → enough m ≤ enough n
enough-grows zero zero h = omega arith
enough-grows zero (suc m) h = absurd (omega arith)
enough-grows (suc n) zero h = omega (arith, enough-some n)
enough-grows (suc n) (suc m) h = omega (arith, enough-grows n m (omega arith))

enough-power : (n : ℕ) → suc (enough n) ≡ 2 ^ suc n
enough-power zero = refl
enough-power (suc n) = omega (arith, enough-power n, pow-suc 2 (suc n))

two-lighter : (n x y : ℕ) → x < n → y < n → enough x + enough y < enough n
two-lighter zero x y h k = absurd (omega arith)
two-lighter (suc n) x y h k = omega (arith, enough-grows n x (omega arith), enough-grows n y (omega arith))

abbrev pub needed : List Open → ℕ
needed [] = 0
needed (o ∷ os) = enough (load o.branch) + needed os

needed-append : (os ps : List Open) → needed (os ++ ps) ≡ needed os + needed ps
needed-append [] ps = omega arith
needed-append (o ∷ os) ps = omega (arith, needed-append os ps)

-- a branch that does not close and that no rule fits
abbrev pub IsStuck : Fresh → Branch → Type 0
IsStuck w b = (closing b ≡ None) × (first_rule w b ≡ None)

module _ (all : List Tree) where
  -- what holds of each open branch
  abbrev pub Kept : List Open → Type 0
  Kept os = Each (λ (o : Open). Keeps all o.branch) os

  kept-append : (os ps : List Open) → Kept os → Kept ps → Kept (os ++ ps)
  kept-append os ps h k = each-append (λ (o : Open). Keeps all o.branch) os ps h k

  sides-kept : (n : ℕ) (r : Result) (u : List ℕ) (o : Open) (f : Tree) → Formula f → LiveAt o.branch r.entry f → Keeps all o.branch → stays r.step.rule ≡ false → stays_second r.step.rule ≡ false
      → (s : Sides) → Sided o.branch f s → Kept (sides_open n r u o s) × (needed (sides_open n r u o s) < enough (load o.branch))
  sides-kept n r u o f p l k d e (Alone fs) s =
      let x = next-side all o.branch r.entry (rises r.step.rule) f fs p l k s (stays r.step.rule) d in
      ((x.0, tt), omega (arith, two-lighter (load o.branch) (load (add_all (used (stays r.step.rule) (rises r.step.rule) o.branch r.entry) fs)) (load (add_all (used (stays r.step.rule) (rises r.step.rule) o.branch r.entry) fs)) x.1 x.1))
  sides-kept n r u o f p l k d e (Both fs gs) s =
      let x = next-side all o.branch r.entry (rises r.step.rule) f fs p l k s.0 (stays r.step.rule) d in
      let y = next-side all o.branch r.entry (rises r.step.rule) f gs p l k s.1 (stays_second r.step.rule) e in
      ((x.0, (y.0, tt)), omega (arith, two-lighter (load o.branch) (load (add_all (used (stays r.step.rule) (rises r.step.rule) o.branch r.entry) fs)) (load (add_all (used (stays_second r.step.rule) (rises r.step.rule) o.branch r.entry) gs)) x.1 y.1))

  -- dropping keeps it, and leaves no more to do
  abbrev LeftBy : List Open → Leaving → Type 0
  LeftBy os v = Kept v.opens × (needed v.opens ≤ needed os)

  marked-left : (n : ℕ) (ks : List ℕ) (r : Option ℕ) (os : List Open) → Kept os → LeftBy os (leaving (mark_next n ks os) r)
  marked-left n ks r [] h = (tt, omega arith)
  marked-left n ks r (o ∷ os) h = (h, omega arith)

  taken-left : (path : List Turning) (u : List ℕ) (os : List Open) → Kept os → LeftBy os (taken path u os)
  taken-left [] u os h = (h, omega arith)
  taken-left (t ∷ ts) u os h = go t.mark (taken-left ts)
    where
      fewer : (os : List Open) → ((ps : List Open) → Kept ps → LeftBy ps (taken ts u ps)) → Kept os → LeftBy os (taken ts u (rest os))
      fewer [] ih k = ih [] k
      fewer (o ∷ os) ih k = let x = ih os k.1 in (x.0, omega (arith, x.1))

      left : (x : Bool) → LeftBy os (taken ts u (rest os)) → LeftBy os (if_so x (leaving (mark_next t.number (without u t.number) os) (Some t.number)) (taken ts u (rest os)))
      left true k = marked-left t.number (without u t.number) (Some t.number) os h
      left false k = k

      go : (m : Mark) → ((u : List ℕ) (os : List Open) → Kept os → LeftBy os (taken ts u os)) → LeftBy os (taken_by m t.number u os (taken ts))
      go Left ih = left (contains u t.number) (fewer os (ih u) h)
      go Waiting ih = (h, omega arith)
      go (Needed k) ih = ih (without (union u k) t.number) os h

  module _ (w : Fresh) where
    -- a turn keeps it and leaves less to do, or the first branch is stuck
    abbrev After : Open → List Open → Next → Type 0
    After o os (Stuck b) = Keeps all b × IsStuck w b
    After o os (Goes m ps) = Kept ps × (needed ps < enough (load o.branch) + needed os)

    turn-after : (n : ℕ) (o : Open) (os : List Open) → Kept (o ∷ os) → After o os (turn w n o os)
    unfolding turn apply
    turn-after n o os k = go (closing o.branch) refl
      where
        rule : closing o.branch ≡ None → (x : Option Result) → first_rule w o.branch ≡ x → After o os (turn_by_rule n o os x)
        rule c None e = (k.0, (c, e))
        rule c (Some r) e =
            let a : Acts o.branch r = rule-acts w o.branch (keeps-formed all o.branch k.0) r e in
            let s = sides-kept n r (added_needs n r o.branch o.needs) o a.formula a.formed a.live k.0 a.does.dies a.does.dies_second r.step.sides a.does.sides in
            (kept-append (sides_open n r (added_needs n r o.branch o.needs) o r.step.sides) os s.0 k.1, omega (arith, needed-append (sides_open n r (added_needs n r o.branch o.needs) o r.step.sides) os, s.1))

        go : (x : Option Closing) → closing o.branch ≡ x → After o os (turn_by w n o os x)
        go (Some c) e = let l = taken-left o.path (needs_of o.branch o.needs c.entries) os k.1 in (l.0, omega (arith, l.1, enough-some (load o.branch)))
        go None e = rule e (first_rule w o.branch) refl

    -- what an end says after n turns at most
    abbrev pub Ends : ℕ → List Open → End → Type 0
    Ends n os (Closed m) = Unit {0}
    Ends n os (Saturated b m) = Keeps all b × IsStuck w b
    Ends n os (Spent m) = n < needed os

    later : (n : ℕ) (os ps : List Open) (e : End) → needed ps < needed os → Ends n ps e → Ends (suc n) os e
    later n os ps (Closed m) l h = tt
    later n os ps (Saturated b m) l h = h
    later n os ps (Spent m) l h = omega (arith, l, h)

    run-ends : (n used : ℕ) (os : List Open) → Kept os → Ends n os (run w n used os)
    run-ends n used [] k = tt
    run-ends zero used (o ∷ os) k = go (turn w (suc used) o os) (turn-after (suc used) o os k)
      where
        go : (t : Next) → After o os t → Ends zero (o ∷ os) (last used t)
        go (Stuck b) h = h
        go (Goes m ps) h = omega (arith, enough-some (load o.branch))
    run-ends (suc n) used (o ∷ os) k = go (run-ends n (suc used)) (turn w (suc used) o os) (turn-after (suc used) o os k)
      where
        go : ((ps : List Open) → Kept ps → Ends n ps (run w n (suc used) ps)) → (t : Next) → After o os t → Ends (suc n) (o ∷ os) (then_run (run w n (suc used)) used t)
        go ih (Stuck b) h = h
        go ih (Goes m ps) h = later n (o ∷ os) ps (run w n (suc used) ps) h.1 (ih ps h.0)

-- the search on an obligation keeps what it starts with
pub keeps-start : (facts : List Tree) (goal : Tree) → Formulas facts → Formula goal → Keeps (denied facts goal) (start_branch facts goal)
keeps-start facts goal p q =
    record {
      entries =
          each-grown (Good (start_branch facts goal)) (denied facts goal) [] tt
          (each-map Formula (λ h. Good (start_branch facts goal) (entry_of h)) (λ h r. (r, λ m. cc)) (denied facts goal) (each-append Formula facts (not_ goal ∷ []) p (f_not q, tt)));
      started = (grown (denied facts goal) []).added;
    }

pub search-ends : (facts : List Tree) (goal : Tree) (limit : ℕ) → Formulas facts → Formula goal → Ends (denied facts goal) (fresh facts goal) limit (start facts goal) (search facts goal limit)
unfolding search
search-ends facts goal limit p q = run-ends (denied facts goal) (fresh facts goal) limit 0 (start facts goal) (keeps-start facts goal p q, tt)

weights-count : (facts : List Tree) (goal : Tree) → weights (denied facts goal) ≤ all_connectives facts goal
weights-count [] goal = omega arith
weights-count (f ∷ facts) goal = omega (arith, weight-le f, weights-count facts goal)

pub turns_suffice : TurnsSuffice
turns_suffice facts goal p q limit m l h =
    let c : ℕ = all_connectives facts goal in
    let x : limit < needed (start facts goal) = subst (Ends (denied facts goal) (fresh facts goal) limit (start facts goal)) h (search-ends facts goal limit p q) in
    let y : load (start_branch facts goal) ≤ c = omega (arith, (grown (denied facts goal) []).loaded, weights-count facts goal) in
    let z : 2 ^ suc c ≤ limit = subst (λ n. 2 ^ n ≤ limit) (plus-one c) l in
    absurd (omega (arith, x, z, enough-grows c (load (start_branch facts goal)) y, enough-power c))
  where
    plus-one : (n : ℕ) → n + 1 ≡ suc n
    plus-one n = omega arith
