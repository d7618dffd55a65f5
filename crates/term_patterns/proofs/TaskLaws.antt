-- Lists of tasks, the last of which comes first, and images that are kept.
use Rattle.std.proofs.Common.{◌≡◌, ℕ, ◌+◌, ◌≤◌, Bool, true, false, ◌&&◌, nat_eq, cond, Option, Some, None, List, [], ◌∷◌, ◌++◌, map, refl, ap, sym, ◌∙◌, arith, subst, inl, inr, rules}
use Rattle.std.specs.Prelude.{◌⊎◌, IsSome}
use Rattle.std.proofs.lemmas.Bool.{and_parts, eqb-true}
use Rattle.core_expr.specs.Tree.{Tree}
use Rattle.term_patterns.specs.declared.spots.Spot.{Spot}
use Rattle.term_patterns.specs.declared.tasks.Task.{Task}
use Rattle.term_patterns.specs.declared.tasks.Task.TheVariants.{Visit, Build}
use Rattle.term_patterns.specs.Depths.{spot, image_at, kept, unless_found}
use Rattle.term_patterns.specs.Walked.{spot_of, IsToDo, IsReady, AreReady, IsSupported, AreSupported, AreUnder, weights}

-- images that are kept
abbrev same_spot : Spot → Spot → Bool
same_spot q p = nat_eq q.node p.node && nat_eq q.depth p.depth

nat-refl : (n : ℕ) → nat_eq n n ≡ true
nat-refl n = search rules

spot-same : (q p : Spot) → same_spot q p ≡ true → q ≡ p
spot-same q p e = λ i. spot (eqb-true q.node p.node (and_parts (nat_eq q.node p.node) (nat_eq q.depth p.depth) e).0 i) (eqb-true q.depth p.depth (and_parts (nat_eq q.node p.node) (nat_eq q.depth p.depth) e).1 i)

spot-refl : (q : Spot) → same_spot q q ≡ true
spot-refl q = (λ i. nat-refl q.node i && nat-refl q.depth i)

-- an image at the end is found where none was
pub data Last (es fs : List (Spot × ℕ)) (q p : Spot) (k : ℕ) : Type 0 where
  old : image_at fs p ≡ image_at es p → Last es fs q p k
  new : q ≡ p → image_at fs p ≡ Some k → Last es fs q p k

last_of : (es : List (Spot × ℕ)) (q p : Spot) (k : ℕ) → Last es (es ++ (q, k) ∷ []) q p k
last_of [] q p k = go (same_spot q p) refl
  where
    go : (b : Bool) → same_spot q p ≡ b → Last [] ((q, k) ∷ []) q p k
    go true e = new (spot-same q p e) (ap (λ b. cond b (Some k) None) e)
    go false e = old (ap (λ b. cond b (Some k) None) e)
last_of (e ∷ es) q p k = go (same_spot e.0 p) refl (last_of es q p k)
  where
    go : (b : Bool) → same_spot e.0 p ≡ b → Last es (es ++ (q, k) ∷ []) q p k → Last (e ∷ es) (e ∷ es ++ (q, k) ∷ []) q p k
    go true z r = old (ap (λ b. cond b (Some e.1) (image_at (es ++ (q, k) ∷ []) p)) z ∙ sym (ap (λ b. cond b (Some e.1) (image_at es p)) z))
    go false z (old r) = old (ap (λ b. cond b (Some e.1) (image_at (es ++ (q, k) ∷ []) p)) z ∙ r ∙ sym (ap (λ b. cond b (Some e.1) (image_at es p)) z))
    go false z (new s r) = new s (ap (λ b. cond b (Some e.1) (image_at (es ++ (q, k) ∷ []) p)) z ∙ r)

pub kept_last : (es : List (Spot × ℕ)) (q p : Spot) (k : ℕ) → Last es (kept q k es) q p k
kept_last es q p k = go (image_at es q) refl
  where
    go : (o : Option ℕ) → image_at es q ≡ o → Last es (unless_found o (q, k) es) q p k
    go None e = last_of es q p k
    go (Some m) e = old refl

has_last : (es : List (Spot × ℕ)) (q : Spot) (k : ℕ) → IsSome (image_at (es ++ (q, k) ∷ []) q)
has_last [] q k = subst (λ b. IsSome (cond b (Some k) None)) (sym (spot-refl q)) refl
has_last (e ∷ es) q k = go (same_spot e.0 q) (has_last es q k)
  where
    go : (b : Bool) → IsSome (image_at (es ++ (q, k) ∷ []) q) → IsSome (cond b (Some e.1) (image_at (es ++ (q, k) ∷ []) q))
    go true h = refl
    go false h = h

pub kept_has : (es : List (Spot × ℕ)) (q : Spot) (k : ℕ) → IsSome (image_at (kept q k es) q)
kept_has es q k = go (image_at es q) refl
  where
    go : (o : Option ℕ) → image_at es q ≡ o → IsSome (image_at (unless_found o (q, k) es) q)
    go None e = has_last es q k
    go (Some m) e = subst IsSome (sym e) refl

more_last : (es : List (Spot × ℕ)) (q p : Spot) (k : ℕ) → IsSome (image_at es p) → IsSome (image_at (es ++ (q, k) ∷ []) p)
more_last [] q p k h = absurd (never h)
  where
    never : false ≡ true → ⊥
    never h = cc
more_last (e ∷ es) q p k h = go (same_spot e.0 p) h (more_last es q p k)
  where
    go : (b : Bool) → IsSome (cond b (Some e.1) (image_at es p)) → (IsSome (image_at es p) → IsSome (image_at (es ++ (q, k) ∷ []) p)) → IsSome (cond b (Some e.1) (image_at (es ++ (q, k) ∷ []) p))
    go true h r = refl
    go false h r = r h

pub kept_more : (es : List (Spot × ℕ)) (q p : Spot) (k : ℕ) → IsSome (image_at es p) → IsSome (image_at (kept q k es) p)
kept_more es q p k h = go (image_at es q) refl
  where
    go : (o : Option ℕ) → image_at es q ≡ o → IsSome (image_at (unless_found o (q, k) es) p)
    go None e = more_last es q p k h
    go (Some m) e = h

-- tasks that are to do
to_do_split : (p : Spot) (mid us : List Task) → IsToDo p (mid ++ us) → IsToDo p mid ⊎ IsToDo p us
to_do_split p [] us h = inr h
to_do_split p (t ∷ mid) us (inl e) = inl (inl e)
to_do_split p (t ∷ mid) us (inr h) = go (to_do_split p mid us h)
  where
    go : IsToDo p mid ⊎ IsToDo p us → IsToDo p (t ∷ mid) ⊎ IsToDo p us
    go (inl h) = inl (inr h)
    go (inr h) = inr h

to_do_left : (p : Spot) (mid us : List Task) → IsToDo p mid → IsToDo p (mid ++ us)
to_do_left p [] us h = absurd h
to_do_left p (t ∷ mid) us (inl e) = inl e
to_do_left p (t ∷ mid) us (inr h) = inr (to_do_left p mid us h)

to_do_right : (p : Spot) (mid us : List Task) → IsToDo p us → IsToDo p (mid ++ us)
to_do_right p [] us h = h
to_do_right p (t ∷ mid) us h = inr (to_do_right p mid us h)

-- The last task t is done: what it was for has an image now, or is to do among us.
module _ (t : Task) (us : List Task) (es fs : List (Spot × ℕ)) (more : (p : Spot) → IsSome (image_at es p) → IsSome (image_at fs p)) (own : IsReady fs us (spot_of t)) where
  pub ready_after : (mid : List Task) (p : Spot) → IsReady es (mid ++ t ∷ []) p → IsReady fs (mid ++ us) p
  ready_after mid p (inl h) = inl (more p h)
  ready_after mid p (inr h) = go (to_do_split p mid (t ∷ []) h)
    where
      own_at : (q : Spot) → spot_of t ≡ q → IsReady fs us (spot_of t) → IsReady fs (mid ++ us) q
      own_at q e (inl h) = inl (subst (λ x. IsSome (image_at fs x)) e h)
      own_at q e (inr h) = inr (to_do_right q mid us (subst (λ x. IsToDo x us) e h))

      go : IsToDo p mid ⊎ IsToDo p (t ∷ []) → IsReady fs (mid ++ us) p
      go (inl h) = inr (to_do_left p mid us h)
      go (inr (inl e)) = own_at p e own
      go (inr (inr h)) = absurd h

  pub all_ready_after : (mid : List Task) (ps : List Spot) → AreReady es (mid ++ t ∷ []) ps → AreReady fs (mid ++ us) ps
  all_ready_after mid [] h = tt
  all_ready_after mid (p ∷ ps) h = (ready_after mid p h.0, all_ready_after mid ps h.1)

  pub supported_after : (ts : List Tree) (s : ℕ) (mid : List Task) → AreSupported ts s fs us → AreSupported ts s es (mid ++ t ∷ []) → AreSupported ts s fs (mid ++ us)
  supported_after ts s [] u h = u
  supported_after ts s (Visit q ∷ mid) u h = (tt, supported_after ts s mid u h.1)
  supported_after ts s (Build q ∷ mid) u h = ((λ ps w. all_ready_after mid ps (h.0 ps w)), supported_after ts s mid u h.1)

-- what supports the last task
pub last_supported : (ts : List Tree) (s : ℕ) (es : List (Spot × ℕ)) (mid : List Task) (t : Task) → AreSupported ts s es (mid ++ t ∷ []) → IsSupported ts s es t []
last_supported ts s es [] t h = h.0
last_supported ts s es (u ∷ mid) t h = last_supported ts s es mid t h.1

-- visits of all
ready_later : (es : List (Spot × ℕ)) (t : Task) (tasks : List Task) (ps : List Spot) → AreReady es tasks ps → AreReady es (t ∷ tasks) ps
ready_later es t tasks [] h = tt
ready_later es t tasks (p ∷ ps) h = (go h.0, ready_later es t tasks ps h.1)
  where
    go : IsReady es tasks p → IsReady es (t ∷ tasks) p
    go (inl h) = inl h
    go (inr h) = inr (inr h)

pub visits_ready : (es : List (Spot × ℕ)) (ps : List Spot) → AreReady es (map Visit ps) ps
visits_ready es [] = tt
visits_ready es (p ∷ ps) = (inr (inl refl), ready_later es (Visit p) (map Visit ps) ps (visits_ready es ps))

pub visits_supported : (ts : List Tree) (s : ℕ) (es : List (Spot × ℕ)) (ps : List Spot) → AreSupported ts s es (map Visit ps)
visits_supported ts s es [] = tt
visits_supported ts s es (p ∷ ps) = (tt, visits_supported ts s es ps)

-- tasks under a bound
pub under-both : (e : ℕ) (xs ys : List Task) → AreUnder e xs → AreUnder e ys → AreUnder e (xs ++ ys)
under-both e [] ys h k = k
under-both e (x ∷ xs) ys h k = (h.0, under-both e xs ys h.1 k)

pub under_front : (e : ℕ) (xs ys : List Task) → AreUnder e (xs ++ ys) → AreUnder e xs
under_front e [] ys h = tt
under_front e (x ∷ xs) ys h = (h.0, under_front e xs ys h.1)

pub under_last : (e : ℕ) (xs : List Task) (t : Task) → AreUnder e (xs ++ t ∷ []) → (spot_of t).node + (spot_of t).depth ≤ e
under_last e [] t h = h.0
under_last e (x ∷ xs) t h = under_last e xs t h.1

-- weights
pub weights-both : (ts : List Tree) (xs ys : List Task) → weights ts (xs ++ ys) ≡ weights ts xs + weights ts ys
weights-both ts [] ys = omega arith
weights-both ts (x ∷ xs) ys = let e = weights-both ts xs ys in omega (arith, e)
