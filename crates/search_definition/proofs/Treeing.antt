-- A search that ends closed follows a closed tree: its steps are those of the tree.
use Rattle.std.proofs.Common.{◌≡◌, ◌⊎◌, ℕ, zero, suc, ◌+◌, ◌<◌, ◌≤◌, Bool, true, false, Option, Some, None, List, [], ◌∷◌, ◌++◌, refl, ap, sym, ◌∙◌, subst, arith, inl, inr, append_assoc}
use Rattle.std.proofs.lemmas.Bool.{false≢true, eq-eqb}
use Rattle.core_expr.specs.Tree.{Tree}
use Rattle.search_definition.specs.declared.rule.Rank.{Rank}
use Rattle.search_definition.specs.Terms.{if_so, either, or_else, first_some, in_list}
use Rattle.search_definition.specs.Branches.{Branch, Closing, closing}
use Rattle.search_definition.specs.Rules.{Sides, Result, stays, stays_second}
use Rattle.search_definition.specs.Rules.Sides.{Alone, Both}
use Rattle.search_definition.specs.Instances.{Fresh}
use Rattle.search_definition.specs.Needs.{contains, union, without, needs_at, needs_of}
use Rattle.search_definition.specs.Search.{Applies, Open, Leaving, leaving, set_mark, mark_next, added_needs, side_open, sides_open, apply, taken, lacking, Move, applied, Next, shut, turn_by_rule, turn_by, turn, End, last, then_run, run, then_moves, moves, first_rule, by_rank, ranks, fresh, start, start_branch, denied, grown, search, steps}
use Rattle.search_definition.specs.Search.Mark.{Left, Waiting, Needed}
use Rattle.search_definition.specs.Search.Move.{Shuts, Applied}
use Rattle.search_definition.specs.Search.Next.{Stuck, Goes}
use Rattle.search_definition.specs.Search.End.{Closed, Saturated, Spent}
use Rattle.search_definition.specs.Trees.{Turns, newly, minus, meets, used_with, used_by, IsSearched, turns, steps_of, first_branch, second_branch}
use Rattle.search_definition.specs.Trees.Turns.{one, first, both}
use Rattle.search_definition.specs.Laws.{ClosedHasTree, SearchedIsClosed}
use Rattle.search_definition.proofs.Falling.{in_merge}
use Rattle.search_definition.proofs.Needing.{Aligned, aligned-grown, new-grown, needs-none}
use Rattle.search_definition.proofs.Uses.{not-grown, or-left, or-right, either-one, in-append, Needs, Below, in-needs, added-named, added-split, added-below, without-other, side-aligned, side-below, side-minus, side-met}

-- the needs of an open branch: a set for each entry, all below the number of the next turn
abbrev Good : Open → ℕ → Type 0
Good o used = Aligned o.branch o.needs × Below o.branch o.needs (suc used)

-- What is known once the first open branch is finished: its tree; how many turns are left and were used then; what was needed; and that the search goes on with what is left behind it.
record Finished (w : Fresh) (n used : ℕ) (o : Open) (os : List Open) (k : ℕ) (ms : List Move) : Type 0 where
  tree : Turns
  left : ℕ
  now : ℕ
  needed : List ℕ
  searched : IsSearched w o.branch tree
  covered : Needs o.branch o.needs (used_by o.branch tree) needed
  fewer : left < n
  counted : now ≡ used + turns tree
  goes_on : run w left now (taken o.path needed os).opens ≡ Closed k
  listed : ms ≡ steps_of (suc used) (taken o.path needed os).resumed o.branch tree ++ moves w left now (taken o.path needed os).opens

-- the branch closes
closes : (w : Fresh) (k n used : ℕ) (o : Open) (os : List Open) (c : Closing) → closing o.branch ≡ Some c → run w n (suc used) (taken o.path (needs_of o.branch o.needs c.entries) os).opens ≡ Closed k
    → Finished w (suc n) used o os k (Shuts c (taken o.path (needs_of o.branch o.needs c.entries) os).resumed ∷ moves w n (suc used) (taken o.path (needs_of o.branch o.needs c.entries) os).opens)
closes w k n used o os c e h =
    record {
      tree = Turns.shut c;
      left = n;
      now = suc used;
      needed = needs_of o.branch o.needs c.entries;
      searched = e;
      covered = in-needs o.branch o.needs c.entries;
      fewer = omega arith;
      counted = omega arith;
      goes_on = h;
      listed = refl;
    }

-- a search with fewer turns finishes its first branch
abbrev Goes_on : Fresh → ℕ → ℕ → Type 0
Goes_on w k n = (m used : ℕ) (o : Open) (os : List Open) → m ≤ n → Good o used → run w m used (o ∷ os) ≡ Closed k → Finished w m used o os k (moves w m used (o ∷ os))

-- what a rule uses, by whether something new is used
covers-with : (b : Branch) (needs : List (List ℕ)) (named us : List Tree) (u : List ℕ) (x : Bool) → (x ≡ true → Needs b needs named u) → Needs b needs us u → Needs b needs (used_with x named us) u
covers-with b needs named us u true h k f p y c = elim (in-append named us f p) [ inl q ↦ h refl f q y c | inr q ↦ k f q y c ]
covers-with b needs named us u false h k f p y c = k f p y c

module _ (w : Fresh) (k n used : ℕ) (o : Open) (os : List Open) (g : Good o used) (r : Result) (er : first_rule w o.branch ≡ Some r) (go_on : Goes_on w k n) where
  abbrev u : List ℕ
  u = added_needs (suc used) r o.branch o.needs

  u-below : (x : ℕ) → contains u x ≡ true → x < suc (suc used)
  u-below = added-below (suc used) r o.branch o.needs g.1

  -- a rule with one side
  goes-one : (fs : List Tree) → r.step.sides ≡ Alone fs → run w n (suc used) (side_open (stays r.step.rule) r u o.path o.branch o.needs fs ∷ os) ≡ Closed k
      → Finished w (suc n) used o os k (Applied r (lacking o.branch fs) [] ∷ moves w n (suc used) (side_open (stays r.step.rule) r u o.path o.branch o.needs fs ∷ os))
  goes-one fs es h =
      let s : Open = side_open (stays r.step.rule) r u o.path o.branch o.needs fs in
      let f = go_on n (suc used) s os (omega arith) (side-aligned (stays r.step.rule) r u o.path o.branch o.needs fs g.0, side-below (stays r.step.rule) r u o.path o.branch o.needs fs g.0 (suc used) g.1 u-below) h in
      let us : List Tree = used_by s.branch f.tree in
      record {
        tree = one r fs f.tree;
        left = f.left;
        now = f.now;
        needed = f.needed;
        searched = (er, es, f.searched);
        covered =
            covers-with o.branch o.needs r.step.named (minus us (newly o.branch fs)) f.needed (meets us (newly o.branch fs))
            (λ m q p x c. side-met (stays r.step.rule) r u o.path o.branch o.needs fs g.0 us f.needed f.covered m x (added-named (suc used) r o.branch o.needs q p x c))
            (side-minus (stays r.step.rule) r u o.path o.branch o.needs fs g.0 us f.needed f.covered);
        fewer = omega (arith, f.fewer);
        counted = omega (arith, f.counted);
        goes_on = f.goes_on;
        listed = ap (λ ms. Applied r (lacking o.branch fs) [] ∷ ms) f.listed;
      }

  module _ (fs gs : List Tree) (es : r.step.sides ≡ Both fs gs) where
    abbrev left_side : Open
    left_side = side_open (stays r.step.rule) r u (record { number = suc used; mark = Left } ∷ o.path) o.branch o.needs fs

    abbrev right_side : Open
    right_side = side_open (stays_second r.step.rule) r u (record { number = suc used; mark = Waiting } ∷ o.path) o.branch o.needs gs

    abbrev step : Move
    step = Applied r (lacking o.branch fs) (lacking o.branch gs)

    left-good : Good left_side (suc used)
    left-good =
        (side-aligned (stays r.step.rule) r u left_side.path o.branch o.needs fs g.0, side-below (stays r.step.rule) r u left_side.path o.branch o.needs fs g.0 (suc used) g.1 u-below)

    -- the first side did not need the split
    drops : (f : Finished w n (suc used) left_side (right_side ∷ os) k (moves w n (suc used) (left_side ∷ right_side ∷ os))) → contains f.needed (suc used) ≡ false
        → Finished w (suc n) used o os k (step ∷ moves w n (suc used) (left_side ∷ right_side ∷ os))
    drops f e =
        let us : List Tree = used_by left_side.branch f.tree in
        let v : Leaving = taken o.path f.needed os in
        let q : taken left_side.path f.needed (right_side ∷ os) ≡ v = ap (λ x. if_so x (leaving (mark_next (suc used) (without f.needed (suc used)) (right_side ∷ os)) (Some (suc used))) v) e in
        record {
          tree = first r fs gs f.tree;
          left = f.left;
          now = f.now;
          needed = f.needed;
          searched = (er, es, f.searched, unused (meets us (newly o.branch fs)) refl);
          covered = side-minus (stays r.step.rule) r u left_side.path o.branch o.needs fs g.0 us f.needed f.covered;
          fewer = omega (arith, f.fewer);
          counted = omega (arith, f.counted);
          goes_on = ap (λ (l : Leaving). run w f.left f.now l.opens) (sym q) ∙ f.goes_on;
          listed =
              ap (λ ms. step ∷ ms) f.listed
              ∙ ap (λ (l : Leaving). step ∷ (steps_of (suc (suc used)) l.resumed left_side.branch f.tree ++ moves w f.left f.now l.opens)) q;
        }
      where
        unused : (x : Bool) → meets (used_by left_side.branch f.tree) (newly o.branch fs) ≡ x → x ≡ false
        unused true m =
            absurd
            (false≢true
            (sym e ∙ side-met (stays r.step.rule) r u left_side.path o.branch o.needs fs g.0 (used_by left_side.branch f.tree) f.needed f.covered m (suc used) (added-split (suc used) r o.branch o.needs fs gs es)))
        unused false m = refl

    -- the first side needed the split, and the second is worked on
    abbrev next_side : List ℕ → Open
    next_side v = record { branch = right_side.branch; needs = right_side.needs; path = record { number = suc used; mark = Needed v } ∷ o.path }

    resumes : (f : Finished w n (suc used) left_side (right_side ∷ os) k (moves w n (suc used) (left_side ∷ right_side ∷ os))) → contains f.needed (suc used) ≡ true
        → Finished w (suc n) used o os k (step ∷ moves w n (suc used) (left_side ∷ right_side ∷ os))
    resumes f e =
        let v : List ℕ = without f.needed (suc used) in
        let q : taken left_side.path f.needed (right_side ∷ os) ≡ leaving (next_side v ∷ os) (Some (suc used)) =
        ap (λ x. if_so x (leaving (mark_next (suc used) v (right_side ∷ os)) (Some (suc used))) (taken o.path f.needed os)) e
        ∙ ap (λ x. leaving (record { branch = right_side.branch; needs = right_side.needs; path = if_so x (record { number = suc used; mark = Needed v } ∷ o.path) (record { number = suc used; mark = Waiting } ∷ set_mark (suc used) v o.path) } ∷ os) (Some (suc used))) (eq-eqb (suc used) (suc used) refl)
        in
        let h : run w f.left f.now (next_side v ∷ os) ≡ Closed k = ap (λ (l : Leaving). run w f.left f.now l.opens) (sym q) ∙ f.goes_on in
        let s = go_on f.left f.now (next_side v) os (omega (arith, f.fewer)) (right-good f.now (omega (arith, f.counted))) h in
        let us : List Tree = used_by left_side.branch f.tree in
        let vs : List Tree = used_by right_side.branch s.tree in
        let z : List ℕ = without (union s.needed v) (suc used) in
        record {
          tree = both r fs gs f.tree s.tree;
          left = s.left;
          now = s.now;
          needed = z;
          searched = (er, es, f.searched, s.searched);
          covered =
              covers-with o.branch o.needs r.step.named (minus us (newly o.branch fs) ++ minus vs (newly o.branch gs)) z (either (meets us (newly o.branch fs)) (meets vs (newly o.branch gs)))
              (λ m q p x c. named-covered f.needed s.needed us vs f.covered s.covered m q p x c)
              (rest-covered f.needed s.needed us vs f.covered s.covered);
          fewer = omega (arith, f.fewer, s.fewer);
          counted = omega (arith, f.counted, s.counted);
          goes_on = s.goes_on;
          listed =
              ap (λ ms. step ∷ ms) f.listed
              ∙ ap (λ (l : Leaving). step ∷ (steps_of (suc (suc used)) l.resumed left_side.branch f.tree ++ moves w f.left f.now l.opens)) q
              ∙ ap (λ ms. step ∷ (steps_of (suc (suc used)) (Some (suc used)) left_side.branch f.tree ++ ms)) s.listed
              ∙ ap (λ i. step ∷ (steps_of (suc (suc used)) (Some (suc used)) left_side.branch f.tree ++ (steps_of i (taken o.path z os).resumed right_side.branch s.tree ++ moves w s.left s.now (taken o.path z os).opens))) (place f.now f.tree f.counted)
              ∙ ap (λ ms. step ∷ ms) (sym (append_assoc (steps_of (suc (suc used)) (Some (suc used)) left_side.branch f.tree) (steps_of (suc (suc used) + turns f.tree) (taken o.path z os).resumed right_side.branch s.tree) (moves w s.left s.now (taken o.path z os).opens)));
        }
      where
        place : (now : ℕ) (t : Turns) → now ≡ suc used + turns t → suc now ≡ suc (suc used) + turns t
        place now t c = omega (arith, c)

        right-good : (now : ℕ) → suc used ≤ now → Good (next_side (without f.needed (suc used))) now
        right-good now l =
            (side-aligned (stays_second r.step.rule) r u right_side.path o.branch o.needs gs g.0, (λ p x c. omega (arith, l, side-below (stays_second r.step.rule) r u right_side.path o.branch o.needs gs g.0 (suc used) g.1 u-below p x c)))

        -- what needs something of either side is not the split itself
        joined : (a b : List ℕ) (p : Tree) (x : ℕ) → contains (needs_at o.branch o.needs p) x ≡ true → (contains a x ≡ true) ⊎ (contains b x ≡ true) → contains (without (union b (without a (suc used))) (suc used)) x ≡ true
        joined a b p x c k =
            let low : x < suc used = g.1 p x c in
            let other : suc used ≡ x → ⊥ = λ q. omega arith in
            without-other (union b (without a (suc used))) (suc used) x
            (in_merge b (without a (suc used)) x ∙ elim k [ inl q ↦ or-right (contains b x) (contains (without a (suc used)) x) (without-other a (suc used) x q other) | inr q ↦ or-left (contains b x) (contains (without a (suc used)) x) q ])
            other

        named-covered : (a b : List ℕ) (us vs : List Tree) → Needs left_side.branch left_side.needs us a → Needs right_side.branch right_side.needs vs b → either (meets us (newly o.branch fs)) (meets vs (newly o.branch gs)) ≡ true
            → Needs o.branch o.needs r.step.named (without (union b (without a (suc used))) (suc used))
        named-covered a b us vs ca cb m q p x c =
            joined a b q x c
            (elim (either-one (meets us (newly o.branch fs)) (meets vs (newly o.branch gs)) m) [
              | inl y ↦ inl (side-met (stays r.step.rule) r u left_side.path o.branch o.needs fs g.0 us a ca y x (added-named (suc used) r o.branch o.needs q p x c))
              | inr y ↦ inr (side-met (stays_second r.step.rule) r u right_side.path o.branch o.needs gs g.0 vs b cb y x (added-named (suc used) r o.branch o.needs q p x c))
            ])

        rest-covered : (a b : List ℕ) (us vs : List Tree) → Needs left_side.branch left_side.needs us a → Needs right_side.branch right_side.needs vs b
            → Needs o.branch o.needs (minus us (newly o.branch fs) ++ minus vs (newly o.branch gs)) (without (union b (without a (suc used))) (suc used))
        rest-covered a b us vs ca cb q p x c =
            joined a b q x c
            (elim (in-append (minus us (newly o.branch fs)) (minus vs (newly o.branch gs)) q p) [
              | inl y ↦ inl (side-minus (stays r.step.rule) r u left_side.path o.branch o.needs fs g.0 us a ca q y x c)
              | inr y ↦ inr (side-minus (stays_second r.step.rule) r u right_side.path o.branch o.needs gs g.0 vs b cb q y x c)
            ])

    -- a rule with two sides
    goes-both : run w n (suc used) (left_side ∷ right_side ∷ os) ≡ Closed k → Finished w (suc n) used o os k (step ∷ moves w n (suc used) (left_side ∷ right_side ∷ os))
    goes-both h = by_needs (go_on n (suc used) left_side (right_side ∷ os) (omega arith) left-good h)
      where
        by_needs : (f : Finished w n (suc used) left_side (right_side ∷ os) k (moves w n (suc used) (left_side ∷ right_side ∷ os))) → Finished w (suc n) used o os k (step ∷ moves w n (suc used) (left_side ∷ right_side ∷ os))
        by_needs f = go (contains f.needed (suc used)) refl
          where
            go : (x : Bool) → contains f.needed (suc used) ≡ x → Finished w (suc n) used o os k (step ∷ moves w n (suc used) (left_side ∷ right_side ∷ os))
            go true e = resumes f e
            go false e = drops f e

-- one turn
after-turn : (w : Fresh) (k n used : ℕ) (o : Open) (os : List Open) → Good o used → Goes_on w k n → run w (suc n) used (o ∷ os) ≡ Closed k → Finished w (suc n) used o os k (moves w (suc n) used (o ∷ os))
unfolding turn apply
after-turn w k n used o os g go_on h = go (closing o.branch) refl (first_rule w o.branch) refl h
  where
    turned : Option Closing → Option Result → Next
    turned (Some c) r = shut c (taken o.path (needs_of o.branch o.needs c.entries) os)
    turned None r = turn_by_rule (suc used) o os r

    by_sides : (r : Result) → first_rule w o.branch ≡ Some r → (s : Sides) → r.step.sides ≡ s
        → run w n (suc used) (sides_open (suc used) r (added_needs (suc used) r o.branch o.needs) o s ++ os) ≡ Closed k
        → Finished w (suc n) used o os k (applied r o.branch s ∷ moves w n (suc used) (sides_open (suc used) r (added_needs (suc used) r o.branch o.needs) o s ++ os))
    by_sides r e (Alone fs) q h = goes-one w k n used o os g r e go_on fs q h
    by_sides r e (Both fs gs) q h = goes-both w k n used o os g r e go_on fs gs q h

    go : (c : Option Closing) → closing o.branch ≡ c → (r : Option Result) → first_rule w o.branch ≡ r → then_run (run w n (suc used)) used (turn_by w (suc used) o os c) ≡ Closed k
        → Finished w (suc n) used o os k (then_moves (moves w n (suc used)) (turn_by w (suc used) o os c))
    go (Some c) e r q h = closes w k n used o os c e h
    go None e (Some r) q h = subst (λ x. then_run (run w n (suc used)) used (turn_by_rule (suc used) o os x) ≡ Closed k → Finished w (suc n) used o os k (then_moves (moves w n (suc used)) (turn_by_rule (suc used) o os x))) (sym q) (λ h. by_sides r q r.step.sides refl h) h
    go None e None q h = absurd (stuck (subst (λ x. then_run (run w n (suc used)) used (turn_by_rule (suc used) o os x) ≡ Closed k) q h))
      where
        stuck : Saturated o.branch used ≡ Closed k → ⊥
        stuck e = cc

no-turn : (used k : ℕ) (x : Next) → last used x ≡ Closed k → ⊥
no-turn used k (Stuck b) h = cc
no-turn used k (Goes m os) h = cc

finish : (w : Fresh) (k room : ℕ) → Goes_on w k room
finish w k room zero used o os l g h = absurd (no-turn used k (turn w (suc used) o os) h)
finish w k zero (suc n) used o os l g h = absurd (none l)
  where
    none : suc n ≤ zero → ⊥
    none l = omega arith
finish w k (suc room) (suc n) used o os l g h = after-turn w k n used o os g (λ m now p ps a b c. finish w k room m now p ps (omega (arith, l, a)) b c) h

-- the first branch needs nothing
start-good : (fs : List Tree) → Good (grown [] [] [] [] fs) 0
start-good fs = (aligned-grown [] fs [] [] tt, below)
  where
    below : Below (grown [] [] [] [] fs).branch (grown [] [] [] [] fs).needs 1
    below f x c = go (in_list fs f) refl
      where
        go : (y : Bool) → in_list fs f ≡ y → x < 1
        go true q = absurd (false≢true (ap (λ v. contains v x) (sym (new-grown [] fs [] [] f tt refl q)) ∙ c))
        go false q = absurd (false≢true (ap (λ v. contains v x) (sym (needs-none (grown [] [] [] [] fs).branch (grown [] [] [] [] fs).needs f (not-grown fs [] f refl q))) ∙ c))

abbrev turns_used : End → ℕ
turns_used (Closed n) = n
turns_used (Saturated b n) = n
turns_used (Spent n) = n

nothing-behind : (ms : List Move) → ms ++ [] ≡ ms
nothing-behind [] = refl
nothing-behind (m ∷ ms) = ap (λ xs. m ∷ xs) (nothing-behind ms)

pub closed_has_tree : ClosedHasTree
unfolding search steps
closed_has_tree facts goal limit used h = whole (finish (fresh facts goal) used limit limit 0 (grown [] [] [] [] (denied facts goal)) [] (omega arith) (start-good (denied facts goal)) h)
  where
    whole : Finished (fresh facts goal) limit 0 (grown [] [] [] [] (denied facts goal)) [] used (moves (fresh facts goal) limit 0 (start facts goal))
        → (t : Turns) × IsSearched (fresh facts goal) (start_branch facts goal) t × (moves (fresh facts goal) limit 0 (start facts goal) ≡ steps_of 1 None (start_branch facts goal) t) × (turns t ≡ used)
    whole f =
        let e : f.now ≡ used = ap turns_used f.goes_on in
        (f.tree, f.searched, f.listed ∙ nothing-behind (steps_of 1 None (start_branch facts goal) f.tree), omega (arith, e, f.counted))

-- the first answer is an answer
first-answer : (w : Fresh) (b : Branch) (r : Result) (ks : List Rank) → first_some (by_rank w b) ks ≡ Some r → Applies w b r
first-answer w b r [] h = cc
first-answer w b r (k ∷ ks) h = go (by_rank w b k) refl (first-answer w b r ks) h
  where
    go : (o : Option Result) → by_rank w b k ≡ o → (first_some (by_rank w b) ks ≡ Some r → Applies w b r) → or_else o (first_some (by_rank w b) ks) ≡ Some r → Applies w b r
    go (Some s) e ih h = (k, e ∙ h)
    go None e ih h = ih h

pub first-applies : (w : Fresh) (b : Branch) (r : Result) → first_rule w b ≡ Some r → Applies w b r
unfolding first_rule
first-applies w b r h = first-answer w b r ranks h

pub searched_is_closed : SearchedIsClosed
searched_is_closed w b (Turns.shut c) h = h
searched_is_closed w b (one r fs t) h = (first-applies w b r h.0, h.1, searched_is_closed w (first_branch r b fs) t h.2)
searched_is_closed w b (first r fs gs t) h = (first-applies w b r h.0, h.1, searched_is_closed w (first_branch r b fs) t h.2, h.3)
searched_is_closed w b (both r fs gs t v) h = (first-applies w b r h.0, h.1, searched_is_closed w (first_branch r b fs) t h.2, searched_is_closed w (second_branch r b gs) v h.3)
