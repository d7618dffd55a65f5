-- The loop with marks makes the proof of the tree.
use Rattle.std.specs.Prelude.{◌≡◌, ℕ, zero, suc, ◌+◌, ◌-◌, ◌<◌, Bool, true, false, not, ◌||◌, Option, Some, List, [], ◌∷◌, ◌++◌, length}
use Rattle.std.proofs.Common.{refl, ap, sym, ◌∙◌, subst, append_assoc, length-append, eq-eqb, arith, inl, inr, get_or}
use Rattle.std.proofs.lemmas.Bool.Decides.{nat_tests}
use Rattle.std.proofs.Math.Seq.{get_or-append_seam}
use Rattle.core_expr.specs.Tree.{Tree}
use Rattle.seq_calculus.specs.Calculus.{Has, HasAll, AllClosed, Proof}
use Rattle.search_definition.specs.Terms.{if_so, either, in_list}
use Rattle.search_definition.specs.Branches.{Branch, formulas, has, add, add_all, used}
use Rattle.search_definition.specs.Rules.{Result, stays, stays_second, rises}
use Rattle.search_definition.specs.Rules.Sides.{Alone, Both}
use Rattle.search_definition.specs.Instances.{Fresh}
use Rattle.search_definition.specs.Search.{side_branch, lacking, Move}
use Rattle.search_definition.specs.Search.Move.{Applied}
use Rattle.search_definition.specs.Trees.{Turns, newly, minus, meets, used_with, used_by, first_branch, second_branch, IsClosedFor, turns, steps_of}
use Rattle.search_definition.specs.Trees.Turns.{shut, one, first, both}
use Rattle.search_definition.specs.Watches.{ClosedSides}
use Rattle.search_definition.specs.Laws.{UsedStands}
use Rattle.search_definition.proofs.Standing.{sides_stay_closed}
use Rattle.search_definition.proofs.Telling.{rule_tells}
use Rattle.proof_trees.specs.Closings.{closing_by}
use Rattle.proof_trees.specs.By.{by}
use Rattle.proof_trees.specs.Trees.{proof_of_tree}
use Rattle.proof_trees.specs.Machine.{Second, Parts, State, marked, unmarked, some, picks, push, flagged, is_of, is_needed, over_one, over_two, shut_by, second_by, one_by, both_by, split_by, no_move, second_added, second_news, move_at, resumed, applied_by, turned, back}
use Rattle.proof_trees.proofs.Had.{HasAll-cons, HasAll-itself, HasAll-front, HasAll-more, HasAll-append, Has-split, has_of, all_of, in_list-sound, in_list-has, true_not_false}
use Rattle.proof_trees.proofs.Marked.{or-cases, or-or, in-append, in-minus, some-is, meets-from, newly-off, newly-has}

-- what is marked stands on the branch
abbrev pub On : Branch → (Tree → Bool) → Type 0
On b m = (f : Tree) → m f ≡ true → Has (formulas b) f

-- the marks are the used formulas and what was marked before
abbrev pub Are : (Tree → Bool) → List Tree → (Tree → Bool) → Type 0
Are m us n = (f : Tree) → m f ≡ (in_list us f || n f)

is_false : (x : Bool) → (x ≡ true → ⊥) → x ≡ false
is_false true h = absurd (h refl)
is_false false h = refl

off : (b : Branch) (fs : List Tree) (n : Tree → Bool) → On b n → (f : Tree) → Has (newly b fs) f → n f ≡ false
off b fs n h f k = is_false (n f) (λ e. newly-off b fs f k (h f e))

-- unmarking what is new takes it from the used formulas alone
unmarked-are : (b : Branch) (fs us : List Tree) (m n : Tree → Bool) → On b n → Are m us n → Are (unmarked m (newly b fs)) (minus us (newly b fs)) n
unmarked-are b fs us m n h e f =
    go (in_list (newly b fs) f) refl ∙ sym (ap (λ x. x || n f) (in-minus us (newly b fs) f))
  where
    go : (x : Bool) → in_list (newly b fs) f ≡ x → ◌≡◌ {A = Bool} (if_so x false (m f)) (if_so x false (in_list us f) || n f)
    go true q = sym (off b fs n h f (in_list-sound (newly b fs) f q))
    go false q = e f

marked-are : (names us : List Tree) (m n : Tree → Bool) → Are m us n → Are (marked m names) (names ++ us) n
marked-are names us m n e f = ap (λ x. in_list names f || x) (e f) ∙ sym (or-or (in_list names f) (in_list us f) (n f)) ∙ ap (λ x. x || n f) (sym (in-append names us f))

join-are : (us vs : List Tree) (m k n : Tree → Bool) → Are m us k → Are k vs n → Are m (us ++ vs) n
join-are us vs m k n e d f = e f ∙ ap (λ x. in_list us f || x) (d f) ∙ sym (or-or (in_list us f) (in_list vs f) (n f)) ∙ ap (λ x. x || n f) (sym (in-append us vs f))

-- where nothing new is used, all stays
same-are : (ns us : List Tree) (m n : Tree → Bool) → meets us ns ≡ false → Are m us n → Are m (minus us ns) n
same-are ns us m n q e f = e f ∙ ap (λ x. x || n f) (sym (in-minus us ns f ∙ go (in_list ns f) refl (in_list us f) refl))
  where
    go : (x : Bool) → in_list ns f ≡ x → (y : Bool) → in_list us f ≡ y → ◌≡◌ {A = Bool} (if_so x false y) y
    go true d true p = absurd (true_not_false (sym (meets-from us ns f (in_list-sound ns f d) p) ∙ q))
    go true d false p = refl
    go false d y p = refl

on-are : (b : Branch) (us : List Tree) (m n : Tree → Bool) → HasAll (formulas b) us → On b n → Are m us n → On b m
on-are b us m n h k e f q = elim (or-cases (in_list us f) (n f) (sym (e f) ∙ q)) [ inl p ↦ has_of (formulas b) us f h (in_list-sound us f p) | inr p ↦ k f p ]

formulas-used : (s r : Bool) (b : Branch) (i : ℕ) → formulas (used s r b i) ≡ formulas b
formulas-used s r [] i = refl
formulas-used s r (e ∷ b) zero = refl
formulas-used s r (e ∷ b) (suc i) = ap (λ l. e.formula ∷ l) (formulas-used s r b i)

formulas-append : (b c : Branch) → formulas (b ++ c) ≡ formulas b ++ formulas c
formulas-append [] c = refl
formulas-append (e ∷ b) c = ap (λ l. e.formula ∷ l) (formulas-append b c)

grown-add : (b : Branch) (f : Tree) → HasAll (formulas (add b f)) (formulas b) × HasAll (f ∷ formulas b) (formulas (add b f))
grown-add b f = go (has b f)
  where
    go : (x : Bool) → HasAll (formulas (if_so x b (b ++ record { formula = f; live = true; count = 0 } ∷ []))) (formulas b) × HasAll (f ∷ formulas b) (formulas (if_so x b (b ++ record { formula = f; live = true; count = 0 } ∷ [])))
    go true = (HasAll-itself (formulas b), HasAll-cons f (formulas b) (formulas b) (HasAll-itself (formulas b)))
    go false =
        let e : formulas b ++ f ∷ [] ≡ formulas (b ++ record { formula = f; live = true; count = 0 } ∷ []) = sym (formulas-append b (record { formula = f; live = true; count = 0 } ∷ [])) in (
          subst (λ l. HasAll l (formulas b)) e (HasAll-front (formulas b) (f ∷ [])),
          subst (HasAll (f ∷ formulas b)) e (HasAll-append (f ∷ formulas b) (formulas b) (f ∷ []) (HasAll-cons f (formulas b) (formulas b) (HasAll-itself (formulas b))) (inl refl, tt)),
        )

grown-all : (b : Branch) (fs : List Tree) → HasAll (formulas (add_all b fs)) (formulas b)
grown-all b [] = HasAll-itself (formulas b)
grown-all b (f ∷ fs) = all_of (formulas (add_all (add b f) fs)) (formulas (add b f)) (formulas b) (grown-all (add b f) fs) (grown-add b f).0

-- a branch has what stood there and what is added
pub added-all : (g : List Tree) (b : Branch) (fs : List Tree) → HasAll g (formulas b) → HasAll g fs → HasAll g (formulas (add_all b fs))
added-all g b [] h k = h
added-all g b (f ∷ fs) h k = added-all g (add b f) fs (all_of g (f ∷ formulas b) (formulas (add b f)) (k.0, h) (grown-add b f).1) k.1

module _ (live : Bool) (r : Result) (b : Branch) (fs : List Tree) where
  -- a side's branch has all of its branch
  still-on : (n : Tree → Bool) → On b n → On (side_branch live r b fs) n
  still-on n h f e =
      has_of (formulas (side_branch live r b fs)) (formulas b) f
      (subst (HasAll (formulas (side_branch live r b fs))) (formulas-used live (rises r.step.rule) b r.entry) (grown-all (used live (rises r.step.rule) b r.entry) fs)) (h f e)

  side-all : HasAll (fs ++ formulas b) (formulas (side_branch live r b fs))
  side-all =
      added-all (fs ++ formulas b) (used live (rises r.step.rule) b r.entry) fs
      (subst (HasAll (fs ++ formulas b)) (sym (formulas-used live (rises r.step.rule) b r.entry)) (HasAll-more fs (formulas b))) (HasAll-front fs (formulas b))

  -- without what was newly added, what is marked stood before
  before-on : (k : Tree → Bool) → On (side_branch live r b fs) k → On b (unmarked k (newly b fs))
  before-on k h f e = go (in_list (newly b fs) f) refl e
    where
      here : in_list (newly b fs) f ≡ false → Has (fs ++ formulas b) f → Has (formulas b) f
      here d l = elim (Has-split fs (formulas b) f l) [
        | inr z ↦ z
        | inl z ↦ elim (newly-has b fs f z) [ inl y ↦ absurd (true_not_false (sym (in_list-has (newly b fs) f y) ∙ d)) | inr y ↦ y ]
      ]

      go : (x : Bool) → in_list (newly b fs) f ≡ x → if_so x false (k f) ≡ true → Has (formulas b) f
      go true d q = absurd (true_not_false (sym q))
      go false d q = here d (has_of (fs ++ formulas b) (formulas (side_branch live r b fs)) f side-all (h f q))

-- what is picked by the tests of what is lacking is what is new
picks-lacking : (b : Branch) (fs : List Tree) → picks fs (lacking b fs) ≡ newly b fs
picks-lacking b [] = refl
picks-lacking b (f ∷ fs) = go (has b f) (picks-lacking b fs)
  where
    go : (x : Bool) → picks fs (lacking b fs) ≡ newly b fs → if_so (not x) (f ∷ picks fs (lacking b fs)) (picks fs (lacking b fs)) ≡ if_so x (newly b fs) (f ∷ newly b fs)
    go true e = e
    go false e = ap (λ l. f ∷ l) e

abbrev pub TurnedTo : State → Proof → Parts → List Tree → (Tree → Bool) → Type 0
TurnedTo u p ps us n = (u.parts ≡ push p ps) × Are u.marks us n

turn-one : (b : Branch) (r : Result) (fs : List Tree) (st : State) (p : Proof) (ps : Parts) (us : List Tree) (n : Tree → Bool) → On b n → TurnedTo st p ps us n
    → TurnedTo (one_by r (newly b fs) st) (if_so (meets us (newly b fs)) (by r (p ∷ [])) p) ps (used_with (meets us (newly b fs)) r.step.named (minus us (newly b fs))) n
turn-one b r fs st p ps us n k h = go (meets us ns) refl (some st.marks ns) (some-is st.marks n us ns h.1 (off b fs n k))
  where
    ns : List Tree
    ns = newly b fs

    go : (x : Bool) → meets us ns ≡ x → (y : Bool) → y ≡ meets us ns
        → TurnedTo (if_so y (record { marks = marked (unmarked st.marks ns) r.step.named; parts = over_one r st.parts }) st) (if_so x (by r (p ∷ [])) p) ps (used_with x r.step.named (minus us ns)) n
    go true d true e = (ap (over_one r) h.0, marked-are r.step.named (minus us ns) (unmarked st.marks ns) n (unmarked-are b fs us st.marks n k h.1))
    go false d false e = (h.0, same-are ns us st.marks n d h.1)
    go true d false e = absurd (true_not_false (sym d ∙ sym e))
    go false d true e = absurd (true_not_false (e ∙ d))

turn-both : (b : Branch) (r : Result) (fs : List Tree) (st : State) (p q : Proof) (i : ℕ) (y : Bool) (ps : Parts) (us vs : List Tree) (k n : Tree → Bool) → On b k → Are k vs n
    → st.parts ≡ push p (flagged i y (push q ps)) → Are st.marks us k
    → TurnedTo (both_by r (newly b fs) st) (if_so (meets us (newly b fs)) (if_so y (by r (p ∷ q ∷ [])) q) p) ps (used_with (either (meets us (newly b fs)) y) r.step.named (minus us (newly b fs) ++ vs)) n
turn-both b r fs st p q i y ps us vs k n ok a e h =
    go (meets us ns) y (some st.marks ns) (some-is st.marks k us ns h (off b fs k ok)) (is_needed st.parts.seconds) (ap (λ (x : Parts). is_needed x.seconds) e) (over_two r (some st.marks ns) st.parts) (ap (over_two r (some st.marks ns)) e)
  where
    ns : List Tree
    ns = newly b fs

    all : Are (unmarked st.marks ns) (minus us ns ++ vs) n
    all = join-are (minus us ns) vs (unmarked st.marks ns) k n (unmarked-are b fs us st.marks k ok h) a

    go : (x y z : Bool) → z ≡ x → (w : Bool) → w ≡ y → (qs : Parts) → qs ≡ push (if_so z (if_so y (by r (p ∷ q ∷ [])) q) p) ps
        → TurnedTo (record { marks = if_so (z || w) (marked (unmarked st.marks ns) r.step.named) (unmarked st.marks ns); parts = qs })
        (if_so x (if_so y (by r (p ∷ q ∷ [])) q) p) ps (used_with (either x y) r.step.named (minus us ns ++ vs)) n
    go true y true f w g qs t = (t, marked-are r.step.named (minus us ns ++ vs) (unmarked st.marks ns) n all)
    go false true false f true g qs t = (t, marked-are r.step.named (minus us ns ++ vs) (unmarked st.marks ns) n all)
    go false false false f false g qs t = (t, all)
    go true y false f w g qs t = absurd (true_not_false (sym f))
    go false y true f w g qs t = absurd (true_not_false f)
    go false true false f false g qs t = absurd (true_not_false (sym g))
    go false false false f true g qs t = absurd (true_not_false g)

-- a tree has as many steps as turns
steps-length : (n : ℕ) (next : Option ℕ) (b : Branch) (t : Turns) → length (steps_of n next b t) ≡ turns t
steps-length n next b (shut c) = refl
steps-length n next b (one r fs t) = ap suc (steps-length (suc n) next (first_branch r b fs) t)
steps-length n next b (first r fs gs t) = ap suc (steps-length (suc n) next (first_branch r b fs) t)
steps-length n next b (both r fs gs t v) =
    ap suc
    (length-append (steps_of (suc n) (Some n) (first_branch r b fs) t) (steps_of (suc n + turns t) next (second_branch r b gs) v)
    ∙ (λ i. steps-length (suc n) (Some n) (first_branch r b fs) t i + steps-length (suc n + turns t) next (second_branch r b gs) v i))

-- the latest second side is of an earlier split
abbrev pub IsBelow : ℕ → List Second → Type 0
IsBelow n [] = Unit {0}
IsBelow n (s ∷ ss) = s.number < n

below-of : (n : ℕ) (ss : List Second) → IsBelow n ss → is_of ss n ≡ false
below-of n [] h = refl
below-of n (s ∷ ss) h = grind (arith, nat_tests)

below-more : (n m : ℕ) (ss : List Second) → n < m → IsBelow n ss → IsBelow m ss
below-more n m [] e h = tt
below-more n m (s ∷ ss) e h = omega (arith, h)

module _ (stand : UsedStands) (w : Fresh) (all : List Move) where
  -- the loop over the steps of a closed tree, behind whatever stands on its branch
  pub back-tree : (b : Branch) (t : Turns) (n k : ℕ) (next : Option ℕ) (pre rest : List Move) → AllClosed (formulas b) → IsClosedFor w b t → all ≡ pre ++ (steps_of n next b t ++ rest) → n ≡ suc (length pre) → k ≡ n + turns t
      → On b (resumed all next (back all k rest)).marks → IsBelow n (resumed all next (back all k rest)).parts.seconds
      → TurnedTo (back all n (steps_of n next b t ++ rest)) (proof_of_tree b t) (resumed all next (back all k rest)).parts (used_by b t) (resumed all next (back all k rest)).marks
  back-tree b (shut c) n k next pre rest cb h ea en ek o low =
      let e : k ≡ suc n = omega (arith, ek) in
      subst (λ j. TurnedTo (shut_by c (resumed all next (back all j rest))) (closing_by c) (resumed all next (back all k rest)).parts c.entries (resumed all next (back all k rest)).marks) e (refl, λ f. refl)
  back-tree b (one r fs t) n k next pre rest cb h ea en ek o low =
      let told = rule_tells w b h.0.0 r cb h.0.1 in
      let cl : ClosedSides (Alone fs) = subst ClosedSides h.1 told.6 in
      let b1 : Branch = first_branch r b fs in
      let ms : List Move = steps_of (suc n) next b1 t in
      let m : Move = Applied r (lacking b fs) [] in
      let s : State = resumed all next (back all k rest) in
      let ih = back-tree b1 t (suc n) k next (pre ++ m ∷ []) rest (sides_stay_closed (stays r.step.rule) b r fs cb cl) h.2 (ea ∙ sym (append_assoc pre (m ∷ []) (ms ++ rest)))
      (one-more pre m n en) (omega (arith, ek)) (still-on (stays r.step.rule) r b fs s.marks o) (below-more n (suc n) s.parts.seconds (omega arith) low) in
      subst (λ ss. TurnedTo (applied_by n r ss (lacking b fs) (back all (suc n) (ms ++ rest))) (proof_of_tree b (one r fs t)) s.parts (used_by b (one r fs t)) s.marks) (sym h.1)
      (subst (λ ns. TurnedTo (one_by r ns (back all (suc n) (ms ++ rest))) (proof_of_tree b (one r fs t)) s.parts (used_by b (one r fs t)) s.marks) (sym (picks-lacking b fs))
      (turn-one b r fs (back all (suc n) (ms ++ rest)) (proof_of_tree b1 t) s.parts (used_by b1 t) s.marks o ih))
    where
      one-more : (pre : List Move) (m : Move) (n : ℕ) → n ≡ suc (length pre) → suc n ≡ suc (length (pre ++ m ∷ []))
      one-more pre m n e = omega (arith, e, length-append pre (m ∷ []))
  back-tree b (first r fs gs t) n k next pre rest cb h ea en ek o low =
      let told = rule_tells w b h.0.0 r cb h.0.1 in
      let cl : ClosedSides (Both fs gs) = subst ClosedSides h.1 told.6 in
      let b1 : Branch = first_branch r b fs in
      let ms : List Move = steps_of (suc n) next b1 t in
      let m : Move = Applied r (lacking b fs) (lacking b gs) in
      let s : State = resumed all next (back all k rest) in
      let st : State = back all (suc n) (ms ++ rest) in
      let ih = back-tree b1 t (suc n) k next (pre ++ m ∷ []) rest (sides_stay_closed (stays r.step.rule) b r fs cb cl.0) h.2 (ea ∙ sym (append_assoc pre (m ∷ []) (ms ++ rest)))
      (one-more pre m n en) (omega (arith, ek)) (still-on (stays r.step.rule) r b fs s.marks o) (below-more n (suc n) s.parts.seconds (omega arith) low) in
      let d : is_of st.parts.seconds n ≡ false = ap (λ (x : Parts). is_of x.seconds n) ih.0 ∙ below-of n s.parts.seconds low in
      subst (λ ss. TurnedTo (applied_by n r ss (lacking b fs) st) (proof_of_tree b1 t) s.parts (minus (used_by b1 t) (newly b fs)) s.marks) (sym h.1)
      (subst (λ x. TurnedTo (split_by x r (picks fs (lacking b fs)) st) (proof_of_tree b1 t) s.parts (minus (used_by b1 t) (newly b fs)) s.marks) (sym d)
      (ih.0, same-are (newly b fs) (used_by b1 t) st.marks s.marks h.3 ih.1))
    where
      one-more : (pre : List Move) (m : Move) (n : ℕ) → n ≡ suc (length pre) → suc n ≡ suc (length (pre ++ m ∷ []))
      one-more pre m n e = omega (arith, e, length-append pre (m ∷ []))
  back-tree b (both r fs gs t v) n k next pre rest cb h ea en ek o low =
      let told = rule_tells w b h.0.0 r cb h.0.1 in
      let cl : ClosedSides (Both fs gs) = subst ClosedSides h.1 told.6 in
      let b1 : Branch = first_branch r b fs in
      let b2 : Branch = second_branch r b gs in
      let i : ℕ = suc n + turns t in
      let xs : List Move = steps_of (suc n) (Some n) b1 t in
      let ys : List Move = steps_of i next b2 v in
      let m : Move = Applied r (lacking b fs) (lacking b gs) in
      let s : State = resumed all next (back all k rest) in
      let st2 : State = back all i (ys ++ rest) in
      let st : State = back all (suc n) (xs ++ (ys ++ rest)) in
      let us : List Tree = used_by b1 t in
      let vs : List Tree = used_by b2 v in
      let p : Proof = proof_of_tree b1 t in
      let q : Proof = proof_of_tree b2 v in
      let ea1 : all ≡ pre ++ m ∷ (xs ++ (ys ++ rest)) = ea ∙ ap (λ l. pre ++ m ∷ l) (append_assoc xs ys rest) in
      let c2 : AllClosed (formulas b2) = sides_stay_closed (stays_second r.step.rule) b r gs cb cl.1 in
      let ih2 : TurnedTo st2 q s.parts vs s.marks
      = back-tree b2 v i k next (pre ++ m ∷ xs) rest c2 h.3 (ea1 ∙ sym (append_assoc pre (m ∷ xs) (ys ++ rest))) (behind pre m xs n (turns t) en (steps-length (suc n) (Some n) b1 t)) (omega (arith, ek))
      (still-on (stays_second r.step.rule) r b gs s.marks o) (below-more n i s.parts.seconds (omega arith) low) in
      let ns : List Tree = newly b gs in
      let es : second_news (move_at all n) ≡ ns = news-of pre m (xs ++ (ys ++ rest)) n ea1 en ∙ ap (λ ss. second_added ss (lacking b gs)) h.1 ∙ picks-lacking b gs in
      let on2 : On b2 st2.marks = on-are b2 vs st2.marks s.marks (stand w b2 v c2 h.3) (still-on (stays_second r.step.rule) r b gs s.marks o) ih2.1 in
      let s1 : State = second_by n ns st2 in
      let on1 : On b s1.marks = before-on (stays_second r.step.rule) r b gs st2.marks on2 in
      let are1 : Are s1.marks (minus vs ns) s.marks = unmarked-are b gs vs st2.marks s.marks o ih2.1 in
      let ih1 : TurnedTo st p s1.parts us s1.marks
      = subst (λ zs. TurnedTo st p (second_by n zs st2).parts us (second_by n zs st2).marks) es
      (back-tree b1 t (suc n) i (Some n) (pre ++ m ∷ []) (ys ++ rest) (sides_stay_closed (stays r.step.rule) b r fs cb cl.0) h.2 (ea1 ∙ sym (append_assoc pre (m ∷ []) (xs ++ (ys ++ rest)))) (one-more pre m n en) refl
      (subst (λ zs. On b1 (second_by n zs st2).marks) (sym es) (still-on (stays r.step.rule) r b fs s1.marks on1)) (omega arith)) in
      let parts1 : s1.parts ≡ flagged n (meets vs ns) (push q s.parts)
      = ap (flagged n (some st2.marks ns)) ih2.0 ∙ ap (λ x. flagged n x (push q s.parts)) (some-is st2.marks s.marks vs ns ih2.1 (off b gs s.marks o)) in
      let parts : st.parts ≡ push p (flagged n (meets vs ns) (push q s.parts)) = ih1.0 ∙ ap (push p) parts1 in
      let d : is_of st.parts.seconds n ≡ true = ap (λ (x : Parts). is_of x.seconds n) parts ∙ eq-eqb n n refl in
      subst (λ l. TurnedTo (turned all n m (back all (suc n) l)) (proof_of_tree b (both r fs gs t v)) s.parts (used_by b (both r fs gs t v)) s.marks) (sym (append_assoc xs ys rest))
      (subst (λ ss. TurnedTo (applied_by n r ss (lacking b fs) st) (proof_of_tree b (both r fs gs t v)) s.parts (used_by b (both r fs gs t v)) s.marks) (sym h.1)
      (subst (λ x. TurnedTo (split_by x r (picks fs (lacking b fs)) st) (proof_of_tree b (both r fs gs t v)) s.parts (used_by b (both r fs gs t v)) s.marks) (sym d)
      (subst (λ zs. TurnedTo (both_by r zs st) (proof_of_tree b (both r fs gs t v)) s.parts (used_by b (both r fs gs t v)) s.marks) (sym (picks-lacking b fs))
      (turn-both b r fs st p q n (meets vs ns) s.parts us (minus vs ns) s1.marks s.marks on1 are1 parts ih1.1))))
    where
      one-more : (pre : List Move) (m : Move) (n : ℕ) → n ≡ suc (length pre) → suc n ≡ suc (length (pre ++ m ∷ []))
      one-more pre m n e = omega (arith, e, length-append pre (m ∷ []))

      behind : (pre : List Move) (m : Move) (xs : List Move) (n k : ℕ) → n ≡ suc (length pre) → length xs ≡ k → suc n + k ≡ suc (length (pre ++ m ∷ xs))
      behind pre m xs n k e l = omega (arith, e, l, length-append pre (m ∷ xs))

      news-of : (pre : List Move) (m : Move) (zs : List Move) (n : ℕ) → all ≡ pre ++ m ∷ zs → n ≡ suc (length pre) → second_news (move_at all n) ≡ second_news m
      news-of pre m zs n e l =
          let z : n - 1 ≡ length pre = omega (arith, l) in
          (λ i. second_news (get_or (e i) (z i) no_move)) ∙ ap second_news (get_or-append_seam pre m zs no_move)
