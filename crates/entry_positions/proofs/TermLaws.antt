-- The ranks term split and take up only lose answers as a branch grows.
use Rattle.std.proofs.Common.{◌≡◌, ℕ, Bool, true, false, not, List, [], ◌∷◌, ◌++◌, refl, ap, sym, subst, ◌∙◌}
use Rattle.std.specs.Prelude.{Option, Some, None}
use Rattle.core_expr.specs.Tree.{Tree, not_, in_, if_, apply_, fun_, all_, ex_, choose_}
use Rattle.core_expr.specs.Put.{inst}
use Rattle.core_expr.specs.Terms.{same}
use Rattle.search_definition.specs.declared.rule.Rule.{Rule}
use Rattle.search_definition.specs.declared.rule.Rule.TheVariants.{Conditional, Application}
use Rattle.search_definition.specs.Terms.{if_so, either, when, after, or_else, first_some, closed_subterms, replace}
use Rattle.search_definition.specs.Branches.{Branch, has, add, used}
use Rattle.search_definition.specs.Values.{Truth, truth, grounds}
use Rattle.search_definition.specs.Values.Truth.{Yes, No, Unknown}
use Rattle.search_definition.specs.Splits.{is_literal, of_literal, split_term, split_by, split_at, term_split, not_all_taken, untaken, taken_up, take_up}
use Rattle.search_definition.proofs.Watching.{used_stays}
use Rattle.entry_positions.specs.Passed.{Shrinks, IsSteady}

-- what stands on a branch stands on the longer one

has_more : (b c : Branch) (x : Tree) → has b x ≡ true → has (b ++ c) x ≡ true
has_more [] c x h = cc
has_more (e ∷ b) c x h = go (same e.formula x) h (has_more b c x)
  where
    go : (t : Bool) → either t (has b x) ≡ true → (has b x ≡ true → has (b ++ c) x ≡ true) → either t (has (b ++ c) x) ≡ true
    go true k r = refl
    go false k r = r k

has_added : (b : Branch) (f x : Tree) → has b x ≡ true → has (add b f) x ≡ true
has_added b f x h = go (has b f)
  where
    go : (t : Bool) → has (if_so t b (b ++ record { formula = f; live = true; count = 0 } ∷ [])) x ≡ true
    go true = h
    go false = has_more b (record { formula = f; live = true; count = 0 } ∷ []) x h

-- where the first has no answer the second has none

first_none : (p q : Tree → Option Tree) (xs : List Tree) → ((t : Tree) → p t ≡ None → q t ≡ None) → first_some p xs ≡ None → first_some q xs ≡ None
first_none p q [] f h = refl
first_none p q (x ∷ xs) f h = go (p x) refl h (first_none p q xs f)
  where
    step : first_some q xs ≡ None → q x ≡ None → first_some q (x ∷ xs) ≡ None
    step a e = ap (λ o. or_else o (first_some q xs)) e ∙ a

    go : (o : Option Tree) → p x ≡ o → or_else o (first_some p xs) ≡ None → (first_some p xs ≡ None → first_some q xs ≡ None) → first_some q (x ∷ xs) ≡ None
    go (Some y) e k r = cc
    go None e k r = step (r k) (f x e)

-- the same answers

first_same : (p q : Tree → Option Tree) (xs : List Tree) → ((t : Tree) → q t ≡ p t) → first_some q xs ≡ first_some p xs
first_same p q xs f = ap (λ (r : Tree → Option Tree). first_some r xs) (λ i t. f t i)

-- term split

when_none : (t : Bool) (x : Tree) → when (not t) x ≡ None → t ≡ true
when_none true x h = refl
when_none false x h = cc

term_more : (b : Branch) (f t : Tree) → split_term b t ≡ None → split_term (add b f) t ≡ None
term_more b f (if_ p x y) h = cc
term_more b f (apply_ (fun_ s e) a) h = ap (λ x. when (not x) (apply_ (fun_ s e) a)) (has_added b f (not_ (in_ a s)) (when_none (has b (not_ (in_ a s))) (apply_ (fun_ s e) a) h))
term_more b f _ h = refl

by_some : (v : Truth) (r : Rule) (f : Tree) (gs : List Tree) (u : Tree) (ls rs : List Tree) → split_by v r f gs u ls rs ≡ None → ⊥
by_some Yes r f gs u ls rs h = cc
by_some No r f gs u ls rs h = cc
by_some Unknown r f gs u ls rs h = cc

at_some : (b : Branch) (g x t : Tree) → split_term b x ≡ Some t → split_at b g t ≡ None → ⊥
at_some b g (if_ p x y) t h k =
    let e : if_ p x y ≡ t = cc in
    by_some (truth b p) Conditional g (grounds b p) (if_ p x y) (p ∷ replace (if_ p x y) x g ∷ []) (not_ p ∷ replace (if_ p x y) y g ∷ []) (subst (λ z. split_at b g z ≡ None) (sym e) k)
at_some b g (apply_ (fun_ s e) a) t h k = go (has b (not_ (in_ a s))) h
  where
    go : (x : Bool) → when (not x) (apply_ (fun_ s e) a) ≡ Some t → ⊥
    go true q = cc
    go false q =
        let w : apply_ (fun_ s e) a ≡ t = cc in
        by_some (truth b (in_ a s)) Application g (grounds b (in_ a s)) (apply_ (fun_ s e) a) (in_ a s ∷ replace (apply_ (fun_ s e) a) (inst e a) g ∷ []) (not_ (in_ a s) ∷ []) (subst (λ z. split_at b g z ≡ None) (sym w) k)
at_some b g _ t h k = cc

no_term : (b : Branch) (g : Tree) (xs : List Tree) → after (split_at b g) (first_some (split_term b) xs) ≡ None → first_some (split_term b) xs ≡ None
no_term b g [] h = refl
no_term b g (x ∷ xs) h = go (split_term b x) refl h (no_term b g xs)
  where
    go : (o : Option Tree) → split_term b x ≡ o → after (split_at b g) (or_else o (first_some (split_term b) xs)) ≡ None
        → (after (split_at b g) (first_some (split_term b) xs) ≡ None → first_some (split_term b) xs ≡ None) → or_else o (first_some (split_term b) xs) ≡ None
    go (Some t) e k r = absurd (at_some b g x t e k)
    go None e k r = r k

pub term_split_shrinks : Shrinks term_split
term_split_shrinks b f g h = go (is_literal g) h
  where
    go : (l : Bool) → of_literal l (after (split_at b g) (first_some (split_term b) (closed_subterms g))) ≡ None → of_literal l (after (split_at (add b f) g) (first_some (split_term (add b f)) (closed_subterms g))) ≡ None
    go false k = refl
    go true k = ap (after (split_at (add b f) g)) (first_none (split_term b) (split_term (add b f)) (closed_subterms g) (term_more b f) (no_term b g (closed_subterms g) k))

term_used : (s r : Bool) (b : Branch) (i : ℕ) (t : Tree) → split_term (used s r b i) t ≡ split_term b t
term_used s r b i (if_ p x y) = refl
term_used s r b i (apply_ (fun_ d e) a) = ap (λ x. when (not x) (apply_ (fun_ d e) a)) (used_stays s r b i (not_ (in_ a d))).0
term_used s r b i _ = refl

at_used : (s r : Bool) (b : Branch) (i : ℕ) (g t : Tree) → split_at (used s r b i) g t ≡ split_at b g t
at_used s r b i g (if_ p x y) =
    let u = used_stays s r b i p in
    λ j. split_by (u.1 j) Conditional g (u.2 j) (if_ p x y) (p ∷ replace (if_ p x y) x g ∷ []) (not_ p ∷ replace (if_ p x y) y g ∷ [])
at_used s r b i g (apply_ (fun_ d e) a) =
    let u = used_stays s r b i (in_ a d) in
    λ j. split_by (u.1 j) Application g (u.2 j) (apply_ (fun_ d e) a) (in_ a d ∷ replace (apply_ (fun_ d e) a) (inst e a) g ∷ []) (not_ (in_ a d) ∷ [])
at_used s r b i g _ = refl

pub term_split_steady : IsSteady term_split
term_split_steady s r b i g =
    let p = first_same (split_term b) (split_term (used s r b i)) (closed_subterms g) (term_used s r b i) in
    λ j. of_literal (is_literal g) (after (λ t. at_used s r b i g t j) (p j))

-- take up

not_all_more : (b : Branch) (f p : Tree) → not_all_taken b p ≡ true → not_all_taken (add b f) p ≡ true
not_all_more b f (not_ q) h = has_added b f (not_ (all_ q)) h
not_all_more b f _ h = h

either_more : (x y z w : Bool) → (x ≡ true → z ≡ true) → (y ≡ true → w ≡ true) → either x y ≡ true → either z w ≡ true
either_more true y z w f g h = ap (λ t. either t w) (f refl)
either_more false y true w f g h = refl
either_more false y false w f g h = g h

taken_more : (b : Branch) (f t : Tree) → untaken b t ≡ None → untaken (add b f) t ≡ None
taken_more b f (choose_ p) h =
    let c = add b f in
    let k = either_more (has b (ex_ p)) (either (has b (not_ (ex_ p))) (not_all_taken b p)) (has c (ex_ p)) (either (has c (not_ (ex_ p))) (not_all_taken c p)) (has_added b f (ex_ p))
    (either_more (has b (not_ (ex_ p))) (not_all_taken b p) (has c (not_ (ex_ p))) (not_all_taken c p) (has_added b f (not_ (ex_ p))) (not_all_more b f p))
    (when_none (either (has b (ex_ p)) (either (has b (not_ (ex_ p))) (not_all_taken b p))) p h) in
    ap (λ x. when (not x) p) k
taken_more b f _ h = refl

no_taken : (g : Tree) (o : Option Tree) → after (taken_up g) o ≡ None → o ≡ None
no_taken g None h = refl
no_taken g (Some p) h = cc

pub take_up_shrinks : Shrinks take_up
take_up_shrinks b f g h = go (is_literal g) h
  where
    go : (l : Bool) → of_literal l (after (taken_up g) (first_some (untaken b) (closed_subterms g))) ≡ None → of_literal l (after (taken_up g) (first_some (untaken (add b f)) (closed_subterms g))) ≡ None
    go false k = refl
    go true k = ap (after (taken_up g)) (first_none (untaken b) (untaken (add b f)) (closed_subterms g) (taken_more b f) (no_taken g (first_some (untaken b) (closed_subterms g)) k))

not_all_used : (s r : Bool) (b : Branch) (i : ℕ) (p : Tree) → not_all_taken (used s r b i) p ≡ not_all_taken b p
not_all_used s r b i (not_ q) = (used_stays s r b i (not_ (all_ q))).0
not_all_used s r b i _ = refl

untaken_used : (s r : Bool) (b : Branch) (i : ℕ) (t : Tree) → untaken (used s r b i) t ≡ untaken b t
untaken_used s r b i (choose_ p) =
    let x = (used_stays s r b i (ex_ p)).0 in
    let y = (used_stays s r b i (not_ (ex_ p))).0 in
    let z = not_all_used s r b i p in
    λ j. when (not (either (x j) (either (y j) (z j)))) p
untaken_used s r b i _ = refl

pub take_up_steady : IsSteady take_up
take_up_steady s r b i g = ap (λ o. of_literal (is_literal g) (after (taken_up g) o)) (first_same (untaken b) (untaken (used s r b i)) (closed_subterms g) (untaken_used s r b i))
