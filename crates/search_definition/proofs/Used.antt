-- What a closed tree uses stands on its branch; and the first rule is that of the first rank that gives one.
use Rattle.std.proofs.Common.{◌≡◌, ◌⊎◌, Bool, true, false, Option, Some, None, List, [], ◌∷◌, ◌++◌, refl, ap, sym, ◌∙◌, subst, inl, inr}
use Rattle.std.proofs.lemmas.Bool.{false≢true}
use Rattle.core_expr.specs.Tree.{Tree}
use Rattle.core_expr.specs.Terms.{same}
use Rattle.core_expr.proofs.Equal.{same-refl, same-true}
use Rattle.seq_calculus.specs.Calculus.{Has, HasAll}
use Rattle.search_definition.specs.declared.rule.Rank.{Rank}
use Rattle.search_definition.specs.declared.rule.Rank.TheVariants as rank
use Rattle.search_definition.specs.declared.rule.Clash.{Clash}
use Rattle.search_definition.specs.declared.rule.Clash.TheVariants.{Denied, DeniedMirror}
use Rattle.search_definition.specs.Terms.{if_so, either, or_else, first_some, in_list}
use Rattle.search_definition.specs.Branches.{Branch, formulas, has, used, Closing, shuts_first, shuts_third, shuts_last, is_not_of, is_mirror_not, alone, partner, closes_with, closing_from, closing}
use Rattle.search_definition.specs.Rules.{Result, stays, stays_second, rises}
use Rattle.search_definition.specs.Rules.Sides.{Alone, Both}
use Rattle.search_definition.specs.Instances.{Fresh}
use Rattle.search_definition.specs.Search.{by_rank, ranks, first_rule, Applies, side_branch}
use Rattle.search_definition.specs.Trees.{newly, minus, meets, used_with, used_by, first_branch, second_branch}
use Rattle.search_definition.specs.Trees.Turns.{shut, one, first, both}
use Rattle.search_definition.specs.Watches.{ClosedSides}
use Rattle.search_definition.specs.Laws.{UsedStands, FirstIsByRank}
use Rattle.search_definition.proofs.Needing.{has-used}
use Rattle.search_definition.proofs.Uses.{not-grown}
use Rattle.search_definition.proofs.Standing.{Holds, held, or-holds, Each, first-holds, all-append, has-stands, sides_stay_closed}
use Rattle.search_definition.proofs.Telling.{rule_tells, if-fine}
use Rattle.search_definition.proofs.Treeing.{first-applies}

-- a closing names formulas of the branch
abbrev Names : List Tree → Closing → Type 0
Names g c = HasAll g c.entries

alone-names : (g : List Tree) (f : Tree) → Has g f → (o : Option Clash) → Holds (Names g) (alone f o)
alone-names g f h None = tt
alone-names g f h (Some k) = (h, tt)

partner-names : (g : List Tree) (f : Tree) → Has g f → (k : Clash) (test : Tree → Tree → Bool) (older : List Tree) → Each (Has g) older → Holds (Names g) (first_some (partner k test f) older)
partner-names g f h k test older e = first-holds (Names g) (partner k test f) (Has g) (λ x hx. if-fine (Names g) (either (test f x) (test x f)) (record { clash = k; entries = f ∷ x ∷ [] }) (h, (hx, tt))) older e

closes-names : (g older : List Tree) (f : Tree) → Each (Has g) older → Has g f → Holds (Names g) (closes_with older f)
closes-names g older f e h =
    or-holds (Names g) (alone f (shuts_first f)) _ (alone-names g f h (shuts_first f))
    (or-holds (Names g) (first_some (partner Denied is_not_of f) older) _ (partner-names g f h Denied is_not_of older e)
    (or-holds (Names g) (alone f (shuts_third f)) _ (alone-names g f h (shuts_third f))
    (or-holds (Names g) (first_some (partner DeniedMirror is_mirror_not f) older) _ (partner-names g f h DeniedMirror is_mirror_not older e) (alone-names g f h (shuts_last f)))))

each-last : (g older : List Tree) (f : Tree) → Each (Has g) older → Has g f → Each (Has g) (older ++ f ∷ [])
each-last g [] f e h = (h, tt)
each-last g (x ∷ older) f e h = (e.0, each-last g older f e.1 h)

from-names : (g older fs : List Tree) → Each (Has g) older → Each (Has g) fs → Holds (Names g) (closing_from older fs)
from-names g older [] e h = tt
from-names g older (f ∷ fs) e h = or-holds (Names g) (closes_with older f) (closing_from (older ++ f ∷ []) fs) (closes-names g older f e h.0) (from-names g (older ++ f ∷ []) fs (each-last g older f e h.0) h.1)

each-deeper : (x : Tree) (g fs : List Tree) → Each (Has g) fs → Each (Has (x ∷ g)) fs
each-deeper x g [] h = tt
each-deeper x g (f ∷ fs) h = (inr h.0, each-deeper x g fs h.1)

each-itself : (g : List Tree) → Each (Has g) g
each-itself [] = tt
each-itself (x ∷ g) = (inl refl, each-deeper x g g (each-itself g))

pub closing-names : (b : Branch) (c : Closing) → closing b ≡ Some c → HasAll (formulas b) c.entries
unfolding closing
closing-names b c e = held (Names (formulas b)) (closing_from [] (formulas b)) c e (from-names (formulas b) [] (formulas b) tt (each-itself (formulas b)))

-- what is used beside what is new stood on the branch before
stands-has : (b : Branch) (f : Tree) → Has (formulas b) f → has b f ≡ true
stands-has [] f h = absurd h
stands-has (e ∷ b) f (inl q) = subst (λ z. either (same e.formula z) (has b z) ≡ true) q (ap (λ x. either x (has b e.formula)) (same-refl e.formula))
stands-has (e ∷ b) f (inr h) = go (same e.formula f) (stands-has b f h)
  where
    go : (x : Bool) → has b f ≡ true → either x (has b f) ≡ true
    go true q = refl
    go false q = q

not-new : (b : Branch) (fs : List Tree) (f : Tree) → has b f ≡ false → in_list (newly b fs) f ≡ false → in_list fs f ≡ false
not-new b [] f h n = refl
not-new b (g ∷ fs) f h n = go (has b g) refl (same g f) refl (not-new b fs f h) n
  where
    go : (x : Bool) → has b g ≡ x → (y : Bool) → same g f ≡ y → (in_list (newly b fs) f ≡ false → in_list fs f ≡ false) → in_list (if_so x (newly b fs) (g ∷ newly b fs)) f ≡ false → either y (in_list fs f) ≡ false
    go x e false q ih n = rest x n
      where
        rest : (x : Bool) → in_list (if_so x (newly b fs) (g ∷ newly b fs)) f ≡ false → in_list fs f ≡ false
        rest true n = ih n
        rest false n = ih (sym (ap (λ y. either y (in_list (newly b fs) f)) q) ∙ n)
    go true e true q ih n = absurd (false≢true (sym h ∙ ap (has b) (sym (same-true g f q)) ∙ e))
    go false e true q ih n = absurd (false≢true (sym n ∙ ap (λ y. either y (in_list (newly b fs) f)) q))

side-stood : (live : Bool) (r : Result) (b : Branch) (fs : List Tree) (f : Tree) → Has (formulas (side_branch live r b fs)) f → in_list (newly b fs) f ≡ false → Has (formulas b) f
side-stood live r b fs f h n = go (has b f) refl
  where
    go : (x : Bool) → has b f ≡ x → Has (formulas b) f
    go true e = has-stands b f e
    go false e =
        absurd (false≢true (sym (not-grown fs (used live (rises r.step.rule) b r.entry) f (has-used live (rises r.step.rule) b r.entry f ∙ e) (not-new b fs f e n)) ∙ stands-has (side_branch live r b fs) f h))

minus-stood : (live : Bool) (r : Result) (b : Branch) (fs us : List Tree) → HasAll (formulas (side_branch live r b fs)) us → HasAll (formulas b) (minus us (newly b fs))
minus-stood live r b fs [] h = tt
minus-stood live r b fs (u ∷ us) h = go (in_list (newly b fs) u) refl (minus-stood live r b fs us h.1)
  where
    go : (x : Bool) → in_list (newly b fs) u ≡ x → HasAll (formulas b) (minus us (newly b fs)) → HasAll (formulas b) (if_so x (minus us (newly b fs)) (u ∷ minus us (newly b fs)))
    go true e k = k
    go false e k = (side-stood live r b fs u h.0 e, k)

with-stands : (g named us : List Tree) (x : Bool) → HasAll g named → HasAll g us → HasAll g (used_with x named us)
with-stands g named us true h k = all-append g named us h k
with-stands g named us false h k = k

pub used_stands : UsedStands
used_stands w b (shut c) cb h = closing-names b c h
used_stands w b (one r fs t) cb h =
    let told = rule_tells w b h.0.0 r cb h.0.1 in
    let c : ClosedSides (Alone fs) = subst ClosedSides h.1 told.6 in
    with-stands (formulas b) r.step.named (minus (used_by (first_branch r b fs) t) (newly b fs)) (meets (used_by (first_branch r b fs) t) (newly b fs)) told.5
    (minus-stood (stays r.step.rule) r b fs (used_by (first_branch r b fs) t) (used_stands w (first_branch r b fs) t (sides_stay_closed (stays r.step.rule) b r fs cb c) h.2))
used_stands w b (first r fs gs t) cb h =
    let told = rule_tells w b h.0.0 r cb h.0.1 in
    let c : ClosedSides (Both fs gs) = subst ClosedSides h.1 told.6 in
    minus-stood (stays r.step.rule) r b fs (used_by (first_branch r b fs) t) (used_stands w (first_branch r b fs) t (sides_stay_closed (stays r.step.rule) b r fs cb c.0) h.2)
used_stands w b (both r fs gs t v) cb h =
    let told = rule_tells w b h.0.0 r cb h.0.1 in
    let c : ClosedSides (Both fs gs) = subst ClosedSides h.1 told.6 in
    with-stands (formulas b) r.step.named (minus (used_by (first_branch r b fs) t) (newly b fs) ++ minus (used_by (second_branch r b gs) v) (newly b gs))
    (either (meets (used_by (first_branch r b fs) t) (newly b fs)) (meets (used_by (second_branch r b gs) v) (newly b gs))) told.5
    (all-append (formulas b) (minus (used_by (first_branch r b fs) t) (newly b fs)) (minus (used_by (second_branch r b gs) v) (newly b gs))
    (minus-stood (stays r.step.rule) r b fs (used_by (first_branch r b fs) t) (used_stands w (first_branch r b fs) t (sides_stay_closed (stays r.step.rule) b r fs cb c.0) h.2))
    (minus-stood (stays_second r.step.rule) r b gs (used_by (second_branch r b gs) v) (used_stands w (second_branch r b gs) v (sides_stay_closed (stays_second r.step.rule) b r gs cb c.1) h.3)))

-- the ranks are all there
abbrev AmongRanks : Rank → List Rank → Type 0
AmongRanks k [] = ⊥
AmongRanks k (j ∷ js) = (j ≡ k) ⊎ AmongRanks k js

all-ranks : (k : Rank) → AmongRanks k ranks
all-ranks rank.Plain = inl refl
all-ranks rank.Rewrite = inr (inl refl)
all-ranks rank.Derive = inr (inr (inl refl))
all-ranks rank.Replace = inr (inr (inr (inl refl)))
all-ranks rank.Settle = inr (inr (inr (inr (inl refl))))
all-ranks rank.Choice = inr (inr (inr (inr (inr (inl refl)))))
all-ranks rank.Split = inr (inr (inr (inr (inr (inr (inl refl))))))
all-ranks rank.TermSplit = inr (inr (inr (inr (inr (inr (inr (inl refl)))))))
all-ranks rank.Extension = inr (inr (inr (inr (inr (inr (inr (inr (inl refl))))))))
all-ranks rank.Instance = inr (inr (inr (inr (inr (inr (inr (inr (inr (inl refl)))))))))
all-ranks rank.Spare = inr (inr (inr (inr (inr (inr (inr (inr (inr (inr (inl refl))))))))))
all-ranks rank.TakeUp = inr (inr (inr (inr (inr (inr (inr (inr (inr (inr (inr (inl refl)))))))))))

none-of : (w : Fresh) (b : Branch) (js : List Rank) → first_some (by_rank w b) js ≡ None → (k : Rank) → AmongRanks k js → by_rank w b k ≡ None
none-of w b [] e k a = absurd a
none-of w b (j ∷ js) e k a = go (by_rank w b j) refl (none-of w b js) e a
  where
    go : (o : Option Result) → by_rank w b j ≡ o → (first_some (by_rank w b) js ≡ None → (k : Rank) → AmongRanks k js → by_rank w b k ≡ None) → or_else o (first_some (by_rank w b) js) ≡ None → AmongRanks k (j ∷ js) → by_rank w b k ≡ None
    go (Some r) q ih e a = cc
    go None q ih e (inl p) = subst (λ z. by_rank w b z ≡ None) p q
    go None q ih e (inr p) = ih e k p

pub first_is_by_rank : FirstIsByRank
unfolding first_rule
first_is_by_rank w b = (first-applies w b, (none, from (first_some (by_rank w b) ranks) refl))
  where
    apart : (r : Result) → None ≡ Some r → ⊥
    apart r e = cc

    none : first_some (by_rank w b) ranks ≡ None → (r : Result) → Applies w b r → ⊥
    none e r a = apart r (sym (none-of w b ranks e a.0 (all-ranks a.0)) ∙ a.1)

    from : (o : Option Result) → first_some (by_rank w b) ranks ≡ o → ((r : Result) → Applies w b r → ⊥) → first_some (by_rank w b) ranks ≡ None
    from None e h = e
    from (Some r) e h = absurd (h r (first-applies w b r e))
