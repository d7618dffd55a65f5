-- Where the search on a propositional obligation ends closed, no valuation falsifies it.
use Rattle.std.specs.Prelude.{◌≡◌, ◌⊎◌, Bool, true, false, None, List, [], ◌∷◌, ◌++◌}
use Rattle.std.proofs.Common.{refl, ap, sym, subst, inl, inr}
use Rattle.core_expr.specs.Tree.{Tree, not_}
use Rattle.core_expr.proofs.Equal.{same-true}
use Rattle.seq_calculus.specs.Calculus.{HasAll}
use Rattle.valuation.specs.Truth.{negated, Valuation, value_under, AllHold}
use Rattle.search_definition.specs.declared.rule.Clash.TheVariants.{Denied, DeniedMirror}
use Rattle.search_definition.specs.Terms.{if_so, either, when, in_list, first_some}
use Rattle.search_definition.specs.Branches.{Branch, formulas, has, used, Closing, closing, closing_from, closes_with, shuts_first, shuts_third, shuts_last, is_not_of, is_mirror_not, alone, partner}
use Rattle.search_definition.specs.Rules.{Result, stays, stays_second, rises}
use Rattle.search_definition.specs.Rules.Sides.{Alone, Both}
use Rattle.search_definition.specs.Instances.{Fresh}
use Rattle.search_definition.specs.Search.{denied, start_branch, fresh, side_branch}
use Rattle.search_definition.specs.Trees.{Turns, newly, minus, meets, used_with, used_by, first_branch, second_branch, IsSearched}
use Rattle.search_definition.specs.Trees.Turns.{shut, one, first, both}
use Rattle.search_definition.specs.Laws.{UsedStands}
use Rattle.search_definition.proofs.Closings.{formulas_used}
use Rattle.search_definition.proofs.Standing.{Holds, held, or-holds, first-holds}
use Rattle.search_definition.proofs.Treeing.{closed_has_tree, searched_is_closed}
use Rattle.propositional_laws.specs.Formulas.{Formula, Formulas}
use Rattle.propositional_laws.specs.Formulas.Formula.{f_true, f_false, f_symbol, f_not, f_and, f_or, f_imp, f_iff}
use Rattle.propositional_laws.specs.Laws.{ClosedIsValid}
use Rattle.propositional_laws.proofs.Forms.{all-closed, each-at, each-append}
use Rattle.propositional_laws.proofs.Values.{hold-at, hold-split}
use Rattle.propositional_laws.proofs.Steps.{Sided, SomeHold}
use Rattle.propositional_laws.proofs.Ranks.{bare, none-holds, Acts, rule-acts}
use Rattle.propositional_laws.proofs.Turns.{each-added, keeps-start, keeps-formed}

module _ (v : Valuation) where
  -- what closes is not true as a whole
  abbrev Clashes : Closing → Type 0
  Clashes c = AllHold v c.entries → ⊥

  both-negated : (x : Bool) → negated x ≡ true → x ≡ true → ⊥
  both-negated true h k = cc
  both-negated false h k = cc

  first-clashes : (f : Tree) → Formula f → Holds Clashes (alone f (shuts_first f))
  first-clashes _ f_true = tt
  first-clashes _ f_false = λ h. both-negated false refl h.0
  first-clashes _ (f_symbol s) = tt
  first-clashes _ (f_not f_true) = λ h. both-negated true h.0 refl
  first-clashes _ (f_not f_false) = tt
  first-clashes _ (f_not (f_symbol s)) = tt
  first-clashes _ (f_not (f_not p)) = tt
  first-clashes _ (f_not (f_and p q)) = tt
  first-clashes _ (f_not (f_or p q)) = tt
  first-clashes _ (f_not (f_imp p q)) = tt
  first-clashes _ (f_not (f_iff p q)) = tt
  first-clashes _ (f_and p q) = tt
  first-clashes _ (f_or p q) = tt
  first-clashes _ (f_imp p q) = tt
  first-clashes _ (f_iff p q) = tt

  not-of : (f g : Tree) → Formula f → is_not_of f g ≡ true → value_under v f ≡ true → value_under v g ≡ true → ⊥
  not-of _ g f_true e h k = cc
  not-of _ g f_false e h k = cc
  not-of _ g (f_symbol s) e h k = cc
  not-of _ g (f_not {a} p) e h k = both-negated (value_under v a) h (subst (λ z. value_under v z ≡ true) (sym (same-true a g e)) k)
  not-of _ g (f_and p q) e h k = cc
  not-of _ g (f_or p q) e h k = cc
  not-of _ g (f_imp p q) e h k = cc
  not-of _ g (f_iff p q) e h k = cc

  partner-clashes : (f g : Tree) → Formula f → Formula g → Holds Clashes (partner Denied is_not_of f g)
  partner-clashes f g p q = go (is_not_of f g) (is_not_of g f) refl refl
    where
      go : (x y : Bool) → is_not_of f g ≡ x → is_not_of g f ≡ y → Holds Clashes (when (either x y) (record { clash = Denied; entries = f ∷ g ∷ [] }))
      go true y e d = λ h. not-of f g p e h.0 h.1.0
      go false true e d = λ h. not-of g f q d h.1.0 h.0
      go false false e d = tt

  no-mirror : (b : Branch) (f g : Tree) → Formula f → Formula g → partner DeniedMirror is_mirror_not f g ≡ None
  no-mirror b f g p q = λ i. when (either ((bare b f p).10 g i) ((bare b g q).10 f i)) (record { clash = DeniedMirror; entries = f ∷ g ∷ [] })

  closes-clash : (older : List Tree) (f : Tree) → Formulas older → Formula f → Holds Clashes (closes_with older f)
  closes-clash older f h p =
      or-holds Clashes (alone f (shuts_first f)) _ (first-clashes f p)
      (or-holds Clashes (first_some (partner Denied is_not_of f) older) _ (first-holds Clashes (partner Denied is_not_of f) Formula (λ g q. partner-clashes f g p q) older h)
      (or-holds Clashes (alone f (shuts_third f)) _ (none-holds Clashes (alone f (shuts_third f)) (ap (alone f) (bare [] f p).8))
      (or-holds Clashes (first_some (partner DeniedMirror is_mirror_not f) older) _
      (first-holds Clashes (partner DeniedMirror is_mirror_not f) Formula (λ g q. none-holds Clashes (partner DeniedMirror is_mirror_not f g) (no-mirror [] f g p q)) older h)
      (none-holds Clashes (alone f (shuts_last f)) (ap (alone f) (bare [] f p).9)))))

  closing-clashes : (older fs : List Tree) → Formulas older → Formulas fs → Holds Clashes (closing_from older fs)
  closing-clashes older [] h p = tt
  closing-clashes older (f ∷ fs) h p =
      or-holds Clashes (closes_with older f) (closing_from (older ++ f ∷ []) fs) (closes-clash older f h p.0) (closing-clashes (older ++ f ∷ []) fs (each-append Formula older (f ∷ []) h (p.0, tt)) p.1)

  -- what is used, without what is added
  newly-hold : (b : Branch) (fs : List Tree) → AllHold v fs → AllHold v (newly b fs)
  newly-hold b [] h = tt
  newly-hold b (f ∷ fs) h = go (has b f) (newly-hold b fs h.1)
    where
      go : (x : Bool) → AllHold v (newly b fs) → AllHold v (if_so x (newly b fs) (f ∷ newly b fs))
      go true k = k
      go false k = (h.0, k)

  -- what is taken away holds too, or nothing is taken away
  abbrev Back : List Tree → Bool → Type 0
  Back ns x = AllHold v ns ⊎ (x ≡ false)

  minus-back : (us ns : List Tree) → Back ns (meets us ns) → AllHold v (minus us ns) → AllHold v us
  minus-back [] ns c k = tt
  minus-back (u ∷ us) ns c k = go (in_list ns u) refl (minus-back us ns) c k
    where
      go : (x : Bool) → in_list ns u ≡ x → (Back ns (meets us ns) → AllHold v (minus us ns) → AllHold v us) → Back ns (either x (meets us ns)) → AllHold v (if_so x (minus us ns) (u ∷ minus us ns)) → AllHold v (u ∷ us)
      go true e ih (inl m) k = (hold-at v ns u m e, ih (inl m) k)
      go true e ih (inr m) k = cc
      go false e ih c k = (k.0, ih c k.1)

  side-formed : (b : Branch) (r : Result) (live : Bool) (fs : List Tree) → Formulas (formulas b) → Formulas fs → Formulas (formulas (side_branch live r b fs))
  side-formed b r live fs p q = each-added Formula fs (used live (rises r.step.rule) b r.entry) (subst Formulas (sym (formulas_used live (rises r.step.rule) b r.entry)) p) q

  -- what a closed tree uses is not true as a whole
  tree-clashes : (w : Fresh) (b : Branch) (t : Turns) → Formulas (formulas b) → IsSearched w b t → AllHold v (used_by b t) → ⊥
  unfolding closing
  tree-clashes w b (shut c) p h k = held Clashes (closing b) c h (closing-clashes [] (formulas b) tt p) k
  tree-clashes w b (one r fs t) p h k =
      let a : Acts b r = rule-acts w b p r h.0 in
      let s : Sided b a.formula (Alone fs) = subst (Sided b a.formula) h.1 a.does.sides in
      tree-clashes w (first_branch r b fs) t (side-formed b r (stays r.step.rule) fs p s.formed) h.2
      (go (λ m. subst (SomeHold v) h.1 (a.does.tells v m)) (meets us (newly b fs)) refl k)
    where
      us : List Tree
      us = used_by (first_branch r b fs) t

      go : (AllHold v r.step.named → AllHold v fs) → (x : Bool) → meets us (newly b fs) ≡ x → AllHold v (used_with x r.step.named (minus us (newly b fs))) → AllHold v us
      go tells false e k = minus-back us (newly b fs) (inr e) k
      go tells true e k = let d = hold-split v r.step.named (minus us (newly b fs)) k in minus-back us (newly b fs) (inl (newly-hold b fs (tells d.0))) d.1
  tree-clashes w b (first r fs gs t) p h k =
      let a : Acts b r = rule-acts w b p r h.0 in
      let s : Sided b a.formula (Both fs gs) = subst (Sided b a.formula) h.1 a.does.sides in
      tree-clashes w (first_branch r b fs) t (side-formed b r (stays r.step.rule) fs p s.0.formed) h.2 (minus-back (used_by (first_branch r b fs) t) (newly b fs) (inr h.3) k)
  tree-clashes w b (both r fs gs t u) p h k =
      let a : Acts b r = rule-acts w b p r h.0 in
      let s : Sided b a.formula (Both fs gs) = subst (Sided b a.formula) h.1 a.does.sides in
      go (λ m. subst (SomeHold v) h.1 (a.does.tells v m)) (tree-clashes w (first_branch r b fs) t (side-formed b r (stays r.step.rule) fs p s.0.formed) h.2)
      (tree-clashes w (second_branch r b gs) u (side-formed b r (stays_second r.step.rule) gs p s.1.formed) h.3) (meets us (newly b fs)) (meets vs (newly b gs)) refl k
    where
      us : List Tree
      us = used_by (first_branch r b fs) t

      vs : List Tree
      vs = used_by (second_branch r b gs) u

      named : (AllHold v r.step.named → AllHold v fs ⊎ AllHold v gs) → (AllHold v us → ⊥) → (AllHold v vs → ⊥) → AllHold v (r.step.named ++ (minus us (newly b fs) ++ minus vs (newly b gs))) → ⊥
      named tells i j k =
          let d = hold-split v r.step.named (minus us (newly b fs) ++ minus vs (newly b gs)) k in
          let e = hold-split v (minus us (newly b fs)) (minus vs (newly b gs)) d.1 in
          elim (tells d.0) [ inl m ↦ i (minus-back us (newly b fs) (inl (newly-hold b fs m)) e.0) | inr m ↦ j (minus-back vs (newly b gs) (inl (newly-hold b gs m)) e.1) ]

      go : (AllHold v r.step.named → AllHold v fs ⊎ AllHold v gs) → (AllHold v us → ⊥) → (AllHold v vs → ⊥) → (x y : Bool) → meets us (newly b fs) ≡ x
          → AllHold v (used_with (either x y) r.step.named (minus us (newly b fs) ++ minus vs (newly b gs))) → ⊥
      go tells i j true y e k = named tells i j k
      go tells i j false true e k = named tells i j k
      go tells i j false false e k = i (minus-back us (newly b fs) (inr e) (hold-split v (minus us (newly b fs)) (minus vs (newly b gs)) k).0)

  all-has : (fs gs : List Tree) → AllHold v fs → HasAll fs gs → AllHold v gs
  all-has fs [] h k = tt
  all-has fs (g ∷ gs) h k = (each-at (λ f. value_under v f ≡ true) fs g h k.0, all-has fs gs h k.1)

pub closed_is_valid : UsedStands → ClosedIsValid
closed_is_valid stands facts goal p q limit m h v k =
    let t = closed_has_tree facts goal limit m h in
    let b : Branch = start_branch facts goal in
    let f : Formulas (formulas b) = keeps-formed (denied facts goal) b (keeps-start facts goal p q) in
    let on : HasAll (formulas b) (used_by b t.0) = stands (fresh facts goal) b t.0 (all-closed (formulas b) f) (searched_is_closed (fresh facts goal) b t.0 t.1) in
    let start : AllHold v (denied facts goal) = each-append (λ g. value_under v g ≡ true) facts (not_ goal ∷ []) k.0 (ap negated k.1, tt) in
    tree-clashes v (fresh facts goal) b t.0 f t.1 (all-has v (formulas b) (used_by b t.0) (each-added (λ g. value_under v g ≡ true) (denied facts goal) [] tt start) on)
