-- The ranks term split and take up are carried.
use Rattle.std.specs.Prelude.{◌≡◌, Bool, true, false, not, Option, List, [], ◌∷◌, ◌++◌}
use Rattle.std.proofs.Common.{refl, sym, ◌∙◌, subst, inl, inr}
use Rattle.core_expr.specs.Tree.{Tree, not_, imp_, eq_, in_, apply_, if_, ex_, choose_, fun_}
use Rattle.core_expr.specs.Put.{inst}
use Rattle.seq_calculus.specs.Calculus.{Has, IsClosed, Proof}
use Rattle.seq_calculus.specs.Calculus.Rule.{Ax, NotR, ExL}
use Rattle.search_definition.specs.declared.rule.Rule.{Rule}
use Rattle.search_definition.specs.declared.rule.Rule.TheVariants.{Conditional, Application}
use Rattle.search_definition.specs.Terms.{first_at, replace}
use Rattle.search_definition.specs.Branches.{Branch, formulas, has}
use Rattle.search_definition.specs.Values.{Truth, truth, grounds}
use Rattle.search_definition.specs.Values.Truth.{Yes, No, Unknown}
use Rattle.search_definition.specs.Rules.{Step}
use Rattle.search_definition.specs.Splits.{is_literal, of_literal, split_term, split_by, split_at, term_split, untaken, taken_up, take_up}
use Rattle.search_definition.proofs.Standing.{Holds, after-holds, at-holds, grounds-stand}
use Rattle.search_definition.proofs.Telling.{if-fine}
use Rattle.proof_writer.specs.Shapes.{leaf, over, neg_left}
use Rattle.proof_trees.specs.Says.{Says}
use Rattle.proof_trees.specs.Abstracted.{put_for}
use Rattle.proof_trees.specs.Valued.{shows, entries_of}
use Rattle.proof_trees.specs.Cuts.{take_up_by, if_then, then_by, else_by, applied_by, cut_settled, cases_by}
use Rattle.proof_trees.specs.By.{rule_by}
use Rattle.proof_trees.proofs.Had.{HasAll-cons, HasAll-itself, HasAll-one, inst_closed}
use Rattle.proof_trees.proofs.Said.{narrower, wider, says_behind, says_ax, says_cut, says_not_r, says_imp_l, says_ex_l, says_schema, says_neg_left}
use Rattle.proof_trees.proofs.Replaced.{says_replaced}
use Rattle.proof_trees.proofs.Ranked.{Fits}
use Rattle.proof_trees.proofs.Valued.{Shows, value-shown}
use Rattle.proof_trees.proofs.Settled.{Known, formulas-entries, value-kept}

take-up-says : (us : List Tree) (p : Tree) (c d : Proof) → IsClosed (ex_ p) → Says c (ex_ p ∷ inst p (choose_ p) ∷ us) [] → Says d (not_ (ex_ p) ∷ us) [] → Says (take_up_by p c d) us []
take-up-says us p c d cp k l =
    says_cut (neg_left (ex_ p) d) (over (ExL p) c) us [] (ex_ p) cp
    (says_neg_left d us (ex_ p ∷ []) (ex_ p) (inl refl) (wider d (not_ (ex_ p) ∷ us) (ex_ p ∷ []) l))
    (says_ex_l c (ex_ p ∷ us) [] p (inl refl)
    (narrower c (inst p (choose_ p) ∷ ex_ p ∷ us) [] (ex_ p ∷ inst p (choose_ p) ∷ us) [] (inr (inl refl), (inl refl, HasAll-cons (inst p (choose_ p)) (ex_ p ∷ us) us (HasAll-one (ex_ p) us))) tt k))

literal-fits : (x : Bool) (o : Option Step) → Holds Fits o → Holds Fits (of_literal x o)
literal-fits true o h = h
literal-fits false o h = tt

untaken-closed : (b : Branch) (t : Tree) → IsClosed t → Holds (λ p. IsClosed (ex_ p)) (untaken b t)
untaken-closed b (choose_ p) h = if-fine (λ p. IsClosed (ex_ p)) _ p h
untaken-closed b _ h = tt

pub take-up-fits : (b : Branch) (f : Tree) → Holds Fits (take_up b f)
take-up-fits b f =
    literal-fits (is_literal f) _
    (after-holds Fits (taken_up f) (λ p. IsClosed (ex_ p)) (λ p h us n c d k l. take-up-says us p c d h k l) (first_at (untaken b) f) (at-holds (λ p. IsClosed (ex_ p)) (untaken b) (untaken-closed b) f))

says_if_then : (us : List Tree) (c : Proof) (p s t f : Tree) → Has us f → Has us p → Says c (p ∷ replace s t f ∷ us) [] → Says (if_then p s t f c) (imp_ p (eq_ s t) ∷ us) []
says_if_then us c p s t f hf hp k =
    let i : Tree = imp_ p (eq_ s t) in
    says_imp_l (leaf (Ax p)) (put_for s t f c) (i ∷ us) [] p (eq_ s t) (inl refl) (says_ax (i ∷ us) (p ∷ []) p (inr hp) (inl refl))
    (says_replaced c (eq_ s t ∷ i ∷ us) [] s t f (inl refl) (inr (inr hf))
    (narrower c (replace s t f ∷ eq_ s t ∷ i ∷ us) [] (p ∷ replace s t f ∷ us) []
    (inr (inr (inr hp)), (inl refl, HasAll-cons (replace s t f) (eq_ s t ∷ i ∷ us) us (HasAll-cons (eq_ s t) (i ∷ us) us (HasAll-one i us)))) tt k))

then-case : (p x y f : Tree) → IsClosed (if_ p x y) → (us : List Tree) (c : Proof) → Has us f → Has us p → Says c (p ∷ replace (if_ p x y) x f ∷ us) [] → Says (then_by p x y f c) us []
then-case p x y f cu us c hf hp k =
    says_schema (if_then p (if_ p x y) x f c) us [] 13 0 (p ∷ x ∷ y ∷ []) (imp_ p (eq_ (if_ p x y) x)) (cu.0, ((cu, (cu.1.0, tt)), tt)) refl (says_if_then us c p (if_ p x y) x f hf hp k)

else-case : (p x y f : Tree) → IsClosed (if_ p x y) → (us : List Tree) (c : Proof) → Has us f → Has us (not_ p) → Says c (not_ p ∷ replace (if_ p x y) y f ∷ us) [] → Says (else_by p x y f c) us []
else-case p x y f cu us c hf hp k =
    says_schema (if_then (not_ p) (if_ p x y) y f c) us [] 14 0 (p ∷ x ∷ y ∷ []) (imp_ (not_ p) (eq_ (if_ p x y) y)) ((cu.0, tt), ((cu, (cu.1.1.0, tt)), tt)) refl (says_if_then us c (not_ p) (if_ p x y) y f hf hp k)

applied-case : (a s e f : Tree) → IsClosed (apply_ (fun_ s e) a) → (us : List Tree) (c : Proof) → Has us f → Has us (in_ a s) → Says c (in_ a s ∷ replace (apply_ (fun_ s e) a) (inst e a) f ∷ us) [] → Says (applied_by a s e f c) us []
applied-case a s e f cu us c hf hp k =
    let cm : IsClosed (in_ a s) = (cu.1.0, (cu.0.0.0, tt)) in
    says_schema (if_then (in_ a s) (apply_ (fun_ s e) a) (inst e a) f c) us [] 16 0 (a ∷ s ∷ e ∷ []) (imp_ (in_ a s) (eq_ (apply_ (fun_ s e) a) (inst e a))) (cm, ((cu, (inst_closed e a cu.1.0, tt)), tt)) refl
    (says_if_then us c (in_ a s) (apply_ (fun_ s e) a) (inst e a) f hf hp k)

known_of : (t : Truth) → (t ≡ Unknown → ⊥) → Known t
known_of Yes h = tt
known_of No h = tt
known_of Unknown h = h refl

-- a case distinction: settled by a value, or with both sides
module _ (b : Branch) (rule : Rule) (f u p : Tree) (l r : List Tree) (cp : IsClosed p) (k m : Proof → Proof)
    (is : (gs : List Tree) (ps : List Proof) → rule_by rule f gs (u ∷ []) ps ≡ cases_by p k m gs ps)
    (hk : (us : List Tree) (c : Proof) → Has us f → Has us p → Says c (l ++ us) [] → Says (k c) us [])
    (hm : (us : List Tree) (c : Proof) → Has us f → Has us (not_ p) → Says c (r ++ us) [] → Says (m c) us []) where
  shown : (t : Truth) → truth b p ≡ t → (t ≡ Unknown → ⊥) → (truth (entries_of (grounds b p)) p ≡ t) × Shows t (shows (entries_of (grounds b p)) p) (grounds b p) p
  shown t q known =
      let gs : List Tree = grounds b p in
      let e : truth (entries_of gs) p ≡ t = value-kept b gs (grounds-stand b p) p (subst Known (sym q) (known_of t known)) (HasAll-itself gs) ∙ q in
      (e, subst (λ us. Shows t (shows (entries_of gs) p) us p) (formulas-entries gs) (subst (λ x. Shows x (shows (entries_of gs) p) (formulas (entries_of gs)) p) e (value-shown (entries_of gs) p)))

  pub cases-fit : (t : Truth) → truth b p ≡ t → Holds Fits (split_by t rule f (grounds b p) u l r)
  cases-fit Yes q = λ us n c w.
      let gs : List Tree = grounds b p in
      let s = shown Yes q (λ z. cc) in
      subst (λ x. Says x us []) (sym (is gs (c ∷ [])))
      (subst (λ x. Says (cut_settled p k m x gs c) us []) (sym s.0)
      (says_cut (shows (entries_of gs) p) (k c) us [] p cp
      (narrower (shows (entries_of gs) p) us (p ∷ []) gs (p ∷ []) n.1 (HasAll-itself (p ∷ [])) s.1)
      (hk (p ∷ us) c (inr n.0) (inl refl) (says_behind c l us [] p w))))
  cases-fit No q = λ us n c w.
      let gs : List Tree = grounds b p in
      let s = shown No q (λ z. cc) in
      subst (λ x. Says x us []) (sym (is gs (c ∷ [])))
      (subst (λ x. Says (cut_settled p k m x gs c) us []) (sym s.0)
      (says_cut (over (NotR p) (shows (entries_of gs) p)) (m c) us [] (not_ p) (cp, tt)
      (says_not_r (shows (entries_of gs) p) us (not_ p ∷ []) p (inl refl) (narrower (shows (entries_of gs) p) (p ∷ us) (not_ p ∷ []) (p ∷ gs) [] (inl refl, HasAll-cons p us gs n.1) tt s.1))
      (hm (not_ p ∷ us) c (inr n.0) (inl refl) (says_behind c r us [] (not_ p) w))))
  cases-fit Unknown q = λ us n c d v w.
      subst (λ x. Says x us []) (sym (is [] (c ∷ d ∷ [])))
      (says_cut (neg_left p (m d)) (k c) us [] p cp
      (says_neg_left (m d) us (p ∷ []) p (inl refl) (wider (m d) (not_ p ∷ us) (p ∷ []) (hm (not_ p ∷ us) d (inr n.0) (inl refl) (says_behind d r us [] (not_ p) w))))
      (hk (p ∷ us) c (inr n.0) (inl refl) (says_behind c l us [] p v)))

split-at-fits : (b : Branch) (f u : Tree) → IsClosed u → Holds Fits (split_at b f u)
split-at-fits b f (if_ p x y) h =
    cases-fit b Conditional f (if_ p x y) p (p ∷ replace (if_ p x y) x f ∷ []) (not_ p ∷ replace (if_ p x y) y f ∷ []) h.0 (then_by p x y f) (else_by p x y f) (λ gs ps. refl) (then-case p x y f h) (else-case p x y f h) (truth b p) refl
split-at-fits b f (apply_ (fun_ s e) a) h =
    cases-fit b Application f (apply_ (fun_ s e) a) (in_ a s) (in_ a s ∷ replace (apply_ (fun_ s e) a) (inst e a) f ∷ []) (not_ (in_ a s) ∷ []) (h.1.0, (h.0.0.0, tt)) (applied_by a s e f) (λ c. c) (λ gs ps. refl) (applied-case a s e f h)
    (λ us c hf hp k. narrower c us [] (not_ (in_ a s) ∷ us) [] (hp, HasAll-itself us) tt k) (truth b (in_ a s)) refl
split-at-fits b f _ h = tt

pub split-term-closed : (b : Branch) (t : Tree) → IsClosed t → Holds IsClosed (split_term b t)
split-term-closed b (if_ p x y) h = h
split-term-closed b (apply_ (fun_ s e) a) h = if-fine IsClosed (not (has b (not_ (in_ a s)))) (apply_ (fun_ s e) a) h
split-term-closed b _ h = tt

pub term-split-fits : (b : Branch) (f : Tree) → Holds Fits (term_split b f)
term-split-fits b f =
    literal-fits (is_literal f) _ (after-holds Fits (split_at b f) IsClosed (λ u h. split-at-fits b f u h) (first_at (split_term b) f) (at-holds IsClosed (split_term b) (split-term-closed b) f))
