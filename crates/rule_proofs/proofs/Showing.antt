-- The tasks of a formula's value, done one after the other.
use Rattle.std.specs.Prelude.{◌≡◌, ℕ, ◌<◌, ◌≤◌, List, [], ◌∷◌, ◌++◌, length}
use Rattle.std.proofs.Common.{refl, ap, sym, ◌∙◌, subst, arith}
use Rattle.core_expr.specs.Terms.{nodes}
use Rattle.core_expr.specs.Nodes.{AreBelow, picked}
use Rattle.search_definition.specs.Branches.{Branch}
use Rattle.search_definition.specs.Values.{Truth, truth}
use Rattle.term_bank.specs.Banks.{tree_at}
use Rattle.proof_writer.specs.Written.{Written, count, opens}
use Rattle.proof_trees.specs.Valued.{entries_of, shows}
use Rattle.rule_proofs.specs.declared.value.Value.{Value}
use Rattle.rule_proofs.specs.declared.tasks.Task.{Task}
use Rattle.rule_proofs.specs.declared.tasks.Task.TheVariants.{Visit, Join}
use Rattle.rule_proofs.specs.Values.{truth_of}
use Rattle.rule_proofs.specs.Shown.{Shown, visited, joined, after, done, laid, shown_of, AreUnder, weights, IsTurn, IsShowing}
use Rattle.rule_proofs.proofs.Lefts.{picked_same}
use Rattle.rule_proofs.proofs.Shown.{laid_last, done-both, weights_both}

module _ (v w : Written) (same : (i : ℕ) → i < count v → tree_at w.trees i ≡ tree_at v.trees i) where
  done-same : (e : Branch) (tasks : List Task) (s : Shown) → AreUnder (count v) tasks → done w.trees e tasks s ≡ done v.trees e tasks s
  done-same e [] s u = refl
  done-same e (Visit i ∷ tasks) s u = (λ j. visited e (same i u.0 j) (done w.trees e tasks s)) ∙ ap (visited e (tree_at v.trees i)) (done-same e tasks s u.1)
  done-same e (Join i ∷ tasks) s u = (λ j. joined (same i u.0 j) (done w.trees e tasks s)) ∙ ap (joined (tree_at v.trees i)) (done-same e tasks s u.1)

  weights-same : (tasks : List Task) → AreUnder (count v) tasks → weights w.trees tasks ≡ weights v.trees tasks
  weights-same [] u = refl
  weights-same (Visit i ∷ tasks) u = omega (arith, ap nodes (same i u.0), weights-same tasks u.1)
  weights-same (Join i ∷ tasks) u = omega (arith, weights-same tasks u.1)

under-last : (n : ℕ) (rest : List Task) (t : Task) → AreUnder n (rest ++ t ∷ []) → AreUnder n (t ∷ rest)
under-last n [] (Visit i) u = u
under-last n [] (Join i) u = u
under-last n (Visit j ∷ rest) (Visit i) u = let k = under-last n rest (Visit i) u.1 in (k.0, (u.0, k.1))
under-last n (Visit j ∷ rest) (Join i) u = let k = under-last n rest (Join i) u.1 in (k.0, (u.0, k.1))
under-last n (Join j ∷ rest) (Visit i) u = let k = under-last n rest (Visit i) u.1 in (k.0, (u.0, k.1))
under-last n (Join j ∷ rest) (Join i) u = let k = under-last n rest (Join i) u.1 in (k.0, (u.0, k.1))

under-front : (n : ℕ) (t : Task) (rest : List Task) → AreUnder n (t ∷ rest) → AreUnder n rest
under-front n (Visit i) rest u = u.1
under-front n (Join i) rest u = u.1

under-wider : (m n : ℕ) (tasks : List Task) → m ≤ n → AreUnder m tasks → AreUnder n tasks
under-wider m n [] l u = tt
under-wider m n (Visit i ∷ tasks) l u = (omega (arith, u.0), under-wider m n tasks l u.1)
under-wider m n (Join i ∷ tasks) l u = (omega (arith, u.0), under-wider m n tasks l u.1)

module _ (v w : Written) (gs : List ℕ) (f : ℕ) (rest : List Task) (t : Task) (tasks : List Task) (values : List Value) (below : AreBelow (count v) gs) (is : tasks ≡ rest ++ t ∷ []) (h : IsShowing v w gs f tasks values) where
  under_old : AreUnder (count v) (t ∷ rest)
  under_old = under-last (count v) rest t (subst (AreUnder (count v)) is h.under)

  -- what the turn asks
  pub under_now : AreUnder (count w) (t ∷ rest)
  under_now = under-wider (count v) (count w) (t ∷ rest) h.more under_old

  module _ (w1 : Written) (new : List Task) (values1 : List Value) (more : count w ≤ count w1) (same : (i : ℕ) → i < count w → tree_at w1.trees i ≡ tree_at w.trees i) (enough : length values1 ≤ length (opens w1))
      (turn : IsTurn w.trees (entries_of (picked w.trees gs)) t rest (shown_of values (opens w)) new (shown_of values1 (opens w1))) where
    pub lighter : weights v.trees new < weights v.trees tasks
    lighter =
        let a : weights w.trees new ≡ weights v.trees new = weights-same v w h.same new (turn.under (count v) under_old) in
        let b : weights w.trees (t ∷ rest) ≡ weights v.trees (t ∷ rest) = weights-same v w h.same (t ∷ rest) under_old in
        let c : weights v.trees tasks ≡ weights v.trees (rest ++ t ∷ []) = ap (weights v.trees) is in
        omega (arith, turn.lighter, a, b, c, weights_both v.trees rest (t ∷ []))

    pub next : IsShowing v w1 gs f new values1
    next =
        let e : picked w.trees gs ≡ picked v.trees gs = picked_same v w gs below h.same in
        let b : Branch = entries_of (picked v.trees gs) in
        let s : Shown = shown_of values (opens w) in
        let z : Shown = shown_of values1 (opens w1) in
        let d : done w.trees b new z ≡ done w.trees b rest (after w.trees b t s) = subst (λ us. done w.trees (entries_of us) new z ≡ done w.trees (entries_of us) rest (after w.trees (entries_of us) t s)) e turn.done in
        let u : AreUnder (count v) new = turn.under (count v) under_old in
        record {
          more = omega (arith, more, h.more);
          same = λ i l. same i (omega (arith, l, h.more)) ∙ h.same i l;
          under = u;
          enough = enough;
          done =
              sym (done-same v w h.same b new z u) ∙ d ∙ sym (done-both w.trees b rest (t ∷ []) s) ∙ ap (λ us. done w.trees b us s) (sym is) ∙ done-same v w h.same b tasks s h.under ∙ h.done;
        }

pub begins : (v : Written) (gs : List ℕ) (f : ℕ) (tasks : List Task) (values : List Value) → f < count v → tasks ≡ Visit f ∷ [] → values ≡ [] → IsShowing v v gs f tasks values
begins v gs f tasks values l e d =
    subst (λ ts. IsShowing v v gs f ts values) (sym e)
    (subst (λ vs. IsShowing v v gs f (Visit f ∷ []) vs) (sym d) (record { more = omega arith; same = λ i k. refl; under = (l, tt); enough = omega arith; done = refl }))

pub ends : (v w : Written) (gs : List ℕ) (f : ℕ) (tasks : List Task) (values : List Value) → tasks ≡ [] → IsShowing v w gs f tasks values → opens w ≡ shows (entries_of (picked v.trees gs)) (tree_at v.trees f) ∷ opens v
ends v w gs f tasks values e h = ap (λ (s : Shown). s.proofs) (ap (λ ts. done v.trees (entries_of (picked v.trees gs)) ts (shown_of values (opens w))) (sym e) ∙ h.done)

pub ends_value : (v w : Written) (gs : List ℕ) (f : ℕ) (tasks : List Task) (values mid : List Value) (x : Value) → tasks ≡ [] → values ≡ mid ++ x ∷ [] → IsShowing v w gs f tasks values → truth_of x ≡ truth (entries_of (picked v.trees gs)) (tree_at v.trees f)
ends_value v w gs f tasks values mid x e k h =
    let a : laid [] values ≡ truth (entries_of (picked v.trees gs)) (tree_at v.trees f) ∷ [] = ap (λ (s : Shown). s.values) (ap (λ ts. done v.trees (entries_of (picked v.trees gs)) ts (shown_of values (opens w))) (sym e) ∙ h.done) in
    let b : laid [] values ≡ truth_of x ∷ laid [] mid = ap (laid []) k ∙ laid_last [] mid x in
    cc

pub ends_none : (v w : Written) (gs : List ℕ) (f : ℕ) (tasks : List Task) (values : List Value) (x : Truth) → tasks ≡ [] → values ≡ [] → IsShowing v w gs f tasks values → x ≡ truth (entries_of (picked v.trees gs)) (tree_at v.trees f)
ends_none v w gs f tasks values x e k h =
    let a : laid [] values ≡ truth (entries_of (picked v.trees gs)) (tree_at v.trees f) ∷ [] = ap (λ (s : Shown). s.values) (ap (λ ts. done v.trees (entries_of (picked v.trees gs)) ts (shown_of values (opens w))) (sym e) ∙ h.done) in
    let b : laid [] values ≡ [] = ap (laid []) k in
    cc
