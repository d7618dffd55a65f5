-- Formulas gone through up to the first that is false.
use Rattle.std.proofs.Common.{◌≡◌, ℕ, ◌+◌, ◌<◌, ◌≤◌, true, false, List, ◌∷◌, length, drop, get_or, refl, ap, sym, ◌∙◌, arith, add-one, drop-cons}
use Rattle.std.proofs.lemmas.List.{drop_all}
use Rattle.core_expr.specs.Tree.{true_}
use Rattle.core_expr.specs.Nodes.{AreBelow, picked}
use Rattle.search_definition.specs.Terms.{if_so}
use Rattle.search_definition.specs.Branches.{Branch}
use Rattle.search_definition.specs.Values.{Truth, truth, is_no}
use Rattle.proof_writer.specs.Written.{Written, count, opens, tree_at}
use Rattle.proof_trees.specs.Valued.{entries_of, first_false, shows, side_by}
use Rattle.term_bank.proofs.TableLaws.{AreBelow-at}
use Rattle.rule_proofs.proofs.Lefts.{picked_same, below_wider}
use Rattle.equation_proofs.specs.Passing.{IsPassing}

pub passing_first : (v : Written) (gs fs : List ℕ) → IsPassing v v gs fs 0
passing_first v gs fs = record { more = omega arith; same = λ i l. refl; opens = refl; rest = refl }

module _ (v w : Written) (gs fs : List ℕ) (k : ℕ) (bg : AreBelow (count v) gs) (bf : AreBelow (count v) fs) (h : IsPassing v w gs fs k) where
  pub passing_grounds : AreBelow (count w) gs
  passing_grounds = below_wider (count v) (count w) gs h.more bg

  abbrev at : ℕ
  at = get_or fs k 0

  pub passing_formula : k < length fs → at < count w
  passing_formula l = let b = AreBelow-at (count v) fs k bf l in let m = h.more in omega (arith, b, m)

  abbrev b : Branch
  b = entries_of (picked v.trees gs)

  split : k < length fs → first_false b (picked v.trees fs) ≡ if_so (is_no (truth b (tree_at v at))) (tree_at v at) (first_false b (picked v.trees (drop (k + 1) fs)))
  split l = h.rest ∙ ap (λ is. first_false b (picked v.trees is)) (drop-cons fs k 0 l ∙ ap (λ n. at ∷ drop n fs) (sym (add-one k)))

  -- what is found on the writer's expressions as they are now
  now : k < length fs → truth (entries_of (picked w.trees gs)) (tree_at w at) ≡ truth b (tree_at v at)
  now l = λ i. truth (entries_of (picked_same v w gs bg h.same i)) (h.same at (AreBelow-at (count v) fs k bf l) i)

  shown : k < length fs → shows (entries_of (picked w.trees gs)) (tree_at w at) ≡ shows b (tree_at v at)
  shown l = λ i. shows (entries_of (picked_same v w gs bg h.same i)) (h.same at (AreBelow-at (count v) fs k bf l) i)

  pub passing_found : (t : Truth) → k < length fs → t ≡ truth (entries_of (picked w.trees gs)) (tree_at w at) → is_no t ≡ true
      → shows (entries_of (picked w.trees gs)) (tree_at w at) ∷ opens w ≡ side_by (picked v.trees gs) (picked v.trees fs) ∷ opens v
  passing_found t l e n =
      let no : is_no (truth b (tree_at v at)) ≡ true = ap is_no (sym (now l) ∙ sym e) ∙ n in
      let is : first_false b (picked v.trees fs) ≡ tree_at v at = split l ∙ ap (λ x. if_so x (tree_at v at) (first_false b (picked v.trees (drop (k + 1) fs)))) no in
      λ i. (shown l ∙ ap (shows b) (sym is)) i ∷ h.opens i

  pub passing_next : (x : Written) (t : Truth) → k < length fs → t ≡ truth (entries_of (picked w.trees gs)) (tree_at w at) → is_no t ≡ false
      → count w ≤ count x → ((i : ℕ) → i < count w → tree_at x i ≡ tree_at w i) → opens x ≡ opens w → IsPassing v x gs fs (k + 1)
  passing_next x t l e n more same os =
      let no : is_no (truth b (tree_at v at)) ≡ false = ap is_no (sym (now l) ∙ sym e) ∙ n in
      let m = h.more in
      record {
        more = omega (arith, m, more);
        same = λ i w. same i (omega (arith, w, m)) ∙ h.same i w;
        opens = os ∙ h.opens;
        rest = split l ∙ ap (λ x. if_so x (tree_at v at) (first_false b (picked v.trees (drop (k + 1) fs)))) no;
      }

  pub passing_none : (x : Written) (r : ℕ) → length fs ≤ k → count w ≤ count x → ((i : ℕ) → i < count w → tree_at x i ≡ tree_at w i) → opens x ≡ opens w → tree_at x r ≡ true_
      → shows (entries_of (picked x.trees gs)) (tree_at x r) ∷ opens x ≡ side_by (picked v.trees gs) (picked v.trees fs) ∷ opens v
  passing_none x r l more same os e =
      let m = h.more in
      let kept : picked x.trees gs ≡ picked v.trees gs = picked_same v x gs bg (λ i w. same i (omega (arith, w, m)) ∙ h.same i w) in
      let is : first_false b (picked v.trees fs) ≡ true_ = h.rest ∙ ap (λ is. first_false b (picked v.trees is)) (drop_all k fs l) in
      λ i. shows (entries_of (kept i)) ((e ∙ sym is) i) ∷ (os ∙ h.opens) i
