-- Second sides that are taken, and splits.
use Rattle.std.specs.Prelude.{◌≡◌, ℕ, ◌<◌, ◌≤◌, Bool, true, false, ◌||◌, nat_eq, Some, None, List, [], ◌∷◌, ◌++◌, length}
use Rattle.std.proofs.Common.{refl, ap, sym, ◌∙◌, subst, arith}
use Rattle.core_expr.specs.Tree.{Tree}
use Rattle.core_expr.specs.Nodes.{AreBelow, picked}
use Rattle.seq_calculus.specs.Calculus.{Proof}
use Rattle.term_bank.specs.Banks.{IsDistinct}
use Rattle.search_definition.specs.Terms.{if_so}
use Rattle.search_definition.specs.Rules.{Result}
use Rattle.search_definition.specs.Rules.Sides.{Both}
use Rattle.search_trace.specs.declared.turn.Added.{Added}
use Rattle.search_trace.specs.declared.turn.Used.{Used}
use Rattle.search_trace.specs.Traces.{UsedUnder, AddedUnder, added_trees, result_of}
use Rattle.proof_writer.specs.Written.{Written, opens, count, tree_at}
use Rattle.proof_writer.specs.Shapes.{second_of, rest_of}
use Rattle.proof_trees.specs.Machine.{State, picks, some, marked, unmarked, pair_of, both_by, split_by, is_of, is_needed, earlier}
use Rattle.proof_trees.specs.Machine.{Second as SecondSide}
use Rattle.seq_translate.specs.Marks.{set_marks, clear_marks, any_mark, AreMarks}
use Rattle.seq_translate.specs.News.{news_of}
use Rattle.seq_translate.specs.Sides.{taken, left, remarked}
use Rattle.seq_translate.specs.States.{IsState, flags, laid, side_of}
use Rattle.seq_translate.specs.declared.state.Second.{Second}
use Rattle.seq_translate.proofs.Marked.{set-all, clear-all, any-some}
use Rattle.seq_translate.proofs.Newly.{news-picks, news-below, under_below, map-picked}
use Rattle.seq_translate.proofs.Stepped.{laid-last, added-same, result-same}

pub taken_last : (ss us : List Second) (x : Second) (n : ℕ) → ss ≡ us ++ x ∷ [] → taken (laid [] ss) n ≡ if_so (nat_eq x.number n) (Some x.needed) None
taken_last ss us x n e = ap (λ (l : List SecondSide). taken l n) (ap (λ (l : List Second). laid [] l) e ∙ laid-last [] us x)

pub left_last : (ss us : List Second) (x : Second) (n : ℕ) → ss ≡ us ++ x ∷ [] → left (laid [] ss) n ≡ if_so (nat_eq x.number n) (laid [] us) (laid [] ss)
left_last ss us x n e =
    let l : laid [] ss ≡ side_of x ∷ laid [] us = ap (λ (l : List Second). laid [] l) e ∙ laid-last [] us x in
    ap (λ (l : List SecondSide). left l n) l ∙ ap (λ (l : List SecondSide). if_so (nat_eq x.number n) (laid [] us) l) (sym l)

pub rest_two : (ps : List Proof) → 2 ≤ length ps → rest_of ps ≡ second_of ps ∷ rest_of (rest_of ps)
rest_two [] l = absurd (omega arith)
rest_two (p ∷ []) l = absurd (omega arith)
rest_two (p ∷ q ∷ ps) l = refl

-- a split whose second side is done, and one that has none
pub split_some :
    (ts : List Tree) (ns : List Bool) (ss us : List Second) (v : Written) (s : State) (n : ℕ) (needed : Bool) (r : Result) (news : List Tree) → laid [] ss ≡ s.parts.seconds
    → Some needed ≡ taken (laid [] ss) n → laid [] us ≡ left (laid [] ss) n → (needed ≡ is_needed s.parts.seconds → laid [] us ≡ earlier s.parts.seconds → IsState ts ns us v (both_by r news s))
    → IsState ts ns us v (split_by (is_of s.parts.seconds n) r news s)
split_some ts ns ss us v s n needed r news e taken_is left_is step =
    go (is_of s.parts.seconds n) (taken_is ∙ ap (λ (l : List SecondSide). taken l n) e) (left_is ∙ ap (λ (l : List SecondSide). left l n) e)
  where
    go :
        (x : Bool) → Some needed ≡ if_so x (Some (is_needed s.parts.seconds)) None → laid [] us ≡ if_so x (earlier s.parts.seconds) s.parts.seconds
        → IsState ts ns us v (split_by x r news s)
    go true f g = step (cc) g
    go false f g = cc

pub split_none :
    (ts : List Tree) (ms : List Bool) (ss us : List Second) (w : Written) (s : State) (n : ℕ) (r : Result) (news : List Tree) → IsState ts ms ss w s → None ≡ taken (laid [] ss) n
    → laid [] us ≡ left (laid [] ss) n → IsState ts ms us w (split_by (is_of s.parts.seconds n) r news s)
split_none ts ms ss us w s n r news h taken_is left_is =
    go (is_of s.parts.seconds n) (taken_is ∙ ap (λ (l : List SecondSide). taken l n) h.seconds) (left_is ∙ ap (λ (l : List SecondSide). left l n) h.seconds)
  where
    go :
        (x : Bool) → None ≡ if_so x (Some (is_needed s.parts.seconds)) None → laid [] us ≡ if_so x (earlier s.parts.seconds) s.parts.seconds
        → IsState ts ms us w (split_by x r news s)
    go true f g = cc
    go false f g = record { marks = h.marks; seconds = g; proofs = h.proofs; more = h.more; same = h.same }

module _ (ts : List Tree) (distinct : IsDistinct ts) where
  -- a split with both sides done
  pub both_state :
      (u : Used) (fs gs : List Added) (ms ns : List Bool) (ss us : List Second) (w v : Written) (s : State) (found needed : Bool)
      → UsedUnder (length ts) u → AddedUnder (length ts) fs → AddedUnder (length ts) gs → IsState ts ms ss w s
      → needed ≡ is_needed s.parts.seconds → laid [] us ≡ earlier s.parts.seconds → found ≡ any_mark ms (news_of fs) → ns ≡ remarked (found || needed) ms (news_of fs) u.named.items
      → count w ≤ count v → ((i : ℕ) → i < count w → tree_at v i ≡ tree_at w i)
      → opens v ≡ pair_of (result_of w.trees u (Both (added_trees w.trees fs) (added_trees w.trees gs))) found needed (opens w) ∷ rest_of (rest_of (opens w))
      → IsState ts ns us v (both_by (result_of ts u (Both (added_trees ts fs) (added_trees ts gs))) (picks (added_trees ts fs) (flags fs)) s)
  both_state u fs gs ms ns ss us w v s found needed under first second h is_so rest is_found is_marks more same o =
      let news : List Tree = picks (added_trees ts fs) (flags fs) in
      let r : Result = result_of ts u (Both (added_trees ts fs) (added_trees ts gs)) in
      let below : AreBelow (length ts) (news_of fs) = news-below (length ts) fs first in
      let e : picked ts (news_of fs) ≡ news = news-picks ts fs in
      let f : found ≡ some s.marks news = is_found ∙ any-some ts distinct ms s.marks (news_of fs) below h.marks ∙ ap (λ (l : List Tree). some s.marks l) e in
      let cleared : AreMarks ts (clear_marks ms (news_of fs)) (unmarked s.marks news) =
      subst (λ (l : List Tree). AreMarks ts (clear_marks ms (news_of fs)) (unmarked s.marks l)) e (clear-all ts distinct ms s.marks (news_of fs) below h.marks) in
      let set : AreMarks ts (set_marks (clear_marks ms (news_of fs)) u.named.items) (marked (unmarked s.marks news) r.step.named) =
      subst (λ (l : List Tree). AreMarks ts (set_marks (clear_marks ms (news_of fs)) u.named.items) (marked (unmarked s.marks news) l)) (map-picked ts u.named.items)
      (set-all ts distinct (clear_marks ms (news_of fs)) (unmarked s.marks news) u.named.items (under_below (length ts) u.named.items under.0) cleared) in
      record {
        marks =
            subst (λ (l : List Bool). AreMarks ts l (if_so (some s.marks news || is_needed s.parts.seconds) (marked (unmarked s.marks news) r.step.named) (unmarked s.marks news))) (sym is_marks)
            (subst (λ (x : Bool). AreMarks ts (remarked (found || needed) ms (news_of fs) u.named.items) (if_so x (marked (unmarked s.marks news) r.step.named) (unmarked s.marks news)))
            (ap (λ x. x || needed) f ∙ ap (λ x. some s.marks news || x) is_so) (choose (found || needed) news r set cleared));
        seconds = rest;
        proofs =
            o
            ∙ ap (λ (q : Result). pair_of q found needed (opens w) ∷ rest_of (rest_of (opens w)))
            (result-same ts w.trees h.same u (Both (added_trees w.trees fs) (added_trees w.trees gs)) (Both (added_trees ts fs) (added_trees ts gs)) under
            (ap (λ l. Both l (added_trees w.trees gs)) (added-same ts w.trees h.same fs first) ∙ ap (λ l. Both (added_trees ts fs) l) (added-same ts w.trees h.same gs second)))
            ∙ ap (λ l. pair_of r found needed l ∷ rest_of (rest_of l)) h.proofs
            ∙ ap (λ x. pair_of r x needed s.parts.proofs ∷ rest_of (rest_of s.parts.proofs)) f
            ∙ ap (λ x. pair_of r (some s.marks news) x s.parts.proofs ∷ rest_of (rest_of s.parts.proofs)) is_so;
        more = let a = h.more in omega (arith, a, more);
        same = λ i l. let a = h.more in same i (omega (arith, a, l)) ∙ h.same i l;
      }
    where
      choose :
          (x : Bool) (news : List Tree) (r : Result) → AreMarks ts (set_marks (clear_marks ms (news_of fs)) u.named.items) (marked (unmarked s.marks news) r.step.named)
          → AreMarks ts (clear_marks ms (news_of fs)) (unmarked s.marks news)
          → AreMarks ts (remarked x ms (news_of fs) u.named.items) (if_so x (marked (unmarked s.marks news) r.step.named) (unmarked s.marks news))
      choose true news r set cleared = set
      choose false news r set cleared = cleared
