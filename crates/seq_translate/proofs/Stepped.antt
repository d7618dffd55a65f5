-- What each turn does to the state that code keeps.
use Rattle.std.specs.Prelude.{◌≡◌, ℕ, ◌<◌, ◌≤◌, Bool, true, false, Option, Some, List, [], ◌∷◌, ◌++◌, length, map}
use Rattle.std.proofs.Common.{get_or, refl, ap, sym, ◌∙◌, subst, arith}
use Rattle.core_expr.specs.Tree.{Tree, true_}
use Rattle.core_expr.specs.Nodes.{AreBelow, picked}
use Rattle.term_bank.specs.Banks.{IsDistinct}
use Rattle.term_bank.specs.Banks.{tree_at as at}
use Rattle.search_definition.specs.Terms.{if_so}
use Rattle.search_definition.specs.declared.rule.Clash.{Clash}
use Rattle.search_definition.specs.Rules.{Sides, Result}
use Rattle.search_definition.specs.Rules.Sides.{Alone}
use Rattle.search_trace.specs.declared.turn.Added.{Added}
use Rattle.search_trace.specs.declared.turn.Used.{Used}
use Rattle.search_trace.specs.declared.turn.Turn.{Turn}
use Rattle.search_trace.specs.Traces.{AreUnder, UsedUnder, AddedUnder, TurnsUnder, added_tree, added_trees, result_of, moves_of}
use Rattle.proof_writer.specs.Written.{Written, opens, count, tree_at}
use Rattle.proof_writer.specs.Shapes.{first_of, rest_of}
use Rattle.proof_trees.specs.By.{by}
use Rattle.proof_trees.specs.Closings.{entries_by}
use Rattle.proof_trees.specs.Machine.{State, picks, some, marked, unmarked, second_by, second_news, move_at, resumed, shut_by, one_by}
use Rattle.proof_trees.specs.Machine.{Second as SecondSide}
use Rattle.seq_translate.specs.Marks.{set_marks, clear_marks, any_mark, AreMarks}
use Rattle.seq_translate.specs.News.{news_of, second_at}
use Rattle.seq_translate.specs.States.{IsState, flags, laid, side_of}
use Rattle.seq_translate.specs.declared.state.Second.{Second}
use Rattle.seq_translate.proofs.Marked.{set-all, clear-all, any-some}
use Rattle.seq_translate.proofs.Newly.{news-picks, news-below, under_below, map-picked, second-news, second-below}

-- one more at the end is one more in front of what is laid
pub laid-last : (acc : List SecondSide) (ss : List Second) (x : Second) → laid acc (ss ++ x ∷ []) ≡ side_of x ∷ laid acc ss
laid-last acc [] x = refl
laid-last acc (s ∷ ss) x = laid-last (side_of s ∷ acc) ss x

module _ (ts us : List Tree) (same : (i : ℕ) → i < length ts → get_or us i true_ ≡ get_or ts i true_) where
  pub map-same : (is : List ℕ) → AreUnder (length ts) is → map (at us) is ≡ map (at ts) is
  map-same [] b = refl
  map-same (i ∷ is) b = ap (λ t. t ∷ map (at us) is) (same i b.0) ∙ ap (λ l. at ts i ∷ l) (map-same is b.1)

  pub added-same : (as' : List Added) → AddedUnder (length ts) as' → added_trees us as' ≡ added_trees ts as'
  added-same [] b = refl
  added-same (a ∷ as') b = ap (λ t. t ∷ added_trees us as') (same a.formula b.0) ∙ ap (λ l. added_tree ts a ∷ l) (added-same as' b.1)

  -- what a rule does, over more trees
  pub result-same : (u : Used) (s t : Sides) → UsedUnder (length ts) u → s ≡ t → result_of us u s ≡ result_of ts u t
  result-same u s t b e =
      ap (λ (q : Sides). result_of us u q) e
      ∙ ap (λ (l : List Tree). record { entry = u.entry; step = record { rule = u.rule; named = l; terms = map (at us) u.terms.items; sides = t } }) (map-same u.named.items b.0)
      ∙ ap (λ (l : List Tree). record { entry = u.entry; step = record { rule = u.rule; named = map (at ts) u.named.items; terms = l; sides = t } }) (map-same u.terms.items b.1)

module _ (ts : List Tree) (distinct : IsDistinct ts) where
  -- the second side of a split is done
  pub second_state :
      (turns : List Turn) (n : ℕ) (ms : List Bool) (ss : List Second) (w : Written) (s : State) → TurnsUnder (length ts) turns → IsState ts ms ss w s
      → IsState ts (clear_marks ms (second_at turns n)) (ss ++ record { number = n; needed = any_mark ms (second_at turns n) } ∷ []) w (second_by n (second_news (move_at (moves_of ts turns) n)) s)
  second_state turns n ms ss w s under h =
      let news : List Tree = second_news (move_at (moves_of ts turns) n) in
      let below : AreBelow (length ts) (second_at turns n) = second-below (length ts) turns n under in
      let e : picked ts (second_at turns n) ≡ news = second-news ts turns n in
      record {
        marks = subst (λ (l : List Tree). AreMarks ts (clear_marks ms (second_at turns n)) (unmarked s.marks l)) e (clear-all ts distinct ms s.marks (second_at turns n) below h.marks);
        seconds =
            laid-last [] ss (record { number = n; needed = any_mark ms (second_at turns n) })
            ∙ ap (λ (l : List SecondSide). record { number = n; needed = any_mark ms (second_at turns n) } ∷ l) h.seconds
            ∙ ap (λ (x : Bool). record { number = n; needed = x } ∷ s.parts.seconds) (any-some ts distinct ms s.marks (second_at turns n) below h.marks ∙ ap (λ (l : List Tree). some s.marks l) e);
        proofs = h.proofs;
        more = h.more;
        same = h.same;
      }

  pub resumed_state :
      (turns : List Turn) (next : Option ℕ) (n : ℕ) (ms ns : List Bool) (ss us : List Second) (w : Written) (s : State) → TurnsUnder (length ts) turns → IsState ts ms ss w s
      → next ≡ Some n → ns ≡ clear_marks ms (second_at turns n) → us ≡ ss ++ record { number = n; needed = any_mark ms (second_at turns n) } ∷ []
      → IsState ts ns us w (resumed (moves_of ts turns) next s)
  resumed_state turns next n ms ns ss us w s under h e f g =
      subst (λ (x : Option ℕ). IsState ts ns us w (resumed (moves_of ts turns) x s)) (sym e)
      (subst (λ (l : List Bool). IsState ts l us w (resumed (moves_of ts turns) (Some n) s)) (sym f)
      (subst (λ (l : List Second). IsState ts (clear_marks ms (second_at turns n)) l w (resumed (moves_of ts turns) (Some n) s)) (sym g) (second_state turns n ms ss w s under h)))

  -- a closing
  pub shut_state :
      (k : Clash) (es : List ℕ) (ms : List Bool) (ss : List Second) (w v : Written) (s : State) → AreUnder (length ts) es → IsState ts ms ss w s → count w ≤ count v
      → ((i : ℕ) → i < count w → tree_at v i ≡ tree_at w i) → opens v ≡ entries_by k (picked w.trees es) ∷ opens w
      → IsState ts (set_marks ms es) ss v (shut_by (record { clash = k; entries = map (at ts) es }) s)
  shut_state k es ms ss w v s under h more same o =
      record {
        marks = subst (λ (l : List Tree). AreMarks ts (set_marks ms es) (marked s.marks l)) (map-picked ts es) (set-all ts distinct ms s.marks es (under_below (length ts) es under) h.marks);
        seconds = h.seconds;
        proofs = o ∙ ap (λ (l : List Tree). entries_by k l ∷ opens w) (map-picked w.trees es ∙ map-same ts w.trees h.same es under) ∙ ap (λ l. entries_by k (map (at ts) es) ∷ l) h.proofs;
        more = let a = h.more in omega (arith, a, more);
        same = λ i l. let a = h.more in same i (omega (arith, a, l)) ∙ h.same i l;
      }

  -- a rule with one side whose news are used
  pub one_state :
      (u : Used) (as' : List Added) (ms : List Bool) (ss : List Second) (w v : Written) (s : State) → UsedUnder (length ts) u → AddedUnder (length ts) as' → IsState ts ms ss w s
      → any_mark ms (news_of as') ≡ true → count w ≤ count v → ((i : ℕ) → i < count w → tree_at v i ≡ tree_at w i)
      → opens v ≡ by (result_of w.trees u (Alone (added_trees w.trees as'))) (first_of (opens w) ∷ []) ∷ rest_of (opens w)
      → IsState ts (set_marks (clear_marks ms (news_of as')) u.named.items) ss v (one_by (result_of ts u (Alone (added_trees ts as'))) (picks (added_trees ts as') (flags as')) s)
  one_state u as' ms ss w v s under added h found more same o =
      let news : List Tree = picks (added_trees ts as') (flags as') in
      let r : Result = result_of ts u (Alone (added_trees ts as')) in
      let below : AreBelow (length ts) (news_of as') = news-below (length ts) as' added in
      let e : picked ts (news_of as') ≡ news = news-picks ts as' in
      let found' : true ≡ some s.marks news = sym found ∙ any-some ts distinct ms s.marks (news_of as') below h.marks ∙ ap (λ (l : List Tree). some s.marks l) e in
      let cleared : AreMarks ts (clear_marks ms (news_of as')) (unmarked s.marks news) =
      subst (λ (l : List Tree). AreMarks ts (clear_marks ms (news_of as')) (unmarked s.marks l)) e (clear-all ts distinct ms s.marks (news_of as') below h.marks) in
      subst (λ (x : Bool). IsState ts (set_marks (clear_marks ms (news_of as')) u.named.items) ss v (if_so x (used_state r news) s)) found'
      (record {
        marks =
            subst (λ (l : List Tree). AreMarks ts (set_marks (clear_marks ms (news_of as')) u.named.items) (marked (unmarked s.marks news) l)) (map-picked ts u.named.items)
            (set-all ts distinct (clear_marks ms (news_of as')) (unmarked s.marks news) u.named.items (under_below (length ts) u.named.items under.0) cleared);
        seconds = h.seconds;
        proofs =
            o
            ∙ ap (λ (q : Result). by q (first_of (opens w) ∷ []) ∷ rest_of (opens w))
            (result-same ts w.trees h.same u (Alone (added_trees w.trees as')) (Alone (added_trees ts as')) under (ap (λ l. Alone l) (added-same ts w.trees h.same as' added)))
            ∙ ap (λ l. by r (first_of l ∷ []) ∷ rest_of l) h.proofs;
        more = let a = h.more in omega (arith, a, more);
        same = λ i l. let a = h.more in same i (omega (arith, a, l)) ∙ h.same i l;
      })
    where
      used_state : Result → List Tree → State
      used_state r news = record { marks = marked (unmarked s.marks news) r.step.named; parts = record { proofs = by r (first_of s.parts.proofs ∷ []) ∷ rest_of s.parts.proofs; seconds = s.parts.seconds } }

  -- one whose news are not
  pub idle_state :
      (u : Used) (as' : List Added) (ms : List Bool) (ss : List Second) (w : Written) (s : State) → AddedUnder (length ts) as' → IsState ts ms ss w s
      → any_mark ms (news_of as') ≡ false → IsState ts ms ss w (one_by (result_of ts u (Alone (added_trees ts as'))) (picks (added_trees ts as') (flags as')) s)
  idle_state u as' ms ss w s added h found =
      let news : List Tree = picks (added_trees ts as') (flags as') in
      let below : AreBelow (length ts) (news_of as') = news-below (length ts) as' added in
      let found' : false ≡ some s.marks news = sym found ∙ any-some ts distinct ms s.marks (news_of as') below h.marks ∙ ap (λ (l : List Tree). some s.marks l) (news-picks ts as') in
      subst (λ (x : Bool). IsState ts ms ss w (if_so x (used_state news) s)) found' h
    where
      used_state : List Tree → State
      used_state news = record { marks = marked (unmarked s.marks news) (map (at ts) u.named.items); parts = record { proofs = by (result_of ts u (Alone (added_trees ts as'))) (first_of s.parts.proofs ∷ []) ∷ rest_of s.parts.proofs; seconds = s.parts.seconds } }
