-- What a search on a form starts with, and the answer that its end gives.
use Rattle.std.specs.Prelude.{◌≡◌, ℕ, Bool, true, false, List, [], ◌∷◌, map}
use Rattle.std.proofs.Common.{length, refl, ap, sym, ◌∙◌, subst}
use Rattle.std.proofs.lemmas.Bool.{and_parts}
use Rattle.core_expr.specs.declared.canon.Canon.{Canon}
use Rattle.core_expr.specs.Tree.{Tree}
use Rattle.core_expr.specs.Nodes.{picked}
use Rattle.seq_calculus.specs.Calculus.{IsClosed, AllClosed}
use Rattle.term_bank.specs.Banks.{tree_at}
use Rattle.term_shapes.specs.Forms.{ArePlaced}
use Rattle.term_shapes.proofs.Extending.{has-extend}
use Rattle.search_definition.specs.Terms.{when}
use Rattle.search_definition.specs.Search.{End, denied, search, steps}
use Rattle.search_definition.specs.Search.End.{Closed, Saturated as Open, Spent as Cut}
use Rattle.branch_state.specs.declared.parts.New.{New}
use Rattle.tableau_search.specs.Entries.{new_trees}
use Rattle.branch_values.specs.News.{AreNews}
use Rattle.propositional_laws.specs.Formulas.{is_propositional_canon, symbol_count}
use Rattle.propositional_laws.specs.Valuations.{valuation}
use Rattle.leaf_prover.specs.Forms.{is_form, is_form_part, are_form_parts}
use Rattle.leaf_prover.specs.Answers.{values_of, answer_for, end_of, answer, HasValues, WithValues}
use Rattle.branch_book.specs.declared.item.Item.{Item}
use Rattle.search_loop.specs.declared.run.Ending.{Ending}
use Rattle.tableau_search.specs.Boards.{IsEnd}
use Rattle.leaf_prover.specs.declared.answer.Answer.{Answer}
use Rattle.term_bank.specs.Banks.{Extends, HasTree}
use Rattle.search_trace.specs.Traces.{moves_of, TurnsUnder}
use Rattle.search_loop.specs.Turns.{StepsAre}
use Rattle.tableau_search.specs.Entries.{ItemsUnder}
use Rattle.leaf_prover.specs.declared.search.Searched.{Searched}
use Rattle.leaf_prover.specs.Searches.{IsSearched}
use Rattle.leaf_prover.proofs.Meant.{closed, all_closed}
use Rattle.leaf_prover.proofs.ValueLaws.{valuation_length}

trees-picked : (ts : List Tree) (is : List ℕ) → map (tree_at ts) is ≡ picked ts is
trees-picked ts [] = refl
trees-picked ts (i ∷ is) = ap (λ us. tree_at ts i ∷ us) (trees-picked ts is)

pub formulas_are : (ts us : List Tree) (list items : List ℕ) (news formulas : List New) → items ≡ list → news ≡ formulas → ArePlaced ts us list → AreNews ts items formulas → new_trees ts news ≡ us
formulas_are ts us list items news formulas e h a n = ap (new_trees ts) h ∙ n.trees ∙ ap (map (tree_at ts)) e ∙ trees-picked ts list ∙ a.trees

denied-closed : (fs : List Tree) (g : Tree) → AllClosed fs → IsClosed g → AllClosed (denied fs g)
denied-closed [] g a c = ((c, tt), tt)
denied-closed (f ∷ fs) g a c = (a.0, denied-closed fs g a.1 c)

pub formulas_closed : (c : Canon) (us : List Tree) → is_form c ≡ true → us ≡ denied c.facts c.goal → AllClosed us
formulas_closed c us h e =
    let p = and_parts (are_form_parts c.facts) (is_form_part c.goal) h in
    subst AllClosed (sym e) (denied-closed c.facts c.goal (all_closed c.facts p.0) (closed c.goal p.1))

end-values : (c : Canon) (e : End) → WithValues (symbol_count c) (answer_for c e)
end-values c (Closed k) = tt
end-values c (Open b k) = by_test (is_propositional_canon c) refl
  where
    by_test : (t : Bool) → is_propositional_canon c ≡ t → HasValues (symbol_count c) (values_of c b)
    by_test true h = subst (λ t. HasValues (symbol_count c) (when t (valuation (symbol_count c) b))) (sym h) (valuation_length (symbol_count c) b)
    by_test false h = subst (λ t. HasValues (symbol_count c) (when t (valuation (symbol_count c) b))) (sym h) tt
end-values c (Cut k) = tt

pub answer_values : (n : ℕ) (c : Canon) → WithValues (symbol_count c) (answer n c)
answer_values n c = end-values c (end_of n c)

-- the answer by the end, which the search with so many turns comes to
pub answer_is : (c : Canon) (n m : ℕ) (ts : List Tree) (branch items : List Item) (ending : Ending) (a : Answer) → m ≡ n → branch ≡ items → IsEnd ts items ending (search c.facts c.goal m)
    → ((e : End) → IsEnd ts branch ending e → a ≡ answer_for c e) → a ≡ answer n c
unfolding end_of
answer_is c n m ts branch items ending a limit same ends is =
    is (search c.facts c.goal n) (subst (λ xs. IsEnd ts xs ending (search c.facts c.goal n)) (sym same) (subst (λ k. IsEnd ts items ending (search c.facts c.goal k)) limit ends))

-- what a search over the bank came to, in the bank as it is at the end
pub searched_is : (c : Canon) (n m : ℕ) (ts us : List Tree) (s : Searched) → m ≡ n → s.bank ≡ us → s.symbols ≡ symbol_count c → Extends ts us → HasTree ts s.goal c.goal → ItemsUnder (length us) s.branch.items → TurnsUnder (length us) s.turns.items
    → IsEnd us s.branch.items s.ending (search c.facts c.goal m) → StepsAre s.ending (steps c.facts c.goal m) [] (moves_of us s.turns.items) → IsSearched n c s
searched_is c n m ts us s limit bank symbols x goal branch turns ends moves =
    let back = sym bank in
    record {
      symbols = symbols;
      goal = subst (λ vs. HasTree vs s.goal c.goal) back (has-extend ts us s.goal c.goal x goal);
      branch = subst (λ vs. ItemsUnder (length vs) s.branch.items) back branch;
      turns = subst (λ vs. TurnsUnder (length vs) s.turns.items) back turns;
      ends = subst (λ k. IsEnd s.bank s.branch.items s.ending (search c.facts c.goal k)) limit (subst (λ vs. IsEnd vs s.branch.items s.ending (search c.facts c.goal m)) back ends);
      steps = subst (λ k. StepsAre s.ending (steps c.facts c.goal k) [] (moves_of s.bank s.turns.items)) limit
          (subst (λ vs. StepsAre s.ending (steps c.facts c.goal m) [] (moves_of vs s.turns.items)) back moves);
    }
