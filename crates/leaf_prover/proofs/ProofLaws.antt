-- The proof of a form, from the turns of its search.
use Rattle.std.specs.Prelude.{◌≡◌, ℕ, Bool, true, false, Option, List, []}
use Rattle.std.proofs.Common.{refl, ap, sym, ◌∙◌, subst}
use Rattle.std.proofs.lemmas.Bool.{and_parts}
use Rattle.core_expr.specs.declared.canon.Canon.{Canon}
use Rattle.seq_calculus.specs.declared.proof.SeqProof.{SeqProof}
use Rattle.seq_calculus.specs.Steps.{proof_of}
use Rattle.term_bank.specs.Banks.{tree_at}
use Rattle.search_definition.specs.Search.{search, steps}
use Rattle.search_definition.specs.Search.End.{Closed}
use Rattle.search_trace.specs.Traces.{moves_of}
use Rattle.search_loop.specs.Turns.{StepsAre}
use Rattle.branch_book.specs.declared.item.Item.{Item}
use Rattle.tableau_search.specs.Entries.{branch_by}
use Rattle.tableau_search.specs.Boards.{IsEnd}
use Rattle.search_loop.specs.declared.run.Ending.TheVariants as ending
use Rattle.proof_trees.specs.Laws.{StepsTold}
use Rattle.proof_trees.specs.Told.{MovesTold}
use Rattle.seq_translate.specs.Translated.{IsTranslated}
use Rattle.proof_cache.specs.declared.verdict.Verdict.TheVariants as verdict
use Rattle.leaf_prover.specs.declared.answer.Answer.TheVariants.{Saturated, Spent}
use Rattle.leaf_prover.specs.declared.search.Searched.{Searched}
use Rattle.leaf_prover.specs.Forms.{is_form, is_form_part, are_form_parts}
use Rattle.leaf_prover.specs.Answers.{values_of, answer, answer_for, end_of, IsRight}
use Rattle.leaf_prover.specs.Searches.{IsSearched}
use Rattle.leaf_prover.proofs.Meant.{closed, all_closed}

-- a search that ended closed, whose turns are those of the steps
record IsClosing (n k : ℕ) (c : Canon) (s : Searched) : Type 0 where
  pub ends : search c.facts c.goal n ≡ Closed k
  pub steps : moves_of s.bank s.turns.items ≡ steps c.facts c.goal n

closing : (n k : ℕ) (c : Canon) (s : Searched) → IsSearched n c s → s.ending ≡ ending.Closed k → IsClosing n k c s
closing n k c s h e = record {
  ends = subst (λ z. IsEnd s.bank s.branch.items z (search c.facts c.goal n)) e h.ends;
  steps = subst (λ z. StepsAre z (steps c.facts c.goal n) [] (moves_of s.bank s.turns.items)) e h.steps;
}

pub moves_told : StepsTold → (n k : ℕ) (c : Canon) (s : Searched) → is_form c ≡ true → IsSearched n c s → s.ending ≡ ending.Closed k → MovesTold (moves_of s.bank s.turns.items)
moves_told tells n k c s form h e =
    let p = and_parts (are_form_parts c.facts) (is_form_part c.goal) form in
    let q = closing n k c s h e in
    subst MovesTold (sym q.steps) (tells c.facts c.goal n k (all_closed c.facts p.0) (closed c.goal p.1) q.ends)

pub proof_right : (n k : ℕ) (c : Canon) (s : Searched) (p : SeqProof) → is_form c ≡ true → IsSearched n c s → s.ending ≡ ending.Closed k → IsTranslated s.bank s.turns.items (tree_at s.bank s.goal) (proof_of p) → IsRight n c (verdict.Proved p k false)
unfolding end_of
proof_right n k c s p form h e t =
    let f = and_parts (are_form_parts c.facts) (is_form_part c.goal) form in
    let q = closing n k c s h e in
    let is = subst (λ g. IsTranslated s.bank s.turns.items g (proof_of p)) h.goal.tree t in
    (ap (answer_for c) q.ends, refl, is c.facts n k (all_closed c.facts f.0) (closed c.goal f.1) q.steps q.ends)

pub values_right : (n k : ℕ) (c : Canon) (s : Searched) (slice : List Item) (values : Option (List Bool)) → IsSearched n c s → s.ending ≡ ending.Saturated k → slice ≡ s.branch.items → values ≡ values_of c (branch_by s.bank slice) → answer n c ≡ Saturated values k
unfolding end_of
values_right n k c s slice values h e same is =
    ap (answer_for c) (subst (λ z. IsEnd s.bank s.branch.items z (search c.facts c.goal n)) e h.ends) ∙ ap (λ vs. Saturated vs k) (sym (is ∙ ap (λ xs. values_of c (branch_by s.bank xs)) same))

pub spent_right : (n k : ℕ) (c : Canon) (s : Searched) → IsSearched n c s → s.ending ≡ ending.Spent k → answer n c ≡ Spent k
unfolding end_of
spent_right n k c s h e = ap (answer_for c) (subst (λ z. IsEnd s.bank s.branch.items z (search c.facts c.goal n)) e h.ends)
