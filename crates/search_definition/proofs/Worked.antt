-- Small obligations with all their turns: connectives, quantifiers and equality.
use Rattle.std.specs.Prelude.{◌≡◌, [], ◌∷◌}
use Rattle.std.proofs.Common.{refl}
use Rattle.core_expr.specs.Tree.{and_, or_, imp_, iff_, eq_, in_, all_, ex_}
use Rattle.core_expr.specs.Tree.Tree.{bound}
use Rattle.core_expr.specs.Tree.Parts.{end, part}
use Rattle.search_definition.specs.Branches.{closing}
use Rattle.search_definition.specs.Values.{truth, grounds}
use Rattle.search_definition.specs.Instances.{signed_atoms, instance_term, found_term}
use Rattle.search_definition.specs.Search.{search, steps, turn, first_rule, apply}
use Rattle.search_definition.proofs.Trace.{name, trace}

-- closed in 2 turns
implication_to_itself : trace ([]) (imp_ (name 0 0 end) (name 0 0 end)) 100 ≡ 1003 ∷ 2 ∷ 77777 ∷ []
unfolding trace search steps turn first_rule apply closing truth grounds signed_atoms instance_term found_term
implication_to_itself = refl

-- saturated after 2 turns
two_facts_do_not_give_a_third : trace ([]) (imp_ (and_ (name 0 0 end) (name 1 0 end)) (name 2 0 end)) 100 ≡ 1003 ∷ 1001 ∷ 88888 ∷ []
unfolding trace search steps turn first_rule apply closing truth grounds signed_atoms instance_term found_term
two_facts_do_not_give_a_third = refl

-- saturated after 2 turns
definition_kept_folded : trace ((eq_ (name 0 0 end) (name 1 0 end)) ∷ []) (imp_ (name 2 2 (part (name 0 0 end) (part (name 3 0 end) end))) (name 2 2 (part (name 1 0 end) (part (name 4 0 end) end)))) 100 ≡ 1003 ∷ 4000 ∷ 88888 ∷ []
unfolding trace search steps turn first_rule apply closing truth grounds signed_atoms instance_term found_term
definition_kept_folded = refl

-- saturated after 2 turns
definition_unfolded_without_the_primed_equation : trace ((eq_ (name 0 0 end) (name 1 0 end)) ∷ []) (imp_ (eq_ (name 2 0 end) (name 3 0 end)) (eq_ (name 4 0 end) (name 3 0 end))) 100 ≡ 1003 ∷ 4000 ∷ 88888 ∷ []
unfolding trace search steps turn first_rule apply closing truth grounds signed_atoms instance_term found_term
definition_unfolded_without_the_primed_equation = refl

-- closed in 4 turns
definition_kept_folded_with_the_primed_equation : trace ((eq_ (name 0 0 end) (name 1 0 end)) ∷ (eq_ (name 2 0 end) (name 3 0 end)) ∷ []) (imp_ (name 4 2 (part (name 0 0 end) (part (name 2 0 end) end))) (name 4 2 (part (name 1 0 end) (part (name 3 0 end) end)))) 100 ≡ 1003 ∷ 4000 ∷ 4000 ∷ 2 ∷ 77777 ∷ []
unfolding trace search steps turn first_rule apply closing truth grounds signed_atoms instance_term found_term
definition_kept_folded_with_the_primed_equation = refl

-- closed in 1 turn
choice_function_suffices_step : trace ((all_ (imp_ (in_ (bound 0) (name 0 0 end)) (ex_ (name 1 2 (part (bound 1) (part (bound 0) end)))))) ∷ []) (all_ (imp_ (in_ (bound 0) (name 0 0 end)) (ex_ (name 1 2 (part (bound 1) (part (bound 0) end)))))) 100 ≡ 2 ∷ 77777 ∷ []
unfolding trace search steps turn first_rule apply closing truth grounds signed_atoms instance_term found_term
choice_function_suffices_step = refl

-- closed in 3 turns
choice_function_pick_step : trace ((all_ (imp_ (in_ (bound 0) (name 0 0 end)) (ex_ (name 1 2 (part (bound 1) (part (bound 0) end)))))) ∷ (in_ (name 2 0 end) (name 0 0 end)) ∷ []) (ex_ (name 1 2 (part (name 2 0 end) (part (bound 0) end)))) 100 ≡ 10000 ∷ 5001 ∷ 2 ∷ 77777 ∷ []
unfolding trace search steps turn first_rule apply closing truth grounds signed_atoms instance_term found_term
choice_function_pick_step = refl

-- closed in 3 turns
choice_function_last_step : trace ((all_ (imp_ (in_ (bound 0) (name 0 0 end)) (ex_ (name 1 2 (part (bound 1) (part (bound 0) end)))))) ∷ (in_ (name 2 0 end) (name 0 0 end)) ∷ (name 1 2 (part (name 2 0 end) (part (name 3 0 end) end))) ∷ []) (ex_ (name 1 2 (part (name 2 0 end) (part (bound 0) end)))) 100 ≡ 10000 ∷ 5001 ∷ 2 ∷ 77777 ∷ []
unfolding trace search steps turn first_rule apply closing truth grounds signed_atoms instance_term found_term
choice_function_last_step = refl

-- closed in 6 turns
implications_chain : trace ([]) (imp_ (and_ (imp_ (name 0 0 end) (name 1 0 end)) (imp_ (name 1 0 end) (name 2 0 end))) (imp_ (name 0 0 end) (name 2 0 end))) 100 ≡ 1003 ∷ 1001 ∷ 1003 ∷ 5001 ∷ 5001 ∷ 2 ∷ 77777 ∷ []
unfolding trace search steps turn first_rule apply closing truth grounds signed_atoms instance_term found_term
implications_chain = refl

-- closed in 5 turns
unused_split : trace ([]) (imp_ (or_ (name 0 0 end) (name 1 0 end)) (iff_ (name 2 0 end) (name 2 0 end))) 100 ≡ 1003 ∷ 7000 ∷ 7004 ∷ 2 ∷ 2 ∷ 77777 ∷ []
unfolding trace search steps turn first_rule apply closing truth grounds signed_atoms instance_term found_term
unused_split = refl

-- closed in 7 turns
two_unused_splits : trace ([]) (imp_ (or_ (name 0 0 end) (name 1 0 end)) (imp_ (or_ (name 2 0 end) (name 3 0 end)) (iff_ (name 4 0 end) (name 4 0 end)))) 100 ≡ 1003 ∷ 1003 ∷ 7000 ∷ 7000 ∷ 7004 ∷ 2 ∷ 2 ∷ 77777 ∷ []
unfolding trace search steps turn first_rule apply closing truth grounds signed_atoms instance_term found_term
two_unused_splits = refl
