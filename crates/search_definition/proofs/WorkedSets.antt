-- Small obligations with all their turns: sets, functions, tuples, IF and CHOOSE.
use Rattle.std.specs.Prelude.{◌≡◌, [], ◌∷◌}
use Rattle.std.proofs.Common.{refl}
use Rattle.core_expr.specs.Tree.{true_, false_, boolean_, not_, and_, imp_, eq_, in_, subseteq_, cup_, cap_, power_, funset_, dom_, apply_, except_, if_, enum_, tuple_, num_, all_, ex_, choose_, filter_, image_, fun_}
use Rattle.core_expr.specs.Tree.Tree.{bound}
use Rattle.core_expr.specs.Tree.Parts.{end, part}
use Rattle.search_definition.specs.Branches.{closing}
use Rattle.search_definition.specs.Values.{truth, grounds}
use Rattle.search_definition.specs.Instances.{signed_atoms, instance_term, found_term}
use Rattle.search_definition.specs.Search.{search, steps, turn, first_rule, apply}
use Rattle.search_definition.proofs.Trace.{name, trace}

-- closed in 6 turns
intersection_lies_in_the_union : trace ([]) (imp_ (in_ (name 0 0 end) (cap_ (name 1 0 end) (name 2 0 end))) (in_ (name 0 0 end) (cup_ (name 1 0 end) (name 2 0 end)))) 100 ≡ 1003 ∷ 1103 ∷ 1202 ∷ 1001 ∷ 1002 ∷ 2 ∷ 77777 ∷ []
unfolding trace search steps turn first_rule apply closing truth grounds signed_atoms instance_term found_term
intersection_lies_in_the_union = refl

-- closed in 6 turns
intersection_is_a_subset : trace ([]) (subseteq_ (cap_ (name 0 0 end) (name 1 0 end)) (name 0 0 end)) 100 ≡ 1210 ∷ 6001 ∷ 1003 ∷ 1103 ∷ 1001 ∷ 2 ∷ 77777 ∷ []
unfolding trace search steps turn first_rule apply closing truth grounds signed_atoms instance_term found_term
intersection_is_a_subset = refl

-- closed in 9 turns
union_commutes : trace ([]) (eq_ (cup_ (name 0 0 end) (name 1 0 end)) (cup_ (name 1 0 end) (name 0 0 end))) 100 ≡ 9000 ∷ 6001 ∷ 7004 ∷ 1002 ∷ 5001 ∷ 2 ∷ 1002 ∷ 5001 ∷ 2 ∷ 77777 ∷ []
unfolding trace search steps turn first_rule apply closing truth grounds signed_atoms instance_term found_term
union_commutes = refl

-- closed in 6 turns
member_of_a_function_set_has_values_in_the_range : trace ([]) (imp_ (and_ (in_ (name 0 0 end) (funset_ (name 1 0 end) (name 2 0 end))) (in_ (name 3 0 end) (name 1 0 end))) (in_ (apply_ (name 0 0 end) (name 3 0 end)) (name 2 0 end))) 100 ≡ 1003 ∷ 1001 ∷ 1004 ∷ 10000 ∷ 5001 ∷ 2 ∷ 77777 ∷ []
unfolding trace search steps turn first_rule apply closing truth grounds signed_atoms instance_term found_term
member_of_a_function_set_has_values_in_the_range = refl

-- closed in 3 turns
value_of_a_function_constructor : trace ([]) (imp_ (in_ (name 0 0 end) (name 1 0 end)) (eq_ (apply_ (fun_ (name 1 0 end) (enum_ (part (bound 0) (part (name 2 0 end) end)))) (name 0 0 end)) (enum_ (part (name 0 0 end) (part (name 2 0 end) end))))) 100 ≡ 1003 ∷ 8001 ∷ 3 ∷ 77777 ∷ []
unfolding trace search steps turn first_rule apply closing truth grounds signed_atoms instance_term found_term
value_of_a_function_constructor = refl

-- closed in 5 turns
equal_pairs_have_equal_components : trace ([]) (imp_ (eq_ (tuple_ (part (name 0 0 end) (part (name 1 0 end) end))) (tuple_ (part (name 2 0 end) (part (name 3 0 end) end)))) (and_ (eq_ (name 0 0 end) (name 2 0 end)) (eq_ (apply_ (tuple_ (part (name 0 0 end) (part (name 1 0 end) end))) (num_ 0 2)) (name 3 0 end)))) 100 ≡ 1003 ∷ 1120 ∷ 1001 ∷ 2121 ∷ 2 ∷ 77777 ∷ []
unfolding trace search steps turn first_rule apply closing truth grounds signed_atoms instance_term found_term
equal_pairs_have_equal_components = refl

-- closed in 5 turns
if_of_the_negated_test : trace ([]) (eq_ (if_ (name 0 0 end) (name 1 0 end) (name 2 0 end)) (if_ (not_ (name 0 0 end)) (name 2 0 end) (name 1 0 end))) 100 ≡ 8000 ∷ 8000 ∷ 3 ∷ 8000 ∷ 3 ∷ 77777 ∷ []
unfolding trace search steps turn first_rule apply closing truth grounds signed_atoms instance_term found_term
if_of_the_negated_test = refl

-- closed in 3 turns
chosen_witness : trace ([]) (imp_ (ex_ (name 0 1 (part (bound 0) end))) (name 0 1 (part (choose_ (name 0 1 (part (bound 0) end))) end))) 100 ≡ 1003 ∷ 6000 ∷ 2 ∷ 77777 ∷ []
unfolding trace search steps turn first_rule apply closing truth grounds signed_atoms instance_term found_term
chosen_witness = refl

-- closed in 5 turns
domain_of_an_except : trace ([]) (imp_ (in_ (name 0 0 end) (funset_ (name 1 0 end) (name 2 0 end))) (eq_ (dom_ (except_ (name 0 0 end) (num_ 0 1) (num_ 0 2))) (name 1 0 end))) 100 ≡ 1003 ∷ 1004 ∷ 2119 ∷ 2115 ∷ 2 ∷ 77777 ∷ []
unfolding trace search steps turn first_rule apply closing truth grounds signed_atoms instance_term found_term
domain_of_an_except = refl

-- saturated after 10 turns
mutual_subsets_saturate : trace ([]) (imp_ (and_ (in_ (name 0 0 end) (power_ (name 1 0 end))) (in_ (name 1 0 end) (power_ (name 0 0 end)))) (eq_ (name 0 0 end) (name 1 0 end))) 100 ≡ 1003 ∷ 1001 ∷ 1105 ∷ 1105 ∷ 1110 ∷ 1110 ∷ 10000 ∷ 7002 ∷ 10000 ∷ 5002 ∷ 88888 ∷ []
unfolding trace search steps turn first_rule apply closing truth grounds signed_atoms instance_term found_term
mutual_subsets_saturate = refl

-- closed in 7 turns
implication_used_twice : trace ([]) (imp_ (and_ (all_ (imp_ (name 0 1 (part (bound 0) end)) (name 0 1 (part (name 1 1 (part (bound 0) end)) end)))) (name 0 1 (part (name 2 0 end) end))) (name 0 1 (part (name 1 1 (part (name 1 1 (part (name 2 0 end) end)) end)) end))) 100 ≡ 1003 ∷ 1001 ∷ 10000 ∷ 5001 ∷ 10000 ∷ 5001 ∷ 2 ∷ 77777 ∷ []
unfolding trace search steps turn first_rule apply closing truth grounds signed_atoms instance_term found_term
implication_used_twice = refl

-- closed in 6 turns
equation_gives_a_value_of_the_function : trace ([]) (imp_ (and_ (eq_ (name 0 0 end) (fun_ (name 1 0 end) (name 2 0 end))) (in_ (name 3 0 end) (name 1 0 end))) (eq_ (apply_ (name 0 0 end) (name 3 0 end)) (name 2 0 end))) 100 ≡ 1003 ∷ 1001 ∷ 3001 ∷ 10000 ∷ 5001 ∷ 2 ∷ 77777 ∷ []
unfolding trace search steps turn first_rule apply closing truth grounds signed_atoms instance_term found_term
equation_gives_a_value_of_the_function = refl

-- closed in 7 turns
instances_by_an_equation : trace ([]) (imp_ (and_ (all_ (eq_ (name 0 2 (part (bound 0) (part (name 1 0 end) end))) (bound 0))) (all_ (all_ (eq_ (name 0 2 (part (bound 1) (part (bound 0) end))) (name 0 2 (part (bound 0) (part (bound 1) end))))))) (eq_ (name 0 2 (part (name 1 0 end) (part (name 2 1 (part (name 1 0 end) end)) end))) (name 2 1 (part (name 1 0 end) end)))) 100 ≡ 1003 ∷ 1001 ∷ 10000 ∷ 10000 ∷ 10000 ∷ 4000 ∷ 2 ∷ 77777 ∷ []
unfolding trace search steps turn first_rule apply closing truth grounds signed_atoms instance_term found_term
instances_by_an_equation = refl

-- closed in 5 turns
filter_of_non_members : trace ([]) (imp_ (in_ (name 0 0 end) (filter_ (name 1 0 end) (not_ (in_ (bound 0) (name 0 0 end))))) (not_ (in_ (name 0 0 end) (name 0 0 end)))) 100 ≡ 1003 ∷ 1107 ∷ 1000 ∷ 1001 ∷ 2 ∷ 77777 ∷ []
unfolding trace search steps turn first_rule apply closing truth grounds signed_atoms instance_term found_term
filter_of_non_members = refl

-- closed in 5 turns
image_has_the_value : trace ([]) (imp_ (in_ (name 0 0 end) (name 1 0 end)) (in_ (name 2 1 (part (name 0 0 end) end)) (image_ (name 1 0 end) (name 2 1 (part (bound 0) end))))) 100 ≡ 1003 ∷ 1208 ∷ 10000 ∷ 5001 ∷ 3 ∷ 77777 ∷ []
unfolding trace search steps turn first_rule apply closing truth grounds signed_atoms instance_term found_term
image_has_the_value = refl

-- closed in 12 turns
chosen_term_taken_up : trace ([]) (imp_ (and_ (name 0 1 (part (choose_ (name 1 1 (part (bound 0) end))) end)) (all_ (imp_ (name 0 1 (part (bound 0) end)) (not_ (name 1 1 (part (bound 0) end)))))) (all_ (not_ (name 1 1 (part (bound 0) end))))) 100 ≡ 1003 ∷ 1001 ∷ 6001 ∷ 1000 ∷ 10000 ∷ 5001 ∷ 10000 ∷ 5002 ∷ 12000 ∷ 2 ∷ 10000 ∷ 2 ∷ 77777 ∷ []
unfolding trace search steps turn first_rule apply closing truth grounds signed_atoms instance_term found_term
chosen_term_taken_up = refl

-- closed in 18 turns, with a side dropped
boolean_and_enumerations : trace ([]) (imp_ (and_ (in_ (name 0 0 end) boolean_) (not_ (eq_ (name 0 0 end) true_))) (and_ (eq_ (name 0 0 end) false_) (not_ (eq_ (enum_ (part (num_ 0 1) (part (num_ 0 2) end))) (enum_ (part (num_ 0 1) (part (num_ 0 3) end))))))) 100 ≡ 1003 ∷ 1001 ∷ 1109 ∷ 5001 ∷ 4000 ∷ 4000 ∷ 5001 ∷ 1000 ∷ 3000 ∷ 10000 ∷ 7003 ∷ 7000 ∷ 4000 ∷ 5000 ∷ 10000 ∷ 5001 ∷ 1002 ∷ 3 ∷ 77777 ∷ []
unfolding trace search steps turn first_rule apply closing truth grounds signed_atoms instance_term found_term
boolean_and_enumerations = refl
