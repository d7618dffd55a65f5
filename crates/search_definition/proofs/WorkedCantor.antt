-- The two steps of Cantor's theorem that are left to the search, with all their turns.
use Rattle.std.specs.Prelude.{◌≡◌, [], ◌∷◌}
use Rattle.std.proofs.Common.{refl}
use Rattle.core_expr.specs.Tree.{not_, eq_, in_, power_, funset_, apply_, filter_}
use Rattle.core_expr.specs.Tree.Tree.{bound}
use Rattle.core_expr.specs.Tree.Parts.{end}
use Rattle.search_definition.specs.Branches.{closing}
use Rattle.search_definition.specs.Values.{truth, grounds}
use Rattle.search_definition.specs.Instances.{signed_atoms, instance_term, found_term}
use Rattle.search_definition.specs.Search.{search, steps, turn, first_rule, apply}
use Rattle.search_definition.proofs.Trace.{name, trace}

-- closed in 8 turns
cantor_diagonal_is_a_subset : trace ((in_ (name 0 0 end) (funset_ (name 1 0 end) (power_ (name 1 0 end)))) ∷ []) (in_ (filter_ (name 1 0 end) (not_ (in_ (bound 0) (apply_ (name 0 0 end) (bound 0))))) (power_ (name 1 0 end))) 100 ≡ 1004 ∷ 1205 ∷ 1210 ∷ 6001 ∷ 1003 ∷ 1107 ∷ 1001 ∷ 2 ∷ 77777 ∷ []
unfolding trace search steps turn first_rule apply closing truth grounds signed_atoms instance_term found_term
cantor_diagonal_is_a_subset = refl

-- closed in 23 turns
cantor_diagonal_is_no_value : trace ((in_ (name 0 0 end) (funset_ (name 1 0 end) (power_ (name 1 0 end)))) ∷ (in_ (filter_ (name 1 0 end) (not_ (in_ (bound 0) (apply_ (name 0 0 end) (bound 0))))) (power_ (name 1 0 end))) ∷ (in_ (name 2 0 end) (name 1 0 end)) ∷ []) (not_ (eq_ (apply_ (name 0 0 end) (name 2 0 end)) (filter_ (name 1 0 end) (not_ (in_ (bound 0) (apply_ (name 0 0 end) (bound 0))))))) 100 ≡ 1004 ∷ 1105 ∷ 1000 ∷ 1110 ∷ 3000 ∷ 4000 ∷ 10000 ∷ 5001 ∷ 1105 ∷ 1110 ∷ 10000 ∷ 7003 ∷ 1001 ∷ 10000 ∷ 5001 ∷ 1105 ∷ 1110 ∷ 10000 ∷ 7003 ∷ 1001 ∷ 2 ∷ 5001 ∷ 2 ∷ 77777 ∷ []
unfolding trace search steps turn first_rule apply closing truth grounds signed_atoms instance_term found_term
cantor_diagonal_is_no_value = refl
