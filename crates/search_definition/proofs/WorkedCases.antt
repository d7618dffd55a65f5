-- A small obligation for each rank and case, and for each case of a closing, with the turns worked out by hand beside it.
-- Written forms: A, B, C, a, b, c, X, Y, S, T are constants, f, g, P operators, w the spare term; m is a metavariable.
use Rattle.std.specs.Prelude.{◌≡◌, [], ◌∷◌}
use Rattle.std.proofs.Common.{refl}
use Rattle.core_expr.specs.Tree.{true_, false_, boolean_, not_, and_, or_, imp_, iff_, eq_, in_, cup_, cap_, diff_, union_, funset_, dom_, apply_, if_, enum_, tuple_, num_, str_, all_, ex_, choose_, filter_, image_, fun_}
use Rattle.core_expr.specs.Tree.Tree.{bound}
use Rattle.core_expr.specs.Tree.Parts.{end, part}
use Rattle.search_definition.specs.Branches.{closing}
use Rattle.search_definition.specs.Values.{truth, grounds}
use Rattle.search_definition.specs.Instances.{signed_atoms, instance_term, found_term}
use Rattle.search_definition.specs.Search.{search, steps, turn, first_rule, apply}
use Rattle.search_definition.proofs.Trace.{constant, unary, binary, trace}

-- FALSE, ~A. Turn 1: FALSE closes, case 0.
false_among_the_facts : trace ((false_) ∷ []) (constant 0) 100 ≡ 0 ∷ 77777 ∷ []
unfolding trace search steps turn first_rule apply closing truth grounds signed_atoms instance_term found_term
false_among_the_facts = refl

-- ~TRUE. Turn 1: it closes, case 1.
truth_is_proved : trace ([]) (true_) 100 ≡ 1 ∷ 77777 ∷ []
unfolding trace search steps turn first_rule apply closing truth grounds signed_atoms instance_term found_term
truth_is_proved = refl

-- A, ~A. Turn 1: they close, case 2.
fact_is_the_goal : trace ((constant 0) ∷ []) (constant 0) 100 ≡ 2 ∷ 77777 ∷ []
unfolding trace search steps turn first_rule apply closing truth grounds signed_atoms instance_term found_term
fact_is_the_goal = refl

-- ~(a = a). Turn 1: it closes, case 3.
equal_to_itself : trace ([]) (eq_ (constant 0) (constant 0)) 100 ≡ 3 ∷ 77777 ∷ []
unfolding trace search steps turn first_rule apply closing truth grounds signed_atoms instance_term found_term
equal_to_itself = refl

-- a = b, ~(b = a). Turn 1: they close, case 4.
equation_and_its_mirror : trace ((eq_ (constant 0) (constant 1)) ∷ []) (eq_ (constant 1) (constant 0)) 100 ≡ 4 ∷ 77777 ∷ []
unfolding trace search steps turn first_rule apply closing truth grounds signed_atoms instance_term found_term
equation_and_its_mirror = refl

-- ~(a = b), b = a, ~C. Turn 1: b = a closes with the older ~(a = b), case 4.
denied_mirror_first : trace ((not_ (eq_ (constant 0) (constant 1))) ∷ (eq_ (constant 1) (constant 0)) ∷ []) (constant 2) 100 ≡ 4 ∷ 77777 ∷ []
unfolding trace search steps turn first_rule apply closing truth grounds signed_atoms instance_term found_term
denied_mirror_first = refl

-- 1 = 2, ~A. Turn 1: 1 = 2 closes, case 5.
different_numbers : trace ((eq_ (num_ 0 1) (num_ 0 2)) ∷ []) (constant 0) 100 ≡ 5 ∷ 77777 ∷ []
unfolding trace search steps turn first_rule apply closing truth grounds signed_atoms instance_term found_term
different_numbers = refl

-- "a" = "b", ~A. Turn 1: the equation closes, case 5.
different_strings : trace ((eq_ (str_ (97 ∷ [])) (str_ (98 ∷ []))) ∷ []) (constant 0) 100 ≡ 5 ∷ 77777 ∷ []
unfolding trace search steps turn first_rule apply closing truth grounds signed_atoms instance_term found_term
different_strings = refl

-- TRUE = FALSE, ~A. Turn 1: it closes, case 6.
truth_is_not_falsehood : trace ((eq_ (true_) (false_)) ∷ []) (constant 0) 100 ≡ 6 ∷ 77777 ∷ []
unfolding trace search steps turn first_rule apply closing truth grounds signed_atoms instance_term found_term
truth_is_not_falsehood = refl

-- FALSE = TRUE, ~A. Turn 1: it closes, case 6.
falsehood_is_not_truth : trace ((eq_ (false_) (true_)) ∷ []) (constant 0) 100 ≡ 6 ∷ 77777 ∷ []
unfolding trace search steps turn first_rule apply closing truth grounds signed_atoms instance_term found_term
falsehood_is_not_truth = refl

-- ~~A, ~A. Turn 1: they close, case 2.
-- With ~~A and the goal B: turn 1, rank 1 case 0, gives A; then no rule applies.
double_negation : trace ((not_ (not_ (constant 0))) ∷ []) (constant 1) 100 ≡ 1000 ∷ 88888 ∷ []
unfolding trace search steps turn first_rule apply closing truth grounds signed_atoms instance_term found_term
double_negation = refl

-- ~(A \/ B). Turn 1, rank 1 case 2: ~A, ~B. No rule applies.
denied_disjunction : trace ([]) (or_ (constant 0) (constant 1)) 100 ≡ 1002 ∷ 88888 ∷ []
unfolding trace search steps turn first_rule apply closing truth grounds signed_atoms instance_term found_term
denied_disjunction = refl

-- a \in {b}, ~(a = b). Turn 1, rank 1 by schema 1: a = b. Turn 2: it closes with ~(a = b).
member_of_an_enumeration : trace ((in_ (constant 0) (enum_ (part (constant 1) end))) ∷ []) (eq_ (constant 0) (constant 1)) 100 ≡ 1101 ∷ 2 ∷ 77777 ∷ []
unfolding trace search steps turn first_rule apply closing truth grounds signed_atoms instance_term found_term
member_of_an_enumeration = refl

-- a \in {}, ~A. Turn 1, rank 1 by schema 1: FALSE. Turn 2: it closes.
nothing_is_in_the_empty_set : trace ((in_ (constant 0) (enum_ end)) ∷ []) (constant 1) 100 ≡ 1101 ∷ 0 ∷ 77777 ∷ []
unfolding trace search steps turn first_rule apply closing truth grounds signed_atoms instance_term found_term
nothing_is_in_the_empty_set = refl

-- ~(a \in {b, a}). Turn 1, the Not by schema 1: ~(a = b \/ a = a). Turn 2, rank 1 case 2: ~(a = b), ~(a = a). Turn 3: ~(a = a) closes.
not_in_an_enumeration : trace ([]) (in_ (constant 0) (enum_ (part (constant 1) (part (constant 0) end)))) 100 ≡ 1201 ∷ 1002 ∷ 3 ∷ 77777 ∷ []
unfolding trace search steps turn first_rule apply closing truth grounds signed_atoms instance_term found_term
not_in_an_enumeration = refl

-- a \in X \cup Y, ~(a \in Y \cup X). Turn 1, by schema 2: a \in X \/ a \in Y. Turn 2, the Not by schema 2: ~(a \in Y \/ a \in X).
-- Turn 3, rank 1 case 2: ~(a \in Y), ~(a \in X). Turn 4, settle case 1: the left side is false, so a \in Y. Turn 5: it closes with ~(a \in Y).
member_of_a_union_of_two : trace ((in_ (constant 0) (cup_ (constant 1) (constant 2))) ∷ []) (in_ (constant 0) (cup_ (constant 2) (constant 1))) 100 ≡ 1102 ∷ 1202 ∷ 1002 ∷ 5001 ∷ 2 ∷ 77777 ∷ []
unfolding trace search steps turn first_rule apply closing truth grounds signed_atoms instance_term found_term
member_of_a_union_of_two = refl

-- a \in X, a \in Y, ~(a \in X \cap Y). Turn 1, the Not by schema 3: ~(a \in X /\ a \in Y). Turn 2, settle case 1: ~(a \in X) is false, so ~(a \in Y). Turn 3: it closes.
not_in_an_intersection : trace ((in_ (constant 0) (constant 1)) ∷ (in_ (constant 0) (constant 2)) ∷ []) (in_ (constant 0) (cap_ (constant 1) (constant 2))) 100 ≡ 1203 ∷ 5001 ∷ 2 ∷ 77777 ∷ []
unfolding trace search steps turn first_rule apply closing truth grounds signed_atoms instance_term found_term
not_in_an_intersection = refl

-- a \in X \ Y, ~(a \in X). Turn 1, by schema 4: a \in X /\ ~(a \in Y). Turn 2, rank 1 case 1: both. Turn 3: a \in X closes.
member_of_a_difference : trace ((in_ (constant 0) (diff_ (constant 1) (constant 2))) ∷ []) (in_ (constant 0) (constant 1)) 100 ≡ 1104 ∷ 1001 ∷ 2 ∷ 77777 ∷ []
unfolding trace search steps turn first_rule apply closing truth grounds signed_atoms instance_term found_term
member_of_a_difference = refl

-- a \in X, ~(a \in Y), ~(a \in X \ Y). Turn 1, the Not by schema 4: ~(a \in X /\ ~(a \in Y)). Turn 2, settle case 1: ~~(a \in Y). Turn 3: it closes with ~(a \in Y).
not_in_a_difference : trace ((in_ (constant 0) (constant 1)) ∷ (not_ (in_ (constant 0) (constant 2))) ∷ []) (in_ (constant 0) (diff_ (constant 1) (constant 2))) 100 ≡ 1204 ∷ 5001 ∷ 2 ∷ 77777 ∷ []
unfolding trace search steps turn first_rule apply closing truth grounds signed_atoms instance_term found_term
not_in_a_difference = refl

-- a \in UNION X, ~\E x : x \in X /\ a \in x. Turn 1, by schema 6: the formula whose Not stands there. Turn 2: they close.
member_of_a_big_union : trace ((in_ (constant 0) (union_ (constant 1))) ∷ []) (ex_ (and_ (in_ (bound 0) (constant 1)) (in_ (constant 0) (bound 0)))) 100 ≡ 1106 ∷ 2 ∷ 77777 ∷ []
unfolding trace search steps turn first_rule apply closing truth grounds signed_atoms instance_term found_term
member_of_a_big_union = refl

-- \E x : x \in X /\ a \in x, ~(a \in UNION X). Turn 1, the Not by schema 6: the Not of the fact. Turn 2: they close.
not_in_a_big_union : trace ((ex_ (and_ (in_ (bound 0) (constant 1)) (in_ (constant 0) (bound 0)))) ∷ []) (in_ (constant 0) (union_ (constant 1))) 100 ≡ 1206 ∷ 2 ∷ 77777 ∷ []
unfolding trace search steps turn first_rule apply closing truth grounds signed_atoms instance_term found_term
not_in_a_big_union = refl

-- a \in X, ~(a \in {x \in X : TRUE}). Turn 1, the Not by schema 7: ~(a \in X /\ TRUE). Turn 2, settle case 1: ~TRUE. Turn 3: it closes, case 1.
not_in_a_filter : trace ((in_ (constant 0) (constant 1)) ∷ []) (in_ (constant 0) (filter_ (constant 1) true_)) 100 ≡ 1207 ∷ 5001 ∷ 1 ∷ 77777 ∷ []
unfolding trace search steps turn first_rule apply closing truth grounds signed_atoms instance_term found_term
not_in_a_filter = refl

-- b \in {f(x) : x \in X}, ~\E x : x \in X /\ b = f(x). Turn 1, by schema 8: the formula whose Not stands there. Turn 2: they close.
member_of_an_image : trace ((in_ (constant 0) (image_ (constant 1) (unary 2 (bound 0)))) ∷ []) (ex_ (and_ (in_ (bound 0) (constant 1)) (eq_ (constant 0) (unary 2 (bound 0))))) 100 ≡ 1108 ∷ 2 ∷ 77777 ∷ []
unfolding trace search steps turn first_rule apply closing truth grounds signed_atoms instance_term found_term
member_of_an_image = refl

-- a = TRUE, ~(a \in BOOLEAN). Turn 1, the Not by schema 9: ~(a = TRUE \/ a = FALSE). Turn 2, rank 1 case 2: both Nots. Turn 3: ~(a = TRUE) closes.
not_a_truth_value : trace ((eq_ (constant 0) (true_)) ∷ []) (in_ (constant 0) (boolean_)) 100 ≡ 1209 ∷ 1002 ∷ 2 ∷ 77777 ∷ []
unfolding trace search steps turn first_rule apply closing truth grounds signed_atoms instance_term found_term
not_a_truth_value = refl

-- [x \in X |-> f(x)] = [x \in Y |-> g(x)], ~(X = Y). Turn 1, by schema 17: X = Y /\ \A x : x \in X => f(x) = g(x). Turn 2, rank 1 case 1: both. Turn 3: X = Y closes.
equal_function_constructors : trace ((eq_ (fun_ (constant 0) (unary 2 (bound 0))) (fun_ (constant 1) (unary 3 (bound 0)))) ∷ []) (eq_ (constant 0) (constant 1)) 100 ≡ 1117 ∷ 1001 ∷ 2 ∷ 77777 ∷ []
unfolding trace search steps turn first_rule apply closing truth grounds signed_atoms instance_term found_term
equal_function_constructors = refl

-- \A x : x \in X => f(x) = g(x), ~([x \in X |-> f(x)] = [x \in X |-> g(x)]). Turn 1, the Not by schema 17: ~(X = X /\ \A x : ..).
-- Turn 2, settle case 1: ~(X = X) is false, so ~\A x : .. . Turn 3: it closes with the fact.
different_function_constructors : trace ((all_ (imp_ (in_ (bound 0) (constant 0)) (eq_ (unary 2 (bound 0)) (unary 3 (bound 0))))) ∷ []) (eq_ (fun_ (constant 0) (unary 2 (bound 0))) (fun_ (constant 0) (unary 3 (bound 0)))) 100 ≡ 1217 ∷ 5001 ∷ 2 ∷ 77777 ∷ []
unfolding trace search steps turn first_rule apply closing truth grounds signed_atoms instance_term found_term
different_function_constructors = refl

-- f = [x \in S |-> f[x]], \A x : x \in S => f[x] \in T, ~(f \in [S -> T]). Turn 1, the Not by schema 18: ~(f = [x \in S |-> f[x]] /\ \A x : ..).
-- Turn 2, replace: the greater side [x \in S |-> f[x]] of the first fact stands in it: ~(f = f /\ \A x : ..). Turn 3, settle case 1: ~\A x : .. . Turn 4: it closes.
not_in_a_function_set : trace ((eq_ (constant 0) (fun_ (constant 1) (apply_ (constant 0) (bound 0)))) ∷ (all_ (imp_ (in_ (bound 0) (constant 1)) (in_ (apply_ (constant 0) (bound 0)) (constant 2)))) ∷ []) (in_ (constant 0) (funset_ (constant 1) (constant 2))) 100 ≡ 1218 ∷ 4000 ∷ 5001 ∷ 2 ∷ 77777 ∷ []
unfolding trace search steps turn first_rule apply closing truth grounds signed_atoms instance_term found_term
not_in_a_function_set = refl

-- <<a>> = <<>>, ~A. Turn 1, by schema 20: FALSE. Turn 2: it closes.
tuples_of_different_lengths : trace ((eq_ (tuple_ (part (constant 0) end)) (tuple_ end)) ∷ []) (constant 1) 100 ≡ 1120 ∷ 0 ∷ 77777 ∷ []
unfolding trace search steps turn first_rule apply closing truth grounds signed_atoms instance_term found_term
tuples_of_different_lengths = refl

-- a = c, ~(<<a, b>> = <<c, b>>). Turn 1, the Not by schema 20: ~(a = c /\ b = b). Turn 2, replace: c is the greater side of a = c, so ~(a = a /\ b = b).
-- Turn 3, settle case 1: ~(b = b). Turn 4: it closes, case 3.
different_tuples : trace ((eq_ (constant 0) (constant 2)) ∷ []) (eq_ (tuple_ (part (constant 0) (part (constant 1) end))) (tuple_ (part (constant 2) (part (constant 1) end)))) 100 ≡ 1220 ∷ 4000 ∷ 5001 ∷ 3 ∷ 77777 ∷ []
unfolding trace search steps turn first_rule apply closing truth grounds signed_atoms instance_term found_term
different_tuples = refl

-- [x \in S |-> a] = [x \in S |-> b], g = [x \in S |-> a], ~(g = [x \in S |-> b]). Turn 1, by schema 17: S = S /\ \A x : x \in S => a = b. Turn 2, rank 1 case 1: both.
-- Turn 3, derive case 1 on g = ..: DOMAIN g = S, \A x : x \in S => g[x] = a. Turn 4, derive case 2 on ~(g = ..): the Not of the first fact. Turn 5: it closes with that entry, which is dead.
two_descriptions_of_a_function : trace ((eq_ (fun_ (constant 0) (constant 1)) (fun_ (constant 0) (constant 2))) ∷ (eq_ (constant 3) (fun_ (constant 0) (constant 1))) ∷ []) (eq_ (constant 3) (fun_ (constant 0) (constant 2))) 100 ≡ 1117 ∷ 1001 ∷ 3001 ∷ 3002 ∷ 2 ∷ 77777 ∷ []
unfolding trace search steps turn first_rule apply closing truth grounds signed_atoms instance_term found_term
two_descriptions_of_a_function = refl

-- [x \in S |-> a] = g, ~(DOMAIN g = S). Turn 1, derive case 1 by the mirror: DOMAIN g = S, \A x : x \in S => g[x] = a. Turn 2: DOMAIN g = S closes.
function_constructor_on_the_left : trace ((eq_ (fun_ (constant 0) (constant 1)) (constant 2)) ∷ []) (eq_ (dom_ (constant 2)) (constant 0)) 100 ≡ 3001 ∷ 2 ∷ 77777 ∷ []
unfolding trace search steps turn first_rule apply closing truth grounds signed_atoms instance_term found_term
function_constructor_on_the_left = refl

-- A, A \/ B, ~C. Turn 1, settle case 0: A is true, nothing is added, A \/ B is dead. No rule applies.
settled_side_is_true : trace ((constant 0) ∷ (or_ (constant 0) (constant 1)) ∷ []) (constant 2) 100 ≡ 5000 ∷ 88888 ∷ []
unfolding trace search steps turn first_rule apply closing truth grounds signed_atoms instance_term found_term
settled_side_is_true = refl

-- ~B, A \/ B, ~A. Turn 1, settle case 1: the left side is false, so B. Turn 2: it closes with ~B.
settled_right_side_is_false : trace ((not_ (constant 1)) ∷ (or_ (constant 0) (constant 1)) ∷ []) (constant 0) 100 ≡ 5001 ∷ 2 ∷ 77777 ∷ []
unfolding trace search steps turn first_rule apply closing truth grounds signed_atoms instance_term found_term
settled_right_side_is_false = refl

-- ~B, A \/ B, ~C. Turn 1, settle case 2: the right side is false, so A. No rule applies.
settled_left_side_is_kept : trace ((not_ (constant 1)) ∷ (or_ (constant 0) (constant 1)) ∷ []) (constant 2) 100 ≡ 5002 ∷ 88888 ∷ []
unfolding trace search steps turn first_rule apply closing truth grounds signed_atoms instance_term found_term
settled_left_side_is_kept = refl

-- A \/ B, ~C. Turn 1, split case 0: A on the first side. No rule applies there.
split_on_a_disjunction : trace ((or_ (constant 0) (constant 1)) ∷ []) (constant 2) 100 ≡ 7000 ∷ 88888 ∷ []
unfolding trace search steps turn first_rule apply closing truth grounds signed_atoms instance_term found_term
split_on_a_disjunction = refl

-- ~(A /\ B), ~C. Turn 1, split case 1: ~A on the first side. No rule applies there.
split_on_a_denied_conjunction : trace ((not_ (and_ (constant 0) (constant 1))) ∷ []) (constant 2) 100 ≡ 7001 ∷ 88888 ∷ []
unfolding trace search steps turn first_rule apply closing truth grounds signed_atoms instance_term found_term
split_on_a_denied_conjunction = refl

-- A => B, ~C. Turn 1, split case 2: ~A on the first side. No rule applies there.
split_on_an_implication : trace ((imp_ (constant 0) (constant 1)) ∷ []) (constant 2) 100 ≡ 7002 ∷ 88888 ∷ []
unfolding trace search steps turn first_rule apply closing truth grounds signed_atoms instance_term found_term
split_on_an_implication = refl

-- A <=> B, ~C. Turn 1, split case 3: A, B on the first side. No rule applies there.
split_on_an_equivalence : trace ((iff_ (constant 0) (constant 1)) ∷ []) (constant 2) 100 ≡ 7003 ∷ 88888 ∷ []
unfolding trace search steps turn first_rule apply closing truth grounds signed_atoms instance_term found_term
split_on_an_equivalence = refl

-- ~(A <=> B), ~C. Turn 1, split case 4: A, ~B on the first side. No rule applies there.
split_on_a_denied_equivalence : trace ((not_ (iff_ (constant 0) (constant 1))) ∷ []) (constant 2) 100 ≡ 7004 ∷ 88888 ∷ []
unfolding trace search steps turn first_rule apply closing truth grounds signed_atoms instance_term found_term
split_on_a_denied_equivalence = refl

-- P([x \in S |-> x][a]), ~P(a). Turn 1, term split case 1: a \in S is not known, so a \in S, P(a) on the first side and ~(a \in S) on the second.
-- Turn 2: P(a) closes the first side. On the second the literal is still live, but ~(a \in S) stands there, so no rule applies.
argument_perhaps_outside_the_domain : trace ((unary 1 (apply_ (fun_ (constant 2) (bound 0)) (constant 0))) ∷ []) (unary 1 (constant 0)) 100 ≡ 8001 ∷ 2 ∷ 88888 ∷ []
unfolding trace search steps turn first_rule apply closing truth grounds signed_atoms instance_term found_term
argument_perhaps_outside_the_domain = refl

-- a \in S, P([x \in S |-> x][a]), ~P(a). Turn 1, term split case 1: a \in S is true, so P(a) alone. Turn 2: it closes.
argument_in_the_domain : trace ((in_ (constant 0) (constant 2)) ∷ (unary 1 (apply_ (fun_ (constant 2) (bound 0)) (constant 0))) ∷ []) (unary 1 (constant 0)) 100 ≡ 8001 ∷ 2 ∷ 77777 ∷ []
unfolding trace search steps turn first_rule apply closing truth grounds signed_atoms instance_term found_term
argument_in_the_domain = refl

-- P(IF A THEN b ELSE c), ~P(b). Turn 1, term split case 0: A, P(b) on the first side, ~A, P(c) on the second. Turn 2: the first closes. On the second no rule applies.
test_is_not_known : trace ((unary 1 (if_ (constant 0) (constant 2) (constant 3))) ∷ []) (unary 1 (constant 2)) 100 ≡ 8000 ∷ 2 ∷ 88888 ∷ []
unfolding trace search steps turn first_rule apply closing truth grounds signed_atoms instance_term found_term
test_is_not_known = refl

-- ~A, P(IF A THEN b ELSE c), ~P(c). Turn 1, term split case 0: A is false, so ~A, which stands there, and P(c) alone. Turn 2: it closes.
test_is_false : trace ((not_ (constant 0)) ∷ (unary 1 (if_ (constant 0) (constant 2) (constant 3))) ∷ []) (unary 1 (constant 3)) 100 ≡ 8000 ∷ 2 ∷ 77777 ∷ []
unfolding trace search steps turn first_rule apply closing truth grounds signed_atoms instance_term found_term
test_is_false = refl

-- ~({a} = X). Turn 1, extension: ~\A x : (x = a <=> x \in X). Turn 2, choice case 1: ~(c = a <=> c \in X) for the chosen c. Turn 3, split case 4: c = a, ~(c \in X) on the first side.
-- Turn 4, replace: c is the greater side, so ~(a \in X). No rule applies: c was taken up by the Not of the \A.
extension_by_a_set_constructor : trace ([]) (eq_ (enum_ (part (constant 0) end)) (constant 1)) 100 ≡ 9000 ∷ 6001 ∷ 7004 ∷ 4000 ∷ 88888 ∷ []
unfolding trace search steps turn first_rule apply closing truth grounds signed_atoms instance_term found_term
extension_by_a_set_constructor = refl

-- ~\E x : x = a. Turn 1, instance: the atom m = a is to fail, m with a gives ~(a = a). Turn 2: it closes, case 3.
partner_is_the_other_side : trace ([]) (ex_ (eq_ (bound 0) (constant 0))) 100 ≡ 10000 ∷ 3 ∷ 77777 ∷ []
unfolding trace search steps turn first_rule apply closing truth grounds signed_atoms instance_term found_term
partner_is_the_other_side = refl

-- P(a), ~\E x : P(x). Turn 1, instance: the atom P(m) is to fail and P(a) stands there: ~P(a). Turn 2: it closes.
partner_is_a_literal : trace ((unary 0 (constant 1)) ∷ []) (ex_ (unary 0 (bound 0))) 100 ≡ 10000 ∷ 2 ∷ 77777 ∷ []
unfolding trace search steps turn first_rule apply closing truth grounds signed_atoms instance_term found_term
partner_is_a_literal = refl

-- \A x : P(x), ~P(a). Turn 1, instance: the atom P(m) is to hold and ~P(a) stands there: P(a). Turn 2: it closes.
partner_is_a_denied_literal : trace ((all_ (unary 0 (bound 0))) ∷ []) (unary 0 (constant 1)) 100 ≡ 10000 ∷ 2 ∷ 77777 ∷ []
unfolding trace search steps turn first_rule apply closing truth grounds signed_atoms instance_term found_term
partner_is_a_denied_literal = refl

-- \A x : P(f(x)), \A x : ~P(x), ~FALSE. The first universal: P(f(m)) with the second's P(m2) binds m2 and not m, so it has no instance yet. The second: P(m) with the first's P(f(m1)) binds m to f(m1), and w is put for m1.
-- Turn 1, instance: ~P(f(w)). Turn 2, instance of the first, which has the lower count: P(f(m)) with ~P(f(w)) gives P(f(w)). Turn 3: it closes.
partner_is_a_universal : trace ((all_ (unary 0 (unary 1 (bound 0)))) ∷ (all_ (not_ (unary 0 (bound 0)))) ∷ []) (false_) 100 ≡ 10000 ∷ 10000 ∷ 2 ∷ 77777 ∷ []
unfolding trace search steps turn first_rule apply closing truth grounds signed_atoms instance_term found_term
partner_is_a_universal = refl

-- \A x : f(x) = b, P(f(a)), ~P(b). Turn 1, instance: no literal and no universal fits f(m) = b; its side f(m) meets the subterm f(a) of P(f(a)): f(a) = b. Turn 2, replace: P(b). Turn 3: it closes.
partner_is_a_subterm : trace ((all_ (eq_ (unary 0 (bound 0)) (constant 1))) ∷ (unary 2 (unary 0 (constant 3))) ∷ []) (unary 2 (constant 1)) 100 ≡ 10000 ∷ 4000 ∷ 2 ∷ 77777 ∷ []
unfolding trace search steps turn first_rule apply closing truth grounds signed_atoms instance_term found_term
partner_is_a_subterm = refl

-- \A x : \E y : R(x, y), ~FALSE. The \E gives no atom. Turn 1, spare: \E y : R(w, y). Turn 2, choice case 0: R(w, c) for the chosen c. No rule applies.
spare_instance : trace ((all_ (ex_ (binary 0 (bound 1) (bound 0)))) ∷ []) (false_) 100 ≡ 11000 ∷ 6000 ∷ 88888 ∷ []
unfolding trace search steps turn first_rule apply closing truth grounds signed_atoms instance_term found_term
spare_instance = refl

-- \A x : \E y : R(x, y), ~\E x : \A y : R(x, y). Turn 1, spare on the older: \E y : R(w, y). Turn 2, choice case 0: R(w, c). Turn 3, spare: ~\A y : R(w, y). Turn 4, choice case 1: ~R(w, d). No rule applies.
spare_instances_by_age : trace ((all_ (ex_ (binary 0 (bound 1) (bound 0)))) ∷ []) (ex_ (all_ (binary 0 (bound 1) (bound 0)))) 100 ≡ 11000 ∷ 6000 ∷ 11000 ∷ 6001 ∷ 88888 ∷ []
unfolding trace search steps turn first_rule apply closing truth grounds signed_atoms instance_term found_term
spare_instances_by_age = refl

-- P(c) for c = CHOOSE x : Q(x), ~A. Turn 1, take up: \E x : Q(x), Q(c) on the first side, ~\E x : Q(x) on the second; P(c) stays live. No rule applies to the first: the \E gives Q(c) in turn 2, choice case 0, which stands there.
chosen_term_is_taken_up : trace ((unary 0 (choose_ (unary 1 (bound 0)))) ∷ []) (constant 2) 100 ≡ 12000 ∷ 6000 ∷ 88888 ∷ []
unfolding trace search steps turn first_rule apply closing truth grounds signed_atoms instance_term found_term
chosen_term_is_taken_up = refl

-- A <=> B, B <=> C, ~(A <=> C), with dropping. Turn 1, split case 3: A, B, or ~A, ~B. Turn 2, settle case 2: ~B is false, so B <=> C gives C, by the split too. Turn 3, settle case 1: ~C is false, so ~A. Turn 4: A closes with ~A; the split is needed.
-- Turn 5, settle case 1: ~B, ~C. Turn 6, settle case 1: C. Turn 7: it closes.
needed_split_keeps_its_other_side : trace ((iff_ (constant 0) (constant 1)) ∷ (iff_ (constant 1) (constant 2)) ∷ []) (iff_ (constant 0) (constant 2)) 100 ≡ 7003 ∷ 5002 ∷ 5001 ∷ 2 ∷ 5001 ∷ 5001 ∷ 2 ∷ 77777 ∷ []
unfolding trace search steps turn first_rule apply closing truth grounds signed_atoms instance_term found_term
needed_split_keeps_its_other_side = refl

-- A \/ B, ~(D <=> D), with dropping. Turn 1, split: A. Turn 2, split: D, ~D. Turn 3: they close, and need the second split alone: its other side waits. Turn 4: that closes, and the first split is not needed: B is dropped.
unused_split_is_dropped : trace ((or_ (constant 0) (constant 1)) ∷ []) (iff_ (constant 2) (constant 2)) 100 ≡ 7000 ∷ 7004 ∷ 2 ∷ 2 ∷ 77777 ∷ []
unfolding trace search steps turn first_rule apply closing truth grounds signed_atoms instance_term found_term
unused_split_is_dropped = refl

-- a = b, a' = b', a' = y => b' = y denied. Turn 1, rank 1 case 3: a' = y, ~(b' = y). Turn 2, replace: b is no part of another entry; b' is the greater side of a' = b', so ~(a' = y). Turn 3: it closes.
unfolded_definition_with_both_equations : trace ((eq_ (constant 0) (constant 1)) ∷ (eq_ (constant 2) (constant 3)) ∷ []) (imp_ (eq_ (constant 2) (constant 4)) (eq_ (constant 3) (constant 4))) 100 ≡ 1003 ∷ 4000 ∷ 2 ∷ 77777 ∷ []
unfolding trace search steps turn first_rule apply closing truth grounds signed_atoms instance_term found_term
unfolded_definition_with_both_equations = refl

-- ~(A => A) with the limit 1. Turn 1, rank 1 case 3: A, ~A. The branch would close, but the limit is reached.
limit_of_turns : trace ([]) (imp_ (constant 0) (constant 0)) 1 ≡ 1003 ∷ 99999 ∷ []
unfolding trace search steps turn first_rule apply closing truth grounds signed_atoms instance_term found_term
limit_of_turns = refl
