-- The proof tree of a step from those of its sides.
use Rattle.std.specs.Prelude.{Option, Some, None, List, [], ◌∷◌}
use Rattle.core_expr.specs.Tree.{Tree, true_}
use Rattle.seq_calculus.specs.Calculus.{Proof}
use Rattle.search_definition.specs.declared.rule.Rule.{Rule}
use Rattle.search_definition.specs.declared.rule.Rule.TheVariants.{DoubleNot, Conjunction, DeniedDisjunction, DeniedImplication, FunctionSet, LeftSide, DeniedLeftSide, Rewritten, SameMembers, FunctionValues, OtherFunction, Replaced, TrueSide, FalseLeft, FalseRight, Witness, Counterexample, Disjunction, DeniedConjunction, Implication, Equivalence, DeniedEquivalence, Conditional, Application, Members, Instance, Spare, TakenUp}
use Rattle.search_definition.specs.Rules.{Step, Result}
use Rattle.search_definition.specs.Plain.{Rewrite, rewrite_of}
use Rattle.search_definition.specs.Splits.{splitting}
use Rattle.proof_writer.specs.Shapes.{first_of, second_of}
use Rattle.proof_trees.specs.Simple.{plain_by, left_side_by, denied_side_by, split_by, choice_by, instance_by}
use Rattle.proof_trees.specs.Abstracted.{replace_by, rewrite_by}
use Rattle.proof_trees.specs.Valued.{false_left_by, false_right_by}
use Rattle.proof_trees.specs.Cuts.{take_up_by, term_split_by}
use Rattle.proof_trees.specs.Equated.{function_set_by, same_members_by, function_values_by, other_function_by, extension_by}

-- the first of some formulas, and all but the first
abbrev pub head_of : List Tree → Tree
head_of [] = true_
head_of (f ∷ fs) = f

abbrev pub tail_of : List Tree → List Tree
tail_of [] = []
tail_of (f ∷ fs) = fs

-- rank rewrite, by the equation that rewrites the subterm
abbrev pub rewritten_by : Option Rewrite → Tree → Proof → Proof
rewritten_by None f p = p
rewritten_by (Some r) f p = rewrite_by r f p

-- the proof of a rule at the formula f, with the other formulas that it names, the terms that it works with, and the proofs of its sides
abbrev pub rule_by : Rule → Tree → List Tree → List Tree → List Proof → Proof
rule_by FunctionSet f gs ts ps = function_set_by f (first_of ps)
rule_by DoubleNot f gs ts ps = plain_by f (first_of ps)
rule_by Conjunction f gs ts ps = plain_by f (first_of ps)
rule_by DeniedDisjunction f gs ts ps = plain_by f (first_of ps)
rule_by DeniedImplication f gs ts ps = plain_by f (first_of ps)
rule_by (LeftSide k) f gs ts ps = left_side_by f (first_of ps)
rule_by (DeniedLeftSide k) f gs ts ps = denied_side_by f (first_of ps)
rule_by (Rewritten k) f gs ts ps = rewritten_by (rewrite_of (head_of ts)) f (first_of ps)
rule_by SameMembers f gs ts ps = same_members_by f (first_of ps)
rule_by FunctionValues f gs ts ps = function_values_by f (first_of ps)
rule_by OtherFunction f gs ts ps = other_function_by f (head_of gs) (head_of ts) (first_of ps)
rule_by Replaced f gs ts ps = replace_by (head_of gs) (head_of ts) (head_of (tail_of ts)) f (first_of ps)
rule_by TrueSide f gs ts ps = first_of ps
rule_by FalseLeft f gs ts ps = false_left_by f gs (first_of ps) (splitting f)
rule_by FalseRight f gs ts ps = false_right_by f gs (first_of ps) (splitting f)
rule_by Witness f gs ts ps = choice_by f (first_of ps)
rule_by Counterexample f gs ts ps = choice_by f (first_of ps)
rule_by Disjunction f gs ts ps = split_by f (first_of ps) (second_of ps)
rule_by DeniedConjunction f gs ts ps = split_by f (first_of ps) (second_of ps)
rule_by Implication f gs ts ps = split_by f (first_of ps) (second_of ps)
rule_by Equivalence f gs ts ps = split_by f (first_of ps) (second_of ps)
rule_by DeniedEquivalence f gs ts ps = split_by f (first_of ps) (second_of ps)
rule_by Conditional f gs ts ps = term_split_by (head_of ts) f gs ps
rule_by Application f gs ts ps = term_split_by (head_of ts) f gs ps
rule_by Members f gs ts ps = extension_by f (first_of ps)
rule_by Instance f gs ts ps = instance_by (head_of ts) f (first_of ps)
rule_by Spare f gs ts ps = instance_by (head_of ts) f (first_of ps)
rule_by TakenUp f gs ts ps = take_up_by (head_of ts) (first_of ps) (second_of ps)

-- the proof of a step
abbrev pub step_by : Step → List Proof → Proof
step_by s ps = rule_by s.rule (head_of s.named) (tail_of s.named) s.terms ps

-- the proof of a turn's rule
abbrev pub by : Result → List Proof → Proof
by r ps = step_by r.step ps
