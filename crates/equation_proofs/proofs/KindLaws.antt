-- Rules by their kinds.
use Rattle.std.specs.Prelude.{◌≡◌, List, [], ◌∷◌}
use Rattle.std.proofs.Common.{refl}
use Rattle.core_expr.specs.Tree.{Tree}
use Rattle.seq_calculus.specs.Calculus.{Proof}
use Rattle.search_definition.specs.declared.rule.Rule.{Rule}
use Rattle.search_definition.specs.declared.rule.Rule.TheVariants.{LeftSide, DeniedLeftSide, SameMembers, Members, OtherFunction, Rewritten, Replaced, Instance, Spare, Disjunction, DeniedConjunction, Implication, Equivalence, DeniedEquivalence, Conditional, Application, TakenUp, DoubleNot, Conjunction, DeniedDisjunction, DeniedImplication, FunctionSet, FunctionValues, TrueSide, FalseLeft, FalseRight, Witness, Counterexample}
use Rattle.search_definition.specs.Rules.Sides.{Alone, Both}
use Rattle.proof_writer.specs.Shapes.{first_of, second_of}
use Rattle.proof_trees.specs.Simple.{split_by}
use Rattle.proof_trees.specs.Cuts.{take_up_by, term_split_by}
use Rattle.proof_trees.specs.By.{head_of, rule_by}
use Rattle.proof_trees.specs.Told.{IsOne, told_by}
use Rattle.equation_proofs.specs.declared.kinds.Kind.TheVariants as kind
use Rattle.equation_proofs.specs.Kinds.{kind_of}
use Rattle.equation_proofs.specs.Firsts.{OneClosed}

no_both : (as' bs cs : List Tree) → Both as' bs ≡ Alone cs → ⊥
no_both as' bs cs e = cc

-- over one side the second proof plays no part
pub single_by : (r : Rule) (f : Tree) (gs ts : List Tree) (p q : Proof) → kind_of r ≡ kind.Single → rule_by r f gs ts (p ∷ q ∷ []) ≡ rule_by r f gs ts (p ∷ [])
single_by DoubleNot f gs ts p q e = refl
single_by Conjunction f gs ts p q e = refl
single_by DeniedDisjunction f gs ts p q e = refl
single_by DeniedImplication f gs ts p q e = refl
single_by FunctionSet f gs ts p q e = refl
single_by (LeftSide k) f gs ts p q e = refl
single_by (DeniedLeftSide k) f gs ts p q e = refl
single_by (Rewritten k) f gs ts p q e = refl
single_by SameMembers f gs ts p q e = refl
single_by FunctionValues f gs ts p q e = refl
single_by OtherFunction f gs ts p q e = refl
single_by Replaced f gs ts p q e = refl
single_by TrueSide f gs ts p q e = refl
single_by FalseLeft f gs ts p q e = refl
single_by FalseRight f gs ts p q e = refl
single_by Witness f gs ts p q e = refl
single_by Counterexample f gs ts p q e = refl
single_by Disjunction f gs ts p q e = cc
single_by DeniedConjunction f gs ts p q e = cc
single_by Implication f gs ts p q e = cc
single_by Equivalence f gs ts p q e = cc
single_by DeniedEquivalence f gs ts p q e = cc
single_by Conditional f gs ts p q e = cc
single_by Application f gs ts p q e = cc
single_by Members f gs ts p q e = refl
single_by Instance f gs ts p q e = refl
single_by Spare f gs ts p q e = refl
single_by TakenUp f gs ts p q e = cc

pub single_told : (r : Rule) (f : Tree) (gs ts as' bs : List Tree) → kind_of r ≡ kind.Single → told_by r f gs ts (Both as' bs) → told_by r f gs ts (Alone [])
single_told DoubleNot f gs ts as' bs e t = t
single_told Conjunction f gs ts as' bs e t = t
single_told DeniedDisjunction f gs ts as' bs e t = t
single_told DeniedImplication f gs ts as' bs e t = t
single_told FunctionSet f gs ts as' bs e t = t
single_told (LeftSide k) f gs ts as' bs e t = absurd (no_both _ _ _ t.2)
single_told (DeniedLeftSide k) f gs ts as' bs e t = absurd (no_both _ _ _ t.4)
single_told (Rewritten k) f gs ts as' bs e t = t
single_told SameMembers f gs ts as' bs e t = absurd (no_both _ _ _ t.3)
single_told FunctionValues f gs ts as' bs e t = t
single_told OtherFunction f gs ts as' bs e t = t
single_told Replaced f gs ts as' bs e t = t
single_told TrueSide f gs ts as' bs e t = t
single_told FalseLeft f gs ts as' bs e t = t
single_told FalseRight f gs ts as' bs e t = t
single_told Witness f gs ts as' bs e t = t
single_told Counterexample f gs ts as' bs e t = t
single_told Disjunction f gs ts as' bs e t = cc
single_told DeniedConjunction f gs ts as' bs e t = cc
single_told Implication f gs ts as' bs e t = cc
single_told Equivalence f gs ts as' bs e t = cc
single_told DeniedEquivalence f gs ts as' bs e t = cc
single_told Conditional f gs ts as' bs e t = cc
single_told Application f gs ts as' bs e t = cc
single_told Members f gs ts as' bs e t = absurd (no_both _ _ _ t.3)
single_told Instance f gs ts as' bs e t = t
single_told Spare f gs ts as' bs e t = t
single_told TakenUp f gs ts as' bs e t = cc

pub split_is : (r : Rule) (f : Tree) (gs ts : List Tree) (ps : List Proof) → kind_of r ≡ kind.Split → rule_by r f gs ts ps ≡ split_by f (first_of ps) (second_of ps)
split_is DoubleNot f gs ts ps e = cc
split_is Conjunction f gs ts ps e = cc
split_is DeniedDisjunction f gs ts ps e = cc
split_is DeniedImplication f gs ts ps e = cc
split_is FunctionSet f gs ts ps e = cc
split_is (LeftSide k) f gs ts ps e = cc
split_is (DeniedLeftSide k) f gs ts ps e = cc
split_is (Rewritten k) f gs ts ps e = cc
split_is SameMembers f gs ts ps e = cc
split_is FunctionValues f gs ts ps e = cc
split_is OtherFunction f gs ts ps e = cc
split_is Replaced f gs ts ps e = cc
split_is TrueSide f gs ts ps e = cc
split_is FalseLeft f gs ts ps e = cc
split_is FalseRight f gs ts ps e = cc
split_is Witness f gs ts ps e = cc
split_is Counterexample f gs ts ps e = cc
split_is Disjunction f gs ts ps e = refl
split_is DeniedConjunction f gs ts ps e = refl
split_is Implication f gs ts ps e = refl
split_is Equivalence f gs ts ps e = refl
split_is DeniedEquivalence f gs ts ps e = refl
split_is Conditional f gs ts ps e = cc
split_is Application f gs ts ps e = cc
split_is Members f gs ts ps e = cc
split_is Instance f gs ts ps e = cc
split_is Spare f gs ts ps e = cc
split_is TakenUp f gs ts ps e = cc

pub term_split_is : (r : Rule) (f : Tree) (gs ts : List Tree) (ps : List Proof) → kind_of r ≡ kind.TermSplit → rule_by r f gs ts ps ≡ term_split_by (head_of ts) f gs ps
term_split_is DoubleNot f gs ts ps e = cc
term_split_is Conjunction f gs ts ps e = cc
term_split_is DeniedDisjunction f gs ts ps e = cc
term_split_is DeniedImplication f gs ts ps e = cc
term_split_is FunctionSet f gs ts ps e = cc
term_split_is (LeftSide k) f gs ts ps e = cc
term_split_is (DeniedLeftSide k) f gs ts ps e = cc
term_split_is (Rewritten k) f gs ts ps e = cc
term_split_is SameMembers f gs ts ps e = cc
term_split_is FunctionValues f gs ts ps e = cc
term_split_is OtherFunction f gs ts ps e = cc
term_split_is Replaced f gs ts ps e = cc
term_split_is TrueSide f gs ts ps e = cc
term_split_is FalseLeft f gs ts ps e = cc
term_split_is FalseRight f gs ts ps e = cc
term_split_is Witness f gs ts ps e = cc
term_split_is Counterexample f gs ts ps e = cc
term_split_is Disjunction f gs ts ps e = cc
term_split_is DeniedConjunction f gs ts ps e = cc
term_split_is Implication f gs ts ps e = cc
term_split_is Equivalence f gs ts ps e = cc
term_split_is DeniedEquivalence f gs ts ps e = cc
term_split_is Conditional f gs ts ps e = refl
term_split_is Application f gs ts ps e = refl
term_split_is Members f gs ts ps e = cc
term_split_is Instance f gs ts ps e = cc
term_split_is Spare f gs ts ps e = cc
term_split_is TakenUp f gs ts ps e = cc

pub term_split_told : (r : Rule) (f : Tree) (gs ts as' bs : List Tree) → kind_of r ≡ kind.TermSplit → told_by r f gs ts (Both as' bs) → OneClosed ts
term_split_told DoubleNot f gs ts as' bs e t = cc
term_split_told Conjunction f gs ts as' bs e t = cc
term_split_told DeniedDisjunction f gs ts as' bs e t = cc
term_split_told DeniedImplication f gs ts as' bs e t = cc
term_split_told FunctionSet f gs ts as' bs e t = cc
term_split_told (LeftSide k) f gs ts as' bs e t = cc
term_split_told (DeniedLeftSide k) f gs ts as' bs e t = cc
term_split_told (Rewritten k) f gs ts as' bs e t = cc
term_split_told SameMembers f gs ts as' bs e t = cc
term_split_told FunctionValues f gs ts as' bs e t = cc
term_split_told OtherFunction f gs ts as' bs e t = cc
term_split_told Replaced f gs ts as' bs e t = cc
term_split_told TrueSide f gs ts as' bs e t = cc
term_split_told FalseLeft f gs ts as' bs e t = cc
term_split_told FalseRight f gs ts as' bs e t = cc
term_split_told Witness f gs ts as' bs e t = cc
term_split_told Counterexample f gs ts as' bs e t = cc
term_split_told Disjunction f gs ts as' bs e t = cc
term_split_told DeniedConjunction f gs ts as' bs e t = cc
term_split_told Implication f gs ts as' bs e t = cc
term_split_told Equivalence f gs ts as' bs e t = cc
term_split_told DeniedEquivalence f gs ts as' bs e t = cc
term_split_told Conditional f gs ts as' bs e t = t
term_split_told Application f gs ts as' bs e t = t
term_split_told Members f gs ts as' bs e t = cc
term_split_told Instance f gs ts as' bs e t = cc
term_split_told Spare f gs ts as' bs e t = cc
term_split_told TakenUp f gs ts as' bs e t = cc

pub take_up_is : (r : Rule) (f : Tree) (gs ts : List Tree) (ps : List Proof) → kind_of r ≡ kind.TakeUp → rule_by r f gs ts ps ≡ take_up_by (head_of ts) (first_of ps) (second_of ps)
take_up_is DoubleNot f gs ts ps e = cc
take_up_is Conjunction f gs ts ps e = cc
take_up_is DeniedDisjunction f gs ts ps e = cc
take_up_is DeniedImplication f gs ts ps e = cc
take_up_is FunctionSet f gs ts ps e = cc
take_up_is (LeftSide k) f gs ts ps e = cc
take_up_is (DeniedLeftSide k) f gs ts ps e = cc
take_up_is (Rewritten k) f gs ts ps e = cc
take_up_is SameMembers f gs ts ps e = cc
take_up_is FunctionValues f gs ts ps e = cc
take_up_is OtherFunction f gs ts ps e = cc
take_up_is Replaced f gs ts ps e = cc
take_up_is TrueSide f gs ts ps e = cc
take_up_is FalseLeft f gs ts ps e = cc
take_up_is FalseRight f gs ts ps e = cc
take_up_is Witness f gs ts ps e = cc
take_up_is Counterexample f gs ts ps e = cc
take_up_is Disjunction f gs ts ps e = cc
take_up_is DeniedConjunction f gs ts ps e = cc
take_up_is Implication f gs ts ps e = cc
take_up_is Equivalence f gs ts ps e = cc
take_up_is DeniedEquivalence f gs ts ps e = cc
take_up_is Conditional f gs ts ps e = cc
take_up_is Application f gs ts ps e = cc
take_up_is Members f gs ts ps e = cc
take_up_is Instance f gs ts ps e = cc
take_up_is Spare f gs ts ps e = cc
take_up_is TakenUp f gs ts ps e = refl

pub take_up_told : (r : Rule) (f : Tree) (gs ts as' bs : List Tree) → kind_of r ≡ kind.TakeUp → told_by r f gs ts (Both as' bs) → IsOne ts
take_up_told DoubleNot f gs ts as' bs e t = cc
take_up_told Conjunction f gs ts as' bs e t = cc
take_up_told DeniedDisjunction f gs ts as' bs e t = cc
take_up_told DeniedImplication f gs ts as' bs e t = cc
take_up_told FunctionSet f gs ts as' bs e t = cc
take_up_told (LeftSide k) f gs ts as' bs e t = cc
take_up_told (DeniedLeftSide k) f gs ts as' bs e t = cc
take_up_told (Rewritten k) f gs ts as' bs e t = cc
take_up_told SameMembers f gs ts as' bs e t = cc
take_up_told FunctionValues f gs ts as' bs e t = cc
take_up_told OtherFunction f gs ts as' bs e t = cc
take_up_told Replaced f gs ts as' bs e t = cc
take_up_told TrueSide f gs ts as' bs e t = cc
take_up_told FalseLeft f gs ts as' bs e t = cc
take_up_told FalseRight f gs ts as' bs e t = cc
take_up_told Witness f gs ts as' bs e t = cc
take_up_told Counterexample f gs ts as' bs e t = cc
take_up_told Disjunction f gs ts as' bs e t = cc
take_up_told DeniedConjunction f gs ts as' bs e t = cc
take_up_told Implication f gs ts as' bs e t = cc
take_up_told Equivalence f gs ts as' bs e t = cc
take_up_told DeniedEquivalence f gs ts as' bs e t = cc
take_up_told Conditional f gs ts as' bs e t = cc
take_up_told Application f gs ts as' bs e t = cc
take_up_told Members f gs ts as' bs e t = cc
take_up_told Instance f gs ts as' bs e t = cc
take_up_told Spare f gs ts as' bs e t = cc
take_up_told TakenUp f gs ts as' bs e t = t
