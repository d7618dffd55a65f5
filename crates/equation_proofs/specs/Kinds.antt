-- Rules by how their proofs stand over those of their sides.
use Rattle.search_definition.specs.declared.rule.Rule.{Rule}
use Rattle.search_definition.specs.declared.rule.Rule.TheVariants.{Disjunction, DeniedConjunction, Implication, Equivalence, DeniedEquivalence, Conditional, Application, TakenUp}
use Rattle.equation_proofs.specs.declared.kinds.Kind.{Kind}
use Rattle.equation_proofs.specs.declared.kinds.Kind.TheVariants as kind

-- the kind of a rule
abbrev pub kind_of : Rule → Kind
kind_of Disjunction = kind.Split
kind_of DeniedConjunction = kind.Split
kind_of Implication = kind.Split
kind_of Equivalence = kind.Split
kind_of DeniedEquivalence = kind.Split
kind_of Conditional = kind.TermSplit
kind_of Application = kind.TermSplit
kind_of TakenUp = kind.TakeUp
kind_of _ = kind.Single
