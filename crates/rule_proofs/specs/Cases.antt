-- Cases of proof trees by what code finds of a formula.
use Rattle.std.specs.Prelude.{◌≡◌, Bool, true, false}
use Rattle.core_expr.specs.Tree.{Tree, true_, false_, not_, eq_}
use Rattle.seq_calculus.specs.Calculus.{Proof}
use Rattle.search_definition.specs.Equations.{same_members}
use Rattle.proof_writer.specs.Shapes.{mirror}
use Rattle.proof_trees.specs.Closings.{true_is_false}

-- the clash of TRUE and FALSE, by whether TRUE comes first
abbrev pub truths_by : Bool → Proof
truths_by true = true_is_false
truths_by false = mirror false_ true_ true_is_false

-- what is added to an equation of sets, and to its Not
abbrev pub AddsMembers : Tree → Tree → Type 0
AddsMembers (eq_ s t) a = a ≡ same_members s t
AddsMembers f a = Unit {0}

abbrev pub DeniesMembers : Tree → Tree → Type 0
DeniesMembers (not_ (eq_ s t)) a = a ≡ not_ (same_members s t)
DeniesMembers f a = Unit {0}
