-- What the premises of a rule add, by numbers of a bank.
use Rattle.std.specs.Prelude.{◌≡◌, ℕ, Option, Some, None, List, [], ◌∷◌, length}
use Rattle.core_expr.specs.Tree.{Tree, eq_}
use Rattle.core_expr.specs.Put.{inst, IsScoped}
use Rattle.core_expr.specs.Nodes.{node_make}
use Rattle.term_bank.specs.Banks.{HasTree}
use Rattle.seq_calculus.specs.Calculus.{Has, Rule, Sequent, Proofs, Fits, premises, AreCorrect}
use Rattle.proof_checker.specs.declared.rule.Connective.{Connective}
use Rattle.proof_checker.specs.declared.rule.Connective.TheVariants.{AndL, AndR, OrL, OrR, ImpL, ImpR, IffL, IffR}
use Rattle.proof_checker.specs.declared.task.Adds.{Adds}
use Rattle.proof_checker.specs.declared.task.Adds.TheVariants.{Nothing, One, Both}
use Rattle.proof_checker.specs.declared.task.Premise.{Premise}
use Rattle.proof_checker.specs.declared.task.Plan.{Plan}
use Rattle.proof_checker.specs.declared.task.Plan.TheVariants.{Closed, Single, Pair}
use Rattle.proof_checker.specs.declared.side.Side.{Side}
use Rattle.proof_checker.specs.Sides.{added, AddsBelow, AreFormulas}

abbrev pub adding : Adds → Adds → Premise
adding l r = record { left = l; right = r }

-- the premises of a rule of a connective, by its two parts
abbrev pub plan_of : Connective → ℕ → ℕ → Plan
plan_of AndL a b = Single (adding (Both a b) Nothing)
plan_of AndR a b = Pair (adding Nothing (One a)) (adding Nothing (One b))
plan_of OrL a b = Pair (adding (One a) Nothing) (adding (One b) Nothing)
plan_of OrR a b = Single (adding Nothing (Both a b))
plan_of ImpL a b = Pair (adding Nothing (One a)) (adding (One b) Nothing)
plan_of ImpR a b = Single (adding (One a) (One b))
plan_of IffL a b = Pair (adding (Both a b) Nothing) (adding Nothing (Both a b))
plan_of IffR a b = Pair (adding (One a) (One b)) (adding (One b) (One a))

abbrev pub sequent : List Tree → Premise → List Tree → List Tree → Sequent
sequent ts x g d = record { left = added ts x.left g; right = added ts x.right d }

-- the sequents of the premises over two sides
abbrev pub sequents : List Tree → Plan → List Tree → List Tree → List Sequent
sequents ts Closed g d = []
sequents ts (Single x) g d = sequent ts x g d ∷ []
sequents ts (Pair x y) g d = sequent ts x g d ∷ sequent ts y g d ∷ []

abbrev pub PremiseBelow : ℕ → Premise → Type 0
PremiseBelow n x = AddsBelow n x.left × AddsBelow n x.right

abbrev pub PlanBelow : ℕ → Plan → Type 0
PlanBelow n Closed = Unit {0}
PlanBelow n (Single x) = PremiseBelow n x
PlanBelow n (Pair x y) = PremiseBelow n x × PremiseBelow n y

-- A rule over two sides: its premises where it fits; or no premises of it are proved.
abbrev pub Plans : List Tree → Rule → List Tree → List Tree → Option Plan → Type 0
Plans ts r g d (Some p) = Fits r g d × (premises r g d ≡ sequents ts p g d) × PlanBelow (length ts) p
Plans ts r g d None = (ps : Proofs) → Fits r g d → AreCorrect ps (premises r g d) → ⊥

-- both sides are closed trees of the bank
abbrev pub AreSides : List Tree → Side → Side → Type 0
AreSides ts l r = AreFormulas ts l.trail × AreFormulas ts r.trail

-- a premise that adds what was found
abbrev pub left_plan : Option ℕ → Option Plan
left_plan (Some j) = Some (Single (adding (One j) Nothing))
left_plan None = None

abbrev pub right_plan : Option ℕ → Option Plan
right_plan (Some j) = Some (Single (adding Nothing (One j)))
right_plan None = None

-- the body p with a closed t for its variable, where the quantified p is on the side
abbrev pub Opens : List Tree → List Tree → ℕ → Tree → Tree → Option ℕ → Type 0
Opens ts' g h p t (Some j) = Has g (node_make h [] (p ∷ [])) × IsScoped 0 t × HasTree ts' j (inst p t)
Opens ts' g h p t None = Has g (node_make h [] (p ∷ [])) → IsScoped 0 t → ⊥

-- the replacement of s by t in the body h
abbrev pub Replaces : List Tree → List Tree → Tree → Tree → Tree → Option ℕ → Type 0
Replaces ts' g h s t (Some j) = (Has g (eq_ s t) × Has g (inst h s) × IsScoped 1 h) × HasTree ts' j (inst h t)
Replaces ts' g h s t None = Has g (eq_ s t) → Has g (inst h s) → IsScoped 1 h → ⊥
