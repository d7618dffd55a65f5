-- Inferences: the rules of the calculus over expressions by number.
use Rattle.std.specs.Prelude.{ℕ, List, [], ◌∷◌}
use Rattle.std.proofs.Common.{get_or}
use Rattle.core_expr.specs.Tree.{Tree, true_}
use Rattle.core_expr.specs.Nodes.{AreBelow}
use Rattle.seq_calculus.specs.Calculus.{Rule}
use Rattle.seq_calculus.specs.Calculus.Rule.{Ax, TrueR, FalseL, NotL, NotR, AndL, AndR, OrL, OrR, ImpL, ImpR, IffL, IffR, AllL, AllR, ExL, ExR, Refl, Repl}
use Rattle.seq_calculus.specs.Calculus.Rule.{Cut as CutBy}
use Rattle.seq_calculus.specs.declared.lists.ProofStep.{ProofStep}
use Rattle.proof_writer.specs.declared.inference.Inference.{Inference}
use Rattle.proof_writer.specs.declared.inference.Inference.TheVariants.{Axiom, TrueRight, FalseLeft, Cut, NotLeft, NotRight, AndLeft, AndRight, OrLeft, OrRight, ImpLeft, ImpRight, IffLeft, IffRight, AllLeft, AllRight, ExistsLeft, ExistsRight, Reflexive, Replacement}

-- the rule of the calculus
abbrev pub rule_at : List Tree → Inference → Rule
rule_at ts (Axiom a) = Ax (get_or ts a true_)
rule_at ts TrueRight = TrueR
rule_at ts FalseLeft = FalseL
rule_at ts (Cut a) = CutBy (get_or ts a true_)
rule_at ts (NotLeft a) = NotL (get_or ts a true_)
rule_at ts (NotRight a) = NotR (get_or ts a true_)
rule_at ts (AndLeft a b) = AndL (get_or ts a true_) (get_or ts b true_)
rule_at ts (AndRight a b) = AndR (get_or ts a true_) (get_or ts b true_)
rule_at ts (OrLeft a b) = OrL (get_or ts a true_) (get_or ts b true_)
rule_at ts (OrRight a b) = OrR (get_or ts a true_) (get_or ts b true_)
rule_at ts (ImpLeft a b) = ImpL (get_or ts a true_) (get_or ts b true_)
rule_at ts (ImpRight a b) = ImpR (get_or ts a true_) (get_or ts b true_)
rule_at ts (IffLeft a b) = IffL (get_or ts a true_) (get_or ts b true_)
rule_at ts (IffRight a b) = IffR (get_or ts a true_) (get_or ts b true_)
rule_at ts (AllLeft p t) = AllL (get_or ts p true_) (get_or ts t true_)
rule_at ts (AllRight p) = AllR (get_or ts p true_)
rule_at ts (ExistsLeft p) = ExL (get_or ts p true_)
rule_at ts (ExistsRight p t) = ExR (get_or ts p true_) (get_or ts t true_)
rule_at ts (Reflexive t) = Refl (get_or ts t true_)
rule_at ts (Replacement h s t) = Repl (get_or ts h true_) (get_or ts s true_) (get_or ts t true_)

-- the number of the rule
abbrev pub number_of : Inference → ℕ
number_of (Axiom a) = 0
number_of TrueRight = 1
number_of FalseLeft = 2
number_of (Cut a) = 4
number_of (NotLeft a) = 5
number_of (NotRight a) = 6
number_of (AndLeft a b) = 7
number_of (AndRight a b) = 8
number_of (OrLeft a b) = 9
number_of (OrRight a b) = 10
number_of (ImpLeft a b) = 11
number_of (ImpRight a b) = 12
number_of (IffLeft a b) = 13
number_of (IffRight a b) = 14
number_of (AllLeft p t) = 15
number_of (AllRight p) = 16
number_of (ExistsLeft p) = 17
number_of (ExistsRight p t) = 18
number_of (Reflexive t) = 19
number_of (Replacement h s t) = 20

-- its expressions
abbrev pub exprs_of : Inference → List ℕ
exprs_of (Axiom a) = a ∷ []
exprs_of TrueRight = []
exprs_of FalseLeft = []
exprs_of (Cut a) = a ∷ []
exprs_of (NotLeft a) = a ∷ []
exprs_of (NotRight a) = a ∷ []
exprs_of (AndLeft a b) = a ∷ b ∷ []
exprs_of (AndRight a b) = a ∷ b ∷ []
exprs_of (OrLeft a b) = a ∷ b ∷ []
exprs_of (OrRight a b) = a ∷ b ∷ []
exprs_of (ImpLeft a b) = a ∷ b ∷ []
exprs_of (ImpRight a b) = a ∷ b ∷ []
exprs_of (IffLeft a b) = a ∷ b ∷ []
exprs_of (IffRight a b) = a ∷ b ∷ []
exprs_of (AllLeft p t) = p ∷ t ∷ []
exprs_of (AllRight p) = p ∷ []
exprs_of (ExistsLeft p) = p ∷ []
exprs_of (ExistsRight p t) = p ∷ t ∷ []
exprs_of (Reflexive t) = t ∷ []
exprs_of (Replacement h s t) = h ∷ s ∷ t ∷ []

-- how many premises it has
abbrev pub premises_of : Inference → ℕ
premises_of (Axiom a) = 0
premises_of TrueRight = 0
premises_of FalseLeft = 0
premises_of (Cut a) = 2
premises_of (NotLeft a) = 1
premises_of (NotRight a) = 1
premises_of (AndLeft a b) = 1
premises_of (AndRight a b) = 2
premises_of (OrLeft a b) = 2
premises_of (OrRight a b) = 1
premises_of (ImpLeft a b) = 2
premises_of (ImpRight a b) = 1
premises_of (IffLeft a b) = 2
premises_of (IffRight a b) = 2
premises_of (AllLeft p t) = 1
premises_of (AllRight p) = 1
premises_of (ExistsLeft p) = 1
premises_of (ExistsRight p t) = 1
premises_of (Reflexive t) = 0
premises_of (Replacement h s t) = 1

-- its expressions have numbers below n
abbrev pub IsUnder : ℕ → Inference → Type 0
IsUnder n i = AreBelow n (exprs_of i)

-- the step over these premises
abbrev pub step_of : Inference → List ℕ → ProofStep
step_of i is = record { rule = number_of i; numbers = []; exprs = exprs_of i; premises = is }

-- the step of a schema over these premises
abbrev pub schema_step : ℕ → ℕ → List ℕ → ℕ → List ℕ → ProofStep
schema_step k z ps n is = record { rule = 21; numbers = k ∷ z ∷ n ∷ []; exprs = ps; premises = is }
