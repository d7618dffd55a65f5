-- The proof tree that flat lists stand for.
use Rattle.std.specs.Prelude.{ℕ, ◌-◌, List, [], ◌∷◌, ◌++◌, length, take, drop, map}
use Rattle.std.proofs.Common.{get_or}
use Rattle.core_expr.specs.Tree.{Tree, true_}
use Rattle.core_expr.specs.Nodes.{picked, trees_of}
use Rattle.seq_calculus.specs.Calculus.{Rule, Proof, Proofs}
use Rattle.seq_calculus.specs.Calculus.Rule.{Ax, TrueR, FalseL, Weak, Cut, NotL, NotR, AndL, AndR, OrL, OrR, ImpL, ImpR, IffL, IffR, AllL, AllR, ExL, ExR, Refl, Repl, Schema}
use Rattle.seq_calculus.specs.Calculus.Proof.{step}
use Rattle.seq_calculus.specs.Calculus.Proofs.{no_more, more}
use Rattle.seq_calculus.specs.Lists.{Lists, node_of}
use Rattle.seq_calculus.specs.declared.lists.ProofStep.{ProofStep}

-- how a step's numbers and expressions are read as its rule
abbrev pub Reading : Type 0
Reading = List ℕ → List Tree → Rule

-- the expression i of a step
abbrev pub operand : List Tree → ℕ → Tree
operand es i = get_or es i true_

abbrev pub alone : Rule → Reading
alone r ns es = r

abbrev pub of_one : (Tree → Rule) → Reading
of_one r ns es = r (operand es 0)

abbrev pub of_two : (Tree → Tree → Rule) → Reading
of_two r ns es = r (operand es 0) (operand es 1)

abbrev pub of_three : (Tree → Tree → Tree → Rule) → Reading
of_three r ns es = r (operand es 0) (operand es 1) (operand es 2)

-- the expressions of the left list, then those of the right
abbrev pub of_lists : Reading
of_lists ns es = Weak (take (get_or ns 0 0) es) (drop (get_or ns 0 0) es)

-- the schema, its number, and the parameters
abbrev pub of_schema : Reading
of_schema ns es = Schema (get_or ns 0 0) (get_or ns 1 0) es

-- the rules in order of their numbers
unfoldable pub readings : List Reading
readings =
    of_one Ax ∷ alone TrueR ∷ alone FalseL ∷ of_lists ∷ of_one Cut ∷ of_one NotL ∷ of_one NotR ∷ of_two AndL ∷ of_two AndR ∷ of_two OrL ∷ of_two OrR ∷ of_two ImpL ∷ of_two ImpR ∷ of_two IffL ∷ of_two IffR ∷ of_two AllL ∷ of_one AllR ∷ of_one ExL ∷ of_two ExR
    ∷ of_one Refl ∷ of_three Repl ∷ of_schema ∷ []

abbrev pub rule_of : ℕ → Reading
rule_of r = get_or readings r (alone TrueR)

abbrev pub no_proof : Proof
no_proof = step TrueR no_more

-- the proofs at these indices
abbrev pub proofs_at : List Proof → List ℕ → Proofs
proofs_at ps [] = no_more
proofs_at ps (i ∷ is) = more (get_or ps i no_proof) (proofs_at ps is)

-- the proof of a step over the trees of the table and the proofs of the steps before it
abbrev pub proof_in : List Tree → List Proof → ProofStep → Proof
proof_in ts ps s = step (rule_of s.rule s.numbers (picked ts s.exprs)) (proofs_at ps s.premises)

abbrev pub proofs_from : List Tree → List Proof → List ProofStep → List Proof
proofs_from ts ps [] = ps
proofs_from ts ps (s ∷ ss) = proofs_from ts (ps ++ proof_in ts ps s ∷ []) ss

-- the proof of each step
abbrev pub proofs_of : List Tree → List ProofStep → List Proof
proofs_of ts ss = proofs_from ts [] ss

-- the trees of a proof's table
abbrev pub table_of : Lists → List Tree
table_of l = trees_of (map node_of l.nodes)

-- the proof tree of the last step
unfoldable pub proof_of : Lists → Proof
proof_of l = get_or (proofs_of (table_of l) l.steps) (length l.steps - 1) no_proof
