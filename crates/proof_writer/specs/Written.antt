-- A proof that is being written: its expressions, its steps, and the steps that are no premise yet.
use Rattle.std.specs.Prelude.{◌≡◌, ℕ, suc, List, [], ◌∷◌, ◌++◌, length}
use Rattle.std.specs.Coded.{Coded, code_by, coded×, coded_ℕ, coded_list}
use Rattle.std.proofs.Common.{get_or, refl}
use Rattle.core_expr.specs.Tree.{Tree, true_}
use Rattle.core_expr.specs.Coding.{tree_code}
use Rattle.core_expr.specs.Nodes.{AreBelow}
use Rattle.seq_calculus.specs.declared.lists.ProofStep.{ProofStep}
use Rattle.seq_calculus.specs.Calculus.{Proof}
use Rattle.seq_calculus.specs.Lists.{Lists, lists_code, AreSteps, AreApart, all_premises}
use Rattle.seq_calculus.specs.Steps.{proofs_of, no_proof}

-- The expressions; the steps; and the unused steps, the latest first: those that are still to be premises.
pub record Written : Type 0 where
  pub trees : List Tree
  pub steps : List ProofStep
  pub unused : List ℕ

abbrev pub written_code : Coded Written
written_code = code_by (List Tree × (Lists × List ℕ)) (coded× (coded_list tree_code) (coded× lists_code (coded_list coded_ℕ))) (λ w. (w.trees, (record { nodes = []; steps = w.steps }, w.unused))) (λ p. record { trees = p.0; steps = p.1.0.steps; unused = p.1.1 }) (λ _. refl)

-- how many expressions there are
abbrev pub count : Written → ℕ
count w = length w.trees

-- the expression of a number
abbrev pub tree_at : Written → ℕ → Tree
tree_at w i = get_or w.trees i true_

-- the steps are those of a proof over the expressions, and each unused step is a premise nowhere and stands once
pub record IsWritten (w : Written) : Type 0 where
  pub steps : AreSteps (count w) 0 w.steps
  pub unused : AreBelow (length w.steps) w.unused
  pub once : AreApart (all_premises w.steps ++ w.unused)

-- the list backwards, before acc
abbrev pub backwards : List ℕ → List ℕ → List ℕ
backwards acc [] = acc
backwards acc (x ∷ xs) = backwards (x ∷ acc) xs

-- what is written, where the unused steps are kept with the latest last
abbrev pub seen_of : List Tree → List ProofStep → List ℕ → Written
seen_of ts ss os = record { trees = ts; steps = ss; unused = backwards [] os }

-- the proofs of these steps
abbrev pub proofs_on : List Proof → List ℕ → List Proof
proofs_on ps [] = []
proofs_on ps (i ∷ is) = get_or ps i no_proof ∷ proofs_on ps is

-- the proofs of the unused steps, the latest first
unfoldable pub opens : Written → List Proof
opens w = proofs_on (proofs_of w.trees w.steps) w.unused

-- more unused steps
abbrev pub with_unused : Written → List ℕ → Written
with_unused w is = record { trees = w.trees; steps = w.steps; unused = is ++ w.unused }

-- a step comes to the end, and is unused
abbrev pub grown : Written → ProofStep → Written
grown w s = record { trees = w.trees; steps = w.steps ++ s ∷ []; unused = length w.steps ∷ w.unused }

-- the first of the numbers is one less than n
abbrev pub IsHead : List ℕ → ℕ → Type 0
IsHead [] n = ⊥
IsHead (i ∷ is) n = n ≡ suc i

-- the latest open step is the last step
abbrev pub IsLast : Written → Type 0
IsLast w = IsHead w.unused (length w.steps)
