-- What is proved of the proof trees. Each statement is the contract of a function of src/laws.rt.
use Rattle.std.specs.Prelude.{◌≡◌, ℕ, List, [], ◌∷◌}
use Rattle.core_expr.specs.Tree.{Tree}
use Rattle.seq_calculus.specs.Calculus.{IsClosed, AllClosed, Correct, Proof}
use Rattle.search_definition.specs.Branches.{Branch}
use Rattle.search_definition.specs.Rules.{Result}
use Rattle.search_definition.specs.Instances.{Fresh}
use Rattle.search_definition.specs.Search.{Applies, search, steps}
use Rattle.search_definition.specs.Search.End.{Closed}
use Rattle.proof_writer.specs.Shapes.{neg_left}
use Rattle.proof_trees.specs.Says.{Carries}
use Rattle.proof_trees.specs.By.{by}
use Rattle.proof_trees.specs.Machine.{back}
use Rattle.proof_trees.specs.Told.{MovesTold}

-- the proof tree of a rule that applies, over proofs of its sides, is correct over what the rule names
abbrev pub RulesAreCarried : Type 0
RulesAreCarried = (w : Fresh) (b : Branch) (r : Result) → Applies w b r → Carries r.step (by r)

-- where the search ends closed, the loop over its steps, from the last to the first, ends with one finished part; with the goal's Not taken away, its proof is correct for the obligation
abbrev pub LoopProves : Type 0
LoopProves =
    (facts : List Tree) (goal : Tree) (limit used : ℕ) → AllClosed facts → IsClosed goal → search facts goal limit ≡ Closed used
    → (p : Proof) × ((back (steps facts goal limit) 1 (steps facts goal limit)).parts ≡ record { proofs = p ∷ []; seconds = [] }) × Correct (neg_left goal p) facts (goal ∷ [])

-- where the search ends closed, each of its steps tells what the translation needs
abbrev pub StepsTold : Type 0
StepsTold = (facts : List Tree) (goal : Tree) (limit used : ℕ) → AllClosed facts → IsClosed goal → search facts goal limit ≡ Closed used → MovesTold (steps facts goal limit)
