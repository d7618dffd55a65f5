-- Formulas of which none was false so far.
use Rattle.std.specs.Prelude.{◌≡◌, ℕ, ◌<◌, ◌≤◌, List}
use Rattle.std.proofs.Common.{drop}
use Rattle.core_expr.specs.Nodes.{picked}
use Rattle.proof_writer.specs.Written.{Written, count, opens, tree_at}
use Rattle.proof_trees.specs.Valued.{entries_of, first_false}

-- the first k of the formulas are not false by the grounds, and the open proofs are as they were
pub record IsPassing (v w : Written) (gs fs : List ℕ) (k : ℕ) : Type 0 where
  pub more : count v ≤ count w
  pub same : (i : ℕ) → i < count v → tree_at w i ≡ tree_at v i
  pub opens : opens w ≡ opens v
  pub rest : first_false (entries_of (picked v.trees gs)) (picked v.trees fs) ≡ first_false (entries_of (picked v.trees gs)) (picked v.trees (drop k fs))
