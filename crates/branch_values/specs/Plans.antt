-- Plans: formulas below a formula through connectives, each before its parts.
use Rattle.std.specs.Prelude.{◌≡◌, ℕ, ◌<◌, List, [], ◌∷◌, ◌++◌, length, map}
use Rattle.core_expr.specs.Tree.{Tree}
use Rattle.core_expr.specs.Nodes.{AreBelow}
use Rattle.term_bank.specs.Banks.{tree_at}
use Rattle.term_bank.specs.Images.{In}
use Rattle.search_definition.specs.Branches.{Branch}
use Rattle.search_definition.specs.Values.{truth, grounds}
use Rattle.formula_rules.specs.Answers.{trees_at}
use Rattle.branch_values.specs.declared.work.Work.{Work}
use Rattle.branch_values.specs.declared.work.Work.TheVariants.{Known, Linked}
use Rattle.branch_values.specs.declared.work.Task.{Task}
use Rattle.branch_values.specs.Judging.{truth_of, link_trees, link_parts, linking_truth, linking_grounds}
use Rattle.branch_values.specs.Reasons.{basis_list}

-- what is to be done gives the value and the grounds of the formula
abbrev pub IsWork : List Tree → Branch → ℕ → Work → Type 0
IsWork ts b i (Known r) = (truth b (tree_at ts i) ≡ truth_of r.value) × (grounds b (tree_at ts i) ≡ trees_at ts (basis_list r.basis)) × AreBelow (length ts) (basis_list r.basis)
IsWork ts b i (Linked l) = (truth b (tree_at ts i) ≡ linking_truth b (link_trees ts l)) × (grounds b (tree_at ts i) ≡ linking_grounds b (link_trees ts l)) × AreBelow i (link_parts l)

-- the formulas whose value is needed first
abbrev pub needed : Work → List ℕ
needed (Known r) = []
needed (Linked l) = link_parts l

abbrev pub indices : List Task → List ℕ
indices ws = map (λ w. w.index) ws

-- all of the first are in the second
abbrev pub AreIn : List ℕ → List ℕ → Type 0
AreIn ps xs = (q : ℕ) → In q ps → In q xs

-- what each task needs comes after it or is to do
abbrev pub ArePlanned : List Tree → Branch → List Task → List ℕ → Type 0
ArePlanned ts b [] todo = Unit {0}
ArePlanned ts b (w ∷ ws) todo = (w.index < length ts) × IsWork ts b w.index w.work × AreIn (needed w.work) (indices ws ++ todo) × ArePlanned ts b ws todo

-- a plan from e: what is planned and what is to do
pub record IsPlan (ts : List Tree) (b : Branch) (e : ℕ) (tasks : List Task) (todo : List ℕ) : Type 0 where
  pub planned : ArePlanned ts b tasks todo
  pub within : (q : ℕ) → In q todo → q < length ts
  pub has_start : In e (indices tasks ++ todo)
