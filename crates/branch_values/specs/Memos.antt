-- Values and grounds that are kept by index.
use Rattle.std.specs.Prelude.{◌≡◌, ℕ, Bool, false, nat_eq, Option, Some, None, List, [], ◌∷◌, ◌++◌, length}
use Rattle.std.proofs.Common.{Vec, Global}
use Rattle.std.specs.Ordering.{nat_cmp}
use Rattle.std.specs.Map.{lookup}
use Rattle.std.specs.BTreeMap.{is_at}
use Rattle.core_expr.specs.Tree.{Tree}
use Rattle.core_expr.specs.Nodes.{AreBelow}
use Rattle.term_bank.specs.Banks.{tree_at}
use Rattle.term_bank.specs.Images.{In}
use Rattle.search_definition.specs.Terms.{if_so, either}
use Rattle.search_definition.specs.Branches.{Branch}
use Rattle.search_definition.specs.Values.{Truth, opposite, truth, grounds}
use Rattle.search_definition.specs.Values.Truth.{Unknown}
use Rattle.formula_rules.specs.Answers.{trees_at}
use Rattle.branch_values.specs.declared.value.Value.{Value}
use Rattle.branch_values.specs.declared.value.Value.TheVariants as value
use Rattle.branch_values.specs.declared.link.Link.{Link}
use Rattle.branch_values.specs.declared.link.Link.TheVariants.{Alone, Denied, Joined}
use Rattle.branch_values.specs.declared.work.Work.{Work}
use Rattle.branch_values.specs.declared.work.Work.TheVariants.{Known, Linked}
use Rattle.branch_values.specs.Judging.{truth_of, joined_truth}
use Rattle.branch_values.specs.Reasons.{basis_list}

-- what is kept at an index
abbrev pub at_index : {A : Type 0} → ℕ → List (ℕ × A) → Option A
at_index q es = lookup (is_at (nat_cmp q)) es

abbrev pub or_unknown : Option Value → Value
or_unknown None = value.Unknown
or_unknown (Some v) = v

abbrev pub or_none : Option (Vec ℕ Global) → List ℕ
or_none None = []
or_none (Some v) = v.items

-- the value that is kept at an index, not known where none is
abbrev pub kept_value : List (ℕ × Value) → ℕ → Value
kept_value es q = or_unknown (at_index q es)

-- the grounds that are kept at an index, none where none are
abbrev pub kept_grounds : List (ℕ × Vec ℕ Global) → ℕ → List ℕ
kept_grounds es q = or_none (at_index q es)

-- the value by the connective over the values of the parts
abbrev pub link_truth : (ℕ → Truth) → Link → Truth
link_truth f Alone = Unknown
link_truth f (Denied a) = opposite (f a)
link_truth f (Joined c x y) = joined_truth c (f x) (f y)

-- the value over those of the formulas that are needed
abbrev pub work_truth : (ℕ → Truth) → Work → Truth
work_truth f (Known r) = truth_of r.value
work_truth f (Linked l) = link_truth f l

-- the values that are kept, as truth values
abbrev pub kept_truth : List (ℕ × Value) → ℕ → Truth
kept_truth es q = truth_of (kept_value es q)

-- y is in the list
abbrev pub in_numbers : List ℕ → ℕ → Bool
in_numbers [] y = false
in_numbers (x ∷ xs) y = either (nat_eq x y) (in_numbers xs y)

-- xs, and those of ys that are new, each once
abbrev pub merged_numbers : List ℕ → List ℕ → List ℕ
merged_numbers xs [] = xs
merged_numbers xs (y ∷ ys) = if_so (in_numbers xs y) (merged_numbers xs ys) (merged_numbers (xs ++ y ∷ []) ys)

-- the numbers, where the value is known
abbrev pub numbers_known : Truth → List ℕ → List ℕ
numbers_known Unknown gs = []
numbers_known _ gs = gs

-- the grounds by the connective over those of the parts
abbrev pub link_grounds : (ℕ → Truth) → (ℕ → List ℕ) → Link → List ℕ
link_grounds f g Alone = []
link_grounds f g (Denied a) = g a
link_grounds f g (Joined c x y) = numbers_known (joined_truth c (f x) (f y)) (merged_numbers (g x) (g y))

abbrev pub work_grounds : (ℕ → Truth) → (ℕ → List ℕ) → Work → List ℕ
work_grounds f g (Known r) = basis_list r.basis
work_grounds f g (Linked l) = link_grounds f g l

-- what is kept is the value of the formula
abbrev pub IsValue : List Tree → Branch → ℕ → Option Value → Type 0
IsValue ts b q o = truth_of (or_unknown o) ≡ truth b (tree_at ts q)

-- what is kept are the grounds of the formula
abbrev pub AreGrounds : List Tree → Branch → ℕ → Option (Vec ℕ Global) → Type 0
AreGrounds ts b q o = (trees_at ts (or_none o) ≡ grounds b (tree_at ts q)) × AreBelow (length ts) (or_none o)

-- the values of all these formulas are kept
abbrev pub HaveValues : List Tree → Branch → List (ℕ × Value) → List ℕ → Type 0
HaveValues ts b es is = (q : ℕ) → In q is → IsValue ts b q (at_index q es)

-- the grounds of all these formulas are kept
abbrev pub HaveGrounds : List Tree → Branch → List (ℕ × Vec ℕ Global) → List ℕ → Type 0
HaveGrounds ts b es is = (q : ℕ) → In q is → AreGrounds ts b q (at_index q es)
