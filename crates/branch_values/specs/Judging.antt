-- Values, and how the value of a formula is that of its parts.
use Rattle.std.specs.Prelude.{ℕ, List, [], ◌∷◌}
use Rattle.core_expr.specs.Tree.{Tree, not_, and_, or_, imp_, iff_}
use Rattle.term_bank.specs.Banks.{tree_at}
use Rattle.search_definition.specs.Branches.{Branch}
use Rattle.search_definition.specs.Values.{Truth, opposite, both_true, one_true, implied, same_truth, merged, where_known, truth, grounds}
use Rattle.search_definition.specs.Values.Truth.{Yes, No, Unknown}
use Rattle.branch_values.specs.declared.value.Value.{Value}
use Rattle.branch_values.specs.declared.value.Value.TheVariants as value
use Rattle.branch_values.specs.declared.value.Connective.{Connective}
use Rattle.branch_values.specs.declared.value.Connective.TheVariants as connective
use Rattle.branch_values.specs.declared.link.Link.{Link}
use Rattle.branch_values.specs.declared.link.Link.TheVariants.{Alone, Denied, Joined}

-- the truth value that a value stands for
abbrev pub truth_of : Value → Truth
truth_of value.Yes = Yes
truth_of value.No = No
truth_of value.Unknown = Unknown

-- the value of two formulas joined by the connective
abbrev pub joined_truth : Connective → Truth → Truth → Truth
joined_truth connective.And x y = both_true x y
joined_truth connective.Or x y = one_true x y
joined_truth connective.Imp x y = implied x y
joined_truth connective.Iff x y = same_truth x y

-- What a formula is by its connective: it has none; it is a Not; or it joins two formulas.
pub data Linking : Type 0 where
  Plain : Linking
  NotOf : Tree → Linking
  Joining : Connective → Tree → Tree → Linking

abbrev pub linking : Tree → Linking
linking (not_ a) = NotOf a
linking (and_ x y) = Joining connective.And x y
linking (or_ x y) = Joining connective.Or x y
linking (imp_ x y) = Joining connective.Imp x y
linking (iff_ x y) = Joining connective.Iff x y
linking f = Plain

-- the formula's parts by their trees
abbrev pub link_trees : List Tree → Link → Linking
link_trees ts Alone = Plain
link_trees ts (Denied a) = NotOf (tree_at ts a)
link_trees ts (Joined c x y) = Joining c (tree_at ts x) (tree_at ts y)

-- the indices of the parts
abbrev pub link_parts : Link → List ℕ
link_parts Alone = []
link_parts (Denied a) = a ∷ []
link_parts (Joined c x y) = x ∷ y ∷ []

-- the value by the connective
abbrev pub linking_truth : Branch → Linking → Truth
linking_truth b Plain = Unknown
linking_truth b (NotOf a) = opposite (truth b a)
linking_truth b (Joining c x y) = joined_truth c (truth b x) (truth b y)

-- what the value by the connective rests on
abbrev pub linking_grounds : Branch → Linking → List Tree
linking_grounds b Plain = []
linking_grounds b (NotOf a) = grounds b a
linking_grounds b (Joining c x y) = where_known (joined_truth c (truth b x) (truth b y)) (merged (grounds b x) (grounds b y))
