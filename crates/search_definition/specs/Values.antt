-- Values of closed formulas on a branch, and what they rest on.
use Rattle.std.specs.Prelude.{Bool, true, false, List, [], ◌∷◌, ◌++◌}
use Rattle.core_expr.specs.Tree.{Tree, true_, false_, not_, and_, or_, imp_, iff_, eq_}
use Rattle.core_expr.specs.Terms.{same}
use Rattle.seq_calculus.specs.Schemas.{are_apart}
use Rattle.search_definition.specs.Terms.{if_so, either, in_list}
use Rattle.search_definition.specs.Branches.{Branch, has, is_truth_clash}

-- The three truth values: true, false, and not known on this branch.
pub data Truth : Type 0 where
  Yes No Unknown : Truth

-- the value of ~A from that of A
abbrev pub opposite : Truth → Truth
opposite Yes = No
opposite No = Yes
opposite Unknown = Unknown

-- the value of A /\ B
abbrev pub both_true : Truth → Truth → Truth
both_true No y = No
both_true Yes y = y
both_true Unknown No = No
both_true Unknown _ = Unknown

-- the value of A \/ B
abbrev pub one_true : Truth → Truth → Truth
one_true Yes y = Yes
one_true No y = y
one_true Unknown Yes = Yes
one_true Unknown _ = Unknown

-- the value of A => B
abbrev pub implied : Truth → Truth → Truth
implied x y = one_true (opposite x) y

-- the value of A <=> B
abbrev pub same_truth : Truth → Truth → Truth
same_truth Yes y = y
same_truth No y = opposite y
same_truth Unknown y = Unknown

-- f is TRUE or t = t
abbrev pub is_plainly_true : Tree → Bool
is_plainly_true true_ = true
is_plainly_true (eq_ s t) = same s t
is_plainly_true _ = false

-- f is FALSE, an equation of two different literals, or one of TRUE and FALSE
abbrev pub is_plainly_false : Tree → Bool
is_plainly_false false_ = true
is_plainly_false (eq_ s t) = either (are_apart s t) (is_truth_clash s t)
is_plainly_false _ = false

-- f is s = t, and t = s stands on the branch
abbrev pub has_mirror : Branch → Tree → Bool
has_mirror b (eq_ s t) = has b (eq_ t s)
has_mirror b _ = false

-- f is s = t, and ~(t = s) stands on the branch
abbrev pub has_not_mirror : Branch → Tree → Bool
has_not_mirror b (eq_ s t) = has b (not_ (eq_ t s))
has_not_mirror b _ = false

-- Why a formula has a value as a whole, before its connective is looked at: it stands on the branch; it is true by itself; its mirror stands there; its Not stands there; it is false by itself; the Not of its mirror stands there; or there is no such reason.
pub data Whole : Type 0 where
  Stands ByItself Mirrored NotStands FalseItself NotMirrored Undecided : Whole

-- the first reason that fits
abbrev pub whole : Branch → Tree → Whole
whole b f =
    if_so (has b f) Stands (
    if_so (is_plainly_true f) ByItself (
    if_so (has_mirror b f) Mirrored (
    if_so (has b (not_ f)) NotStands (if_so (is_plainly_false f) FalseItself (if_so (has_not_mirror b f) NotMirrored Undecided))
    )
    )
    )

-- the value by a reason, or else the value by the connective
abbrev pub truth_by : Whole → Truth → Truth
truth_by Stands y = Yes
truth_by ByItself y = Yes
truth_by Mirrored y = Yes
truth_by NotStands y = No
truth_by FalseItself y = No
truth_by NotMirrored y = No
truth_by Undecided y = y

-- the three-valued value of a closed formula on a branch: as a whole where it has one, else by its connective
unfoldable pub truth : Branch → Tree → Truth
truth b (not_ a) = truth_by (whole b (not_ a)) (opposite (truth b a))
truth b (and_ x y) = truth_by (whole b (and_ x y)) (both_true (truth b x) (truth b y))
truth b (or_ x y) = truth_by (whole b (or_ x y)) (one_true (truth b x) (truth b y))
truth b (imp_ x y) = truth_by (whole b (imp_ x y)) (implied (truth b x) (truth b y))
truth b (iff_ x y) = truth_by (whole b (iff_ x y)) (same_truth (truth b x) (truth b y))
truth b f = truth_by (whole b f) Unknown

-- the equation the other way round
abbrev pub mirror : Tree → Tree
mirror (eq_ s t) = eq_ t s
mirror f = f

-- the formulas on the branch that a reason rests on, or else those by the connective
abbrev pub grounds_by : Whole → Tree → List Tree → List Tree
grounds_by Stands f gs = f ∷ []
grounds_by ByItself f gs = []
grounds_by Mirrored f gs = mirror f ∷ []
grounds_by NotStands f gs = not_ f ∷ []
grounds_by FalseItself f gs = []
grounds_by NotMirrored f gs = not_ (mirror f) ∷ []
grounds_by Undecided f gs = gs

-- xs, and those of ys that are new, each once, in the order in which they are found
abbrev pub merged : List Tree → List Tree → List Tree
merged xs [] = xs
merged xs (y ∷ ys) = if_so (in_list xs y) (merged xs ys) (merged (xs ++ y ∷ []) ys)

-- the grounds, where the value is known
abbrev pub where_known : Truth → List Tree → List Tree
where_known Unknown gs = []
where_known _ gs = gs

-- the formulas on the branch that the value of f rests on, each once, in the order in which they are found: those of all parts whose value is known; none where the value is not known
unfoldable pub grounds : Branch → Tree → List Tree
grounds b (not_ a) = grounds_by (whole b (not_ a)) (not_ a) (grounds b a)
grounds b (and_ x y) = grounds_by (whole b (and_ x y)) (and_ x y) (where_known (both_true (truth b x) (truth b y)) (merged (grounds b x) (grounds b y)))
grounds b (or_ x y) = grounds_by (whole b (or_ x y)) (or_ x y) (where_known (one_true (truth b x) (truth b y)) (merged (grounds b x) (grounds b y)))
grounds b (imp_ x y) = grounds_by (whole b (imp_ x y)) (imp_ x y) (where_known (implied (truth b x) (truth b y)) (merged (grounds b x) (grounds b y)))
grounds b (iff_ x y) = grounds_by (whole b (iff_ x y)) (iff_ x y) (where_known (same_truth (truth b x) (truth b y)) (merged (grounds b x) (grounds b y)))
grounds b f = grounds_by (whole b f) f []

-- the value is true
abbrev pub is_yes : Truth → Bool
is_yes Yes = true
is_yes _ = false

-- the value is false
abbrev pub is_no : Truth → Bool
is_no No = true
is_no _ = false

-- each of the formulas is true, by the given values
abbrev pub all_yes : (Tree → Truth) → List Tree → Bool
all_yes value [] = true
all_yes value (f ∷ fs) = if_so (is_yes (value f)) (all_yes value fs) false

-- one of the formulas is false, by the given values
abbrev pub some_no : (Tree → Truth) → List Tree → Bool
some_no value [] = false
some_no value (f ∷ fs) = either (is_no (value f)) (some_no value fs)

-- the grounds of the first of the formulas that is false on the branch
abbrev pub first_no : Branch → List Tree → List Tree
first_no b [] = []
first_no b (f ∷ fs) = if_so (is_no (truth b f)) (grounds b f) (first_no b fs)
