-- Closed trees of turns, with what they use, and their steps in order.
use Rattle.std.specs.Prelude.{◌≡◌, ℕ, suc, ◌+◌, Bool, true, false, Option, Some, List, [], ◌∷◌, ◌++◌}
use Rattle.core_expr.specs.Tree.{Tree}
use Rattle.search_definition.specs.Terms.{if_so, either, in_list}
use Rattle.search_definition.specs.Branches.{Branch, has, Closing, closing}
use Rattle.search_definition.specs.Rules.{Result, stays, stays_second}
use Rattle.search_definition.specs.Rules.Sides.{Alone, Both}
use Rattle.search_definition.specs.Instances.{Fresh}
use Rattle.search_definition.specs.Search.{first_rule, Applies, side_branch, lacking, Move}
use Rattle.search_definition.specs.Search.Move.{Shuts, Applied}

-- A tree of turns: shut is a closing; one is a rule with one resulting branch and a tree for it; first is a split whose first side alone has a tree, and both a split with a tree for each side. Each rule comes with what it adds.
pub data Turns : Type 0 where
  shut : Closing → Turns
  one : Result → List Tree → Turns → Turns
  first : Result → List Tree → List Tree → Turns → Turns
  both : Result → List Tree → List Tree → Turns → Turns → Turns

-- the branch of a rule's only or first side, and of its second side
abbrev pub first_branch : Result → Branch → List Tree → Branch
first_branch r b fs = side_branch (stays r.step.rule) r b fs

abbrev pub second_branch : Result → Branch → List Tree → Branch
second_branch r b gs = side_branch (stays_second r.step.rule) r b gs

-- the formulas that are not on the branch yet
abbrev pub newly : Branch → List Tree → List Tree
newly b [] = []
newly b (f ∷ fs) = if_so (has b f) (newly b fs) (f ∷ newly b fs)

-- us without those in ns
abbrev pub minus : List Tree → List Tree → List Tree
minus [] ns = []
minus (u ∷ us) ns = if_so (in_list ns u) (minus us ns) (u ∷ minus us ns)

-- one of us is in ns
abbrev pub meets : List Tree → List Tree → Bool
meets [] ns = false
meets (u ∷ us) ns = either (in_list ns u) (meets us ns)

-- what a rule uses whose results use us, of which ns are newly added: the rest, and, where one of ns is used, the formulas that the rule names
abbrev pub used_with : Bool → List Tree → List Tree → List Tree
used_with true named us = named ++ us
used_with false named us = us

-- What a tree uses of its branch. Of a closing its formulas; of a rule what its results use but for what the rule newly added, and, where one of those is used, the formulas that the rule names.
abbrev pub used_by : Branch → Turns → List Tree
used_by b (shut c) = c.entries
used_by b (one r fs t) = used_with (meets (used_by (first_branch r b fs) t) (newly b fs)) r.step.named (minus (used_by (first_branch r b fs) t) (newly b fs))
used_by b (first r fs gs t) = minus (used_by (first_branch r b fs) t) (newly b fs)
used_by b (both r fs gs t v) =
    used_with (either (meets (used_by (first_branch r b fs) t) (newly b fs)) (meets (used_by (second_branch r b gs) v) (newly b gs))) r.step.named
    (minus (used_by (first_branch r b fs) t) (newly b fs) ++ minus (used_by (second_branch r b gs) v) (newly b gs))

-- The tree is closed for the branch b by rules that stand to their branches as rule says: each closing is its branch's closing, and a split without a tree for the second side is one whose first side uses nothing that the split newly added there.
abbrev pub IsClosedBy : (Branch → Result → Type 0) → Branch → Turns → Type 0
IsClosedBy rule b (shut c) = closing b ≡ Some c
IsClosedBy rule b (one r fs t) = rule b r × (r.step.sides ≡ Alone fs) × IsClosedBy rule (first_branch r b fs) t
IsClosedBy rule b (first r fs gs t) =
    rule b r × (r.step.sides ≡ Both fs gs) × IsClosedBy rule (first_branch r b fs) t × (meets (used_by (first_branch r b fs) t) (newly b fs) ≡ false)
IsClosedBy rule b (both r fs gs t v) =
    rule b r × (r.step.sides ≡ Both fs gs) × IsClosedBy rule (first_branch r b fs) t × IsClosedBy rule (second_branch r b gs) v

-- the tree is closed for the branch: each of its rules applies to its branch
abbrev pub IsClosedFor : Fresh → Branch → Turns → Type 0
IsClosedFor w = IsClosedBy (Applies w)

-- the tree is one that the search makes: each of its rules is the first that applies to its branch
abbrev pub IsSearched : Fresh → Branch → Turns → Type 0
IsSearched w = IsClosedBy (λ b r. first_rule w b ≡ Some r)

-- the number of turns of a tree
abbrev pub turns : Turns → ℕ
turns (shut c) = 1
turns (one r fs t) = suc (turns t)
turns (first r fs gs t) = suc (turns t)
turns (both r fs gs t v) = suc (turns t + turns v)

-- The steps of a tree for the branch b, the first being the turn n, in order: a rule, then those of its first side, then those of its second. The last closing resumes the split that is given; the last closing of a first side resumes that side's split.
abbrev pub steps_of : ℕ → Option ℕ → Branch → Turns → List Move
steps_of n next b (shut c) = Shuts c next ∷ []
steps_of n next b (one r fs t) = Applied r (lacking b fs) [] ∷ steps_of (suc n) next (first_branch r b fs) t
steps_of n next b (first r fs gs t) = Applied r (lacking b fs) (lacking b gs) ∷ steps_of (suc n) next (first_branch r b fs) t
steps_of n next b (both r fs gs t v) =
    Applied r (lacking b fs) (lacking b gs) ∷ (steps_of (suc n) (Some n) (first_branch r b fs) t ++ steps_of (suc n + turns t) next (second_branch r b gs) v)
