-- Branches, adding, closing.
use Rattle.std.specs.Prelude.{ℕ, zero, suc, Bool, true, false, not, Option, Some, None, List, [], ◌∷◌, ◌++◌}
use Rattle.core_expr.specs.Tree.{Tree, true_, false_, not_, eq_}
use Rattle.core_expr.specs.Terms.{same}
use Rattle.seq_calculus.specs.Schemas.{are_apart}
use Rattle.search_definition.specs.declared.rule.Clash.{Clash}
use Rattle.search_definition.specs.declared.rule.Clash.TheVariants.{Falsehood, DeniedTruth, Denied, DeniedIdentity, DeniedMirror, Literals, Truths}
use Rattle.search_definition.specs.Terms.{if_so, either, when, or_else, first_some}

-- An entry of a branch: a formula; whether rules still look at it (live) or not (dead); and how many instances it gave.
pub record Entry : Type 0 where
  pub formula : Tree
  pub live : Bool
  pub count : ℕ

-- a branch: its entries in order of age, the oldest first
abbrev pub Branch : Type 0
Branch = List Entry

-- the formulas on a branch, live and dead, by age
abbrev pub formulas : Branch → List Tree
formulas [] = []
formulas (e ∷ b) = e.formula ∷ formulas b

-- the formulas of the live entries, by age
abbrev pub alive : Branch → List Tree
alive [] = []
alive (e ∷ b) = if_so e.live (e.formula ∷ alive b) (alive b)

-- f stands on the branch, live or dead
abbrev pub has : Branch → Tree → Bool
has [] f = false
has (e ∷ b) f = either (same e.formula f) (has b f)

-- f as a new live entry at the end; a formula that stands on the branch already changes nothing
abbrev pub add : Branch → Tree → Branch
add b f = if_so (has b f) b (b ++ record { formula = f; live = true; count = 0 } ∷ [])

-- the formulas added one after the other
abbrev pub add_all : Branch → List Tree → Branch
add_all b [] = b
add_all b (f ∷ fs) = add_all (add b f) fs

-- for each of the formulas, added one after the other, whether it is new
abbrev pub news : Branch → List Tree → List Bool
news b [] = []
news b (f ∷ fs) = not (has b f) ∷ news (add b f) fs

-- one more, where the test holds
abbrev pub raised : Bool → ℕ → ℕ
raised true n = suc n
raised false n = n

-- the entry with the index i, after a rule used it: live or dead as stays says, its count one more where rises says so
abbrev pub used : Bool → Bool → Branch → ℕ → Branch
used stays rises [] i = []
used stays rises (e ∷ b) zero = record { formula = e.formula; live = stays; count = raised rises e.count } ∷ b
used stays rises (e ∷ b) (suc i) = e ∷ used stays rises b i

-- the equality of TRUE and FALSE, either way round
abbrev pub is_truth_clash : Tree → Tree → Bool
is_truth_clash true_ false_ = true
is_truth_clash false_ true_ = true
is_truth_clash _ _ = false

-- How a branch closes: the case, and the formulas that clash, the younger first.
pub record Closing : Type 0 where
  pub clash : Clash
  pub entries : List Tree

-- f closes alone by a case before those with a partner
abbrev pub shuts_first : Tree → Option Clash
shuts_first false_ = Some Falsehood
shuts_first (not_ true_) = Some DeniedTruth
shuts_first _ = None

-- f is ~(t = t)
abbrev pub shuts_third : Tree → Option Clash
shuts_third (not_ (eq_ s t)) = when (same s t) DeniedIdentity
shuts_third _ = None

-- f is an equation of two different literals, or of TRUE and FALSE
abbrev pub shuts_last : Tree → Option Clash
shuts_last (eq_ s t) = or_else (when (are_apart s t) Literals) (when (is_truth_clash s t) Truths)
shuts_last _ = None

-- f is the Not of g
abbrev pub is_not_of : Tree → Tree → Bool
is_not_of (not_ a) g = same a g
is_not_of _ g = false

-- f is s = t, and g is ~(t = s)
abbrev pub is_mirror_not : Tree → Tree → Bool
is_mirror_not (eq_ s t) (not_ (eq_ u v)) = if_so (same s v) (same t u) false
is_mirror_not _ _ = false

-- the closing of f by itself in the case k
abbrev pub alone : Tree → Option Clash → Option Closing
alone f None = None
alone f (Some k) = Some (record { clash = k; entries = f ∷ [] })

-- the closing of f with g in the case k, whichever of the two is the denied one; f, the younger, is named first
abbrev pub partner : Clash → (Tree → Tree → Bool) → Tree → Tree → Option Closing
partner k test f g = when (either (test f g) (test g f)) (record { clash = k; entries = f ∷ g ∷ [] })

-- how f closes by itself or with an older formula: the first case that fits, with the oldest partner
abbrev pub closes_with : List Tree → Tree → Option Closing
closes_with older f =
    or_else (alone f (shuts_first f)) (
    or_else (first_some (partner Denied is_not_of f) older) (
    or_else (alone f (shuts_third f)) (or_else (first_some (partner DeniedMirror is_mirror_not f) older) (alone f (shuts_last f)))
    )
    )

-- the first closing of a formula of the second list, where older stood before it
abbrev pub closing_from : List Tree → List Tree → Option Closing
closing_from older [] = None
closing_from older (f ∷ fs) = or_else (closes_with older f) (closing_from (older ++ f ∷ []) fs)

-- the closing of a branch: that of the oldest entry, live or dead, that closes by itself or with an older one
unfoldable pub closing : Branch → Option Closing
closing b = closing_from [] (formulas b)

-- the number of a case in the list of closings
abbrev pub clash_code : Clash → ℕ
clash_code Falsehood = 0
clash_code DeniedTruth = 1
clash_code Denied = 2
clash_code DeniedIdentity = 3
clash_code DeniedMirror = 4
clash_code Literals = 5
clash_code Truths = 6
