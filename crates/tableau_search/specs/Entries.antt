-- Entries by numbers, and the branches that they stand for.
use Rattle.std.specs.Prelude.{ℕ, ◌<◌, List, [], ◌∷◌, map}
use Rattle.core_expr.specs.Tree.{Tree}
use Rattle.seq_calculus.specs.Calculus.{IsClosed}
use Rattle.term_bank.specs.Banks.{tree_at}
use Rattle.search_definition.specs.Branches.{Entry, Branch}
use Rattle.search_definition.specs.Needs.{union}
use Rattle.search_loop.specs.Stacks.{Tracked}
use Rattle.branch_book.specs.declared.item.Item.{Item}
use Rattle.branch_state.specs.declared.parts.New.{New}
use Rattle.branch_state.specs.Shown.{Placed, needs_at}

-- the entry that a number's entry stands for
abbrev pub entry_of : List Tree → Placed → Entry
entry_of ts e = record { formula = tree_at ts e.formula; live = e.live; count = e.count }

-- the branch that the entries stand for
abbrev pub branch_of : List Tree → List Placed → Branch
branch_of ts es = map (entry_of ts) es

-- the needs of the entries
abbrev pub needs_in : List Placed → List (List ℕ)
needs_in es = map (λ e. e.needs) es

-- the branch with the needs of its entries
abbrev pub tracked : List Tree → List Placed → Tracked
tracked ts es = record { branch = branch_of ts es; needs = needs_in es }

-- the branch that the items stand for
abbrev pub branch_by : List Tree → List Item → Branch
branch_by ts xs = map (λ x. record { formula = tree_at ts x.formula; live = x.live; count = x.count }) xs

-- the formula that is to be added
abbrev pub new_tree : List Tree → New → Tree
new_tree ts n = tree_at ts n.formula

-- the formulas that are to be added
abbrev pub new_trees : List Tree → List New → List Tree
new_trees ts ns = map (new_tree ts) ns

-- the formulas' numbers are below n
abbrev pub AreKnown : ℕ → List Placed → Type 0
AreKnown n [] = Unit {0}
AreKnown n (e ∷ es) = (e.formula < n) × AreKnown n es

-- those of all these branches are
abbrev pub EachKnown : ℕ → List (List Placed) → Type 0
EachKnown n [] = Unit {0}
EachKnown n (es ∷ ess) = AreKnown n es × EachKnown n ess

-- the formulas are closed
abbrev pub AreClosed : List Tree → List Placed → Type 0
AreClosed ts [] = Unit {0}
AreClosed ts (e ∷ es) = IsClosed (tree_at ts e.formula) × AreClosed ts es

-- those of all these branches are
abbrev pub EachClosed : List Tree → List (List Placed) → Type 0
EachClosed ts [] = Unit {0}
EachClosed ts (es ∷ ess) = AreClosed ts es × EachClosed ts ess

-- the numbers of what is to be added are below n
abbrev pub NewsUnder : ℕ → List New → Type 0
NewsUnder n [] = Unit {0}
NewsUnder n (m ∷ ms) = (m.formula < n) × NewsUnder n ms

-- the needs of all these formulas
abbrev pub needs_of_all : List Placed → List ℕ → List ℕ
needs_of_all es [] = []
needs_of_all es (f ∷ fs) = union (needs_at es f) (needs_of_all es fs)

-- the numbers of the items' formulas are below n
abbrev pub ItemsUnder : ℕ → List Item → Type 0
ItemsUnder n [] = Unit {0}
ItemsUnder n (x ∷ xs) = (x.formula < n) × ItemsUnder n xs
