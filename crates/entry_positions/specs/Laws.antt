-- What is proved of positions. Each statement is the contract of a function of src/laws.rt.
use Rattle.std.specs.Prelude.{◌≡◌, ℕ, ◌+◌, ◌<◌, ◌≤◌, Bool, true, Option, Some, None, List, length, take}
use Rattle.core_expr.specs.Tree.{Tree}
use Rattle.term_bank.specs.Banks.{tree_at, IsDistinct, Extends}
use Rattle.search_definition.specs.Branches.{Branch, Closing, closing, closes_with, formulas}
use Rattle.search_definition.specs.Rules.{Step, oldest}
use Rattle.search_definition.specs.Splits.{term_split, take_up}
use Rattle.branch_state.specs.declared.parts.New.{New}
use Rattle.branch_state.specs.Shown.{Placed, placed_at, with_new, used_at}
use Rattle.tableau_search.specs.Entries.{branch_of, AreKnown}
use Rattle.entry_positions.specs.Passed.{Shrinks, IsSteady, IsPassed, IsOpen}

-- the first position
abbrev pub PassedStart : Type 0
PassedStart = (rule : Branch → Tree → Option Step) (ts : List Tree) (es : List Placed) → IsPassed rule ts es 0

-- after a formula is added
abbrev pub PassedAdded : Type 0
PassedAdded =
    (rule : Branch → Tree → Option Step) (ts : List Tree) (es : List Placed) (needs : List ℕ) (n : New) (p : ℕ) → Shrinks rule → IsDistinct ts → AreKnown (length ts) es → n.formula < length ts → IsPassed rule ts es p
    → IsPassed rule ts (with_new needs es n) p

-- after a live entry is used
abbrev pub PassedUsed : Type 0
PassedUsed =
    (rule : Branch → Tree → Option Step) (ts : List Tree) (es : List Placed) (stays rises : Bool) (i p : ℕ) → IsSteady rule → (placed_at es i).live ≡ true → IsPassed rule ts es p → IsPassed rule ts (used_at stays rises es i) p

-- after formulas got numbers
abbrev pub PassedKept : Type 0
PassedKept = (rule : Branch → Tree → Option Step) (ts us : List Tree) (es : List Placed) (p : ℕ) → Extends ts us → AreKnown (length ts) es → IsPassed rule ts es p → IsPassed rule us es p

-- past one entry more
abbrev pub PassedNext : Type 0
PassedNext =
    (rule : Branch → Tree → Option Step) (ts : List Tree) (es : List Placed) (p : ℕ) → IsPassed rule ts es p → p < length es → ((placed_at es p).live ≡ true → rule (branch_of ts es) (tree_at ts (placed_at es p).formula) ≡ None)
    → IsPassed rule ts es (p + 1)

-- the entry at the position
abbrev pub PassedFound : Type 0
PassedFound =
    (rule : Branch → Tree → Option Step) (ts : List Tree) (es : List Placed) (p : ℕ) (s : Step) → IsPassed rule ts es p → p < length es → (placed_at es p).live ≡ true → rule (branch_of ts es) (tree_at ts (placed_at es p).formula) ≡ Some s
    → oldest (rule (branch_of ts es)) 0 (branch_of ts es) ≡ Some (record { entry = p; step = s })

-- no entry
abbrev pub PassedNone : Type 0
PassedNone = (rule : Branch → Tree → Option Step) (ts : List Tree) (es : List Placed) (p : ℕ) → IsPassed rule ts es p → length es ≤ p → oldest (rule (branch_of ts es)) 0 (branch_of ts es) ≡ None

-- the first position
abbrev pub OpenStart : Type 0
OpenStart = (ts : List Tree) (es : List Placed) → IsOpen ts es 0

-- after a formula is added
abbrev pub OpenAdded : Type 0
OpenAdded = (ts : List Tree) (es : List Placed) (needs : List ℕ) (n : New) (p : ℕ) → IsOpen ts es p → IsOpen ts (with_new needs es n) p

-- after an entry is used
abbrev pub OpenUsed : Type 0
OpenUsed = (ts : List Tree) (es : List Placed) (stays rises : Bool) (i p : ℕ) → IsOpen ts es p → IsOpen ts (used_at stays rises es i) p

-- after formulas got numbers
abbrev pub OpenKept : Type 0
OpenKept = (ts us : List Tree) (es : List Placed) (p : ℕ) → Extends ts us → AreKnown (length ts) es → IsOpen ts es p → IsOpen us es p

-- past one entry more
abbrev pub OpenNext : Type 0
OpenNext = (ts : List Tree) (es : List Placed) (p : ℕ) → IsOpen ts es p → p < length es → closes_with (formulas (branch_of ts (take p es))) (tree_at ts (placed_at es p).formula) ≡ None → IsOpen ts es (p + 1)

-- the entry at the position closes
abbrev pub OpenFound : Type 0
OpenFound = (ts : List Tree) (es : List Placed) (p : ℕ) (c : Closing) → IsOpen ts es p → p < length es → closes_with (formulas (branch_of ts (take p es))) (tree_at ts (placed_at es p).formula) ≡ Some c → closing (branch_of ts es) ≡ Some c

-- no entry closes
abbrev pub OpenEnd : Type 0
OpenEnd = (ts : List Tree) (es : List Placed) (p : ℕ) → IsOpen ts es p → length es ≤ p → closing (branch_of ts es) ≡ None

-- a rule that looks at the formula alone
abbrev pub FormulaPositional : Type 0
FormulaPositional = (rule : Tree → Option Step) → Shrinks (λ b. rule) × IsSteady (λ b. rule)

-- the rank term split
abbrev pub TermSplitPositional : Type 0
TermSplitPositional = Shrinks term_split × IsSteady term_split

-- the rank take up
abbrev pub TakeUpPositional : Type 0
TakeUpPositional = Shrinks take_up × IsSteady take_up
