-- What is proved of the search's definition. Each statement is the contract of a function of src/laws.rt.
use Rattle.std.specs.Prelude.{◌≡◌, ℕ, suc, ◌*◌, ◌<◌, ◌≤◌, ◌||◌, Bool, true, false, nat_eq, Option, Some, None, List, [], ◌∷◌, length, drop, ◌↔◌}
use Rattle.core_expr.specs.declared.head.Sym.{Sym}
use Rattle.core_expr.specs.Tree.{Tree, iff_, in_}
use Rattle.core_expr.specs.Tree.Tree.{app}
use Rattle.core_expr.specs.Tree.Parts.{end}
use Rattle.core_expr.specs.Put.{inst}
use Rattle.core_expr.specs.Terms.{nodes}
use Rattle.seq_calculus.specs.Calculus.{HasAll, IsClosed, AllClosed}
use Rattle.seq_calculus.specs.Schemas.{instance_of}
use Rattle.search_definition.specs.declared.rule.Rank.{Rank}
use Rattle.search_definition.specs.Plain.{Left, member, left_side}
use Rattle.search_definition.specs.Equations.{right_or, members}
use Rattle.search_definition.specs.Branches.{Branch, Closing, closing, closes_with, formulas, has, add, used}
use Rattle.search_definition.specs.Values.{truth, grounds}
use Rattle.search_definition.specs.Rules.{Step, Result, oldest, rank_of}
use Rattle.search_definition.specs.Splits.{settle}
use Rattle.search_definition.specs.Needs.{contains, union, without}
use Rattle.search_definition.specs.Instances.{Fresh, Universal, atoms, signed_atoms}
use Rattle.search_definition.specs.Search.{by_rank, first_rule, Applies, side_branch, search, steps, fresh, start_branch}
use Rattle.search_definition.specs.Search.End.{Closed}
use Rattle.search_definition.specs.Trees.{Turns, used_by, IsClosedFor, IsSearched, turns, steps_of}
use Rattle.search_definition.specs.Watches.{watch, watched, touches, Apart, entry_at, NoneBefore, FallsFrom, LiveAt, ClosedSides}

-- a formula that is added leaves the value and the grounds of a formula that watches nothing that it touches
abbrev pub ValueStays : Type 0
ValueStays = (b : Branch) (f g : Tree) → Apart (touches f) (watch g) → (truth (add b f) g ≡ truth b g) × (grounds (add b f) g ≡ grounds b g)

-- so it leaves how an entry settles that watches nothing that it touches
abbrev pub SettleStays : Type 0
SettleStays = (b : Branch) (f e : Tree) → Apart (touches f) (watched e) → settle (add b f) e ≡ settle b e

-- using an entry changes neither what stands on the branch nor any value
abbrev pub UsedStays : Type 0
UsedStays = (stays rises : Bool) (b : Branch) (i : ℕ) (g : Tree) → (has (used stays rises b i) g ≡ has b g) × (truth (used stays rises b i) g ≡ truth b g) × (grounds (used stays rises b i) g ≡ grounds b g)

-- where no live entry before the position fits, the search for the oldest starts at the position
abbrev pub OldestFrom : Type 0
OldestFrom = (rule : Tree → Option Step) (k : ℕ) (b : Branch) → k ≤ length b → NoneBefore rule k b → oldest rule 0 b ≡ oldest rule k (drop k b)

-- the oldest is the entry at the position, where that fits
abbrev pub OldestFound : Type 0
OldestFound =
    (rule : Tree → Option Step) (k : ℕ) (b : Branch) (s : Step) → NoneBefore rule k b → k < length b → (entry_at b k).live ≡ true → rule (entry_at b k).formula ≡ Some s
    → oldest rule 0 b ≡ Some (record { entry = k; step = s })

-- there is none, where the position is the end
abbrev pub OldestNone : Type 0
OldestNone = (rule : Tree → Option Step) (k : ℕ) (b : Branch) → NoneBefore rule k b → length b ≤ k → oldest rule 0 b ≡ None

-- a position stays right when a formula is added, for a rule that looks at the formula alone
abbrev pub PositionStays : Type 0
PositionStays = (rule : Tree → Option Step) (k : ℕ) (b : Branch) (f : Tree) → k ≤ length b → NoneBefore rule k b → NoneBefore rule k (add b f)

-- a position stays right for a rule that depends on the branch, if what it does not fit it does not fit after the addition
abbrev pub PositionKept : Type 0
PositionKept =
    (rule : Branch → Tree → Option Step) (k : ℕ) (b : Branch) (f : Tree) → k ≤ length b → ((g : Tree) → rule b g ≡ None → rule (add b f) g ≡ None) → NoneBefore (rule b) k b
    → NoneBefore (rule (add b f)) k (add b f)

-- a position stays right when an entry dies, for a rule that looks at the formula alone
abbrev pub PositionUsed : Type 0
PositionUsed = (rule : Tree → Option Step) (k : ℕ) (rises : Bool) (b : Branch) (i : ℕ) → NoneBefore rule k b → NoneBefore rule k (used false rises b i)

-- the closing of a branch that did not close, after a formula is added: that of the new formula with the older ones
abbrev pub ClosingAdded : Type 0
ClosingAdded = (b : Branch) (f : Tree) → closing b ≡ None → has b f ≡ false → closing (add b f) ≡ closes_with (formulas b) f

-- once a branch closes, further formulas leave the closing
abbrev pub ClosingStays : Type 0
ClosingStays = (b : Branch) (f : Tree) (c : Closing) → closing b ≡ Some c → closing (add b f) ≡ Some c

-- using an entry changes no closing
abbrev pub ClosingUsed : Type 0
ClosingUsed = (stays rises : Bool) (b : Branch) (i : ℕ) → closing (used stays rises b i) ≡ closing b

-- n is the first of the list
abbrev pub is_first : List ℕ → ℕ → Bool
is_first [] n = false
is_first (m ∷ ms) n = nat_eq m n

-- in a falling set whose numbers are at most n, n is in it exactly where it is the first
abbrev pub FallingContains : Type 0
FallingContains = (n : ℕ) (u : List ℕ) → FallsFrom (suc n) u → contains u n ≡ is_first u n

-- a falling set without its first number is the rest, and a set of smaller numbers stays
abbrev pub FallingWithout : Type 0
FallingWithout = (n : ℕ) (u : List ℕ) → FallsFrom n u → (without (n ∷ u) n ≡ u) × (without u n ≡ u)

-- the union of falling sets falls, and has the members of both
abbrev pub FallingUnion : Type 0
FallingUnion = (n : ℕ) (u k : List ℕ) → FallsFrom n u → FallsFrom n k → FallsFrom n (union u k) × ((x : ℕ) → contains (union u k) x ≡ (contains u x || contains k x))

-- the union of a number above a falling set with it puts the number in front
abbrev pub FallingFirst : Type 0
FallingFirst = (n : ℕ) (u : List ℕ) → FallsFrom n u → union (n ∷ []) u ≡ n ∷ u

-- where the search ends closed, its steps are those of a tree that the search makes of the start branch, the step i being the turn i + 1, and the tree has as many turns as were used
abbrev pub ClosedHasTree : Type 0
ClosedHasTree =
    (facts : List Tree) (goal : Tree) (limit used : ℕ) → search facts goal limit ≡ Closed used
    → (t : Turns) × IsSearched (fresh facts goal) (start_branch facts goal) t × (steps facts goal limit ≡ steps_of 1 None (start_branch facts goal) t) × (turns t ≡ used)

-- a tree that the search makes is closed for its branch
abbrev pub SearchedIsClosed : Type 0
SearchedIsClosed = (w : Fresh) (b : Branch) (t : Turns) → IsSearched w b t → IsClosedFor w b t

-- with room for four steps for each node of the body or more, the atoms of a universal are its signed atoms
abbrev pub AtomsHaveRoom : Type 0
AtomsHaveRoom = (name : ℕ → Sym) (room : ℕ) (u : Universal) → 4 * nodes u.body ≤ room → atoms name room 1 u.holds (inst u.body (app (name 0) end)) ≡ signed_atoms name u

-- a left side with its right side is the schema's instance for its parameters
abbrev pub LeftIsInstance : Type 0
LeftIsInstance = (f : Tree) (l : Left) → left_side f ≡ Some l → instance_of l.schema l.z l.params ≡ Some (iff_ f l.right)

-- "is a member of x", put at c, is the right side of the schema for c \in x where there is one, else c \in x
abbrev pub MembersAt : Type 0
MembersAt = (x c : Tree) → IsClosed x → IsClosed c → inst (members x) c ≡ right_or (in_ c x) (member c x)

-- the oldest entry that the rule fits is live, and the step is the rule's at its formula
abbrev pub OldestIs : Type 0
OldestIs = (rule : Tree → Option Step) (b : Branch) (r : Result) → oldest rule 0 b ≡ Some r → (f : Tree) × LiveAt b r.entry f × (rule f ≡ Some r.step)

-- what the rule of a rank gives is a rule of that rank; it names first the formula of its entry, which is live; all that it names stands on the branch, and what it adds is closed
abbrev pub RuleTells : Type 0
RuleTells =
    (w : Fresh) (b : Branch) (k : Rank) (r : Result) → AllClosed (formulas b) → by_rank w b k ≡ Some r
    → (f : Tree) × (more : List Tree) × (r.step.named ≡ f ∷ more) × LiveAt b r.entry f × (rank_of r.step.rule ≡ k) × HasAll (formulas b) r.step.named × ClosedSides r.step.sides

-- an open branch of closed formulas gives open branches of closed formulas
abbrev pub SidesStayClosed : Type 0
SidesStayClosed = (stay : Bool) (b : Branch) (r : Result) (fs : List Tree) → AllClosed (formulas b) → AllClosed fs → AllClosed (formulas (side_branch stay r b fs))

-- what a closed tree uses stands on its branch
abbrev pub UsedStands : Type 0
UsedStands = (w : Fresh) (b : Branch) (t : Turns) → AllClosed (formulas b) → IsClosedFor w b t → HasAll (formulas b) (used_by b t)

-- the first rule applies, and there is none exactly where no rule applies
abbrev pub FirstIsByRank : Type 0
FirstIsByRank = (w : Fresh) (b : Branch) → ((r : Result) → first_rule w b ≡ Some r → Applies w b r) × ((first_rule w b ≡ None) ↔ ((r : Result) → Applies w b r → ⊥))
