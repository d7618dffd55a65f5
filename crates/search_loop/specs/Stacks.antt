-- Open splits as frames over the branches that wait.
use Rattle.std.specs.Prelude.{ℕ, ◌<◌, Option, Some, None, List, [], ◌∷◌, map, reverse}
use Rattle.search_definition.specs.Terms.{if_so}
use Rattle.search_definition.specs.Branches.{Branch}
use Rattle.search_definition.specs.Needs.{contains, union, without}
use Rattle.search_definition.specs.Watches.{FallsFrom}
use Rattle.search_definition.specs.Search.{Turning, Open, Leaving, leaving}
use Rattle.search_definition.specs.Search.Mark.{Left, Waiting, Needed}
use Rattle.search_loop.specs.declared.frames.Frame.{Frame as Kept}
use Rattle.search_loop.specs.declared.frames.Frame.TheVariants.{First, Second}
use Rattle.search_loop.specs.declared.frames.Resumed.{Resumed}
use Rattle.search_loop.specs.declared.frames.Step.{Step}
use Rattle.search_loop.specs.declared.frames.Step.TheVariants.{Goes, Back}

-- A branch with the needs of each of its entries beside it.
pub record Tracked : Type 0 where
  pub branch : Branch
  pub needs : List (List ℕ)

-- the open branch with this path
abbrev pub open_of : Tracked → List Turning → Open
open_of t path = record { branch = t.branch; needs = t.needs; path = path }

-- An open split with its number. On the first side: the place at which the second side waits. On the second side: what the first needed.
pub data Frame : Type 0 where
  first : ℕ → ℕ → Frame
  second : ℕ → List ℕ → Frame

-- the frame as a value
abbrev pub frame_of : Kept → Frame
frame_of (First n m) = first n m
frame_of (Second n k) = second n k.items

-- the frames, the latest first
abbrev pub stack_of : List Kept → List Frame
stack_of fs = map frame_of (reverse fs)

-- the path that they are
abbrev pub path_of : List Frame → List Turning
path_of [] = []
path_of (first n m ∷ fs) = record { number = n; mark = Left } ∷ path_of fs
path_of (second n k ∷ fs) = record { number = n; mark = Needed k } ∷ path_of fs

-- the branches that wait, with their paths
abbrev pub siblings : (ℕ → Tracked) → List Frame → List Open
siblings waits [] = []
siblings waits (first n m ∷ fs) = open_of (waits m) (record { number = n; mark = Waiting } ∷ path_of fs) ∷ siblings waits fs
siblings waits (second n k ∷ fs) = siblings waits fs

-- the open branches: t is worked on
abbrev pub opens : Tracked → (ℕ → Tracked) → List Frame → List Open
opens t waits fs = open_of t (path_of fs) ∷ siblings waits fs

-- What is done after a branch closed: nothing is left; or the second side of a split, by its number, that waits at a place is worked on, and these frames are left.
pub data Popped : Type 0 where
  gone : Popped
  back : ℕ → ℕ → List Frame → Popped

-- what is done at these frames after a branch closed that needed u
abbrev pub popped : List Frame → List ℕ → Popped
popped [] u = gone
popped (first n m ∷ fs) u = if_so (contains u n) (back n m (second n (without u n) ∷ fs)) (popped fs u)
popped (second n k ∷ fs) u = popped fs (without (union u k) n)

-- what is left as the definition has it
abbrev pub left_by : (ℕ → Tracked) → Popped → Leaving
left_by waits gone = leaving [] None
left_by waits (back n m fs) = leaving (opens (waits m) waits fs) (Some n)

-- the places of those that wait fall, all below n
abbrev pub AreStacked : ℕ → List Frame → Type 0
AreStacked n [] = Unit {0}
AreStacked n (first i m ∷ fs) = (m < n) × AreStacked m fs
AreStacked n (second i k ∷ fs) = AreStacked n fs

-- the places of what is left fall, all below n
abbrev pub IsStackedBack : ℕ → Popped → Type 0
IsStackedBack n gone = Unit {0}
IsStackedBack n (back i m fs) = (m < n) × AreStacked m fs

-- each number of the list is below the one before it
abbrev pub Falls : List ℕ → Type 0
Falls [] = Unit {0}
Falls (m ∷ ms) = FallsFrom m ms

-- the set of the frame falls
abbrev pub FallsIn : Frame → Type 0
FallsIn (first n m) = Unit {0}
FallsIn (second n k) = Falls k

-- the sets of the frames fall
abbrev pub AreFalling : List Frame → Type 0
AreFalling [] = Unit {0}
AreFalling (f ∷ fs) = FallsIn f × AreFalling fs

-- what one frame leaves to do
abbrev pub after_step : Step → List Frame → Popped
after_step (Goes u) fs = popped fs u.items
after_step (Back r) fs = back r.number r.at fs

-- what all frames leave to do
abbrev pub after_pop : Option Resumed → List Frame → Popped
after_pop None fs = gone
after_pop (Some r) fs = back r.number r.at fs

-- the fact holds, where frames below are next
abbrev pub WhereGoes : Step → Type 0 → Type 0
WhereGoes (Goes u) p = p
WhereGoes (Back r) p = Unit {0}

-- the set that goes on falls
abbrev pub StepFalls : Step → Type 0
StepFalls (Goes u) = Falls u.items
StepFalls (Back r) = Unit {0}
