-- What a turn tells.
use Rattle.std.specs.Prelude.{◌≡◌, ℕ, ◌<◌, ◌≤◌, Bool, Some, None, List, [], ◌∷◌, ◌++◌}
use Rattle.core_expr.specs.Tree.{Tree}
use Rattle.search_definition.specs.Branches.{Closing, closing, add_all, news, used}
use Rattle.search_definition.specs.Rules.{Result, stays, stays_second, rises}
use Rattle.search_definition.specs.Rules.Sides.{Alone as One, Both}
use Rattle.search_definition.specs.Instances.{Fresh}
use Rattle.search_definition.specs.Needs.{needs_of, with_news}
use Rattle.search_definition.specs.Search.{first_rule, added_needs, Open, Move, applied, Next, turn, End}
use Rattle.search_definition.specs.Search.Move.{Shuts}
use Rattle.search_definition.specs.Search.Next.{Stuck as Sticks, Goes as Leads}
use Rattle.search_definition.specs.Search.End.{Closed, Saturated, Spent}
use Rattle.search_loop.specs.declared.work.Turned.{Turned}
use Rattle.search_loop.specs.declared.work.Turned.TheVariants.{Stuck, Closes, Alone, Splits}
use Rattle.search_loop.specs.declared.run.Round.{Round}
use Rattle.search_loop.specs.declared.run.Round.TheVariants.{Ends as Stops, Done, More}
use Rattle.search_loop.specs.declared.run.Ending.{Ending}
use Rattle.search_loop.specs.declared.run.Ending.TheVariants.{Closed as Ended, Saturated as Full, Spent as Cut}
use Rattle.search_loop.specs.Stacks.{Tracked, open_of, Frame, path_of, siblings, opens, AreStacked, Falls}

-- The branch that is worked on, the branches that wait, by places, how many of them there are, the symbols that no formula has, and the steps so far.
pub record State : Type 0 where
  pub now : Tracked
  pub waits : ℕ → Tracked
  pub count : ℕ
  pub fresh : Fresh
  pub moves : List Move

-- the first n branches that wait stay, and the fresh symbols do
abbrev pub Keeps : ℕ → State → State → Type 0
Keeps n old new = (n ≤ new.count) × ((m : ℕ) → m < n → new.waits m ≡ old.waits m) × (new.fresh ≡ old.fresh)

-- the branch of a side, where what is added has the needs u
abbrev pub side_of : Bool → Result → List ℕ → Tracked → List Tree → Tracked
side_of live r u t fs =
    record { branch = add_all (used live (rises r.step.rule) t.branch r.entry) fs; needs = with_news t.needs u (news (used live (rises r.step.rule) t.branch r.entry) fs) }

-- what the additions of the turn n need
abbrev pub needs_by : ℕ → Result → Tracked → List ℕ
needs_by n r t = added_needs n r t.branch t.needs

-- the step comes to the others
abbrev pub Notes : State → State → Move → Type 0
Notes old new m = new.moves ≡ old.moves ++ m ∷ []

-- what the turn n did
abbrev pub Tells : ℕ → State → State → Turned → Type 0
Tells n old new Stuck = (closing old.now.branch ≡ None) × (first_rule old.fresh old.now.branch ≡ None) × (new.now ≡ old.now) × (new.moves ≡ old.moves)
Tells n old new (Closes u) =
    (c : Closing) × (closing old.now.branch ≡ Some c) × (u.items ≡ needs_of old.now.branch old.now.needs c.entries) × Falls u.items × Notes old new (Shuts c None)
Tells n old new Alone =
    (r : Result) × (fs : List Tree) × (closing old.now.branch ≡ None) × (first_rule old.fresh old.now.branch ≡ Some r) × (r.step.sides ≡ One fs)
    × (new.now ≡ side_of (stays r.step.rule) r (needs_by n r old.now) old.now fs) × Notes old new (applied r old.now.branch (One fs))
Tells n old new (Splits m) =
    (r : Result) × (fs : List Tree) × (gs : List Tree) × (closing old.now.branch ≡ None) × (first_rule old.fresh old.now.branch ≡ Some r) × (r.step.sides ≡ Both fs gs)
    × (new.now ≡ side_of (stays r.step.rule) r (needs_by n r old.now) old.now fs)
    × (new.waits m ≡ side_of (stays_second r.step.rule) r (needs_by n r old.now) old.now gs)
    × (old.count ≤ m) × (m < new.count) × Notes old new (applied r old.now.branch (Both fs gs))

-- the last step, a closing, says that the second side of the split n is next
abbrev pub Resumes : ℕ → List Move → List Move → Type 0
Resumes n old new = (ms : List Move) (c : Closing) → old ≡ ms ++ Shuts c None ∷ [] → new ≡ ms ++ Shuts c (Some n) ∷ []

-- the ending is this end; of a saturated one the branch is that of t
abbrev pub Ends : Tracked → Ending → End → Type 0
Ends t (Ended n) e = e ≡ Closed n
Ends t (Full n) e = e ≡ Saturated t.branch n
Ends t (Cut n) e = e ≡ Spent n

-- the steps that were noted are ms; where the limit is reached, with one more
abbrev pub StepsAre : Ending → List Move → List Move → List Move → Type 0
StepsAre (Ended n) ms old new = new ≡ old ++ ms
StepsAre (Full n) ms old new = new ≡ old ++ ms
StepsAre (Cut n) ms old new = (m : Move) × (new ≡ old ++ ms ++ m ∷ [])

-- the turn n of the definition on the state's open branches
abbrev pub turn_at : ℕ → State → List Frame → Next
turn_at n s fs = turn s.fresh n (open_of s.now (path_of fs)) (siblings s.waits fs)

-- the state's open branches
abbrev pub opens_at : State → List Frame → List Open
opens_at s fs = opens s.now s.waits fs

-- the state's branch as the only open one
abbrev pub start_at : State → List Open
start_at s = open_of s.now [] ∷ []

-- what the turn n left
abbrev pub RoundIs : ℕ → State → List Frame → State → List Frame → Round → Type 0
RoundIs n old fs new gs Stops = (turn_at n old fs ≡ Sticks old.now.branch) × (new.now ≡ old.now) × (new.moves ≡ old.moves)
RoundIs n old fs new gs Done = (m : Move) × (turn_at n old fs ≡ Leads m []) × Notes old new m
RoundIs n old fs new gs More = (m : Move) × (turn_at n old fs ≡ Leads m (opens_at new gs)) × Notes old new m × AreStacked new.count gs
