-- Step names: the step that each cited name means, or the first fault of the names of a theorem's proof, in the order of the text.
use Rattle.std.specs.Prelude.{ℕ, suc, Bool, true, false, ◌&&◌, ◌||◌, nat_eq, nat_lt, if◌then◌else◌, List, [], ◌∷◌, ◌++◌, length, take, Option, Some, None, Result, Ok, Err}
use Rattle.std.specs.Cmp.Lexicographic.{pointwise}
use Rattle.tla_ast.specs.declared.place.Place.{Place}
use Rattle.tla_ast.specs.declared.fault.Kind.{Kind}
use Rattle.tla_ast.specs.declared.fault.Kind.TheVariants as kind
use Rattle.tla_ast.specs.declared.fault.Fault.{Fault}
use Rattle.tla_ast.specs.declared.fault.Fault.TheVariants as fault
use Rattle.symbol_table.specs.Symbols.{noted}
use Rattle.plain_syntax.specs.Plain.{Text, Fact, Move, Proof, Steps}
use Rattle.plain_syntax.specs.Plain.Fact.{step_name, whole}
use Rattle.plain_syntax.specs.Plain.Move.{add, hide}
use Rattle.plain_syntax.specs.Plain.Proof.{missing, obvious, omitted, by_facts, steps}
use Rattle.plain_syntax.specs.Plain.Steps.{end_steps, step}

-- ---- names

-- a step's name: the level of its proof and its label
abbrev pub Name : Type 0
Name = ℕ × Text

abbrev pub same_name : Name → Name → Bool
same_name a b = nat_eq a.0 b.0 && pointwise nat_eq a.1 b.1

-- the names that are seen at a place, the oldest first, each with the number of its step
abbrev pub Seen : Type 0
Seen = List (Name × ℕ)

-- the newest step of a name
abbrev pub found : Name → Seen → Option ℕ
found a [] = None
found a (e ∷ es) = elim (found a es) [ Some n ↦ Some n | None ↦ if same_name e.0 a then Some e.1 else None ]

-- a step without a label has no name
abbrev pub is_name_of : Name → ℕ → Text → Bool
is_name_of a l [] = false
is_name_of a l (c ∷ w) = same_name (l, c ∷ w) a

-- some step of a proof has the name
abbrev mutual
  pub has_step : Name → Proof → Bool
  has_step a missing = false
  has_step a (obvious p) = false
  has_step a (omitted p) = false
  has_step a (by_facts p only fs ds) = false
  has_step a (steps ss) = have_step a ss

  pub have_step : Name → Steps → Bool
  have_step a end_steps = false
  have_step a (step p l w m proof ss) = is_name_of a l w || (has_step a proof || have_step a ss)

-- ---- the walk

-- what is known at a place: the names that are seen, the number of the next step, and what cited names mean so far
pub data State : Type 0 where
  state : Seen → ℕ → List (Place × ℕ) → State

abbrev pub seen_of : State → Seen
seen_of (state seen next cites) = seen

abbrev pub next_of : State → ℕ
next_of (state seen next cites) = next

abbrev pub cites_of : State → List (Place × ℕ)
cites_of (state seen next cites) = cites

-- why a walk stops: a name for the second time in one proof, or a cited name that no step has that is seen there
pub data Stop : Type 0 where
  again : Place → Stop
  unseen : Name → Place → Stop

-- what a part of a proof does, or why the walk stops there
abbrev pub Walk : Type 0
Walk = State → Result State Stop

-- one walk after another
abbrev pub and_then : Result State Stop → Walk → Result State Stop
and_then (Ok s) next = next s
and_then (Err e) next = Err e

-- a step gets the next number, and is seen from then on where it has a name
abbrev pub entered : ℕ → Text → State → State
entered l [] (state seen next cites) = state seen (suc next) cites
entered l (c ∷ w) (state seen next cites) = state (seen ++ ((l, c ∷ w), next) ∷ []) (suc next) cites

-- only so many of the oldest names are seen
abbrev pub left : ℕ → State → State
left n (state seen next cites) = state (take n seen) next cites

-- a name that an earlier step of the same proof has; `first` is the number of that proof's first step
abbrev pub if_earlier : Option ℕ → ℕ → Place → Walk
if_earlier None first p s = Ok s
if_earlier (Some n) first p s = if nat_lt n first then Ok s else Err (again p)

abbrev pub fresh : ℕ → ℕ → Text → Place → Walk
fresh first l [] p s = Ok s
fresh first l (c ∷ w) p s = if_earlier (found (l, c ∷ w) (seen_of s)) first p s

-- a cited name, by the step that it means here
abbrev pub cited : Option ℕ → Name → Place → Walk
cited (Some n) a p (state seen next cites) = Ok (state seen next (noted p n cites))
cited None a p s = Err (unseen a p)

abbrev pub fact_names : Fact → Walk
fact_names (step_name l w p) s = cited (found (l, w) (seen_of s)) (l, w) p s
fact_names (whole p t) s = Ok s

abbrev pub facts_names : List Fact → Walk
facts_names [] s = Ok s
facts_names (f ∷ fs) s = and_then (fact_names f s) (facts_names fs)

-- USE and HIDE cite facts
abbrev pub move_names : Move → Walk
move_names (add fs ds) s = facts_names fs s
move_names (hide fs ds) s = facts_names fs s
move_names _ s = Ok s

-- A step's name is seen in its own proof and by later steps of its proof. The names of a proof's steps are not seen after it.
abbrev mutual
  pub proof_names : Proof → Walk
  proof_names missing s = Ok s
  proof_names (obvious p) s = Ok s
  proof_names (omitted p) s = Ok s
  proof_names (by_facts p only fs ds) s = facts_names fs s
  proof_names (steps ss) s = and_then (steps_names ss (next_of s) s) (λ t. Ok (left (length (seen_of s)) t))

  pub steps_names : Steps → ℕ → Walk
  steps_names end_steps first s = Ok s
  steps_names (step p l w m proof ss) first s =
      and_then (fresh first l w p s) (λ t. and_then (move_names m t) (λ t. and_then (proof_names proof (entered l w t)) (steps_names ss first)))

abbrev pub start : State
start = state [] 0 []

-- the fault of a name that is not seen, in the proof of a theorem
abbrev pub unseen_kind : Bool → Kind
unseen_kind true = kind.StepOutOfScope
unseen_kind false = kind.UnknownStep

abbrev pub fault_of : Proof → Stop → Fault
fault_of proof (again p) = fault.At p kind.DuplicateStep
fault_of proof (unseen a p) = fault.At p (unseen_kind (has_step a proof))

abbrev pub told : Proof → Result State Stop → Result (List (Place × ℕ)) Fault
told proof (Ok s) = Ok (cites_of s)
told proof (Err e) = Err (fault_of proof e)

-- What the step names of a theorem's proof mean: for each cited name, by its place, the number of the step, where steps are
-- numbered from 0 in the order of the text; or the first fault.
unfoldable pub outline : Proof → Result (List (Place × ℕ)) Fault
outline proof = told proof (proof_names proof start)
