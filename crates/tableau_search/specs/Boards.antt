-- The branch that is worked on, those that wait and the turns, as the loop has them.
use Rattle.std.specs.Prelude.{◌≡◌, ◌⊎◌, ℕ, false, not, Some, None, List, [], ◌∷◌, ◌++◌, length, map}
use Rattle.std.proofs.Common.{get_or, Vec, Global}
use Rattle.core_expr.specs.Tree.{Tree}
use Rattle.term_bank.specs.Banks.{IsDistinct}
use Rattle.search_definition.specs.Rules.{stays, stays_second, rises}
use Rattle.search_definition.specs.Instances.{Fresh}
use Rattle.search_definition.specs.Search.{End}
use Rattle.search_definition.specs.Search.End.{Closed, Saturated, Spent}
use Rattle.search_trace.specs.declared.turn.Added.{Added}
use Rattle.search_trace.specs.declared.turn.Used.{Used}
use Rattle.search_trace.specs.declared.turn.Turn.{Turn}
use Rattle.search_trace.specs.declared.turn.Turn.TheVariants.{Shut, Alone as One, Split}
use Rattle.search_trace.specs.Traces.{moves_of, TurnsUnder}
use Rattle.search_loop.specs.declared.work.Turned.{Turned}
use Rattle.search_loop.specs.declared.run.Ending.{Ending}
use Rattle.search_loop.specs.declared.run.Ending.TheVariants.{Closed as Ended, Saturated as Full, Spent as Cut}
use Rattle.search_loop.specs.Turns.{State, Tells, Keeps}
use Rattle.branch_book.specs.declared.item.Item.{Item}
use Rattle.branch_state.specs.declared.parts.New.{New}
use Rattle.branch_state.specs.Shown.{Placed, Shown, stands, with_all, used_at, Reopens}
use Rattle.tableau_search.specs.declared.finder.Closing.{Closing as Shutting}
use Rattle.tableau_search.specs.Entries.{tracked, branch_by, AreKnown, EachKnown, AreClosed, EachClosed}

-- The formulas have one number each, all numbers are known, and the formulas on branches are closed.
pub record IsBoard (ts : List Tree) (s : Shown) (turns : List Turn) : Type 0 where
  pub distinct : IsDistinct ts
  pub known : AreKnown (length ts) s.now
  pub waits : EachKnown (length ts) s.waits
  pub under : TurnsUnder (length ts) turns
  pub closed : AreClosed ts s.now
  pub waits_closed : EachClosed ts s.waits

-- as the loop sees it
abbrev pub state_of : Fresh → List Tree → Shown → List Turn → State
state_of w ts s turns = record { now = tracked ts s.now; waits = λ k. tracked ts (get_or s.waits k []); count = length s.waits; fresh = w; moves = moves_of ts turns }

-- after a rule with one side, where what is added has the needs ks
abbrev pub used_alone : Shown → Used → List New → List ℕ → Shown
used_alone s u ns ks = record { now = with_all ks (used_at (stays u.rule) (rises u.rule) s.now u.entry) ns; waits = s.waits; sets = s.sets ++ ks ∷ [] }

-- the entries of the second side before its formulas come
abbrev pub second_used : Shown → Used → List Placed
second_used s u = used_at (stays_second u.rule) (rises u.rule) s.now u.entry

-- after a rule with two sides: the second waits
abbrev pub used_both : Shown → Used → List New → List New → List ℕ → Shown
used_both s u ns ms ks =
    record {
      now = with_all ks (used_at (stays u.rule) false (second_used s u) u.entry) ns;
      waits = s.waits ++ with_all ks (second_used s u) ms ∷ [];
      sets = s.sets ++ ks ∷ [];
    }

-- the formula, and whether it does not stand on the branch
abbrev pub added_by : List Placed → New → Added
added_by es n = record { formula = n.formula; is_new = not (stands es n.formula) }

-- the turn of a closing comes to the others
abbrev pub NotesShut : Shutting → List Turn → List Turn → Type 0
NotesShut c old new = new ≡ old ++ Shut c.clash c.entries None ∷ []

-- the turn of a rule with one side comes to the others
abbrev pub NotesAlone : List Placed → Used → List New → List Turn → List Turn → Type 0
NotesAlone es u ns old new = (v : Vec Added Global) × (v.items ≡ map (added_by es) ns) × (new ≡ old ++ One u v ∷ [])

-- the turn of a rule with two sides comes to the others
abbrev pub NotesSplit : List Placed → Used → List New → List New → List Turn → List Turn → Type 0
NotesSplit es u ns ms old new =
    (v : Vec Added Global) × (w : Vec Added Global) × (v.items ≡ map (added_by es) ns) × (w.items ≡ map (added_by es) ms) × (new ≡ old ++ Split u v w ∷ [])

-- a closing with the split whose second side is next; another turn as it is
abbrev pub with_next : ℕ → Turn → Turn
with_next n (Shut k es next) = Shut k es (Some n)
with_next n (One u fs) = One u fs
with_next n (Split u fs gs) = Split u fs gs

-- the last turn says that the second side of the split n is next
abbrev pub IsResumed : ℕ → List Turn → List Turn → Type 0
IsResumed n old new = ((old ≡ []) × (new ≡ [])) ⊎ ((ts : List Turn) × (t : Turn) × (old ≡ ts ++ t ∷ []) × (new ≡ ts ++ with_next n t ∷ []))

-- what the turn n tells and keeps
abbrev pub Turns : ℕ → State → State → Turned → Type 0
Turns n old new t = Tells n old new t × Keeps old.count old new

-- the branch that waits at k is worked on, the second side of the split n
abbrev pub ReopensBoard : ℕ → ℕ → Shown → List Turn → Shown → List Turn → Type 0
ReopensBoard k n s old t new = Reopens k s t × IsResumed n old new

-- the ending is this end; of a saturated one the branch has these entries
abbrev pub IsEnd : List Tree → List Item → Ending → End → Type 0
IsEnd ts xs (Ended n) e = e ≡ Closed n
IsEnd ts xs (Full n) e = e ≡ Saturated (branch_by ts xs) n
IsEnd ts xs (Cut n) e = e ≡ Spent n
