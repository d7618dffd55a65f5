-- What a finder answers.
use Rattle.std.specs.Prelude.{◌≡◌, ◌<◌, true, Option, Some, None, List, length, map}
use Rattle.core_expr.specs.Tree.{Tree}
use Rattle.term_bank.specs.Banks.{tree_at}
use Rattle.search_definition.specs.Branches.{Closing, closing}
use Rattle.search_definition.specs.Rules.{Result}
use Rattle.search_definition.specs.Rules.Sides.{Alone as One, Both}
use Rattle.search_definition.specs.Instances.{Fresh}
use Rattle.search_definition.specs.Search.{first_rule}
use Rattle.search_trace.specs.declared.turn.Used.{Used}
use Rattle.search_trace.specs.Traces.{result_of, AreUnder, UsedUnder}
use Rattle.branch_state.specs.declared.parts.New.{New}
use Rattle.branch_state.specs.Shown.{Placed, placed_at}
use Rattle.branch_state.specs.Parts.{AreClassed}
use Rattle.tableau_search.specs.declared.finder.Closing.{Closing as Shutting}
use Rattle.tableau_search.specs.declared.finder.Found.{Found}
use Rattle.tableau_search.specs.declared.finder.Found.TheVariants.{Alone, Splits}
use Rattle.tableau_search.specs.declared.finder.Decision.{Decision}
use Rattle.tableau_search.specs.declared.finder.Decision.TheVariants.{Stuck, Closes, Applies}
use Rattle.tableau_search.specs.Entries.{branch_of, new_trees, NewsUnder}

-- what is used has numbers that are known, and is a live entry
pub record IsUsable (ts : List Tree) (es : List Placed) (u : Used) : Type 0 where
  pub under : UsedUnder (length ts) u
  pub within : u.entry < length es
  pub lives : (placed_at es u.entry).live ≡ true

-- what is added has numbers that are known, and classes
pub record AreUsable (ts : List Tree) (ns : List New) : Type 0 where
  pub under : NewsUnder (length ts) ns
  pub classed : AreClassed ns

-- what was found is this result
abbrev pub IsFound : List Tree → List Placed → Option Result → Found → Type 0
IsFound ts es o (Alone u ns) = (o ≡ Some (result_of ts u (One (new_trees ts ns.items)))) × IsUsable ts es u × AreUsable ts ns.items
IsFound ts es o (Splits u ns ms) =
    (o ≡ Some (result_of ts u (Both (new_trees ts ns.items) (new_trees ts ms.items)))) × IsUsable ts es u × AreUsable ts ns.items × AreUsable ts ms.items

-- the answer is this result, where there is one
abbrev pub IsAnswer : List Tree → List Placed → Option Result → Option Found → Type 0
IsAnswer ts es o None = o ≡ None
IsAnswer ts es o (Some f) = IsFound ts es o f

-- the closing by its formulas
abbrev pub closing_of : List Tree → Shutting → Closing
closing_of ts c = record { clash = c.clash; entries = map (tree_at ts) c.entries.items }

-- how the branch of these entries closes, or that it does not
abbrev pub IsClosing : List Tree → List Placed → Option Shutting → Type 0
IsClosing ts es None = closing (branch_of ts es) ≡ None
IsClosing ts es (Some c) = (closing (branch_of ts es) ≡ Some (closing_of ts c)) × AreUnder (length ts) c.entries.items

-- what the definition does with the branch of these entries
abbrev pub Decided : Fresh → List Tree → List Placed → Decision → Type 0
Decided w ts es Stuck = (closing (branch_of ts es) ≡ None) × (first_rule w (branch_of ts es) ≡ None)
Decided w ts es (Closes c) = IsClosing ts es (Some c)
Decided w ts es (Applies f) = (closing (branch_of ts es) ≡ None) × IsFound ts es (first_rule w (branch_of ts es)) f
