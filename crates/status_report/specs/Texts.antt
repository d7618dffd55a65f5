-- The texts of which a report is made.
use Rattle.std.specs.Prelude.{ℕ, Bool, true, false, List, [], ◌∷◌, ◌++◌, Option, Some, None, codes, decimal}
use Rattle.tla_ast.specs.declared.place.Place.{Place}
use Rattle.status_report.specs.declared.table.Shown.{Shown}
use Rattle.status_report.specs.declared.table.Shown.TheVariants as shown
use Rattle.status_report.specs.declared.table.LeafIn.{LeafIn}

abbrev pub Bytes : Type 0
Bytes = List ℕ

-- a line with its line feed
abbrev pub line : Bytes → Bytes
line text = text ++ 10 ∷ []

-- a place: its line and its column
abbrev pub place_text : Place → Bytes
place_text place = decimal place.line ++ codes ":" ++ decimal place.column

-- a theorem's name; `-` where it has none
abbrev pub name_text : Option Bytes → Bytes
name_text None = codes "-"
name_text (Some name) = name

-- the text of a valuation, where there is one
abbrev pub valuation_text : Option Bytes → Bytes
valuation_text None = []
valuation_text (Some text) = codes ": " ++ text

-- what a leaf comes to
abbrev pub verdict_text : Shown → Bytes
verdict_text (shown.Proved turns) = codes "proved, " ++ decimal turns ++ codes " turns"
verdict_text shown.Cached = codes "proved, cached"
verdict_text (shown.Saturated turns valuation) = codes "saturated, " ++ decimal turns ++ codes " turns" ++ valuation_text valuation
verdict_text (shown.Spent turns) = codes "spent, " ++ decimal turns ++ codes " turns"
verdict_text shown.Memory = codes "memory"
verdict_text shown.Temporal = codes "temporal"
verdict_text shown.Shape = codes "shape"
verdict_text shown.Omitted = codes "omitted"
verdict_text shown.Missing = codes "missing"

-- the line of a leaf
abbrev pub leaf_line : LeafIn → Bytes
leaf_line leaf = line (codes "  leaf " ++ place_text leaf.place ++ codes " " ++ verdict_text leaf.verdict)

-- the end of the last line, which tells of a run that was stopped
abbrev pub stop_text : Bool → Bytes
stop_text true = codes ", stopped"
stop_text false = []

-- the last line: whether the run was stopped, how many theorems there are, and how many of them are proved
abbrev pub count_line : Bool → ℕ → ℕ → Bytes
count_line stopped theorems proved = line (decimal theorems ++ codes " theorems, " ++ decimal proved ++ codes " proved" ++ stop_text stopped)
