-- The report as one compact JSON object, whose keys stand in the order of their bytes. Names are identifiers, and the texts of valuations
-- have bytes from 32 to 126 alone, none of them `"` or `\`, so no byte of a string needs another form.
use Rattle.std.specs.Prelude.{ℕ, Bool, true, false, List, [], ◌∷◌, ◌++◌, Option, Some, None, fold, codes, decimal}
use Rattle.tla_ast.specs.declared.place.Place.{Place}
use Rattle.proof_contexts.specs.Statuses.{is_proved}
use Rattle.status_report.specs.declared.table.Shown.{Shown}
use Rattle.status_report.specs.declared.table.Shown.TheVariants as shown
use Rattle.status_report.specs.declared.table.LeafIn.{LeafIn}
use Rattle.status_report.specs.declared.table.TheoremIn.{TheoremIn}
use Rattle.status_report.specs.declared.table.ModuleIn.{ModuleIn}
use Rattle.status_report.specs.Texts.{Bytes, name_text}
use Rattle.status_report.specs.Statuses.{Seen, nothing, status_in, see}
use Rattle.status_report.specs.Report.{status_text}
use Rattle.status_report.specs.Telling.{Told, with_text}

-- ---- pieces

abbrev pub quoted : Bytes → Bytes
quoted text = 34 ∷ (text ++ 34 ∷ [])

-- a key before its value
abbrev pub key : Bytes → Bytes
key name = quoted name ++ codes ":"

-- the same behind another value
abbrev pub next_key : Bytes → Bytes
next_key name = codes "," ++ key name

-- what stands before an item of an array: a comma, unless it is the first
abbrev pub comma : Bool → Bytes
comma true = []
comma false = codes ","

-- ---- leaves

abbrev pub turns_json : ℕ → Bytes
turns_json turns = next_key (codes "turns") ++ decimal turns

abbrev pub valuation_json : Option Bytes → Bytes
valuation_json None = []
valuation_json (Some text) = next_key (codes "valuation") ++ quoted text

abbrev pub word_json : Bytes → Bytes
word_json word = next_key (codes "verdict") ++ quoted word

-- what a leaf comes to: its turns where a search or an earlier run gave it, its values where it has some, and its verdict
abbrev pub verdict_json : Shown → Bytes
verdict_json (shown.Proved turns) = turns_json turns ++ word_json (codes "proved")
verdict_json shown.Cached = turns_json 0 ++ word_json (codes "cached")
verdict_json (shown.Saturated turns valuation) = turns_json turns ++ valuation_json valuation ++ word_json (codes "saturated")
verdict_json (shown.Spent turns) = turns_json turns ++ word_json (codes "spent")
verdict_json shown.Memory = word_json (codes "memory")
verdict_json shown.Temporal = word_json (codes "temporal")
verdict_json shown.Shape = word_json (codes "shape")
verdict_json shown.Omitted = word_json (codes "omitted")
verdict_json shown.Missing = word_json (codes "missing")

abbrev pub leaf_json : LeafIn → Bytes
leaf_json l =
    codes "{" ++ key (codes "column") ++ decimal l.place.column ++ next_key (codes "line") ++ decimal l.place.line ++ verdict_json l.verdict ++ codes "}"

-- items of an array; first: none stands before them
abbrev pub leaves_json : Bool → List LeafIn → Bytes
leaves_json first [] = []
leaves_json first (l ∷ ls) = comma first ++ leaf_json l ++ leaves_json false ls

-- ---- theorems and modules

-- what comes before a theorem's line
abbrev pub front_json : TheoremIn → Bytes
front_json t = codes "{" ++ key (codes "column") ++ decimal t.place.column ++ next_key (codes "leaves") ++ codes "[" ++ leaves_json true t.leaves ++ codes "]"

-- the same without what a status is
abbrev pub middle_json : TheoremIn → Bytes
middle_json t = next_key (codes "line") ++ decimal t.place.line ++ next_key (codes "name") ++ quoted (name_text t.name)

unfoldable pub theorem_json : Seen → TheoremIn → Bytes
theorem_json s t = front_json t ++ middle_json t ++ next_key (codes "status") ++ quoted (status_text s.name (status_in s t)) ++ codes "}"

abbrev pub theorems_json : Bool → Seen → List TheoremIn → Bytes
theorems_json first s [] = []
theorems_json first s (t ∷ ts) = comma first ++ theorem_json s t ++ theorems_json false (see s t) ts

-- what stands before a module's theorems
unfoldable pub opening_json : Bool → Bytes → Bytes
opening_json first name = comma first ++ codes "{" ++ key (codes "name") ++ quoted name ++ next_key (codes "theorems") ++ codes "["

abbrev pub modules_json : Bool → Seen → List ModuleIn → Bytes
modules_json first s [] = []
modules_json first s (m ∷ ms) = opening_json first m.name ++ theorems_json true s m.theorems ++ codes "]}" ++ modules_json false (fold see s m.theorems) ms

-- ---- the end

-- `"stopped":true` between two others, where the run was stopped
abbrev pub stopped_json : Bool → Bytes
stopped_json true = next_key (codes "stopped") ++ codes "true"
stopped_json false = []

-- how many theorems there are and how many of them are proved, behind what stands before them
abbrev pub counts_json : Bool → ℕ → ℕ → Bytes
counts_json stopped theorems proved =
    key (codes "proved") ++ decimal proved ++ stopped_json stopped ++ next_key (codes "theorems") ++ decimal theorems ++ codes "}\n"

-- ---- how the code tells modules

-- one theorem more
abbrev pub tell_json : Bool → Told → TheoremIn → Told
tell_json first s t =
    record { seen = see s.seen t; text = s.text ++ (comma first ++ theorem_json s.seen t); proved = s.proved ++ is_proved (status_in s.seen t) ∷ [] }

abbrev pub tell_all_json : Bool → Told → List TheoremIn → Told
tell_all_json first s [] = s
tell_all_json first s (t ∷ ts) = tell_all_json false (tell_json first s t) ts

abbrev pub tell_module_json : Bool → Told → ModuleIn → Told
tell_module_json first s m = with_text (codes "]}") (tell_all_json true (with_text (opening_json first m.name) s) m.theorems)

abbrev pub tell_modules_json : Bool → Told → List ModuleIn → Told
tell_modules_json first s [] = s
tell_modules_json first s (m ∷ ms) = tell_modules_json false (tell_module_json first s m) ms
