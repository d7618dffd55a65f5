-- The report.
use Rattle.std.specs.Prelude.{ℕ, Bool, true, false, List, [], ◌∷◌, ◌++◌, fold, flat_map, length, count_by, codes}
use Rattle.std.specs.List.{list_any}
use Rattle.proof_contexts.specs.Statuses.{Verdict, Status, is_proved}
use Rattle.proof_contexts.specs.Statuses.Verdict.{Temporal, Memory, Unproved, Missing, Omitted, Proved}
use Rattle.proof_contexts.specs.Statuses.Status.{By_leaf, Conditional}
use Rattle.status_report.specs.declared.table.Shown.{Shown}
use Rattle.status_report.specs.declared.table.Shown.TheVariants as shown
use Rattle.status_report.specs.declared.table.LeafIn.{LeafIn}
use Rattle.status_report.specs.declared.table.TheoremIn.{TheoremIn}
use Rattle.status_report.specs.declared.table.ModuleIn.{ModuleIn}
use Rattle.status_report.specs.declared.table.Style.{Style}
use Rattle.status_report.specs.declared.table.Style.TheVariants.{Plain}
use Rattle.status_report.specs.Texts.{Bytes, line, place_text, name_text, leaf_line}
use Rattle.status_report.specs.Statuses.{Seen, nothing, status_in, see, statuses_from}

abbrev pub word_of : Verdict → Bytes
word_of Temporal = codes "temporal"
word_of Memory = codes "memory"
word_of Unproved = codes "unproved"
word_of Missing = codes "missing"
word_of Omitted = codes "omitted"
word_of Proved = codes "proved"

-- a status, behind theorems with these names
abbrev pub status_text : (ℕ → Bytes) → Status → Bytes
status_text name (By_leaf v) = word_of v
status_text name (Conditional k) = codes "conditional " ++ name k

abbrev pub theorem_line : Seen → TheoremIn → Bytes
theorem_line s t = line (codes "theorem " ++ name_text t.name ++ codes " " ++ place_text t.place ++ codes " " ++ status_text s.name (status_in s t))

-- the lines of a theorem behind these
abbrev pub theorem_lines : Seen → TheoremIn → Bytes
theorem_lines s t = theorem_line s t ++ flat_map leaf_line t.leaves

abbrev pub theorems_lines : Seen → List TheoremIn → Bytes
theorems_lines s [] = []
theorems_lines s (t ∷ ts) = theorem_lines s t ++ theorems_lines (see s t) ts

-- the lines of a module
abbrev pub module_lines : Seen → ModuleIn → Bytes
module_lines s m = line (codes "module " ++ m.name) ++ theorems_lines s m.theorems

abbrev pub modules_lines : Seen → List ModuleIn → Bytes
modules_lines s [] = []
modules_lines s (m ∷ ms) = module_lines s m ++ modules_lines (fold see s m.theorems) ms

-- the theorems of all modules in order
abbrev pub all_theorems : List ModuleIn → List TheoremIn
all_theorems ms = flat_map (λ (m : ModuleIn). m.theorems) ms

-- their statuses
abbrev pub statuses_of : List ModuleIn → List Status
statuses_of ms = statuses_from nothing (all_theorems ms)

-- how many theorems there are
abbrev pub theorem_count : List ModuleIn → ℕ
theorem_count ms = length (all_theorems ms)

-- how many of them are proved
abbrev pub proved_count : List ModuleIn → ℕ
proved_count ms = count_by is_proved (statuses_of ms)

-- a text of a style that writes lines
abbrev pub in_style : Style → Bytes → Bytes
in_style Plain text = text
in_style _ text = []

abbrev pub is_memory : Shown → Bool
is_memory shown.Memory = true
is_memory _ = false

-- some leaf wanted memory
abbrev pub wants_memory : TheoremIn → Bool
wants_memory t = list_any (λ (l : LeafIn). is_memory l.verdict) t.leaves

abbrev pub has_memory_leaf : List ModuleIn → Bool
has_memory_leaf ms = list_any (λ (m : ModuleIn). list_any wants_memory m.theorems) ms
