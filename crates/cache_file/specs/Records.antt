-- The records among lines.
use Rattle.std.specs.Prelude.{◌≡◌, ℕ, suc, ◌≤◌, List, [], ◌∷◌, length, Option, Some, None, Result, IfOk}
use Rattle.core_expr.specs.declared.memory.Memory.{Memory}
use Rattle.std.specs.List.{AllZip}
use Rattle.seq_calculus.specs.Lists.{AreLists, written}
use Rattle.proof_text.specs.Key.{key_of}
use Rattle.proof_text.specs.Texts.{Shows}
use Rattle.text_writer.specs.Tables.{canon_list}
use Rattle.cache_line.specs.declared.line.Line.{Line}
use Rattle.cache_line.specs.Lines.{IsLine}
use Rattle.proof_cache.specs.Records.{Kept, Keeps}
use Rattle.proof_cache.specs.declared.record.Record.{Record}

-- the parts of a record's line: the lists of its form and of its proof, under the key of the form's list
abbrev pub parts_of : Record → Line
parts_of r = record { key = key_of (canon_list r.canon); obligation = canon_list r.canon; proof = written r.proof }

-- the record is one that lists can keep: what is written of its form shows the form, and the proof is one
pub record IsShown (r : Record) : Type 0 where
  pub form : Shows (canon_list r.canon) r.canon
  pub proof : AreLists r.proof

-- the parts of a line keep the record
abbrev pub IsKept : Line → Record → Type 0
IsKept l r = IsShown r × (l ≡ parts_of r)

-- the line is a record: it is not too long, and is a line with the parts of the record
pub record IsRecord (bytes : List ℕ) (r : Record) : Type 0 where
  pub short : length bytes ≤ 8388608
  pub shown : IsShown r
  pub line : IsLine bytes (parts_of r)

-- what a line is: a record, or none
abbrev pub IsRead : List ℕ → Option Record → Type 0
IsRead l (Some r) = IsRecord l r
IsRead l None = (r : Record) → IsRecord l r → ⊥

-- what reading a line answers, but for want of memory
abbrev pub IsAnswered : List ℕ → Result (Option Record) Memory → Type 0
IsAnswered l r = IfOk r (λ o. IsRead l o)

-- the records among these, in order
abbrev pub records_in : List (Option Record) → List Record
records_in [] = []
records_in (Some r ∷ os) = r ∷ records_in os
records_in (None ∷ os) = records_in os

-- how many of these are none
abbrev pub skipped_in : List (Option Record) → ℕ
skipped_in [] = 0
skipped_in (Some r ∷ os) = skipped_in os
skipped_in (None ∷ os) = suc (skipped_in os)

-- the records of lines in order, and how many lines are none
abbrev pub AreRecords : List (List ℕ) → List Record → ℕ → Type 0
AreRecords ls rs n = (os : List (Option Record)) × AllZip IsRead ls os × (rs ≡ records_in os) × (n ≡ skipped_in os)

-- a cache keeps the records among these, and counts the others
pub record Holds (k : Kept) (os : List (Option Record)) : Type 0 where
  pub keeps : Keeps k (records_in os)
  pub skipped : k.skipped ≡ skipped_in os
