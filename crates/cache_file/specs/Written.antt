-- What a run writes into the file of a cache.
use Rattle.std.specs.Prelude.{◌≡◌, true, ℕ, ◌≤◌, List, [], ◌∷◌, ◌++◌, length, Option, Some}
use Rattle.std.specs.List.{AllZip, flat_map}
use Rattle.core_expr.specs.declared.canon.Canon.{Canon}
use Rattle.seq_calculus.specs.Lists.{AreLists}
use Rattle.seq_calculus.specs.Steps.{proof_of}
use Rattle.proof_text.specs.Key.{key_of}
use Rattle.proof_text.specs.Texts.{Shows}
use Rattle.text_writer.specs.Tables.{canon_list}
use Rattle.text_writer.specs.Proofs.{proof_list}
use Rattle.cache_line.specs.declared.line.Line.{Line}
use Rattle.cache_line.specs.Lines.{IsLine, is_one_line, line_text}
use Rattle.proof_cache.specs.declared.record.Record.{Record}
use Rattle.proof_cache.specs.declared.verdict.Verdict.{Verdict}
use Rattle.proof_cache.specs.declared.verdict.Verdict.TheVariants.{Proved}
use Rattle.cache_file.specs.Lines.{lines_of}
use Rattle.cache_file.specs.Records.{AreRecords}

-- a job with its proof, where it is proved
abbrev pub proved_job : Canon → Option Verdict → List Record
proved_job c (Some (Proved p n k)) = record { canon = c; proof = p } ∷ []
proved_job c _ = []

-- the jobs that are proved with their proofs, in the order of the jobs
abbrev pub proved_jobs : List Canon → List (Option Verdict) → List Record
proved_jobs (c ∷ cs) (v ∷ vs) = proved_job c v ++ proved_jobs cs vs
proved_jobs _ _ = []

-- what is written of a record: the lists of its form and of its proof's tree, under the key of the form's list
abbrev pub written_parts : Record → Line
written_parts r = record { key = key_of (canon_list r.canon); obligation = canon_list r.canon; proof = proof_list r.proof }

abbrev pub written_line : Record → List ℕ
written_line r = line_text (written_parts r)

-- the file of records: the line of each, and a line feed behind it
abbrev pub file_of : List Record → List ℕ
file_of = flat_map (λ r. written_line r ++ 10 ∷ [])

-- the record can be read back: what is written of its form shows the form, and its line is not too long
pub record IsReadable (r : Record) : Type 0 where
  pub form : Shows (canon_list r.canon) r.canon
  pub short : length (written_line r) ≤ 8388608

-- records of the same form, whose proofs have the same tree
pub record IsSame (r q : Record) : Type 0 where
  pub canon : q.canon ≡ r.canon
  pub proof : proof_of q.proof ≡ proof_of r.proof

-- the records of the file are the same as these, and none of its lines is skipped
abbrev pub AreReadBack : List Record → List ℕ → Type 0
AreReadBack rs file = (qs : List Record) × AreRecords (lines_of file) qs 0 × AllZip IsSame rs qs

-- what is known of a record that was written: its line is one line with its parts, and its proof is allowed
pub record IsWritten (r : Record) : Type 0 where
  pub line : IsLine (written_line r) (written_parts r)
  pub one_line : is_one_line (written_line r) ≡ true
  pub allowed : AreLists r.proof
