-- What a run takes from the cache's file, and what it leaves there.
use Rattle.std.specs.Prelude.{◌≡◌, ℕ, Bool, true, false, List, [], ◌∷◌, ◌++◌, Option, None, Some, take}
use Rattle.tla_io.specs.Told.{Bytes, with_content, SameElsewhere, SameNames}
use Rattle.core_expr.specs.declared.canon.Canon.{Canon}
use Rattle.seq_calculus.specs.Calculus.{Correct}
use Rattle.seq_calculus.specs.Steps.{proof_of}
use Rattle.seq_calculus.specs.Lists.{Lists}
use Rattle.proof_cache.specs.declared.record.Record.{Record}
use Rattle.proof_cache.specs.Records.{proofs_for}
use Rattle.cache_file.specs.Lines.{lines_of}
use Rattle.cache_file.specs.Records.{AreRecords}
use Rattle.cache_file.specs.Written.{file_of}
use Rattle.cache_hit.specs.Hits.{hit}
use Rattle.leaf_jobs.specs.Came.{Came}
use Rattle.leaf_jobs.specs.Came.Came.{proved, kept, saturated, spent, lost}
use Rattle.proof_manager.specs.Runs.{Proofs}

-- what a cache's device tells of the files with these names
abbrev pub Contents : Type 0
Contents = Bytes → Option Bytes

-- how many bytes of a file are read at most
abbrev pub read_at_most : ℕ
read_at_most = 268435456

-- no proof is kept
abbrev pub none_kept : Proofs
none_kept c = []

-- these are the proofs of the records among the lines of the bytes
abbrev pub AreOf : Bytes → Proofs → Type 0
AreOf bytes ps = (rs : List Record) × (skipped : ℕ) × AreRecords (lines_of bytes) rs skipped × ((c : Canon) → ps c ≡ proofs_for rs c)

abbrev pub AreIn : Option Bytes → Proofs → Type 0
AreIn None ps = Unit {0}
AreIn (Some bytes) ps = AreOf (take read_at_most bytes) ps

-- the proofs that are kept where this file is asked for: those of the front of its content, where that is told; none without a file
abbrev pub AreKept : Option Bytes → Contents → Proofs → Type 0
AreKept None held ps = (c : Canon) → ps c ≡ []
AreKept (Some file) held ps = AreIn (held file) ps

-- ---- the new cache

-- the proof is correct for the form, and is the kept one where the answer is one
pub record IsProofFor (ps : Proofs) (c : Canon) (p : Lists) : Type 0 where
  pub correct : Correct (proof_of p) c.facts (c.goal ∷ [])
  pub kept : (q : Lists) → hit c (ps c) ≡ Some q → p ≡ q

-- the bytes are the line of the form and such a proof, of which the tree is written
abbrev pub IsLineFor : Proofs → Canon → Bytes → Type 0
IsLineFor ps c bytes = (p : Lists) × IsProofFor ps c p × (bytes ≡ file_of (record { canon = c; proof = p } ∷ []))

-- what a form that came to this adds: a line where it is proved
abbrev pub Adds : Came → Proofs → Canon → Bytes → Type 0
Adds (proved turns) ps c bytes = IsLineFor ps c bytes
Adds kept ps c bytes = IsLineFor ps c bytes
Adds (saturated values turns) ps c bytes = bytes ≡ []
Adds (spent turns) ps c bytes = bytes ≡ []
Adds lost ps c bytes = bytes ≡ []

-- the new cache of these forms, one after another, by what each came to
abbrev pub CacheOut : (Canon → Came) → Proofs → List Canon → Bytes → Type 0
CacheOut f ps [] bytes = bytes ≡ []
CacheOut f ps (c ∷ cs) bytes = (line : Bytes) × (more : Bytes) × (bytes ≡ line ++ more) × Adds (f c) ps c line × CacheOut f ps cs more

-- ---- the files before a run and after it

-- what a device held before a run, and what it holds after it
pub record Change (T : Type 0) : Type 0 where
  pub before : T
  pub after : T

-- What the cache's files hold behind a whole report. Without a file, and where the report is stopped, it is what they held before; else the
-- file has the new cache, and all others have what they had.
abbrev pub IsLeft : Bool → Option Bytes → (Bytes → Type 0) → Change Contents → Type 0
IsLeft stopped None Out files = files.after ≡ files.before
IsLeft true (Some file) Out files = files.after ≡ files.before
IsLeft false (Some file) Out files = (bytes : Bytes) × Out bytes × (files.after ≡ with_content files.before file bytes)

-- a file could not be replaced: of its content nothing is known, and all others are as they were
abbrev pub IsElsewhere : Option Bytes → Change Contents → Type 0
IsElsewhere None files = ⊥
IsElsewhere (Some file) files = SameElsewhere files.before files.after file × SameNames files.before files.after

-- the new cache, where it is wanted
abbrev pub made_where : Bool → Bytes → Option Bytes
made_where true bytes = Some bytes
made_where false bytes = None

-- the file has the new cache, where there is one, and all else is as it was
abbrev pub IsReplaced : Option Bytes → Option Bytes → Change Contents → Type 0
IsReplaced (Some file) (Some bytes) files = files.after ≡ with_content files.before file bytes
IsReplaced _ _ files = files.after ≡ files.before

-- the new cache is made where one is to be left
abbrev pub IsMade : Bool → Option Bytes → (Bytes → Type 0) → Option Bytes → Type 0
IsMade stopped None Out made = made ≡ None
IsMade true (Some file) Out made = made ≡ None
IsMade false (Some file) Out made = (bytes : Bytes) × Out bytes × (made ≡ Some bytes)
