-- Each status of a run has its cause.
use Rattle.std.specs.Prelude.{◌≡◌, ℕ, ◌≤◌, ◌<◌, Bool, true, false, List, [], ◌∷◌, Option, None, Some, Result, Ok, Err, length, map, take, string_bytes}
use Rattle.std.specs.declared.string.String.{String}
use Rattle.std.specs.declared.alloc.Global.{Global}
use Rattle.tla_io.specs.Causes.{Rose}
use Rattle.tla_io.specs.Told.{Bytes, Folder, with_more}
use Rattle.tla_ast.specs.declared.fault.ScopeFault.TheVariants as fault
use Rattle.module_shelf.specs.declared.fault.LoadFault.{LoadFault}
use Rattle.module_shelf.specs.declared.fault.LoadFault.TheVariants as load
use Rattle.plain_syntax.specs.Syntax.{module_of}
use Rattle.core_expr.specs.declared.canon.Canon.{Canon}
use Rattle.seq_calculus.specs.Calculus.{Der}
use Rattle.seq_calculus.specs.Lists.{Lists}
use Rattle.valuation.specs.Truth.{Falsifies, by_number}
use Rattle.propositional_laws.specs.Formulas.{all_connectives, is_propositional_canon}
use Rattle.propositional_laws.specs.Valuations.{IsValid}
use Rattle.propositional_laws.specs.Laws.{HasTurns}
use Rattle.leaf_prover.specs.declared.answer.Answer.TheVariants.{Saturated}
use Rattle.leaf_prover.specs.Forms.{is_form}
use Rattle.leaf_prover.specs.Answers.{answer, is_proved}
use Rattle.leaf_prover.specs.Provers.{answered}
use Rattle.leaf_prover.specs.Laws as laws
use Rattle.name_places.specs.Places.{NamesDiffer}
use Rattle.theorem_leaves.specs.Chapters.{chapters_of}
use Rattle.usable_facts.specs.Definitions.{definitions_of}
use Rattle.usable_facts.specs.Theorems.{all_theorems}
use Rattle.proof_assembly.specs.Laws.{EachDerives}
use Rattle.status_report.specs.declared.table.ModuleIn.{ModuleIn}
use Rattle.status_report.specs.declared.table.Style.{Style}
use Rattle.status_report.specs.Report.{statuses_of, has_memory_leaf}
use Rattle.leaf_forms.specs.Leaves.{OfChapters}
use Rattle.command_words.specs.Requests.{Asked, IsAsked, Unlawful}
use Rattle.proof_manager.specs.Reading.{Answer, Read, reading}
use Rattle.proof_manager.specs.Runs.{given_for, reading_for, IsRead, Proofs, defined, told, style_of, text_of, all_hold}
use Rattle.proof_manager.specs.Caching.{Contents, Change, AreKept, IsLeft, IsElsewhere, IsReplaced}
use Rattle.proof_manager.specs.Judging.{no_form, IsOut}
use Rattle.proof_manager.specs.declared.load.Checked.{Checked}
use Rattle.proof_manager.specs.declared.status.Status.{Status}
use Rattle.proof_manager.specs.declared.status.Status.TheVariants as status

-- the texts of words
abbrev pub texts : List (String Global) → List Bytes
texts = map string_bytes

-- a fact on what is told, where it is
abbrev pub WhereTold : {T : Type 0} → Option T → (T → Type 0) → Type 0
WhereTold None P = Unit {0}
WhereTold (Some x) P = P x

-- the shelf's count rose for a read fault, and else it stays
abbrev pub ShelfCause : Status → ℕ → ℕ → Type 0
ShelfCause status.ReadFault before now = (before ≤ now) × Rose before now
ShelfCause _ before now = now ≡ before

-- the sink's count rose for a write fault, and else it stays
abbrev pub SinkCause : Status → ℕ → ℕ → Type 0
SinkCause status.WriteFault before now = (before ≤ now) × Rose before now
SinkCause _ before now = now ≡ before

-- the words are unlawful exactly where the status says so, want of memory aside
abbrev pub WordsCause : Status → List Bytes → Type 0
WordsCause status.Words words = Unlawful words
WordsCause status.Memory words = Unit {0}
WordsCause _ words = (a : Asked) × IsAsked words a

-- the status is not that of unlawful words
abbrev pub IsPastWords : Status → Type 0
IsPastWords status.Words = ⊥
IsPastWords _ = Unit {0}

-- after unlawful words the shelf was not called
abbrev pub IsUntouched : {S : Type 0} → Status → S → S → Type 0
IsUntouched status.Words old new = new ≡ old
IsUntouched _ old new = Unit {0}

-- the sink was not called but for a report
abbrev pub IsUnwritten : {K : Type 0} → Status → K → K → Type 0
IsUnwritten status.AllProved old new = Unit {0}
IsUnwritten status.NotAll old new = Unit {0}
IsUnwritten status.MemoryLeaf old new = Unit {0}
IsUnwritten status.WriteFault old new = Unit {0}
IsUnwritten status.CacheWrite old new = Unit {0}
IsUnwritten _ old new = new ≡ old

-- the whole report was taken
abbrev pub TakesReport : Style → List ModuleIn × Bool → Option Bytes → Option Bytes → Type 0
TakesReport style ms old new = new ≡ with_more old (text_of style ms)

-- a part of the report from its front was taken, and not the whole
abbrev pub TakesPart : Style → List ModuleIn × Bool → Option Bytes → Option Bytes → Type 0
TakesPart style ms old new = (n : ℕ) × (n < length (text_of style ms)) × (new ≡ with_more old (take n (text_of style ms)))

-- What a status says of a report on what was read, of what the sink took, and of the cache's files. The report of the status AllProved or
-- NotAll is the defined one. In a report with a Memory leaf, and in a part of a report, the searches of some canonical forms found no
-- memory, and all else is as it is defined.
module _ (a : Asked) (r : Read) (files : Change Contents) (taken : Change (Option Bytes)) where
  -- these are the proofs that the cache keeps
  abbrev AreOf : Proofs → Type 0
  AreOf ps = AreKept a.cache files.before ps

  abbrev Takes : List ModuleIn × Bool → Type 0
  Takes ms = TakesReport (style_of a) ms taken.before taken.after

  -- behind the report the new cache is left, of all forms that are to be proved
  abbrev Leaves : Proofs → (Canon → Bool) → Type 0
  Leaves ps lost = IsLeft (told ps lost a r).1 a.cache (IsOut ps lost a r) files

  abbrev pub Tells : Status → Type 0
  Tells status.AllProved = (ps : Proofs) × AreOf ps × (all_hold (defined ps a r) ≡ true) × Takes (defined ps a r) × Leaves ps no_form
  Tells status.NotAll = (ps : Proofs) × AreOf ps × (all_hold (defined ps a r) ≡ false) × Takes (defined ps a r) × Leaves ps no_form
  Tells status.MemoryLeaf = (ps : Proofs) × AreOf ps × (lost : Canon → Bool) × (has_memory_leaf (told ps lost a r).0 ≡ true) × Takes (told ps lost a r) × Leaves ps lost
  Tells status.WriteFault = (ps : Proofs) × AreOf ps × (lost : Canon → Bool) × TakesPart (style_of a) (told ps lost a r) taken.before taken.after
  Tells status.CacheWrite = (ps : Proofs) × AreOf ps × (lost : Canon → Bool) × Takes (told ps lost a r) × IsElsewhere a.cache files
  Tells status.CacheRead = Unit {0}
  Tells status.Memory = Unit {0}
  Tells _ = ⊥

-- what a status says of the modules that are asked for, and of their report
abbrev pub Ends : Status → Asked → Folder → Change Contents → Change (Option Bytes) → Type 0
Ends (status.NotFound name) a folder files taken = reading_for a folder ≡ Err (load.NotFound name)
Ends (status.Refused name place kind) a folder files taken = reading_for a folder ≡ Err (load.Refused name place kind)
Ends status.Words a folder files taken = Unit {0}
Ends status.ReadFault a folder files taken = Unit {0}
Ends status.Memory a folder files taken = Unit {0}
Ends s a folder files taken = (r : Read) × IsRead a folder r × Tells a r files taken s

-- the same, where the shelf tells what it holds
abbrev pub EndsTold : Status → Option Folder → Asked → Change Contents → Change (Option Bytes) → Type 0
EndsTold s held a files taken = WhereTold held (λ folder. Ends s a folder files taken)

-- the cache was not called: after unlawful words, and where the modules were not read
abbrev pub IsUncalled : {C : Type 0} → Status → C → C → Type 0
IsUncalled status.Words old new = new ≡ old
IsUncalled (status.Refused name place kind) old new = new ≡ old
IsUncalled (status.NotFound name) old new = new ≡ old
IsUncalled status.ReadFault old new = new ≡ old
IsUncalled _ old new = Unit {0}

-- no file of the cache was replaced, but behind a whole report
abbrev pub IsUnreplaced : Status → Contents → Contents → Type 0
IsUnreplaced status.AllProved before after = Unit {0}
IsUnreplaced status.NotAll before after = Unit {0}
IsUnreplaced status.MemoryLeaf before after = Unit {0}
IsUnreplaced status.CacheWrite before after = Unit {0}
IsUnreplaced _ before after = after ≡ before

-- the cache's count rose for a read or a write fault of the cache, and else it stays
abbrev pub CacheCause : Status → ℕ → ℕ → Type 0
CacheCause status.CacheRead before now = (before ≤ now) × Rose before now
CacheCause status.CacheWrite before now = (before ≤ now) × Rose before now
CacheCause _ before now = now ≡ before

-- a fact on what the words ask for, where they are lawful
abbrev pub OfAsked : List Bytes → (Asked → Type 0) → Type 0
OfAsked words P = (a : Asked) → IsAsked words a → P a

-- what is so of what was read, where a report was taken whole or in part
abbrev pub OfReported : (Asked → Read → Type 0) → Status → Asked → Folder → Type 0
OfReported P status.AllProved a folder = (r : Read) × IsRead a folder r × P a r
OfReported P status.NotAll a folder = (r : Read) × IsRead a folder r × P a r
OfReported P status.MemoryLeaf a folder = (r : Read) × IsRead a folder r × P a r
OfReported P status.WriteFault a folder = (r : Read) × IsRead a folder r × P a r
OfReported P status.CacheWrite a folder = (r : Read) × IsRead a folder r × P a r
OfReported P _ a folder = Unit {0}

-- the same, where the shelf tells what it holds
abbrev pub WhereReported : (Asked → Read → Type 0) → Status → Option Folder → Asked → Type 0
WhereReported P s held a = WhereTold held (λ folder. OfReported P s a folder)

-- ---- what reports mean

-- A leaf that is to be proved has a form that the search takes. Where it is proved, by the search or by a kept proof, whatever the cache
-- held, its goal has a derivation from its facts. What the search proves is proved whatever is kept, and of a propositional leaf no
-- valuation falsifies it. The values that are printed of a leaf falsify its canonical form: they make its facts true and its goal false.
pub record IsJustForm (turns : ℕ) (c : Canon) : Type 0 where
  pub form : is_form c ≡ true
  pub derived : (ps : List Lists) → is_proved (answered ps turns c) ≡ true → Der c.facts (c.goal ∷ [])
  pub no_less : (ps : List Lists) → is_proved (answer turns c) ≡ true → is_proved (answered ps turns c) ≡ true
  pub valid : is_propositional_canon c ≡ true → is_proved (answer turns c) ≡ true → IsValid c.facts c.goal
  pub falsified : (ps : List Lists) (values : List Bool) (n : ℕ) → answered ps turns c ≡ Saturated (Some values) n → Falsifies (by_number values) c.facts c.goal

-- Each theorem that is reported proved, whatever the cache held and whichever searches found memory, has a derivation of its fully
-- expanded fact from the fully expanded assumptions before it alone. What is reported of its leaves is so of them.
pub record IsJust (a : Asked) (r : Read) : Type 0 where
  pub derived : (ps : Proofs) (lost : Canon → Bool) → EachDerives (definitions_of r.modules r.table) (all_theorems r.modules r.table) (statuses_of (told ps lost a r).0)
  pub leaves : OfChapters (IsJustForm a.turns) (chapters_of r.modules r.table)

-- A propositional canonical form with c connectives is proved by the search exactly where no valuation falsifies it, where the turns are 2 ^ (c + 1) or
-- more: 100000 turns are enough for 15 connectives, and 1000000 for 18.
pub record IsDecidedForm (turns : ℕ) (c : Canon) : Type 0 where
  pub enough : is_propositional_canon c ≡ true → HasTurns c.facts c.goal turns → laws.IsDecided turns c
  pub usual : is_propositional_canon c ≡ true → turns ≡ 100000 → all_connectives c.facts c.goal ≤ 15 → laws.IsDecided turns c
  pub most : is_propositional_canon c ≡ true → turns ≡ 1000000 → all_connectives c.facts c.goal ≤ 18 → laws.IsDecided turns c

abbrev pub IsDecided : Asked → Read → Type 0
IsDecided a r = OfChapters (IsDecidedForm a.turns) (chapters_of r.modules r.table)

-- what is read of modules with different names means this
abbrev pub ReadsAreJust : Type 0
ReadsAreJust = (a : Asked) (folder : Folder) (r : Read) → IsRead a folder r → NamesDiffer r.modules → IsJust a r × IsDecided a r

-- ---- the steps of a run

-- what is read, where the names of the modules differ
abbrev pub read_in : Checked → Read
read_in c = record { modules = map module_of c.loaded.modules; table = c.scoped }

pub record IsFine (c : Checked) : Type 0 where
  pub names : NamesDiffer (read_in c).modules
  pub chapters : c.chapters ≡ chapters_of (read_in c).modules (read_in c).table

-- the answer's value, seen so, is the one that is defined, and so is a fault, unless memory was not found
abbrev pub Answers : {T A : Type 0} → (T → A) → Answer T → Answer A → Type 0
Answers view (Ok a) defined = defined ≡ Ok (view a)
Answers view (Err fault.Memory) defined = Unit {0}
Answers view (Err (fault.At owner place kind)) defined = defined ≡ Err (fault.At owner place kind)

-- how the reading of the modules ends, where the shelf tells what it holds
abbrev pub Reads : Result Checked LoadFault → Option Folder → Option Bytes → Bytes → Type 0
Reads (Ok c) held given root = WhereTold held (λ folder. reading given folder root ≡ Ok (read_in c))
Reads (Err (load.NotFound name)) held given root = WhereTold held (λ folder. reading given folder root ≡ Err (load.NotFound name))
Reads (Err (load.Refused owner place kind)) held given root = WhereTold held (λ folder. reading given folder root ≡ Err (load.Refused owner place kind))
Reads (Err load.ReadFault) held given root = Unit {0}
Reads (Err load.Memory) held given root = Unit {0}

-- the same of what is asked for
abbrev pub ReadsFor : Result Checked LoadFault → Option Folder → Asked → Type 0
ReadsFor r held a = Reads r held (given_for a.root a.demo) a.root

-- what the writing of the report leaves; file, next: the cache's file, and the new cache where one is made
module _ (style : Style) (ms : List ModuleIn × Bool) (file next : Option Bytes) (files : Change Contents) (taken : Change (Option Bytes)) where
  abbrev Written : Type 0
  Written = TakesReport style ms taken.before taken.after × IsReplaced file next files

  abbrev pub Writes : Status → Type 0
  Writes status.AllProved = (has_memory_leaf ms.0 ≡ false) × (all_hold ms ≡ true) × Written
  Writes status.NotAll = (has_memory_leaf ms.0 ≡ false) × (all_hold ms ≡ false) × Written
  Writes status.MemoryLeaf = (has_memory_leaf ms.0 ≡ true) × Written
  Writes status.WriteFault = TakesPart style ms taken.before taken.after
  Writes status.CacheWrite = TakesReport style ms taken.before taken.after × IsElsewhere file files
  Writes status.Memory = Unit {0}
  Writes _ = ⊥
