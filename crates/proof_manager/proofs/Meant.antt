-- What is reported of modules is so.
use Rattle.std.proofs.Common.{◌≡◌, ℕ, Bool, true, false, if◌then◌else◌, List, [], ◌∷◌, ◌++◌, map, Option, Some, None, Result, Ok, Err, refl, sym, ap, subst, ◌∙◌}
use Rattle.core_expr.specs.declared.canon.Canon.{Canon}
use Rattle.tla_io.specs.Told.{Bytes, Folder}
use Rattle.tla_ast.specs.declared.fault.ScopeFault.{ScopeFault}
use Rattle.plain_syntax.specs.Plain.{Module}
use Rattle.plain_syntax.specs.Syntax.{module_of}
use Rattle.symbol_table.specs.declared.entry.Entry.{Entry}
use Rattle.symbol_table.specs.Scoped.{Table}
use Rattle.obligation.specs.declared.obligation.Definition.{Definition}
use Rattle.obligation.specs.declared.obligation.Obligation.{Obligation}
use Rattle.obligation.specs.Unfolding.{unfolded}
use Rattle.module_scope.specs.Resolution.{resolution}
use Rattle.module_shelf.specs.Loading.{Outcome, followed, loading}
use Rattle.seq_calculus.specs.Lists.{Lists}
use Rattle.proof_contexts.specs.declared.leaf.Leaf.{Leaf}
use Rattle.proof_contexts.specs.declared.leaf.LeafKind.{LeafKind}
use Rattle.proof_contexts.specs.declared.leaf.LeafKind.TheVariants as kind
use Rattle.proof_contexts.specs.Canonical.{obligation_canon}
use Rattle.proof_contexts.specs.Statuses.{Verdict, Status, verdict}
use Rattle.proof_contexts.specs.Theorems.{Theorem}
use Rattle.proof_contexts.specs.Leaves.{IsDerived}
use Rattle.proof_contexts.specs.Laws.{IsSound}
use Rattle.usable_facts.specs.Definitions.{definitions_of}
use Rattle.usable_facts.specs.Theorems.{is_theorem_of, all_theorems}
use Rattle.name_places.specs.Places.{NamesDiffer, PlacesDiffer}
use Rattle.proof_assembly.specs.Laws.{StatusesAreJustified, EachDerives}
use Rattle.reading_places.specs.Laws.{ReadPlacesDiffer}
use Rattle.propositional_laws.specs.Laws.{HasTurns, FewConnectives}
use Rattle.leaf_prover.specs.declared.answer.Answer.{Answer as Searched}
use Rattle.leaf_prover.specs.declared.answer.Answer.TheVariants.{Proved, Saturated, Spent, Cached}
use Rattle.leaf_prover.specs.Forms.{is_form}
use Rattle.leaf_prover.specs.Answers.{answer, is_proved}
use Rattle.leaf_prover.specs.Provers.{answered, answered_where, AnsweredDerives, SaturatedIsSearched, CacheKeepsProved}
use Rattle.leaf_prover.specs.Laws.{ProvedIsValid, ValuesFalsify, EnoughTurnsDecide}
use Rattle.leaf_forms.specs.Leaves.{OfKind, OfLeaves, OfTheorems, OfChapters}
use Rattle.leaf_forms.specs.Laws.{IsForm, LeavesAreForms}
use Rattle.status_report.specs.declared.table.TheoremIn.{TheoremIn}
use Rattle.status_report.specs.Statuses.{verdict_of, leaf_verdicts}
use Rattle.status_report.specs.Report.{all_theorems as reported_theorems, statuses_of}
use Rattle.status_report.specs.Laws.{StandsFor, StandFor, StatusesAgree}
use Rattle.theorem_leaves.specs.declared.chapter.TheoremLeaves.{TheoremLeaves}
use Rattle.theorem_leaves.specs.declared.chapter.Chapter.{Chapter}
use Rattle.theorem_leaves.specs.Chapters.{chapters_of, IsReportOf, AreReports, reports_in, ChaptersReport}
use Rattle.leaf_jobs.specs.Came.{Came, with_lost, shown_of}
use Rattle.leaf_jobs.specs.Came.Came.{proved, kept, saturated, spent, lost}
use Rattle.leaf_jobs.specs.Judging.{judged_kind, judged_leaf, judged_theorem, judged}
use Rattle.leaf_jobs.specs.Laws.{StatusesOfFront, FrontsAreProved}
use Rattle.command_words.specs.Requests.{Asked}
use Rattle.proof_manager.specs.Reading.{Answer, and_then, Read, modules_fault, resolved, checked, read_of, as_outcome, reading}
use Rattle.proof_manager.specs.Runs.{given_for, IsRead, Proofs, as_came, came, told}
use Rattle.proof_manager.specs.Causes.{IsJustForm, IsDecidedForm, ReadsAreJust}
use Rattle.proof_manager.proofs.Counting.{forms_are_numbered}
use Rattle.proof_manager.proofs.Loaded.{loads-apart}

-- ---- where there is a value

from-value : {A B : Type 0} (r : Answer A) (next : A → Answer B) (b : B) → and_then r next ≡ Ok b → (a : A) × (r ≡ Ok a) × (next a ≡ Ok b)
from-value (Ok a) next b e = (a, refl, e)
from-value (Err f) next b e = absurd cc

from-loading : {A B : Type 0} (r : Outcome A) (next : A → Outcome B) (b : B) → followed r next ≡ Ok b → (a : A) × (r ≡ Ok a) × (next a ≡ Ok b)
from-loading (Ok a) next b e = (a, refl, e)
from-loading (Err f) next b e = absurd cc

from-outcome : {A : Type 0} (r : Answer A) (a : A) → as_outcome r ≡ Ok a → r ≡ Ok a
from-outcome (Ok b) a e = let same : b ≡ a = cc in ap Ok same
from-outcome (Err f) a e = absurd cc

ok-is : {A E : Type 0} {x y : A} → ◌≡◌ {A = Result A E} (Ok x) (Ok y) → x ≡ y
ok-is e = cc

-- ---- leaves

-- what a job counts as
abbrev as_verdict : Came → Verdict
as_verdict (proved turns) = Verdict.Proved
as_verdict kept = Verdict.Proved
as_verdict (saturated values turns) = Verdict.Unproved
as_verdict (spent turns) = Verdict.Unproved
as_verdict lost = Verdict.Memory

shown-verdict : (names : List Bytes) (x : Came) → verdict_of (shown_of names x) ≡ as_verdict x
shown-verdict names (proved turns) = refl
shown-verdict names kept = refl
shown-verdict names (saturated values turns) = refl
shown-verdict names (spent turns) = refl
shown-verdict names lost = refl

module _ (f : Canon → Came) (es : List Entry) where
  abbrev verdict_on : Canon → Verdict
  verdict_on c = as_verdict (f c)

  kind-counts : (k : LeafKind) → verdict_of (judged_kind f es k) ≡ verdict verdict_on k
  kind-counts (kind.Search o) = shown-verdict _ (f (obligation_canon o))
  kind-counts kind.Missing = refl
  kind-counts kind.Omitted = refl
  kind-counts kind.Temporal = refl
  kind-counts kind.Shape = refl

  leaves-count : (ls : List Leaf) → leaf_verdicts (map (judged_leaf f es) ls) ≡ map (λ (l : Leaf). verdict verdict_on l.kind) ls
  leaves-count [] = refl
  leaves-count (l ∷ ls) = (λ i. kind-counts l.kind i ∷ leaves-count ls i)

  module _ (table : List Definition) (is_theorem : ℕ → Bool) where
    theorem-stands : (t : TheoremLeaves) (x : Theorem) → IsReportOf table is_theorem t x → StandsFor table is_theorem verdict_on (judged_theorem f es t) x
    theorem-stands t x r = (r.key, r.cited, leaves-count t.leaves ∙ ap (map (λ (l : Leaf). verdict verdict_on l.kind)) r.leaves)

    -- theorems stand for those that they are told of, and so do those behind them
    theorems-stand : (ts more : List TheoremLeaves) (others : List TheoremIn) (xs : List Theorem) → AreReports table is_theorem (ts ++ more) xs
        → ((ys : List Theorem) → AreReports table is_theorem more ys → StandFor table is_theorem verdict_on others ys) → StandFor table is_theorem verdict_on (map (judged_theorem f es) ts ++ others) xs
    theorems-stand [] more others xs r rest = rest xs r
    theorems-stand (t ∷ ts) more others [] r rest = absurd r
    theorems-stand (t ∷ ts) more others (x ∷ xs) r rest = (theorem-stands t x r.0, theorems-stand ts more others xs r.1 rest)

    chapters-stand : (cs : List Chapter) (xs : List Theorem) → AreReports table is_theorem (reports_in cs) xs → StandFor table is_theorem verdict_on (reported_theorems (judged f es cs)) xs
    chapters-stand [] [] r = tt
    chapters-stand [] (x ∷ xs) r = absurd r
    chapters-stand (c ∷ cs) xs r = theorems-stand c.theorems (reports_in cs) (reported_theorems (judged f es cs)) xs r (λ ys h. chapters-stand cs ys h)

-- ---- what is so of all forms is so of all leaves

of-leaves : (P : Canon → Type 0) → ((o : Obligation) → IsForm (obligation_canon o) → P (obligation_canon o)) → (ls : List Leaf) → OfLeaves IsForm ls → OfLeaves P ls
of-leaves P f [] h = tt
of-leaves P f (l ∷ ls) h = (of-kind l.kind h.0, of-leaves P f ls h.1)
  where
    of-kind : (k : LeafKind) → OfKind IsForm k → OfKind P k
    of-kind (kind.Search o) h = f o h
    of-kind kind.Missing h = tt
    of-kind kind.Omitted h = tt
    of-kind kind.Temporal h = tt
    of-kind kind.Shape h = tt

of-theorems : (P : Canon → Type 0) → ((o : Obligation) → IsForm (obligation_canon o) → P (obligation_canon o)) → (ts : List TheoremLeaves) → OfTheorems IsForm ts → OfTheorems P ts
of-theorems P f [] h = tt
of-theorems P f (t ∷ ts) h = (of-leaves P f t.leaves h.0, of-theorems P f ts h.1)

of-chapters : (P : Canon → Type 0) → ((o : Obligation) → IsForm (obligation_canon o) → P (obligation_canon o)) → (cs : List Chapter) → OfChapters IsForm cs → OfChapters P cs
of-chapters P f [] h = tt
of-chapters P f (c ∷ cs) h = (of-theorems P f c.theorems h.0, of-chapters P f cs h.1)

-- ---- what is read

resolved_is : (o : Option (ℕ × ScopeFault)) (ms : List Module) (t : Table) → resolved o ms ≡ Ok t → resolution ms ≡ Ok t
resolved_is None ms t e = e
resolved_is (Some f) ms t e = let a = from-value (resolution _) (λ t. Err f.1) t e in absurd (never a.2)
  where
    never : ◌≡◌ {A = Answer Table} (Err f.1) (Ok t) → ⊥
    never e = cc

record IsRight (r : Read) : Type 0 where
  pub resolved : resolution r.modules ≡ Ok r.table
  pub apart : PlacesDiffer r.modules

read-right : ReadPlacesDiffer → (a : Asked) (folder : Folder) (r : Read) → IsRead a folder r → IsRight r
unfolding reading read_of
read-right places a folder r e =
    let given = given_for a.root a.demo in
    let l = from-loading (loading given folder a.root) _ r e in
    let ms = map module_of l.0 in
    let o = from-outcome (read_of ms) r l.2 in
    let t = from-value (checked ms) _ r o in
    subst IsRight (ok-is t.2) (record { resolved = resolved_is (modules_fault ms) ms t.0 t.1; apart = loads-apart places given folder a.root l.0 l.1 })

-- ---- theorems

-- a form counts as proved only where it is answered so, and so has a derivation
came-proved : (x : Searched) → as_verdict (as_came x) ≡ Verdict.Proved → is_proved x ≡ true
came-proved (Proved turns) e = refl
came-proved (Saturated values turns) e = absurd cc
came-proved (Spent turns) e = absurd cc
came-proved Cached e = refl

sound : AnsweredDerives → (ps : Proofs) (lost_ones : Canon → Bool) (n : ℕ) → IsSound (λ c. as_verdict (with_lost lost_ones (came ps n) c))
sound derives ps lost_ones n c e =
    by (lost_ones c) e
  where
    by : (b : Bool) → as_verdict (if b then lost else came ps n c) ≡ Verdict.Proved → IsDerived c
    by true e = absurd cc
    by false e = derives (ps c) n c (came-proved (answered (ps c) n c) e)

-- what the search proves is proved whatever is kept
no-less : CacheKeepsProved → (ps : List Lists) (n : ℕ) (c : Canon) → is_form c ≡ true → is_proved (answer n c) ≡ true → is_proved (answered ps n c) ≡ true
no-less keeps ps n c f e = keeps ps n c (ap (λ b. is_proved (answered_where b [] n c)) f ∙ e)

-- what is so of all theorems that are proved is so of those of a front
front-derives : (table : List Definition) (xs : List Theorem) (rs ss : List Status) → StatusesOfFront rs ss → EachDerives table xs ss → EachDerives table xs rs
front-derives table [] rs ss f h = tt
front-derives table (x ∷ xs) [] ss f h = tt
front-derives table (x ∷ xs) (r ∷ rs) [] f h = absurd f
front-derives table (x ∷ xs) (r ∷ rs) (s ∷ ss) f h = (λ p. h.0 (f.0 p), front-derives table xs rs ss f.1 h.1)

told-derives : StatusesAreJustified → StatusesAgree → ChaptersReport → FrontsAreProved → AnsweredDerives → (a : Asked) (r : Read) → IsRight r → NamesDiffer r.modules → (ps : Proofs) (lost_ones : Canon → Bool)
    → EachDerives (definitions_of r.modules r.table) (all_theorems r.modules r.table) (statuses_of (told ps lost_ones a r).0)
told-derives justified agree report fronts derives a r h names ps lost_ones =
    let table = definitions_of r.modules r.table in
    let is_theorem = is_theorem_of r.modules r.table in
    let theorems = all_theorems r.modules r.table in
    let f = with_lost lost_ones (came ps a.turns) in
    let js = judged f r.table.entries (chapters_of r.modules r.table) in
    let on : Canon → Verdict = λ c. as_verdict (f c) in
    front-derives table theorems (statuses_of (told ps lost_ones a r).0) (statuses_of js) (fronts a.stop js)
    (subst (EachDerives table theorems)
    (sym (agree table is_theorem on (reported_theorems js) theorems (chapters-stand f r.table.entries table is_theorem (chapters_of r.modules r.table) theorems (report r.modules r.table))))
    (justified r.modules r.table on h.resolved names h.apart (sound derives ps lost_ones a.turns)))

-- ---- all that is read

pub reads_are_just : ReadPlacesDiffer → StatusesAreJustified → StatusesAgree → ChaptersReport → FrontsAreProved → AnsweredDerives → SaturatedIsSearched → CacheKeepsProved → ProvedIsValid → ValuesFalsify → EnoughTurnsDecide → FewConnectives → LeavesAreForms → ReadsAreJust
reads_are_just places justified agree report fronts derives searched keeps valid falsifies enough few forms a folder r e names =
    let h = read-right places a folder r e in
    let cs = chapters_of r.modules r.table in
    let all = forms r.modules r.table h.resolved h.apart in
    let n = a.turns in (
      record {
        derived = told-derives justified agree report fronts derives a r h names;
        leaves = of-chapters (IsJustForm n) (λ o p. record {
          form = p;
          derived = λ ps. derives ps n (obligation_canon o);
          no_less = λ ps. no-less keeps ps n (obligation_canon o) p;
          valid = valid n (obligation_canon o);
          falsified = λ ps values turns e.
              falsifies n (obligation_canon o) (forms_are_numbered (map (unfolded o.defs) o.facts) (unfolded o.defs o.goal)) values turns
              (searched ps n (obligation_canon o) (Some values) turns e);
        }) cs all;
      },
      of-chapters (IsDecidedForm n) (λ o p. let c = obligation_canon o in record {
        enough = enough n c;
        usual = λ is same less. enough n c is (subst (HasTurns c.facts c.goal) (sym same) ((few c.facts c.goal).0 less));
        most = λ is same less. enough n c is (subst (HasTurns c.facts c.goal) (sym same) ((few c.facts c.goal).1 less));
      }) cs all,
    )
