-- What is reported, where nothing ends the run, and where no leaf that is reported wanted memory.
use Rattle.std.specs.Prelude.{◌≡◌, Bool, true, false, if◌then◌else◌, List, [], ◌∷◌, map}
use Rattle.std.specs.List.{list_any}
use Rattle.std.proofs.Common.{refl, ap}
use Rattle.std.proofs.lemmas.Bool.{or_parts}
use Rattle.tla_io.specs.Told.{Bytes}
use Rattle.core_expr.specs.declared.canon.Canon.{Canon}
use Rattle.symbol_table.specs.declared.entry.Entry.{Entry}
use Rattle.proof_contexts.specs.declared.leaf.Leaf.{Leaf}
use Rattle.proof_contexts.specs.declared.leaf.LeafKind.{LeafKind}
use Rattle.proof_contexts.specs.declared.leaf.LeafKind.TheVariants as kind
use Rattle.theorem_leaves.specs.declared.chapter.TheoremLeaves.{TheoremLeaves}
use Rattle.theorem_leaves.specs.declared.chapter.Chapter.{Chapter}
use Rattle.status_report.specs.declared.table.LeafIn.{LeafIn}
use Rattle.status_report.specs.declared.table.TheoremIn.{TheoremIn}
use Rattle.status_report.specs.declared.table.ModuleIn.{ModuleIn}
use Rattle.status_report.specs.Report.{is_memory, wants_memory}
use Rattle.leaf_jobs.specs.Values.{symbol_text}
use Rattle.leaf_jobs.specs.Came.{Came, shown_of, with_lost}
use Rattle.leaf_jobs.specs.Came.Came.{lost}
use Rattle.leaf_jobs.specs.Forms.{named}
use Rattle.leaf_jobs.specs.Judging.{judged_kind, judged_leaf, judged_theorem, judged_module}
use Rattle.leaf_jobs.specs.Stopping.{front_and, front, cut_leaf, with_leaves, cut_theorem, with_theorems, cut_module, stops}
use Rattle.leaf_jobs.specs.Laws.{UnstoppedIsWhole, ReportWithoutMemory}

-- ---- nothing ends the run

whole : {A : Type 0} (cut : A → A × Bool) → ((x : A) → cut x ≡ (x, false)) → (xs : List A) → front cut xs ≡ (xs, false)
whole cut h [] = refl
whole cut h (x ∷ xs) = λ i. front_and (h x i) (whole cut h xs i)

theorem-whole : (t : TheoremIn) → cut_theorem (stops false) t ≡ (t, false)
theorem-whole t = ap (with_leaves (stops false) t) (whole (cut_leaf (stops false)) (λ l. refl) t.leaves)

module-whole : (m : ModuleIn) → cut_module (stops false) m ≡ (m, false)
module-whole m = ap (with_theorems (stops false) m) (whole (cut_theorem (stops false)) theorem-whole m.theorems)

pub unstopped_is_whole : UnstoppedIsWhole
unstopped_is_whole ms = whole (cut_module (stops false)) module-whole ms

-- ---- no leaf that is reported wanted memory

module _ {X Y : Type 0} (cut : Y → Y × Bool) (wants : Y → Bool) (f g : X → Y) where
  on-front : (y : Y) (b : Bool) (c : Y × Bool) (w v : List Y × Bool) → (wants y ≡ false → ◌≡◌ {A = Y × Bool} (y, b) c) → (list_any wants w.0 ≡ false → w ≡ v)
      → list_any wants (front_and (y, b) w).0 ≡ false → front_and (y, b) w ≡ front_and c v
  on-front y true c w v h k e = let p = (or_parts (wants y) false e).0 in λ i. front_and (h p i) v
  on-front y false c w v h k e = let p = or_parts (wants y) (list_any wants w.0) e in λ i. front_and (h p.0 i) (k p.1 i)

  alike : ((x : X) → wants (cut (f x)).0 ≡ false → cut (f x) ≡ cut (g x)) → (xs : List X) → list_any wants (front cut (map f xs)).0 ≡ false → front cut (map f xs) ≡ front cut (map g xs)
  alike h [] e = refl
  alike h (x ∷ xs) e = on-front (cut (f x)).0 (cut (f x)).1 (cut (g x)) (front cut (map f xs)) (front cut (map g xs)) (h x) (alike h xs) e

module _ (stop : Bool) (is_lost : Canon → Bool) (f : Canon → Came) (es : List Entry) where
  kind-alike : (k : LeafKind) → is_memory (judged_kind (with_lost is_lost f) es k) ≡ false → judged_kind (with_lost is_lost f) es k ≡ judged_kind f es k
  kind-alike (kind.Search o) h = go (is_lost (named o).canon) h
    where
      names : List Bytes
      names = map (symbol_text es) (named o).names

      go : (b : Bool) → is_memory (shown_of names (if b then lost else f (named o).canon)) ≡ false
          → shown_of names (if b then lost else f (named o).canon) ≡ shown_of names (f (named o).canon)
      go true h = absurd (cc)
      go false h = refl
  kind-alike kind.Missing h = refl
  kind-alike kind.Omitted h = refl
  kind-alike kind.Temporal h = refl
  kind-alike kind.Shape h = refl

  leaf-alike : (l : Leaf) → is_memory (judged_leaf (with_lost is_lost f) es l).verdict ≡ false
      → cut_leaf (stops stop) (judged_leaf (with_lost is_lost f) es l) ≡ cut_leaf (stops stop) (judged_leaf f es l)
  leaf-alike l h =
      let e = kind-alike l.kind h in
      λ i. (record { place = l.place; verdict = e i }, stops stop (e i))

  theorem-alike : (t : TheoremLeaves) → wants_memory (cut_theorem (stops stop) (judged_theorem (with_lost is_lost f) es t)).0 ≡ false
      → cut_theorem (stops stop) (judged_theorem (with_lost is_lost f) es t) ≡ cut_theorem (stops stop) (judged_theorem f es t)
  theorem-alike t h =
      ap (with_leaves (stops stop) (judged_theorem f es t)) (alike (cut_leaf (stops stop)) (λ (l : LeafIn). is_memory l.verdict) (judged_leaf (with_lost is_lost f) es) (judged_leaf f es) leaf-alike t.leaves h)

  module-alike : (c : Chapter) → list_any wants_memory (cut_module (stops stop) (judged_module (with_lost is_lost f) es c)).0.theorems ≡ false
      → cut_module (stops stop) (judged_module (with_lost is_lost f) es c) ≡ cut_module (stops stop) (judged_module f es c)
  module-alike c h =
      ap (with_theorems (stops stop) (judged_module f es c)) (alike (cut_theorem (stops stop)) wants_memory (judged_theorem (with_lost is_lost f) es) (judged_theorem f es) theorem-alike c.theorems h)

pub report_without_memory : ReportWithoutMemory
report_without_memory stop is_lost f es cs h =
    alike (cut_module (stops stop)) (λ (m : ModuleIn). list_any wants_memory m.theorems) (judged_module (with_lost is_lost f) es) (judged_module f es) (module-alike stop is_lost f es) cs h
