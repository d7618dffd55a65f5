-- What was told of modules, in each style, and the counts behind it are the report.
use Rattle.std.specs.Prelude.{◌≡◌, suc, ◌+◌, Bool, true, cond, List, [], ◌∷◌, ◌++◌, fold, map, length, count_by, codes}
use Rattle.std.proofs.Common.{refl, ap, sym, ◌∙◌, append-nil, zero-add}
use Rattle.std.proofs.lemmas.List.Sums.{sum_by-append}
use Rattle.proof_contexts.specs.Statuses.{is_proved}
use Rattle.status_report.specs.declared.table.TheoremIn.{TheoremIn}
use Rattle.status_report.specs.declared.table.ModuleIn.{ModuleIn}
use Rattle.status_report.specs.declared.table.Style.{Style}
use Rattle.status_report.specs.declared.table.Style.TheVariants.{Plain, Json, Brief, BriefJson}
use Rattle.status_report.specs.Texts.{Bytes}
use Rattle.status_report.specs.Statuses.{Seen, nothing, see}
use Rattle.status_report.specs.Report.{all_theorems, statuses_of, theorem_count, proved_count, modules_lines}
use Rattle.status_report.specs.Telling.{Told, with_text}
use Rattle.status_report.specs.Json.{modules_json}
use Rattle.status_report.specs.Styles.{head_json, body_text, counts_text, report_text, tell_body}
use Rattle.status_report.proofs.Telling.{flags, told_modules}
use Rattle.status_report.proofs.JsonTelling.{told_modules_json}

counted : {X : Type 0} (p : X → Bool) (x : X) (xs : List X) → count_by p (x ∷ xs) ≡ cond (p x) 1 0 + count_by p xs
counted p x xs = sum_by-append (λ y. cond (p y) 1 0) (x ∷ []) xs ∙ ap (λ n. n + count_by p xs) (zero-add (cond (p x) 1 0))

count-map : {X : Type 0} (p : X → Bool) (xs : List X) → count_by (λ v. v) (map p xs) ≡ count_by p xs
count-map p [] = refl
count-map p (x ∷ xs) = counted (λ v. v) (p x) (map p xs) ∙ ap (λ n. cond (p x) 1 0 + n) (count-map p xs) ∙ sym (counted p x xs)

length-flags : (s : Seen) (ts : List TheoremIn) → length (flags s ts) ≡ length ts
length-flags s [] = refl
length-flags s (t ∷ ts) = ap suc (length-flags (see s t) ts)

-- nothing is told
abbrev pub start : Told
start = record { seen = nothing; text = []; proved = [] }

abbrev opened : Told
opened = with_text (codes "{") start

-- modules told
abbrev whole : List ModuleIn → Bytes → Told
whole ms text = record { seen = fold see nothing (all_theorems ms); text = text; proved = flags nothing (all_theorems ms) }

told_body : (style : Style) (ms : List ModuleIn) → tell_body style start ms ≡ whole ms (body_text style ms)
told_body Plain ms = told_modules Plain start ms
told_body Json ms = ap (with_text (codes "],")) (told_modules_json true (with_text head_json start) ms)
told_body Brief ms = told_modules Brief start ms
told_body BriefJson ms = told_modules BriefJson opened ms

module _ (style : Style) (ms : List ModuleIn) (s told : Told) where
  is_whole : s ≡ start → told ≡ tell_body style s ms → told ≡ whole ms (body_text style ms)
  is_whole b e = e ∙ ap (λ x. tell_body style x ms) b ∙ told_body style ms

  flags-told : s ≡ start → told ≡ tell_body style s ms → told.proved ≡ flags nothing (all_theorems ms)
  flags-told b e = ap (λ (x : Told). x.proved) (is_whole b e)

  pub theorems_are : s ≡ start → told ≡ tell_body style s ms → length told.proved ≡ theorem_count ms
  theorems_are b e = ap length (flags-told b e) ∙ length-flags nothing (all_theorems ms)

  pub proved_are : s ≡ start → told ≡ tell_body style s ms → count_by (λ v. v) told.proved ≡ proved_count ms
  proved_are b e = ap (count_by (λ v. v)) (flags-told b e) ∙ count-map is_proved (statuses_of ms)

  pub text_is : (stopped : Bool) (text : Bytes) → s ≡ start → told ≡ tell_body style s ms → text ≡ told.text ++ counts_text style stopped (length told.proved) (count_by (λ v. v) told.proved)
      → text ≡ report_text style stopped ms
  unfolding report_text
  text_is stopped text b e t = t ∙ (λ i. (is_whole b e i).text ++ counts_text style stopped (theorems_are b e i) (proved_are b e i))
