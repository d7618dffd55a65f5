-- What was told of modules as JSON is their report.
use Rattle.std.specs.Prelude.{◌≡◌, Bool, true, false, List, [], ◌∷◌, ◌++◌, fold, codes}
use Rattle.std.proofs.Common.{sym, ap, ◌∙◌, append_assoc, append-nil}
use Rattle.std.proofs.lemmas.List.Sums.{fold-append}
use Rattle.proof_contexts.specs.Statuses.{is_proved}
use Rattle.status_report.specs.declared.table.TheoremIn.{TheoremIn}
use Rattle.status_report.specs.declared.table.ModuleIn.{ModuleIn}
use Rattle.status_report.specs.Statuses.{status_in, see}
use Rattle.status_report.specs.Report.{all_theorems}
use Rattle.status_report.specs.Telling.{Told, with_text}
use Rattle.status_report.specs.Json.{comma, theorem_json, theorems_json, opening_json, modules_json, tell_json, tell_all_json, tell_modules_json}
use Rattle.status_report.proofs.Telling.{flags, flags-append}

-- the text with one theorem more and what follows it
with_theorem : (first : Bool) (s : Told) (t : TheoremIn) (ts : List TheoremIn) → (tell_json first s t).text ++ theorems_json false (see s.seen t) ts ≡ s.text ++ theorems_json first s.seen (t ∷ ts)
with_theorem first s t ts = append_assoc s.text (comma first ++ theorem_json s.seen t) (theorems_json false (see s.seen t) ts)

with_flag : (first : Bool) (s : Told) (t : TheoremIn) (ts : List TheoremIn) → (tell_json first s t).proved ++ flags (see s.seen t) ts ≡ s.proved ++ flags s.seen (t ∷ ts)
with_flag first s t ts = append_assoc s.proved (is_proved (status_in s.seen t) ∷ []) (flags (see s.seen t) ts)

told_theorems_json : (first : Bool) (s : Told) (ts : List TheoremIn)
    → tell_all_json first s ts ≡ record { seen = fold see s.seen ts; text = s.text ++ theorems_json first s.seen ts; proved = s.proved ++ flags s.seen ts }
told_theorems_json first s [] = λ i. record { seen = s.seen; text = sym (append-nil s.text) i; proved = sym (append-nil s.proved) i }
told_theorems_json first s (t ∷ ts) =
    told_theorems_json false (tell_json first s t) ts ∙ (λ i. record { seen = fold see (see s.seen t) ts; text = with_theorem first s t ts i; proved = with_flag first s t ts i })

pub told_modules_json : (first : Bool) (s : Told) (ms : List ModuleIn)
    → tell_modules_json first s ms
    ≡ record { seen = fold see s.seen (all_theorems ms); text = s.text ++ modules_json first s.seen ms; proved = s.proved ++ flags s.seen (all_theorems ms) }
told_modules_json first s [] = λ i. record { seen = s.seen; text = sym (append-nil s.text) i; proved = sym (append-nil s.proved) i }
told_modules_json first s (m ∷ ms) =
    let head = opening_json first m.name in
    let body = theorems_json true s.seen m.theorems in
    let next = fold see s.seen m.theorems in
    let rest = modules_json false next ms in
    let told : Told = record { seen = next; text = ((s.text ++ head) ++ body) ++ codes "]}"; proved = s.proved ++ flags s.seen m.theorems } in
    ap (λ x. tell_modules_json false (with_text (codes "]}") x) ms) (told_theorems_json true (with_text head s) m.theorems)
    ∙ told_modules_json false told ms
    ∙ (λ i. record {
      seen = sym (fold-append see s.seen m.theorems (all_theorems ms)) i;
      text = (ap (λ x. (x ++ codes "]}") ++ rest) (append_assoc s.text head body) ∙ ap (λ x. x ++ rest) (append_assoc s.text (head ++ body) (codes "]}")) ∙ append_assoc s.text ((head ++ body) ++ codes "]}") rest) i;
      proved = (append_assoc s.proved (flags s.seen m.theorems) (flags next (all_theorems ms)) ∙ ap (λ b. s.proved ++ b) (sym (flags-append s.seen m.theorems (all_theorems ms)))) i;
    })
