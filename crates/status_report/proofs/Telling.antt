-- What was told of modules is their report.
use Rattle.std.specs.Prelude.{◌≡◌, Bool, List, [], ◌∷◌, ◌++◌, fold, map, codes}
use Rattle.std.proofs.Common.{refl, ap, sym, ◌∙◌, append_assoc, append-nil}
use Rattle.std.proofs.lemmas.List.Sums.{fold-append}
use Rattle.proof_contexts.specs.Statuses.{is_proved}
use Rattle.status_report.specs.declared.table.TheoremIn.{TheoremIn}
use Rattle.status_report.specs.declared.table.ModuleIn.{ModuleIn}
use Rattle.status_report.specs.declared.table.Style.{Style}
use Rattle.status_report.specs.declared.table.Style.TheVariants.{Plain, Json, Brief, BriefJson}
use Rattle.status_report.specs.Texts.{Bytes, line}
use Rattle.status_report.specs.Statuses.{Seen, status_in, see, statuses_from}
use Rattle.status_report.specs.Report.{theorem_lines, theorems_lines, module_lines, modules_lines, all_theorems, in_style}
use Rattle.status_report.specs.Telling.{Told, tell, with_text, tell_module}

styled : (style : Style) (a b : Bytes) → in_style style (a ++ b) ≡ in_style style a ++ in_style style b
styled Plain a b = refl
styled Json a b = refl
styled Brief a b = refl
styled BriefJson a b = refl

nothing-styled : (style : Style) → in_style style [] ≡ []
nothing-styled Plain = refl
nothing-styled Json = refl
nothing-styled Brief = refl
nothing-styled BriefJson = refl

abbrev pub flags : Seen → List TheoremIn → List Bool
flags s ts = map is_proved (statuses_from s ts)

-- theorems told, one after another
pub told_theorems : (style : Style) (s : Told) (ts : List TheoremIn)
    → fold (tell style) s ts ≡ record { seen = fold see s.seen ts; text = s.text ++ in_style style (theorems_lines s.seen ts); proved = s.proved ++ flags s.seen ts }
told_theorems style s [] = λ i. record { seen = s.seen; text = (sym (append-nil s.text) ∙ ap (λ b. s.text ++ b) (sym (nothing-styled style))) i; proved = sym (append-nil s.proved) i }
told_theorems style s (t ∷ ts) =
    told_theorems style (tell style s t) ts
    ∙ (λ i. record {
      seen = fold see (see s.seen t) ts;
      text = (append_assoc s.text (in_style style (theorem_lines s.seen t)) _ ∙ ap (λ b. s.text ++ b) (sym (styled style (theorem_lines s.seen t) (theorems_lines (see s.seen t) ts)))) i;
      proved = append_assoc s.proved (is_proved (status_in s.seen t) ∷ []) (flags (see s.seen t) ts) i;
    })

pub flags-append : (s : Seen) (ts us : List TheoremIn) → flags s (ts ++ us) ≡ flags s ts ++ flags (fold see s ts) us
flags-append s [] us = refl
flags-append s (t ∷ ts) us = ap (λ bs. is_proved (status_in s t) ∷ bs) (flags-append (see s t) ts us)

-- modules told, one after another
pub told_modules : (style : Style) (s : Told) (ms : List ModuleIn)
    → fold (tell_module style) s ms
    ≡ record { seen = fold see s.seen (all_theorems ms); text = s.text ++ in_style style (modules_lines s.seen ms); proved = s.proved ++ flags s.seen (all_theorems ms) }
told_modules style s [] = λ i. record { seen = s.seen; text = (sym (append-nil s.text) ∙ ap (λ b. s.text ++ b) (sym (nothing-styled style))) i; proved = sym (append-nil s.proved) i }
told_modules style s (m ∷ ms) =
    let head = in_style style (line (codes "module " ++ m.name)) in
    let next = fold see s.seen m.theorems in
    let told : Told = record { seen = next; text = (s.text ++ head) ++ in_style style (theorems_lines s.seen m.theorems); proved = s.proved ++ flags s.seen m.theorems } in
    ap (λ x. fold (tell_module style) x ms) (told_theorems style (with_text head s) m.theorems)
    ∙ told_modules style told ms
    ∙ (λ i. record {
      seen = sym (fold-append see s.seen m.theorems (all_theorems ms)) i;
      text = ((ap (λ b. b ++ in_style style (modules_lines next ms)) (append_assoc s.text head _ ∙ ap (λ b. s.text ++ b) (sym (styled style _ (theorems_lines s.seen m.theorems))))
          ∙ append_assoc s.text _ _ ∙ ap (λ b. s.text ++ b) (sym (styled style (module_lines s.seen m) (modules_lines next ms)))) i);
      proved = (append_assoc s.proved (flags s.seen m.theorems) (flags next (all_theorems ms)) ∙ ap (λ b. s.proved ++ b) (sym (flags-append s.seen m.theorems (all_theorems ms)))) i;
    })
