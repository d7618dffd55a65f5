-- The report in its four styles.
use Rattle.std.specs.Prelude.{ℕ, Bool, true, List, [], ◌++◌, fold, codes}
use Rattle.status_report.specs.declared.table.ModuleIn.{ModuleIn}
use Rattle.status_report.specs.declared.table.Style.{Style}
use Rattle.status_report.specs.declared.table.Style.TheVariants.{Plain, Json, Brief, BriefJson}
use Rattle.status_report.specs.Texts.{Bytes, count_line}
use Rattle.status_report.specs.Statuses.{nothing}
use Rattle.status_report.specs.Report.{modules_lines, theorem_count, proved_count}
use Rattle.status_report.specs.Json.{key, modules_json, counts_json, tell_modules_json}
use Rattle.status_report.specs.Telling.{Told, with_text, tell_module}

-- what stands before the modules as JSON
abbrev pub head_json : Bytes
head_json = codes "{" ++ key (codes "modules") ++ codes "["

-- what is told of the modules: all lines, the object's first key, or nothing
abbrev pub body_text : Style → List ModuleIn → Bytes
body_text Plain ms = modules_lines nothing ms
body_text Json ms = head_json ++ modules_json true nothing ms ++ codes "],"
body_text Brief ms = []
body_text BriefJson ms = codes "{"

-- how many theorems there are and how many of them are proved, of a run that was stopped or not
abbrev pub counts_text : Style → Bool → ℕ → ℕ → Bytes
counts_text Plain = count_line
counts_text Json = counts_json
counts_text Brief = count_line
counts_text BriefJson = counts_json

-- the report of modules, of a run that was stopped or not
unfoldable pub report_text : Style → Bool → List ModuleIn → Bytes
report_text style stopped ms = body_text style ms ++ counts_text style stopped (theorem_count ms) (proved_count ms)

-- how the code tells modules before the counts
abbrev pub tell_body : Style → Told → List ModuleIn → Told
tell_body Plain s ms = fold (tell_module Plain) s ms
tell_body Json s ms = with_text (codes "],") (tell_modules_json true (with_text head_json s) ms)
tell_body Brief s ms = fold (tell_module Brief) s ms
tell_body BriefJson s ms = fold (tell_module BriefJson) (with_text (codes "{") s) ms
