use Rattle.std.proofs.Common.{◌∙◌, map, ap, sym}
use Rattle.std.specs.Prelude.{string_bytes}
use Rattle.clap.specs.Words.{App, app_of, is_simple, is_simple_and_free, matches_of, fault_of, HasKind}
use Rattle.command_words.specs.Words.{IsTaken, rows}
use Rattle.command_words.proofs.Simple.{is_simple_command, is_free_command, no_kind}
use Rattle.command_words.proofs.matched.matches_for.Goals as goal

pub returns-in-Ok-try_get_matches_from-clause-taken : goal.returns-in-Ok-try_get_matches_from-clause-taken
unfolding IsTaken
returns-in-Ok-try_get_matches_from-clause-taken c =
    let app = c.in-Ok.ensures in
    let none = c.in-Ok-try_get_matches_from.ensures.kinds (ap is_simple_and_free app ∙ is_free_command) in
    ap (λ (a : App). fault_of a (map string_bytes c.args.words.now)) (sym app) ∙ none

pub returns-in-Ok-try_get_matches_from-clause-rows : goal.returns-in-Ok-try_get_matches_from-clause-rows
unfolding rows
returns-in-Ok-try_get_matches_from-clause-rows c =
    let app = c.in-Ok.ensures in
    let exact = c.in-Ok-try_get_matches_from.ensures.matches (ap is_simple app ∙ is_simple_command) in
    exact.0 ∙ ap (λ (a : App). matches_of a (map string_bytes c.args.words.now)) app

pub returns-in-Err-clause-refused : goal.returns-in-Err-clause-refused
unfolding IsTaken
returns-in-Err-clause-refused c is_words taken =
    let app = c.in-Ok.ensures in
    let failed : HasKind (fault_of (app_of c.in-Ok.command) (map string_bytes c.args.words.now)) c.in-Err.error = c.in-Err.ensures.kinds (ap is_simple_and_free app ∙ is_free_command) in
    let none = ap (λ (a : App). fault_of a (map string_bytes c.args.words.now)) app ∙ taken in
    no_kind _ c.in-Err.error none failed (c.fault.ensures is_words)
