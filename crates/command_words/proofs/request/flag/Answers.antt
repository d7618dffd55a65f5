use Rattle.std.proofs.Common.{◌∙◌, ap, sym, option_map}
use Rattle.std.specs.Prelude.{codes}
use Rattle.command_words.proofs.WordLaws.{texts_equal}
use Rattle.command_words.specs.Requests.{flag_of}
use Rattle.command_words.proofs.request.flag.Goals as goal

pub returns-in-Some : goal.returns-in-Some
returns-in-Some c = c.eq.ensures ∙ texts_equal c.in-Some.text.now (codes "true") ∙ sym (ap (λ o. flag_of (option_map (λ s. s.now) o)) c.in-Some.is)
