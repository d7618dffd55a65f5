use Rattle.std.proofs.Common.{sym, ◌∙◌, ap}
use Rattle.command_words.proofs.WordLaws.{ending_there, ending_absent}
use Rattle.command_words.specs.Requests.{without_ending}
use Rattle.command_words.proofs.request.without_ending.Goals as goal

pub returns-in-Some : goal.returns-in-Some
returns-in-Some c = let h = c.in-Some.ensures.cases in h.2 ∙ sym (ap without_ending h.1.1 ∙ ending_there _)

pub returns-in-None : goal.returns-in-None
returns-in-None c = sym (ending_absent c.args.word.now c.in-None.ensures.cases)
