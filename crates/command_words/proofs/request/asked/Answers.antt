use Rattle.std.proofs.Common.{map}
use Rattle.std.specs.Prelude.{string_bytes}
use Rattle.command_words.proofs.Asking.{texts_ask}
use Rattle.command_words.proofs.request.asked.Goals as goal

pub returns-in-None-clause-unlawful : goal.returns-in-None-clause-unlawful
returns-in-None-clause-unlawful c is a asked =
    c.in-None.ensures.none a (texts_ask (map string_bytes c.args.words.now) c.in_ok-given.given a c.in_ok-given.ensures.given asked)
