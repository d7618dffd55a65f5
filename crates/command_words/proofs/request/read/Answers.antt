use Rattle.std.proofs.Common.{◌∙◌, ap}
use Rattle.std.specs.Prelude.{codes}
use Rattle.clap.specs.Words.{Text, first_of, found_of}
use Rattle.clap.proofs.WalkLemmas.{first_value-rows}
use Rattle.command_words.proofs.request.read.Goals as goal

pub returns-clause-given : goal.returns-clause-given
returns-clause-given c =
    let m = c.in_ok-matches.matches in
    let rows = c.in_ok-matches.ensures.rows in
    let text = λ (id : Text). first_value-rows (found_of m) id ∙ ap (first_of id) rows in
    record {
      root = c.get_str.ensures ∙ text (codes "module");
      turns = c.get_str-2.ensures ∙ text (codes "turns");
      workers = c.get_str-3.ensures ∙ text (codes "workers");
      demo = c.get_str-4.ensures ∙ text (codes "demo");
      stop = c.get_str-5.ensures ∙ text (codes "stop");
      json = c.get_str-6.ensures ∙ text (codes "json");
      cache = c.get_str-7.ensures ∙ text (codes "cache");
    }
