use Rattle.std.proofs.Common.{◌∙◌, ap}
use Rattle.symbol_table.specs.Symbols.{symbol_at}
use Rattle.symbol_table.proofs.Noted.{lookup_placed}
use Rattle.symbol_table.proofs.symbols.Symbols.at.Goals as goal

pub returns : goal.returns
returns c = c.copied.ensures ∙ c.get.ensures.value ∙ lookup_placed c.args.place c.self.inside.numbers.entries ∙ ap (λ es. symbol_at es c.args.place) c.self.view_is
