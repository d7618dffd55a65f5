use Rattle.std.proofs.Common.{◌∙◌, ap}
use Rattle.term_patterns.specs.Depths.{image_at}
use Rattle.term_patterns.proofs.ImageLaws.{lookup_placed}
use Rattle.term_patterns.proofs.images.Images.at.Goals as goal

pub returns : goal.returns
returns c = c.copied.ensures ∙ c.get.ensures.value ∙ lookup_placed c.args.spot c.self.inside.numbers.entries ∙ ap (λ es. image_at es c.args.spot) c.self.view_is
