use Rattle.reading_places.proofs.Reading.{reads-apart}
use Rattle.reading_places.proofs.read_places_differ.Goals as goal

pub returns : goal.returns
returns c = reads-apart c.tokens_lie_in_the_text.ensures c.read_in_order.ensures
