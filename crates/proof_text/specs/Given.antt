-- An obligation that was read.
use Rattle.proof_text.specs.declared.read.Given.{Given}
use Rattle.proof_text.specs.Texts.{Obligation}

abbrev pub given_of : Given → Obligation
given_of g = record { nodes = g.nodes.items; facts = g.facts; goal = g.goal }
