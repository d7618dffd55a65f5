use Rattle.proof_text.proofs.ShapeLaws.{build-fits}
use Rattle.proof_text.proofs.frames.made.Goals as goal

pub build-requires : goal.build-requires
build-requires c = build-fits _ _ _ _ c.as_slice-numbers.ensures c.if-node-eq6.false c.requires
