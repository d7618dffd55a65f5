use Rattle.std.proofs.Common.{refl}
use Rattle.proof_text.proofs.FrameLaws.{ascended}
use Rattle.proof_text.proofs.frames.ascend.Goals as goal

pub returns : goal.returns
returns c =
    ascended c.args.nodes.now c.args.root _ _ c.in-Some.frame _ c.args.e c.requires.waiting c.requires.goal c.in-Some.ensures.items refl c.in_ok-push.ensures.items
