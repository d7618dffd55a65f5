use Rattle.std.proofs.Common.{◌≡◌, ◌∙◌, arith, get_or, length}
use Rattle.proof_text.proofs.FrameLaws.{descend, made_form}
use Rattle.proof_text.proofs.frames.go_on.Goals as goal

pub returns-then-len : goal.returns-then-len
returns-then-len c =
    let e : c.len-then-len.result ≡ length c.args.frame.parts.items = omega (arith, c.len-then-len.ensures, c.args.frame.parts.ok) in
    descend c.args.nodes.now c.args.root _ _ c.args.frame _ c.index-nodes-frame.result c.requires.nodes c.requires.waiting c.requires.frame c.index-nodes-frame.is (omega (arith, c.if-len.true, c.len.ensures, c.len-2.ensures, c.args.frame.parts.ok)) c.in_ok-push.ensures.items (λ j. get_or (c.as_slice.ensures j) (e j) 0) c.new.ensures.items

pub made-requires : goal.made-requires
made-requires c =
    (made_form c.args.nodes.now _ c.args.frame c.index-nodes-frame.result c.requires.nodes c.requires.frame c.index-nodes-frame.is (omega (arith, c.if-len.false, c.len.ensures, c.len-2.ensures, c.args.frame.parts.ok))).0

pub ascend-requires-clause-goal : goal.ascend-requires-clause-goal
ascend-requires-clause-goal c =
    c.in_ok-e.ensures ∙ (made_form c.args.nodes.now _ c.args.frame c.index-nodes-frame.result c.requires.nodes c.requires.frame c.index-nodes-frame.is (omega (arith, c.if-len.false, c.len.ensures, c.len-2.ensures, c.args.frame.parts.ok))).1
