use Rattle.std.proofs.Common.{[], arith, refl, ◌∙◌}
use Rattle.term_order.proofs.codes.code_less.Goals as goal

pub loop-is_less-init : goal.loop-is_less-init
loop-is_less-init c =
    record { left_within = c.requires.left; right_within = c.requires.right; apart = c.requires.apart; same = record { after_left = []; after_right = []; same = refl } }

pub loop-is_less-preserved : goal.loop-is_less-preserved
loop-is_less-preserved c =
    let s = c.loop-is_less.invariant.same in
    let h = c.in-Below.ensures in
    let a = h.0 in
    let b = h.1 in
    let l = c.loop-is_less.invariant.left_within in
    let r = c.loop-is_less.invariant.right_within in
    let n = h.3 s.after_left s.after_right in
    record { left_within = omega (arith, a, l); right_within = omega (arith, b, r); apart = h.2; same = record { after_left = n.after_left; after_right = n.after_right; same = s.same ∙ n.same } }
