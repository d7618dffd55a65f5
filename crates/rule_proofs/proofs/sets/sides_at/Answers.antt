use Rattle.std.proofs.Common.{◌≡◌, ◌<◌, sym, ◌∙◌, rules}
use Rattle.core_expr.specs.Tree.{iff_}
use Rattle.proof_writer.specs.Written.{count, tree_at}
use Rattle.proof_trees.specs.Equated.{member_at}
use Rattle.rule_proofs.proofs.Scopes.{same_at, iff_parts}
use Rattle.rule_proofs.proofs.sets.sides_at.Goals as goal

pub returns-in-Iff-clause-first : goal.returns-in-Iff-clause-first
returns-in-Iff-clause-first c =
    let v = c.args.w.now in
    let w = c.inst.new.self in
    let h = c.requires in
    let f : tree_at w c.in_ok-at.at ≡ iff_ (tree_at w c.in-Iff.l) (tree_at w c.in-Iff.r) = search rules in
    let l : c.in-Iff.l < count w = search rules in
    let e = same_at (tree_at v c.args.body) (tree_at v c.args.s) (tree_at v c.args.t) (tree_at v c.args.c) (tree_at w c.in_ok-at.at) h.is h.closed_first h.closed_second h.closed c.in_ok-at.ensures.ok.1 in
    (l, (iff_parts (tree_at w c.in-Iff.l) (tree_at w c.in-Iff.r) (member_at (tree_at v c.args.c) (tree_at v c.args.s)) (member_at (tree_at v c.args.c) (tree_at v c.args.t)) (sym f ∙ e)).0)

pub returns-in-Iff-clause-second : goal.returns-in-Iff-clause-second
returns-in-Iff-clause-second c =
    let v = c.args.w.now in
    let w = c.inst.new.self in
    let h = c.requires in
    let f : tree_at w c.in_ok-at.at ≡ iff_ (tree_at w c.in-Iff.l) (tree_at w c.in-Iff.r) = search rules in
    let l : c.in-Iff.r < count w = search rules in
    let e = same_at (tree_at v c.args.body) (tree_at v c.args.s) (tree_at v c.args.t) (tree_at v c.args.c) (tree_at w c.in_ok-at.at) h.is h.closed_first h.closed_second h.closed c.in_ok-at.ensures.ok.1 in
    (l, (iff_parts (tree_at w c.in-Iff.l) (tree_at w c.in-Iff.r) (member_at (tree_at v c.args.c) (tree_at v c.args.s)) (member_at (tree_at v c.args.c) (tree_at v c.args.t)) (sym f ∙ e)).1)
