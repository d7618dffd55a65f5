use Rattle.std.proofs.Common.{◌<◌, ◌≤◌, length, refl}
use Rattle.core_expr.specs.Heads.{subtrees}
use Rattle.term_bank.specs.Banks.{tree_at}
use Rattle.formula_rules.proofs.Same.{part_some, part_none}
use Rattle.formula_rules.proofs.rewriting.part_at.Goals as goal

pub returns-then-k-parts : goal.returns-then-k-parts
returns-then-k-parts c =
    let p = c.parts_at-parts.result.now in
    let l : length p ≤ c.args.k = c.if-k-parts.true in
    part_none c.args.bank.now (subtrees (tree_at c.args.bank.now c.args.t)) p c.args.k c.parts_at-parts.ensures.trees l

pub returns : goal.returns
returns c =
    let p = c.parts_at-parts.result.now in
    let l : c.args.k < length p = c.if-k-parts.false in
    part_some c.args.bank.now (subtrees (tree_at c.args.bank.now c.args.t)) p c.args.k _ c.parts_at-parts.ensures.trees c.parts_at-parts.ensures.within l refl
