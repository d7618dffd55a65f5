use Rattle.std.proofs.Common.{rules, ◌≡◌, ◌≤◌, length, [], ◌++◌, drop, ap, sym, ◌∙◌, append-nil}
use Rattle.std.proofs.Math.ListN.{drop_of_length-le}
use Rattle.prime_expand.specs.Symbols.{flagged}
use Rattle.prime_expand.proofs.Heads.{flagged-none}
use Rattle.prime_expand.proofs.symbols.flagged.Goals as goal

pub returns-in_default : goal.returns-in_default
returns-in_default c =
    let n = c.loop-i.i in
    let l : length c.args.args.now ≤ n = search rules in
    let e : drop n c.args.args.now ≡ [] = drop_of_length-le c.args.args.now l in
    sym (c.loop-i.invariant ∙ ap (λ l. c.loop-i.found.items ++ flagged (drop n c.args.flags.now) l) e
    ∙ ap (λ l. c.loop-i.found.items ++ l) (flagged-none (drop n c.args.flags.now)) ∙ append-nil c.loop-i.found.items)
