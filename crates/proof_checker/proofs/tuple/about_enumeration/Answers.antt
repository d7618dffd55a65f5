use Rattle.std.proofs.Common.{◌≡◌, length, replicate, rules}
use Rattle.proof_checker.proofs.TupleLaws.{enumeration_made, below_grown, below_replicate}
use Rattle.proof_checker.proofs.tuple.about_enumeration.Goals as goal

pub join_equations-requires-clause-left : goal.join_equations-requires-clause-left
join_equations-requires-clause-left c =
    let e : c.as_slice.result.now ≡ replicate (length c.args.elements.now) c.args.term = search rules in
    rw e (below_grown c.args.bank.now c.make.new.self _ c.make.ensures.extends (below_replicate (length c.args.bank.now) (length c.args.elements.now) c.args.term c.requires.term))

pub join_equations-requires-clause-right : goal.join_equations-requires-clause-right
join_equations-requires-clause-right c = below_grown c.args.bank.now c.make.new.self c.args.elements.now c.make.ensures.extends c.requires.elements

pub returns-clause-ok : goal.returns-clause-ok
returns-clause-ok c =
    let e : c.as_slice.result.now ≡ replicate (length c.args.elements.now) c.args.term = search rules in
    enumeration_made c.args.bank.now c.make.new.self c.join_equations.new.bank c.finish.new.bank c.args.term c.in_ok-set.set c.in_ok-meaning.meaning c.in_ok-formula.formula c.args.elements.now c.as_slice.result.now c.requires.term c.requires.elements c.make.ensures.extends c.join_equations.ensures.extends e c.in_ok-set.ensures.ok c.in_ok-meaning.ensures.ok c.in_ok-formula.ensures.ok
