use Rattle.std.proofs.Common.{rules}
use Rattle.core_expr.specs.Put.{IsScoped}
use Rattle.term_bank.specs.Banks.{tree_at}
use Rattle.proof_checker.proofs.NodeLaws.{instance_added}
use Rattle.proof_checker.proofs.pattern.add_instance.Goals as goal

pub returns-clause-ok : goal.returns-clause-ok
returns-clause-ok c =
    let t : IsScoped 0 (tree_at c.args.bank.now c.args.term) = c.is_closed.ensures.0 (search (rules, c.if-not-is_closed.false)) in
    let b : IsScoped 1 (tree_at c.args.bank.now c.args.body) = c.in_ok-is_body.ensures.ok.0 (search (rules, c.if-not-branch.false)) in
    instance_added c.args.bank.now c.is_body.new.bank c.inst.new.self c.args.values.now.items c.push.new.self.items c.args.body c.args.term c.in_ok-instance.instance c.is_body.ensures.extends c.inst.ensures.extends c.requires.values c.requires.body c.requires.term t b c.in_ok-instance.ensures.ok (search rules)
