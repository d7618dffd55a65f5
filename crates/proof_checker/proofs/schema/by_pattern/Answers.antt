use Rattle.std.proofs.Common.{rules, subst, sym}
use Rattle.core_expr.specs.Nodes.{picked}
use Rattle.proof_checker.specs.Schemas.{IsInstance}
use Rattle.proof_checker.proofs.PatternLaws.{pattern_instance, pattern_number}
use Rattle.proof_checker.proofs.schema.by_pattern.Goals as goal

pub returns-then-number-ne0-clause-ok : goal.returns-then-number-ne0-clause-ok
returns-then-number-ne0-clause-ok c = pattern_number c.args.bank.now c.args.schema c.args.number (picked c.args.bank.now c.args.params.now) c.requires.least c.requires.most (search rules)

pub returns-clause-ok : goal.returns-clause-ok
returns-clause-ok c = subst (λ z. IsInstance c.pattern_at.new.bank c.args.schema z (picked c.args.bank.now c.args.params.now) c.in_ok-found.found) (sym c.if-number-ne0.false) (pattern_instance c.pattern_at.new.bank c.args.schema (picked c.args.bank.now c.args.params.now) c.in_ok-found.found c.requires.least c.requires.most c.in_ok-found.ensures.ok)
