use Rattle.std.proofs.Common.{◌≡◌, true, false, cond, Some, None, sym, ap, ◌∙◌, rules}
use Rattle.core_expr.specs.Tree.{not_, eq_}
use Rattle.seq_calculus.specs.Schemas.{if_closed}
use Rattle.seq_calculus.proofs.Listed.{not_from, yes_from}
use Rattle.seq_calculus.proofs.Lone.{not_apart}
use Rattle.seq_calculus.proofs.literal.literals.Goals as goal

pub returns-then-not-are_apart : goal.returns-then-not-are_apart
returns-then-not-are_apart c =
    let q : c.are_apart.result ≡ false = search rules in
    sym (ap (λ b. if_closed (cond b (Some (not_ (eq_ c.args.l.now c.args.m.now))) None)) (not_apart c.args.l.now c.args.m.now (not_from c.are_apart.result _ c.are_apart.ensures q)))

pub returns : goal.returns
returns c =
    let q : c.are_apart.result ≡ true = search rules in
    c.if_closed.ensures ∙ ap (λ t. if_closed (Some t)) c.in_ok-build_literals.ensures
    ∙ sym (ap (λ b. if_closed (cond b (Some (not_ (eq_ c.args.l.now c.args.m.now))) None)) (yes_from c.are_apart.result _ c.are_apart.ensures q))
