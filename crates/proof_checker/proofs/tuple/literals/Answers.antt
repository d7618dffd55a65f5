use Rattle.std.proofs.Common.{refl, Some, None, ◌≡◌, length, rules, sym, ◌∙◌, subst, inl, inr, ℕ}
use Rattle.core_expr.specs.Nodes.{picked}
use Rattle.term_bank.proofs.TableLaws.{length-picked}
use Rattle.proof_checker.specs.Schemas.{IsInstance}
use Rattle.proof_checker.proofs.InstanceLaws.{literals_some, literals_alike, literals_other}
use Rattle.proof_checker.proofs.tuple.literals.Goals as goal

pub returns-then-number-ne0-clause-ok : goal.returns-then-number-ne0-clause-ok
returns-then-number-ne0-clause-ok c = literals_other c.args.bank.now (picked c.args.bank.now c.args.params.now) c.args.number (inl c.if-number-ne0.true)

pub returns-then-params-ne2-clause-ok : goal.returns-then-params-ne2-clause-ok
returns-then-params-ne2-clause-ok c =
    let n : ¬ (length c.args.params.now ≡ 2) = c.if-params-ne2.true in
    literals_other c.args.bank.now (picked c.args.bank.now c.args.params.now) c.args.number (inr (λ e. n (sym (length-picked c.args.bank.now c.args.params.now) ∙ e)))

pub returns-then-not-apart-clause-ok : goal.returns-then-not-apart-clause-ok
returns-then-not-apart-clause-ok c =
    let z : c.args.number ≡ 0 = c.if-number-ne0.false in
    subst (λ (k : ℕ). IsInstance c.args.bank.now 22 k (picked c.args.bank.now c.args.params.now) None) (sym z) (literals_alike c.args.bank.now c.args.bank.now c.args.params.now _ _ c.are_apart-apart.result c.if-params-ne2.false refl refl c.are_apart-apart.ensures (search (rules, c.if-not-apart.true)))

pub returns-clause-ok : goal.returns-clause-ok
returns-clause-ok c =
    let z : c.args.number ≡ 0 = c.if-number-ne0.false in
    subst (λ (k : ℕ). IsInstance c.finish.new.bank 22 k (picked c.args.bank.now c.args.params.now) (Some c.in_ok-formula.formula)) (sym z) (literals_some c.args.bank.now c.finish.new.bank c.args.params.now _ _ c.in_ok-formula.formula c.are_apart-apart.result c.if-params-ne2.false refl refl c.are_apart-apart.ensures (search (rules, c.if-not-apart.false)) c.in_ok-formula.ensures.ok)
