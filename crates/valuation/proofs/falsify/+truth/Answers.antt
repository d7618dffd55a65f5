use Rattle.std.proofs.Common.{◌≡◌, ◌∙◌, ◌&&◌, false, nat_eq, sym, ap, subst, arith, rules}
use Rattle.core_expr.specs.Heads.{IsWellFormed}
use Rattle.core_expr.specs.Places.{subtree}
use Rattle.valuation.specs.Truth.{by_number}
use Rattle.valuation.specs.Forms.{combined}
use Rattle.valuation.proofs.TruthLaws.{is_true, true_is, part-formed, value-plain, value-symbol}
use Rattle.valuation.proofs.falsify.+truth.Goals as goal

pub operand-truth-requires : goal.operand-truth-requires
operand-truth-requires t c =
    let before = c.part.ensures.before in
    (omega (arith, before), (search rules, subst IsWellFormed (sym c.part.ensures.tree) (true_is _ (part-formed (subtree c.args.e.now c.args.i) c.args.k (is_true _ c.requires.formed)))))

pub truth-returns-else-parts-eq0 : goal.truth-returns-else-parts-eq0
truth-returns-else-parts-eq0 t c =
    let kind = sym c.kind.ensures.tree ∙ c.in-Symbol.is in
    let none : nat_eq c.parts.result 0 ≡ false = search (rules, c.if-parts-eq0.false) in
    none ∙ sym (value-symbol (by_number c.args.values.now) _ c.in-Symbol.sym kind ∙ ap (λ n. nat_eq n 0 && by_number c.args.values.now c.in-Symbol.sym) (sym c.parts.ensures.tree) ∙ ap (λ b. b && by_number c.args.values.now c.in-Symbol.sym) none)

pub truth-returns-in-Plain : goal.truth-returns-in-Plain
truth-returns-in-Plain t c =
    c.combined.ensures ∙ (λ i. combined c.in-Plain.head (c.operand-first.ensures i) (c.operand-second.ensures i))
    ∙ sym (value-plain (by_number c.args.values.now) _ c.in-Plain.head (is_true _ c.requires.formed) (sym c.kind.ensures.tree ∙ c.in-Plain.is))
