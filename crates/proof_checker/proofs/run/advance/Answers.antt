use Rattle.std.proofs.Common.{◌≡◌, ◌≤◌, length, get_or, arith, sym, subst, ◌∙◌, ap, ℕ, List, []}
use Rattle.core_expr.specs.Nodes.{picked}
use Rattle.seq_calculus.specs.Calculus.{Rule}
use Rattle.seq_calculus.specs.Calculus.Rule.{Schema}
use Rattle.seq_calculus.specs.Steps.{rule_of, of_lists}
use Rattle.proof_checker.specs.Schemas.{IsInstance}
use Rattle.proof_checker.specs.Rules.{plain_reading}
use Rattle.proof_checker.specs.Sides.{seen}
use Rattle.proof_checker.specs.Plans.{left_plan}
use Rattle.proof_checker.specs.Runs.{Moves}
use Rattle.proof_checker.specs.declared.rule.RuleName.TheVariants as name
use Rattle.proof_checker.proofs.RuleLaws.{named_as, plain_numbers, rule_below, plain_count, weak_count}
use Rattle.proof_checker.proofs.TurnLaws.{moves_planned, schema_plans}
use Rattle.proof_checker.proofs.run.advance.Goals as goal

pub name_of-requires : goal.name_of-requires
name_of-requires c = rule_below c.args.step.now c.requires.form

pub weakened-requires-clause-count : goal.weakened-requires-clause-count
weakened-requires-clause-count c =
    let n : get_or c.args.step.now.numbers 0 0 ≤ length c.args.step.now.exprs = weak_count c.args.step.now c.requires.form (sym c.name_of.ensures ∙ c.in-Weak.is) in
    let e = ap (λ (ns : List ℕ). get_or ns 0 0) c.as_slice-numbers.ensures in
    omega (arith, n, e, c.requires.count)

pub returns-in_ok-weakened-in-Weak : goal.returns-in_ok-weakened-in-Weak
returns-in_ok-weakened-in-Weak c =
    let es = picked c.args.bank.now c.args.operands.now in
    let e : of_lists c.as_slice-numbers.result.now es ≡ rule_of c.args.step.now.rule c.args.step.now.numbers es = ap (λ (ns : List ℕ). of_lists ns es) c.as_slice-numbers.ensures ∙ sym (named_as c.args.step.now es name.Weak (sym c.name_of.ensures ∙ c.in-Weak.is)) in
    subst (λ (r : Rule). Moves c.args.bank.now c.args.bank.now r c.args.left.now c.args.right.now c.weakened.new.left c.weakened.new.right c.in_ok-weakened-in-Weak.field-0) e c.in_ok-weakened-in-Weak.ensures

pub returns-in_ok-found-in-Schema : goal.returns-in_ok-found-in-Schema
returns-in_ok-found-in-Schema c =
    let ts = c.args.bank.now in
    let es = picked ts c.args.operands.now in
    let k : c.number_at-schema.result ≡ get_or c.args.step.now.numbers 0 0 = c.number_at-schema.ensures ∙ ap (λ (ns : List ℕ). get_or ns 0 0) c.as_slice-numbers.ensures in
    let z : c.number_at-number.result ≡ get_or c.args.step.now.numbers 1 0 = c.number_at-number.ensures ∙ ap (λ (ns : List ℕ). get_or ns 1 0) c.as_slice-numbers.ensures in
    let h : IsInstance c.instance.new.bank (get_or c.args.step.now.numbers 0 0) (get_or c.args.step.now.numbers 1 0) es c.in_ok-found-in-Schema.found = coe 0 1 (i. IsInstance c.instance.new.bank (k i) (z i) es c.in_ok-found-in-Schema.found) c.in_ok-found-in-Schema.ensures.ok in
    rw c.left_plan.ensures (subst (λ (r : Rule). Moves ts c.instance.new.bank r c.args.left.now c.args.right.now c.args.left.now c.args.right.now (left_plan c.in_ok-found-in-Schema.found)) (sym (named_as c.args.step.now es name.Schema (sym c.name_of.ensures ∙ c.in-Schema.is)))
    (moves_planned ts c.instance.new.bank (Schema (get_or c.args.step.now.numbers 0 0) (get_or c.args.step.now.numbers 1 0) es) c.args.left.now c.args.right.now (left_plan c.in_ok-found-in-Schema.found) c.instance.ensures.extends c.requires.sides c.requires.left_base c.requires.right_base (schema_plans c.instance.new.bank (get_or c.args.step.now.numbers 0 0) (get_or c.args.step.now.numbers 1 0) es (seen ts c.args.left.now) (seen ts c.args.right.now) c.in_ok-found-in-Schema.found h)))

pub plan-requires-clause-count : goal.plan-requires-clause-count
plan-requires-clause-count c = c.requires.count ∙ plain_count c.args.step.now _ c.requires.form (sym c.name_of.ensures ∙ c.in-Plain.is)

pub returns-in_ok-plan-in-Plain : goal.returns-in_ok-plan-in-Plain
returns-in_ok-plan-in-Plain c =
    let ts = c.args.bank.now in
    let es = picked ts c.args.operands.now in
    subst (λ (r : Rule). Moves ts c.plan.new.bank r c.args.left.now c.args.right.now c.args.left.now c.args.right.now c.in_ok-plan-in-Plain.field-0) (plain_numbers c.in-Plain.rule c.args.step.now.numbers es ∙ sym (named_as c.args.step.now es (name.Plain c.in-Plain.rule) (sym c.name_of.ensures ∙ c.in-Plain.is)))
    (moves_planned ts c.plan.new.bank (plain_reading c.in-Plain.rule [] es) c.args.left.now c.args.right.now c.in_ok-plan-in-Plain.field-0 c.plan.ensures.extends c.requires.sides c.requires.left_base c.requires.right_base c.in_ok-plan-in-Plain.ensures.ok)
