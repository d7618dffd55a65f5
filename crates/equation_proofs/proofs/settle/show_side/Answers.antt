use Rattle.std.proofs.Common.{◌≡◌, ◌≤◌, true, false, length, get_or, ap, sym, ◌∙◌, arith}
use Rattle.core_expr.specs.Tree.{true_}
use Rattle.search_definition.specs.Values.{is_no}
use Rattle.proof_writer.specs.Shapes.{rest_of}
use Rattle.proof_writer.specs.Written.{count}
use Rattle.rule_proofs.specs.Values.{truth_of}
use Rattle.rule_proofs.proofs.Lefts.{below_wider}
use Rattle.equation_proofs.proofs.PassingLaws.{passing_first, passing_grounds, passing_formula, passing_found, passing_next, passing_none}
use Rattle.equation_proofs.proofs.settle.show_side.Goals as goal

pub loop-formula-init : goal.loop-formula-init
loop-formula-init c = passing_first c.args.w.now c.args.grounds.now c.args.formulas.now

pub show-requires-clause-grounds : goal.show-requires-clause-grounds
show-requires-clause-grounds c = passing_grounds c.args.w.now c.loop-formula.w c.args.grounds.now c.args.formulas.now c.loop-formula.formula-index c.requires.grounds c.requires.below c.loop-formula.invariant

pub show-requires-clause-below : goal.show-requires-clause-below
show-requires-clause-below c = passing_formula c.args.w.now c.loop-formula.w c.args.grounds.now c.args.formulas.now c.loop-formula.formula-index c.requires.grounds c.requires.below c.loop-formula.invariant c.loop-formula-test.true

pub returns-then-is_false-clause-ok : goal.returns-then-is_false-clause-ok
returns-then-is_false-clause-ok c =
    let no : is_no (truth_of c.in_ok-value.value) ≡ true = sym c.is_false.ensures ∙ c.if-is_false.true in
    c.in_ok-value.ensures.ok
    ∙ passing_found c.args.w.now c.loop-formula.w c.args.grounds.now c.args.formulas.now c.loop-formula.formula-index c.requires.grounds c.requires.below c.loop-formula.invariant (truth_of c.in_ok-value.value) c.loop-formula-test.true c.in_ok-value.ensures.value no

pub loop-formula-preserved : goal.loop-formula-preserved
loop-formula-preserved c =
    let no : is_no (truth_of c.in_ok-value.value) ≡ false = sym c.is_false.ensures ∙ c.if-is_false.false in
    let l : count c.show.new.w ≡ count c.discard.new.self = ap length (sym c.discard.ensures.trees) in
    let m : count c.loop-formula.w ≤ count c.show.new.w = c.in_ok-value.ensures.more in
    passing_next c.args.w.now c.loop-formula.w c.args.grounds.now c.args.formulas.now c.loop-formula.formula-index c.requires.grounds c.requires.below c.loop-formula.invariant c.discard.new.self (truth_of c.in_ok-value.value) c.loop-formula-test.true c.in_ok-value.ensures.value no
    (omega (arith, l, m)) (λ i w. ap (λ ts. get_or ts i true_) c.discard.ensures.trees ∙ c.in_ok-value.ensures.same i w) (c.discard.ensures.opens ∙ ap rest_of c.in_ok-value.ensures.ok)

pub show-requires-2-clause-grounds : goal.show-requires-2-clause-grounds
show-requires-2-clause-grounds c =
    let n = c.loop-formula.invariant.more in
    let m : count c.loop-formula.w ≤ count c.make.new.self = c.in_ok-truth.ensures.more in
    below_wider (count c.args.w.now) (count c.make.new.self) c.args.grounds.now (omega (arith, n, m)) c.requires.grounds

pub returns-clause-ok : goal.returns-clause-ok
returns-clause-ok c =
    c.in_ok-show.ensures.ok
    ∙ passing_none c.args.w.now c.loop-formula.w c.args.grounds.now c.args.formulas.now c.loop-formula.formula-index c.requires.grounds c.requires.below c.loop-formula.invariant c.make.new.self c.in_ok-truth.truth c.loop-formula-test.false c.in_ok-truth.ensures.more c.in_ok-truth.ensures.same c.in_ok-truth.ensures.opens c.in_ok-truth.ensures.ok.1
