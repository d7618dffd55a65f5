use Rattle.std.proofs.Common.{rules, sym, ◌∙◌}
use Rattle.std.proofs.lemmas.Bool.{false≢true}
use Rattle.core_expr.specs.Tree.{eq_}
use Rattle.core_expr.specs.Put.{inst, IsScoped}
use Rattle.core_expr.specs.Heads.{kind_at, kind_table}
use Rattle.seq_calculus.specs.Calculus.{Has}
use Rattle.term_bank.specs.Banks.{Extends, HasTree, tree_at}
use Rattle.term_bank.proofs.InstLaws.{Extends-trans}
use Rattle.proof_checker.specs.Sides.{seen}
use Rattle.proof_checker.proofs.SideLaws.{AreFormulas-extend}
use Rattle.proof_checker.proofs.PlanLaws.{sides_closed, earlier_inst, earlier_has}
use Rattle.proof_checker.proofs.plan.replaced.Goals as goal

pub inst-requires-clause-closed : goal.inst-requires-clause-closed
unfolding kind_at kind_table
inst-requires-clause-closed c =
    let h : Has (seen c.args.bank.now c.args.left.now) (eq_ (tree_at c.args.bank.now c.args.s) (tree_at c.args.bank.now c.args.t)) = c.holds.ensures.0 (search (rules, c.if-not-holds.false)) in
    (sides_closed c.args.bank.now c.is_body.new.bank c.args.left.now c.args.s c.args.t c.is_body.ensures.extends c.requires.formulas c.requires.below.1.0 c.requires.below.1.1.0 h).0

pub has-requires-clause-formulas : goal.has-requires-clause-formulas
has-requires-clause-formulas c = AreFormulas-extend c.args.bank.now c.inst.new.self c.args.left.now.trail (Extends-trans c.args.bank.now c.is_body.new.bank c.inst.new.self c.is_body.ensures.extends c.inst.ensures.extends) c.requires.formulas

pub returns-then-not-has-clause-ok : goal.returns-then-not-has-clause-ok
returns-then-not-has-clause-ok c = λ h1 h2 h3.
    let x : Extends c.args.bank.now c.inst.new.self = Extends-trans c.args.bank.now c.is_body.new.bank c.inst.new.self c.is_body.ensures.extends c.inst.ensures.extends in
    let k : HasTree c.inst.new.self c.in_ok-before.before (inst (tree_at c.args.bank.now c.args.h) (tree_at c.args.bank.now c.args.s)) = earlier_inst c.args.bank.now c.is_body.new.bank c.inst.new.self c.args.h c.args.s c.in_ok-before.before c.is_body.ensures.extends c.requires.below.0 c.requires.below.1.0 c.in_ok-before.ensures.ok in
    false≢true (sym c.if-not-has.true ∙ c.has.ensures.1 (coe 1 0 (i. earlier_has c.args.bank.now c.inst.new.self c.args.left.now c.in_ok-before.before (inst (tree_at c.args.bank.now c.args.h) (tree_at c.args.bank.now c.args.s)) x c.requires.formulas k i) h2))

pub inst-requires-2-clause-closed : goal.inst-requires-2-clause-closed
unfolding kind_at kind_table
inst-requires-2-clause-closed c =
    let x : Extends c.args.bank.now c.inst.new.self = Extends-trans c.args.bank.now c.is_body.new.bank c.inst.new.self c.is_body.ensures.extends c.inst.ensures.extends in
    let h : Has (seen c.args.bank.now c.args.left.now) (eq_ (tree_at c.args.bank.now c.args.s) (tree_at c.args.bank.now c.args.t)) = c.holds.ensures.0 (search (rules, c.if-not-holds.false)) in
    (sides_closed c.args.bank.now c.inst.new.self c.args.left.now c.args.s c.args.t x c.requires.formulas c.requires.below.1.0 c.requires.below.1.1.0 h).1

pub returns-clause-ok : goal.returns-clause-ok
unfolding kind_at kind_table
returns-clause-ok c =
    let x : Extends c.args.bank.now c.inst.new.self = Extends-trans c.args.bank.now c.is_body.new.bank c.inst.new.self c.is_body.ensures.extends c.inst.ensures.extends in
    let h : Has (seen c.args.bank.now c.args.left.now) (eq_ (tree_at c.args.bank.now c.args.s) (tree_at c.args.bank.now c.args.t)) = c.holds.ensures.0 (search (rules, c.if-not-holds.false)) in
    let k : HasTree c.inst.new.self c.in_ok-before.before (inst (tree_at c.args.bank.now c.args.h) (tree_at c.args.bank.now c.args.s)) = earlier_inst c.args.bank.now c.is_body.new.bank c.inst.new.self c.args.h c.args.s c.in_ok-before.before c.is_body.ensures.extends c.requires.below.0 c.requires.below.1.0 c.in_ok-before.ensures.ok in
    let g : Has (seen c.args.bank.now c.args.left.now) (inst (tree_at c.args.bank.now c.args.h) (tree_at c.args.bank.now c.args.s)) = coe 0 1 (i. earlier_has c.args.bank.now c.inst.new.self c.args.left.now c.in_ok-before.before (inst (tree_at c.args.bank.now c.args.h) (tree_at c.args.bank.now c.args.s)) x c.requires.formulas k i) (c.has.ensures.0 (search (rules, c.if-not-has.false))) in
    let b : IsScoped 1 (tree_at c.args.bank.now c.args.h) = c.in_ok-is_body.ensures.ok.0 (search (rules, c.if-not-branch.false)) in
    ((h, g, b), earlier_inst c.args.bank.now c.inst.new.self c.inst-2.new.self c.args.h c.args.t _ x c.requires.below.0 c.requires.below.1.1.0 c.in_ok-inst.ensures.ok)
