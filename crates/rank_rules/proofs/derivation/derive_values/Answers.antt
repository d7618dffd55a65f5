use Rattle.std.proofs.Common.{◌≡◌, true, sym, ◌∙◌, ap}
use Rattle.std.specs.Prelude.{IfOk}
use Rattle.core_expr.specs.Tree.{fun_}
use Rattle.core_expr.specs.Terms.{same}
use Rattle.term_bank.specs.Banks.{tree_at}
use Rattle.term_shapes.proofs.Extending.{tree-extend}
use Rattle.search_definition.specs.Equations.{is_fun, derive_fun}
use Rattle.branch_state.specs.Parts.{shown}
use Rattle.formula_rules.specs.Answers.{HasAnswer}
use Rattle.rank_rules.specs.Ranked.{branch_of, own_of}
use Rattle.rank_rules.proofs.Entries.{known_kept, branch_kept}
use Rattle.rank_rules.proofs.DeriveLaws.{values_own}
use Rattle.rank_rules.proofs.derivation.derive_values.Goals as goal

pub add_values-requires-clause-known : goal.add_values-requires-clause-known
add_values-requires-clause-known c = known_kept c.args.bank.now c.own_value.new.bank (shown c.args.parts.now).now c.own_value.ensures.extends c.requires.known

pub add_values-requires-clause-plain : goal.add_values-requires-clause-plain
add_values-requires-clause-plain c = ap is_fun (tree-extend c.args.bank.now c.own_value.new.bank c.args.g c.own_value.ensures.extends c.requires.below.1.0) ∙ sym c.is_fun.ensures ∙ c.if-is_fun.false

pub add_values-requires-clause-other : goal.add_values-requires-clause-other
add_values-requires-clause-other c =
    let ts = c.args.bank.now in
    let mid = c.own_value.new.bank in
    (λ i. same (tree_at mid c.args.e) (own_of (tree-extend ts mid c.args.g c.own_value.ensures.extends c.requires.below.1.0 i))) ∙ ap (same (tree_at mid c.args.e)) (sym c.in_ok-own.ensures.ok.tree) ∙ sym c.same_term.ensures ∙ c.if-same_term.false

pub returns-then-same_term-clause-ok : goal.returns-then-same_term-clause-ok
returns-then-same_term-clause-ok c =
    let ts = c.args.bank.now in
    let mid = c.own_value.new.bank in
    let k : same (tree_at ts c.args.e) (own_of (tree_at ts c.args.g)) ≡ true = (λ i. same (sym (tree-extend ts mid c.args.e c.own_value.ensures.extends c.requires.below.1.1.1.0) i) (sym c.in_ok-own.ensures.ok.tree i)) ∙ sym c.same_term.ensures ∙ c.if-same_term.true in
    values_own mid (branch_of ts (shown c.args.parts.now).now) (tree_at ts c.args.f) (tree_at ts c.args.g) (tree_at ts c.args.s) (tree_at ts c.args.e) (sym c.is_fun.ensures ∙ c.if-is_fun.false) k

pub returns-clause-ok : goal.returns-clause-ok
returns-clause-ok c =
    let ts = c.args.bank.now in
    let mid = c.own_value.new.bank in
    let es = (shown c.args.parts.now).now in
    let x = c.own_value.ensures.extends in
    coe 0 1 (i. IfOk c.add_values.result (λ o. HasAnswer c.add_values.new.bank o (derive_fun (branch_kept ts mid es x c.requires.known i) (tree-extend ts mid c.args.f x c.requires.below.0 i) (tree-extend ts mid c.args.g x c.requires.below.1.0 i) (fun_ (tree-extend ts mid c.args.s x c.requires.below.1.1.0 i) (tree-extend ts mid c.args.e x c.requires.below.1.1.1.0 i))))) c.add_values.ensures.ok
