use Rattle.std.proofs.Common.{◌≡◌, [], ◌∷◌, sym, ◌∙◌}
use Rattle.core_expr.specs.Tree.{eq_, dom_}
use Rattle.term_bank.specs.Banks.{tree_at}
use Rattle.term_bank.proofs.InstLaws.{Extends-trans}
use Rattle.term_shapes.proofs.Extending.{tree-extend, has-extend}
use Rattle.search_definition.specs.declared.rule.Rule.TheVariants.{FunctionValues}
use Rattle.search_definition.specs.Equations.{lacks, at_all}
use Rattle.branch_state.specs.Parts.{shown}
use Rattle.formula_rules.specs.Answers.{HasStep, alone_step}
use Rattle.rank_rules.specs.Ranked.{branch_of}
use Rattle.rank_rules.proofs.Entries.{known_kept, branch_kept}
use Rattle.rank_rules.proofs.DeriveLaws.{values_stand, values_new}
use Rattle.rank_rules.proofs.derivation.add_values.Goals as goal

pub lacks-requires-clause-known : goal.lacks-requires-clause-known
lacks-requires-clause-known c =
    let x = Extends-trans c.args.bank.now c.domain_is.new.bank c.at_all.new.bank c.domain_is.ensures.extends c.at_all.ensures.extends in known_kept c.args.bank.now c.at_all.new.bank (shown c.args.parts.now).now x c.requires.known

pub returns-then-not-lacks-clause-ok : goal.returns-then-not-lacks-clause-ok
returns-then-not-lacks-clause-ok c =
    let ts = c.args.bank.now in
    let one = c.domain_is.new.bank in
    let two = c.at_all.new.bank in
    let es = (shown c.args.parts.now).now in
    let g = tree_at ts c.args.g in
    let s = tree_at ts c.args.s in
    let e = tree_at ts c.args.e in
    let x = Extends-trans ts one two c.domain_is.ensures.extends c.at_all.ensures.extends in
    let d = (has-extend one two c.in_ok-domain.domain (eq_ (dom_ g) s) c.at_all.ensures.extends c.in_ok-domain.ensures.ok).tree in
    let v : tree_at two c.in_ok-values.values ≡ at_all g s e = c.in_ok-values.ensures.ok.tree ∙ (λ i. at_all (tree-extend ts one c.args.g c.domain_is.ensures.extends c.requires.below.1.0 i) (tree-extend ts one c.args.s c.domain_is.ensures.extends c.requires.below.1.1.0 i) (tree-extend ts one c.args.e c.domain_is.ensures.extends c.requires.below.1.1.1.0 i)) in
    let l : c.lacks.result ≡ lacks (branch_of ts es) (eq_ (dom_ g) s) (at_all g s e) = c.lacks.ensures ∙ (λ i. lacks (branch_kept ts two es x c.requires.known i) (d i) (v i)) in
    values_stand two (branch_of ts es) (tree_at ts c.args.f) g s e (sym l ∙ c.if-not-lacks.true)

pub returns-clause-ok : goal.returns-clause-ok
returns-clause-ok c =
    let ts = c.args.bank.now in
    let one = c.domain_is.new.bank in
    let two = c.at_all.new.bank in
    let es = (shown c.args.parts.now).now in
    let f = tree_at ts c.args.f in
    let g = tree_at ts c.args.g in
    let s = tree_at ts c.args.s in
    let e = tree_at ts c.args.e in
    let x = Extends-trans ts one two c.domain_is.ensures.extends c.at_all.ensures.extends in
    let d = (has-extend one two c.in_ok-domain.domain (eq_ (dom_ g) s) c.at_all.ensures.extends c.in_ok-domain.ensures.ok).tree in
    let v : tree_at two c.in_ok-values.values ≡ at_all g s e = c.in_ok-values.ensures.ok.tree ∙ (λ i. at_all (tree-extend ts one c.args.g c.domain_is.ensures.extends c.requires.below.1.0 i) (tree-extend ts one c.args.s c.domain_is.ensures.extends c.requires.below.1.1.0 i) (tree-extend ts one c.args.e c.domain_is.ensures.extends c.requires.below.1.1.1.0 i)) in
    let l : c.lacks.result ≡ lacks (branch_of ts es) (eq_ (dom_ g) s) (at_all g s e) = c.lacks.ensures ∙ (λ i. lacks (branch_kept ts two es x c.requires.known i) (d i) (v i)) in
    let k : HasStep c.adds.new.bank c.in_ok-adds.field-0 (alone_step FunctionValues (f ∷ []) (g ∷ []) (eq_ (dom_ g) s ∷ at_all g s e ∷ [])) =
    coe 0 1 (i. HasStep c.adds.new.bank c.in_ok-adds.field-0 (alone_step FunctionValues (tree-extend ts two c.args.f x c.requires.below.0 i ∷ []) (tree-extend ts two c.args.g x c.requires.below.1.0 i ∷ []) (d i ∷ v i ∷ []))) c.in_ok-adds.ensures.ok in
    values_new c.adds.new.bank (branch_of ts es) f g s e c.in_ok-adds.field-0 c.requires.plain c.requires.other (sym l ∙ c.if-not-lacks.false) k
