use Rattle.std.proofs.Common.{◌≡◌, true, false, [], ◌∷◌, sym, ◌∙◌}
use Rattle.core_expr.specs.Tree.{not_, eq_}
use Rattle.term_bank.specs.Banks.{tree_at}
use Rattle.term_shapes.proofs.Extending.{tree-extend}
use Rattle.search_definition.specs.declared.rule.Rule.TheVariants.{OtherFunction}
use Rattle.search_definition.specs.Branches.{has}
use Rattle.branch_state.specs.Parts.{shown}
use Rattle.formula_rules.specs.Answers.{HasStep, alone_step}
use Rattle.rank_rules.specs.Ranked.{branch_of}
use Rattle.rank_rules.specs.Deriving.{described_of}
use Rattle.rank_rules.proofs.Entries.{known_kept}
use Rattle.rank_rules.proofs.HasLaws.{has_kept}
use Rattle.rank_rules.proofs.DeriveLaws.{other_stands, other_new}
use Rattle.rank_rules.proofs.derivation.add_other.Goals as goal

pub stands-requires-clause-known : goal.stands-requires-clause-known
stands-requires-clause-known c = known_kept c.args.bank.now c.not_equal.new.bank (shown c.args.parts.now).now c.not_equal.ensures.extends c.requires.known

pub returns-then-stands-clause-ok : goal.returns-then-stands-clause-ok
returns-then-stands-clause-ok c =
    let ts = c.args.bank.now in
    let mid = c.not_equal.new.bank in
    let es = (shown c.args.parts.now).now in
    let m = not_ (eq_ (tree_at ts c.args.d.function) (tree_at ts c.args.u)) in
    let h : has (branch_of ts es) m ≡ true = sym (has_kept ts mid es c.in_ok-other.other m c.stands.result c.not_equal.ensures.extends c.requires.known c.in_ok-other.ensures.ok c.stands.ensures) ∙ c.if-stands.true in
    other_stands mid (branch_of ts es) (tree_at ts c.args.f) (tree_at ts c.args.g) (tree_at ts c.args.u) (described_of ts c.args.d) h

pub returns-clause-ok : goal.returns-clause-ok
returns-clause-ok c =
    let ts = c.args.bank.now in
    let mid = c.not_equal.new.bank in
    let new = c.adds.new.bank in
    let es = (shown c.args.parts.now).now in
    let x = c.not_equal.ensures.extends in
    let m = not_ (eq_ (tree_at ts c.args.d.function) (tree_at ts c.args.u)) in
    let h : has (branch_of ts es) m ≡ false = sym (has_kept ts mid es c.in_ok-other.other m c.stands.result x c.requires.known c.in_ok-other.ensures.ok c.stands.ensures) ∙ c.if-stands.false in
    let k : HasStep new c.in_ok-adds.field-0 (alone_step OtherFunction (tree_at ts c.args.f ∷ tree_at ts c.args.d.formula ∷ []) (tree_at ts c.args.g ∷ []) (m ∷ [])) =
    coe 0 1 (i. HasStep new c.in_ok-adds.field-0 (alone_step OtherFunction (tree-extend ts mid c.args.f x c.requires.below.0 i ∷ tree-extend ts mid c.args.d.formula x c.requires.below.1.1.1.0 i ∷ []) (tree-extend ts mid c.args.g x c.requires.below.1.0 i ∷ []) (c.in_ok-other.ensures.ok.tree i ∷ []))) c.in_ok-adds.ensures.ok in
    other_new new (branch_of ts es) (tree_at ts c.args.f) (tree_at ts c.args.g) (tree_at ts c.args.u) (described_of ts c.args.d) c.in_ok-adds.field-0 h k
