use Rattle.std.proofs.Common.{◌≡◌, true, false, [], ◌∷◌, sym, ◌∙◌}
use Rattle.core_expr.specs.Tree.{eq_}
use Rattle.term_bank.specs.Banks.{tree_at}
use Rattle.term_shapes.proofs.Extending.{tree-extend}
use Rattle.search_definition.specs.declared.rule.Rule.TheVariants.{SameMembers}
use Rattle.search_definition.specs.Branches.{has}
use Rattle.search_definition.specs.Equations.{same_members}
use Rattle.branch_state.specs.Parts.{shown}
use Rattle.formula_rules.specs.Answers.{HasStep, alone_step}
use Rattle.rank_rules.specs.Ranked.{branch_of}
use Rattle.rank_rules.proofs.Entries.{known_kept}
use Rattle.rank_rules.proofs.HasLaws.{has_kept}
use Rattle.rank_rules.proofs.DeriveLaws.{set_stands, set_new}
use Rattle.rank_rules.proofs.derivation.derive_set.Goals as goal

pub stands-requires-clause-known : goal.stands-requires-clause-known
stands-requires-clause-known c = known_kept c.args.bank.now c.same_members.new.bank (shown c.args.parts.now).now c.same_members.ensures.extends c.requires.known

pub returns-then-stands-clause-ok : goal.returns-then-stands-clause-ok
returns-then-stands-clause-ok c =
    let ts = c.args.bank.now in
    let mid = c.same_members.new.bank in
    let es = (shown c.args.parts.now).now in
    let m = same_members (tree_at ts c.args.s) (tree_at ts c.args.t) in
    let h : has (branch_of ts es) m ≡ true = sym (has_kept ts mid es c.in_ok-same.same m c.stands.result c.same_members.ensures.extends c.requires.known c.in_ok-same.ensures.ok c.stands.ensures) ∙ c.if-stands.true in
    set_stands mid (branch_of ts es) (tree_at ts c.args.s) (tree_at ts c.args.t) h

pub returns-clause-ok : goal.returns-clause-ok
returns-clause-ok c =
    let ts = c.args.bank.now in
    let mid = c.same_members.new.bank in
    let new = c.adds.new.bank in
    let es = (shown c.args.parts.now).now in
    let s = tree_at ts c.args.s in
    let t = tree_at ts c.args.t in
    let h : has (branch_of ts es) (same_members s t) ≡ false = sym (has_kept ts mid es c.in_ok-same.same (same_members s t) c.stands.result c.same_members.ensures.extends c.requires.known c.in_ok-same.ensures.ok c.stands.ensures) ∙ c.if-stands.false in
    let e : tree_at mid c.args.f ≡ eq_ s t = tree-extend ts mid c.args.f c.same_members.ensures.extends c.requires.below.0 ∙ c.requires.equation in
    let k : HasStep new c.in_ok-adds.field-0 (alone_step SameMembers (eq_ s t ∷ []) [] (same_members s t ∷ [])) = coe 0 1 (i. HasStep new c.in_ok-adds.field-0 (alone_step SameMembers (e i ∷ []) [] (c.in_ok-same.ensures.ok.tree i ∷ []))) c.in_ok-adds.ensures.ok in
    set_new new (branch_of ts es) s t c.in_ok-adds.field-0 (sym c.one_is_set.ensures ∙ c.if-not-one_is_set.false) h k
