use Rattle.std.proofs.Common.{Option, None, sym, ◌∙◌, ap, subst}
use Rattle.term_bank.specs.Banks.{tree_at}
use Rattle.search_definition.specs.Terms.{after}
use Rattle.search_definition.specs.Rules.{Step}
use Rattle.search_definition.specs.Equations.{derive_not, other_function}
use Rattle.branch_state.specs.Parts.{shown}
use Rattle.formula_rules.specs.Answers.{HasAnswer}
use Rattle.rank_rules.specs.Ranked.{branch_of}
use Rattle.rank_rules.specs.Deriving.{described_of}
use Rattle.rank_rules.proofs.DeriveLaws.{ok_answer, by_described, described_none, described_some}
use Rattle.rank_rules.proofs.derivation.derive_not.Goals as goal

pub returns-in-Some-clause-ok : goal.returns-in-Some-clause-ok
returns-in-Some-clause-ok c =
    let ts = c.args.bank.now in
    let b = branch_of ts (shown c.args.parts.now).now in
    let f = tree_at ts c.args.f in
    let g = tree_at ts c.args.g in
    let u = tree_at ts c.args.u in
    let h = sym c.is_fun.ensures ∙ c.if-not-is_fun.false in
    let k = sym c.is_fun-2.ensures ∙ c.if-is_fun.false in
    ok_answer c.add_other.result c.add_other.new.bank (other_function b f g u (described_of ts c.in-Some.telling)) (derive_not b f g u)
    (sym (by_described b f g u h k ∙ ap (after (other_function b f g u)) (described_some ts c.in-Some.telling _ c.in-Some.ensures))) c.add_other.ensures.ok

pub returns-in-None-clause-ok : goal.returns-in-None-clause-ok
returns-in-None-clause-ok c =
    let ts = c.args.bank.now in
    let b = branch_of ts (shown c.args.parts.now).now in
    let f = tree_at ts c.args.f in
    let g = tree_at ts c.args.g in
    let u = tree_at ts c.args.u in
    let h = sym c.is_fun.ensures ∙ c.if-not-is_fun.false in
    let k = sym c.is_fun-2.ensures ∙ c.if-is_fun.false in
    subst (λ (r : Option Step). HasAnswer ts None r) (sym (by_described b f g u h k ∙ ap (after (other_function b f g u)) (described_none ts _ c.in-None.ensures))) tt
