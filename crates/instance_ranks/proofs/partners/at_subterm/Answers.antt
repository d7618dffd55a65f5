use Rattle.std.proofs.Common.{◌≡◌, ap, ◌∙◌, subst}
use Rattle.term_bank.specs.Banks.{tree_at}
use Rattle.search_definition.specs.Instances.{own_metas, instance_term}
use Rattle.branch_state.specs.Parts.{shown}
use Rattle.tableau_search.proofs.RankLaws.{known_more}
use Rattle.unify_meta.specs.Metas.{symbols}
use Rattle.formula_rules.specs.Answers.{HasTerm}
use Rattle.instance_terms.specs.Fresh.{fresh_of, signed_of}
use Rattle.instance_ranks.proofs.KeepLaws.{term_closed, new_by, ok_term}
use Rattle.instance_ranks.proofs.ClosedLaws.{instance_closed}
use Rattle.instance_ranks.proofs.partners.at_subterm.Goals as goal

pub if_new-requires-clause-known : goal.if_new-requires-clause-known
if_new-requires-clause-known c = known_more c.args.bank.now c.instance_term.new.bank (shown c.args.parts.now).now c.instance_term.ensures.extends c.requires.known

pub if_new-requires-clause-term : goal.if_new-requires-clause-term
if_new-requires-clause-term c =
    let ts = c.args.bank.now in
    term_closed c.instance_term.new.bank c.in_ok-term.term _ c.in_ok-term.ensures.ok (instance_closed (fresh_of c.args.w) (symbols c.as_slice.result.now) (tree_at ts c.args.l) (tree_at ts c.args.t))

pub returns-clause-ok : goal.returns-clause-ok
returns-clause-ok c =
    let ts = c.args.bank.now in
    let mid = c.instance_term.new.bank in
    let w = fresh_of c.args.w in
    let l = tree_at ts c.args.l in
    let t = tree_at ts c.args.t in
    let e : symbols c.as_slice.result.now ≡ own_metas w (signed_of ts c.args.s.atom) = ap symbols c.as_slice.ensures.value ∙ c.in_ok-metas.ensures in
    let h = subst (λ ms. HasTerm mid c.in_ok-term.term (instance_term w ms l t)) e c.in_ok-term.ensures.ok in
    ok_term c.if_new.result c.if_new.new.bank _ _ (new_by ts mid (shown c.args.parts.now).now c.args.s c.in_ok-term.term (instance_term w (own_metas w (signed_of ts c.args.s.atom)) l t) c.instance_term.ensures.extends c.requires.known c.requires.sought h) c.if_new.ensures.ok
