use Rattle.std.proofs.Common.{◌≡◌, true, None, ap, sym, ◌∙◌}
use Rattle.core_expr.specs.Nodes.{picked}
use Rattle.term_bank.specs.Banks.{tree_at}
use Rattle.search_definition.specs.Terms.{if_so, first_at}
use Rattle.search_definition.specs.Splits.{is_literal}
use Rattle.branch_state.specs.Parts.{shown}
use Rattle.term_order.proofs.FirstLaws.{first_at-firsts}
use Rattle.instance_terms.specs.Fresh.{fresh_of}
use Rattle.instance_ranks.specs.Seeking.{aim_of}
use Rattle.instance_ranks.specs.Partners.{subterm_at}
use Rattle.instance_ranks.proofs.KeepLaws.{ok_term}
use Rattle.instance_ranks.proofs.partners.at_subterms.Goals as goal

pub returns-clause-ok : goal.returns-clause-ok
returns-clause-ok c =
    let ts = c.args.bank.now in
    let f = tree_at ts c.args.f in
    let g = subterm_at (fresh_of c.args.w) (aim_of ts (shown c.args.parts.now).now c.args.s) (tree_at ts c.args.l) in
    let lit : is_literal f ≡ true = sym c.is_literal.ensures ∙ c.if-not-is_literal.false in
    ok_term c.by_terms.result c.by_terms.new.bank _ _
    (first_at-firsts g f (picked ts c.as_slice.result.now) (ap (picked ts) c.as_slice.ensures.value ∙ c.in_ok-terms.ensures.ok) ∙ ap (λ b. if_so b (first_at g f) None) (sym lit)) c.by_terms.ensures.ok
