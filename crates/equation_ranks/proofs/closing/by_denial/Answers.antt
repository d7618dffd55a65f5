use Rattle.std.proofs.Common.{subst, sym}
use Rattle.std.specs.Prelude.{IfOk}
use Rattle.search_definition.specs.declared.rule.Clash.TheVariants.{Denied}
use Rattle.search_definition.specs.Branches.{is_not_of}
use Rattle.branch_state.specs.Parts.{shown}
use Rattle.equation_ranks.specs.Partners.{HasClosing}
use Rattle.equation_ranks.proofs.PlaceLaws.{partner_found}
use Rattle.equation_ranks.proofs.closing.by_denial.Goals as goal

pub returns : goal.returns
returns c =
    let ts = c.args.bank.now in
    let es = (shown c.args.parts.now).now in
    let r = c.requires in
    subst (λ v. IfOk c.pair.result (HasClosing ts v))
    (sym (partner_found ts es Denied is_not_of c.args.f c.args.i c.denied.result c.denial.result c.oldest_of-place.result r.known r.within c.denied.ensures c.denial.ensures c.oldest_of-place.ensures))
    (c.pair.ensures ts r.formula r.known)
