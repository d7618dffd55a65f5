use Rattle.std.proofs.Common.{◌≡◌, ap, ◌∙◌}
use Rattle.search_definition.specs.Instances.{own_metas}
use Rattle.branch_state.specs.Parts.{shown}
use Rattle.tableau_search.proofs.RankLaws.{known_more}
use Rattle.tableau_search.proofs.ClosedLaws.{closed_kept}
use Rattle.unify_meta.specs.Metas.{symbols}
use Rattle.instance_terms.specs.Fresh.{fresh_of, signed_of}
use Rattle.instance_ranks.proofs.KeepLaws.{ok_term}
use Rattle.instance_ranks.proofs.AtomLaws.{side_none, side_some}
use Rattle.instance_ranks.proofs.atoms.by_side.Goals as goal

pub by_entries-requires-clause-known : goal.by_entries-requires-clause-known
by_entries-requires-clause-known c = known_more c.args.bank.now c.is_side.new.bank (shown c.args.parts.now).now c.is_side.ensures.extends c.requires.known

pub by_entries-requires-clause-closed : goal.by_entries-requires-clause-closed
by_entries-requires-clause-closed c = closed_kept c.args.bank.now c.is_side.new.bank (shown c.args.parts.now).now c.is_side.ensures.extends c.requires.known c.requires.closed

pub returns-then-not-branch-clause-ok : goal.returns-then-not-branch-clause-ok
returns-then-not-branch-clause-ok c =
    let ts = c.args.bank.now in
    let w = fresh_of c.args.w in
    let q : symbols c.as_slice.result.now ≡ own_metas w (signed_of ts c.args.s.atom) = ap symbols c.as_slice.ensures.value ∙ c.in_ok-metas.ensures in
    side_none ts c.is_side.new.bank (shown c.args.parts.now).now w c.args.s c.args.l (symbols c.as_slice.result.now) _ q c.in_ok-is_side.ensures.ok c.if-not-branch.true

pub returns-clause-ok : goal.returns-clause-ok
returns-clause-ok c =
    let ts = c.args.bank.now in
    let mid = c.is_side.new.bank in
    let w = fresh_of c.args.w in
    let q : symbols c.as_slice.result.now ≡ own_metas w (signed_of ts c.args.s.atom) = ap symbols c.as_slice.ensures.value ∙ c.in_ok-metas.ensures in
    ok_term c.by_entries.result c.by_entries.new.bank _ _
    (side_some ts mid (shown c.args.parts.now).now w c.args.s c.args.l (symbols c.as_slice.result.now) _ q c.in_ok-is_side.ensures.ok c.if-not-branch.false c.is_side.ensures.extends c.requires.known c.requires.sought c.requires.side) c.by_entries.ensures.ok
