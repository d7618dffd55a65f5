use Rattle.std.proofs.Common.{ap, sym, ◌∙◌, length, subst}
use Rattle.std.specs.Prelude.{IfSome}
use Rattle.branch_state.specs.Parts.{shown}
use Rattle.search_definition.specs.Search.{by_rank}
use Rattle.tableau_search.specs.Entries.{branch_of}
use Rattle.tableau_search.specs.Found.{IsAnswer}
use Rattle.value_ranks.specs.Ranked.{rank_of, position}
use Rattle.rank_memo.specs.Looked.{IsRightAt}
use Rattle.tableau_ranks.specs.Kept.{fresh_in}
use Rattle.tableau_ranks.specs.Starts.{value_place}
use Rattle.tableau_ranks.proofs.KeptLaws.{kept_grown, kept_moved}
use Rattle.tableau_ranks.proofs.ValueLaws.{right_by, position_within}
use Rattle.tableau_ranks.proofs.by_value.by_value.Goals as goal

pub returns-clause-kept : goal.returns-clause-kept
returns-clause-kept c =
    let us = c.rank_from.new.bank in
    let es = (shown c.args.parts.now).now in
    let q = c.requires in
    let r = c.in_ok-found.ensures in
    let m = c.move_on.ensures in
    let f = c.in_ok-found.found in
    let e = c.position-position.ensures ∙ ap (position f) c.length.ensures in
    let p = right_by c.args.rank us es (position f (length es)) (position_within us es _ f (r.answer (fresh_in c.args.ranks.now))) r.passed in
    let t = subst (λ n. IfSome (value_place c.args.rank) (λ q. IsRightAt us es q n)) (sym e) p in
    let u = subst (λ o. IfSome o (λ q. IsRightAt us es q c.position-position.result)) (sym c.value_place-place.ensures) t in
    let k = kept_grown c.args.ranks.now us es r.extends r.distinct q.known q.sized q.looks in
    kept_moved c.args.ranks.now us c.move_on.new.memo es k m.bank m.spare m.metas m.saved (λ h. m.right es h u)

pub returns-clause-answer : goal.returns-clause-answer
returns-clause-answer c =
    let es = (shown c.args.parts.now).now in
    let w = fresh_in c.args.ranks.now in
    let k = rank_of c.args.rank in
    let f = c.in_ok-found.found in
    subst (λ ts. IsAnswer ts es (by_rank w (branch_of ts es) k) f) (sym c.move_on.ensures.bank) (c.in_ok-found.ensures.answer w)
