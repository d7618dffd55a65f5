use Rattle.std.proofs.Common.{ap, sym, ◌∙◌, subst}
use Rattle.branch_state.specs.Parts.{shown}
use Rattle.search_definition.specs.Plain.{rewrite}
use Rattle.search_definition.specs.Watches.{NoneBefore}
use Rattle.tableau_search.specs.Entries.{branch_of}
use Rattle.equation_ranks.specs.Rewriting.{place_of}
use Rattle.rank_memo.specs.declared.place.Place.TheVariants as place
use Rattle.rank_memo.specs.Looked.{IsRightAt}
use Rattle.tableau_ranks.specs.Kept.{trees_in}
use Rattle.tableau_ranks.proofs.KeptLaws.{kept_grown, kept_moved}
use Rattle.tableau_ranks.proofs.StartLaws.{found_within}
use Rattle.tableau_ranks.proofs.rewriting.rewrite.Goals as goal

pub rewrite_from-requires-clause-before : goal.rewrite_from-requires-clause-before
rewrite_from-requires-clause-before c =
    let b = branch_of (trees_in c.args.ranks.now) (shown c.args.parts.now).now in
    subst (λ n. NoneBefore rewrite n b) (sym c.position-start.ensures) (c.requires.looks.passed place.Rewrite).none

pub returns-clause-kept : goal.returns-clause-kept
returns-clause-kept c =
    let us = c.rewrite_from.new.bank in
    let es = (shown c.args.parts.now).now in
    let q = c.requires in
    let r = c.in_ok-found.ensures in
    let m = c.move_to.ensures in
    let f = c.in_ok-found.found in
    let e = c.place_of-position.ensures ∙ ap (place_of f) c.length.ensures in
    let p = subst (IsRightAt us es place.Rewrite) (sym e) (record { within = found_within us es _ f r.answer; none = r.position }) in
    let k = kept_grown c.args.ranks.now us es r.extends r.distinct q.known q.sized q.looks in
    kept_moved c.args.ranks.now us c.move_to.new.self es k m.bank m.spare m.metas m.saved (λ h. m.right es h p)
