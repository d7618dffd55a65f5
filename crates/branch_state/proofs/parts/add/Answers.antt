use Rattle.std.proofs.Common.{◌≡◌, ◌++◌, ◌∷◌, [], take, ap, sym, subst, ◌∙◌}
use Rattle.branch_state.specs.Parts.{core_of, IsHeld, shown_of}
use Rattle.branch_state.specs.Shown.{added}
use Rattle.branch_state.proofs.HeldLaws.{added_core, linked_held, with_book, with_links}
use Rattle.branch_state.proofs.parts.add.Goals as goal

pub returns-clause-held : goal.returns-clause-held
returns-clause-held c =
    let k = core_of c.args.parts.now in
    subst (λ b. IsHeld (with_book (with_links k c.set_link.new.links.items) b)) (sym c.in_ok-add.ensures.ok) (added_core k c.set_link.new.links.items c.args.new c.args.needs c.requires.held (c.in_ok-set_link.ensures.ok ∙ ap (λ n. take n k.links ++ c.args.needs ∷ []) c.length-length.ensures) c.requires.needs).0

pub returns-clause-ok : goal.returns-clause-ok
returns-clause-ok c =
    let k = core_of c.args.parts.now in
    subst (λ b. shown_of (with_book (with_links k c.set_link.new.links.items) b) ≡ added (shown_of k) c.args.new c.args.needs) (sym c.in_ok-add.ensures.ok) (added_core k c.set_link.new.links.items c.args.new c.args.needs c.requires.held (c.in_ok-set_link.ensures.ok ∙ ap (λ n. take n k.links ++ c.args.needs ∷ []) c.length-length.ensures) c.requires.needs).1

pub returns-in_err-add-clause-held : goal.returns-in_err-add-clause-held
returns-in_err-add-clause-held c =
    let k = core_of c.args.parts.now in
    let e = c.in_ok-set_link.ensures.ok ∙ ap (λ n. take n k.links ++ c.args.needs ∷ []) c.length-length.ensures in
    subst (λ b. IsHeld (with_book (with_links k c.set_link.new.links.items) b)) (sym c.in_err-add.ensures.err) (linked_held k c.set_link.new.links.items c.args.needs c.requires.held e c.requires.needs)
