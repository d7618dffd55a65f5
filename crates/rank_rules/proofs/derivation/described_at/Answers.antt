use Rattle.std.proofs.Common.{◌≡◌, ◌<◌, Some, true, false, length, refl, sym, ◌∙◌, ap, subst}
use Rattle.std.specs.Prelude.{Bool, not}
use Rattle.term_bank.specs.Banks.{tree_at}
use Rattle.search_definition.specs.Equations.{fun_of, describes}
use Rattle.branch_book.specs.declared.item.Item.{Item}
use Rattle.branch_state.specs.Parts.{shown}
use Rattle.branch_state.specs.Shown.{placed_at}
use Rattle.rank_rules.specs.Deriving.{IsDescribed, where_live}
use Rattle.rank_rules.proofs.Entries.{known_at}
use Rattle.rank_rules.proofs.DeriveLaws.{described_found}
use Rattle.rank_rules.proofs.derivation.described_at.Goals as goal

pub fun_of-requires : goal.fun_of-requires
fun_of-requires c =
    let es = (shown c.args.parts.now).now in
    let e : c.entry-item.result.formula ≡ (placed_at es c.args.i).formula = ap (λ (x : Item). x.formula) c.entry-item.ensures in
    (c.requires.function, (subst (λ f. f < length c.args.bank.now) (sym e) (known_at (length c.args.bank.now) es c.args.i c.requires.known c.requires.within), tt))

is_live : (b : Bool) → not b ≡ false → true ≡ b
is_live true e = refl
is_live false e = e

pub returns-in-Some : goal.returns-in-Some
returns-in-Some c =
    let ts = c.args.bank.now in
    let es = (shown c.args.parts.now).now in
    let e : c.entry-item.result.formula ≡ (placed_at es c.args.i).formula = ap (λ (x : Item). x.formula) c.entry-item.ensures in
    let v : true ≡ (placed_at es c.args.i).live = is_live c.entry-item.result.live c.if-not-item.false ∙ ap (λ (x : Item). x.live) c.entry-item.ensures in
    let l : c.entry-item.result.formula < length ts = subst (λ f. f < length ts) (sym e) (known_at (length ts) es c.args.i c.requires.known c.requires.within) in
    coe 0 1 (i. IsDescribed ts (Some (record { formula = c.entry-item.result.formula; function = c.in-Some.function })) (where_live (v i) (describes (tree_at ts c.args.g) (tree_at ts (e i)))))
    (described_found ts c.args.g c.entry-item.result.formula c.in-Some.function (fun_of (tree_at ts c.args.g) (tree_at ts c.entry-item.result.formula)) l c.in-Some.ensures)
