use Rattle.std.proofs.Common.{◌≡◌, sym, ◌∙◌, Option, Some, None, Bor}
use Rattle.std.specs.Prelude.{MatchOption}
use Rattle.core_expr.specs.Tree.{Tree}
use Rattle.core_expr.specs.Rename.{named}
use Rattle.core_expr.specs.Index.{named_at}
use Rattle.core_expr.proofs.IndexLaws.{index_found}
use Rattle.core_expr.proofs.rename.find.Goals as goal

moved : (r : Option (Bor Tree)) (a b : Option Tree) → a ≡ b → MatchOption r (a ≡ None) (λ e. a ≡ Some e.now) → MatchOption r (b ≡ None) (λ e. b ≡ Some e.now)
moved None a b q h = sym q ∙ h
moved (Some e) a b q h = sym q ∙ h

pub returns-in-None : goal.returns-in-None
returns-in-None c = sym (index_found c.args.by.now c.args.places.now c.args.sym None c.in-None.ensures.value c.requires)

pub returns-in-Some : goal.returns-in-Some
returns-in-Some c =
    moved c.nth.result (named_at c.args.by.now (Some c.in-Some.at.now)) (named c.args.by.now c.args.sym) (index_found c.args.by.now c.args.places.now c.args.sym (Some c.in-Some.at.now) c.in-Some.ensures.value c.requires) c.nth.ensures
