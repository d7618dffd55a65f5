use Rattle.std.proofs.Common.{◌≡◌, ℕ, zero, suc, refl, sym, ap, ◌∙◌}
use Rattle.tla_ast.specs.declared.place.Place.{Place}
use Rattle.tla_ast.specs.declared.fault.Kind.TheVariants as kind
use Rattle.module_scope.specs.Known.{book_of}
use Rattle.module_scope.specs.Names.{Book, assumed, assumed_at, refused}
use Rattle.module_scope.proofs.Visits.{because}
use Rattle.module_scope.proofs.walker.Walker.assumed.Goals as goal

above : (l : ℕ) (p : Place) (b : Book) → (l ≡ 0 → ⊥) → assumed_at l p b ≡ refused kind.AssumeLevel p b
above zero p b h = absurd (h refl)
above (suc l) p b h = refl

pub returns-then-judged-eq0 : goal.returns-then-judged-eq0
unfolding assumed
returns-then-judged-eq0 c =
    sym (ap (λ l. assumed_at l c.args.place (book_of c.args.self.now)) (sym (ap (λ j. j.0) c.in_ok-judged.ensures) ∙ c.if-judged-eq0.true))

pub returns : goal.returns
unfolding assumed
returns c =
    because _ _ _ _ (ap (λ l. assumed_at l c.args.place (book_of c.args.self.now)) (sym (ap (λ j. j.0) c.in_ok-judged.ensures))
    ∙ above c.in_ok-judged.judged.level c.args.place (book_of c.args.self.now) c.if-judged-eq0.false) c.refuse.ensures
