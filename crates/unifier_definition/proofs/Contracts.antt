-- The laws that the contracts state.
use Rattle.std.specs.Prelude.{◌≡◌, Option, Some, None, List}
use Rattle.std.proofs.Common.{refl, sym, ◌∙◌, subst}
use Rattle.core_expr.specs.declared.head.Sym.{Sym}
use Rattle.core_expr.specs.Tree.{Tree}
use Rattle.unifier_definition.specs.Unify.{difference, Binding, mgu, answers}
use Rattle.unifier_definition.specs.Unify.Difference.{Same}
use Rattle.unifier_definition.specs.Laws.{IsUnifier, AnswerUnifies, AnswerIsGeneral, AnswerIsApplied, AnswerIsListed, NoneMeansNone, UnifierHasRoom, SameIsEqual}
use Rattle.unifier_definition.proofs.Differs.{Says, difference-says, says-self}
use Rattle.unifier_definition.proofs.Rounds.{mgu-unifies, mgu-general, mgu-listed, mgu-complete, mgu-room}

pub answer_unifies : AnswerUnifies
answer_unifies ms s t bs h = mgu-unifies ms s t bs h

pub answer_is_general : AnswerIsGeneral
answer_is_general ms s t bs v h k f lf = mgu-general ms s t bs v h k f lf

pub answer_is_applied : AnswerIsApplied
answer_is_applied ms s t bs h f lf = mgu-general ms s t bs (answers bs) h (mgu-unifies ms s t bs h) f lf

pub answer_is_listed : AnswerIsListed
answer_is_listed ms s t bs h f u e = mgu-listed ms s t bs h f u e

pub none_means_none : NoneMeansNone
none_means_none ms s t = (to, from (mgu ms s t) refl)
  where
    to : mgu ms s t ≡ None → (v : Sym → Tree) → IsUnifier ms v s t → ⊥
    to h v k = let r = mgu-complete ms s t v k in absurd (apart r.0 (sym h ∙ r.1))
      where
        apart : (bs : List Binding) → None ≡ Some bs → ⊥
        apart bs e = cc

    from : (o : Option (List Binding)) → mgu ms s t ≡ o → ((v : Sym → Tree) → IsUnifier ms v s t → ⊥) → mgu ms s t ≡ None
    from None e h = e
    from (Some bs) e h = absurd (h (answers bs) (mgu-unifies ms s t bs e))

pub unifier_has_room : UnifierHasRoom
unifier_has_room ms s t room r = mgu-room ms s t room r

pub same_is_equal : SameIsEqual
same_is_equal ms s t = (to, from)
  where
    to : difference ms s t ≡ Same → s ≡ t
    to h = subst (Says ms s t) h (difference-says ms s t)

    from : s ≡ t → difference ms s t ≡ Same
    from e = subst (λ x. difference ms s x ≡ Same) e (says-self ms s)
