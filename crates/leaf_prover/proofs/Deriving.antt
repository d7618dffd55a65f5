-- What is answered as proved derives, whatever is kept.
use Rattle.std.specs.Prelude.{◌≡◌, ℕ, Bool, true, false, List, [], ◌∷◌, Option, Some, None}
use Rattle.std.proofs.Common.{refl}
use Rattle.core_expr.specs.declared.canon.Canon.{Canon}
use Rattle.seq_calculus.specs.Calculus.{Der}
use Rattle.seq_calculus.specs.Lists.{Lists}
use Rattle.seq_calculus.specs.Steps.{proof_of}
use Rattle.cache_hit.specs.Hits.{hit}
use Rattle.cache_hit.specs.Laws.{HitIsCorrect}
use Rattle.leaf_prover.specs.declared.answer.Answer.TheVariants.{Saturated}
use Rattle.leaf_prover.specs.Forms.{is_form}
use Rattle.leaf_prover.specs.Answers.{answer, is_proved}
use Rattle.leaf_prover.specs.Provers.{answered_by, answered_where, AnsweredDerives, SaturatedIsSearched}
use Rattle.leaf_prover.specs.Laws.{ProvedDerives}

pub answered_derives : ProvedDerives → HitIsCorrect → AnsweredDerives
answered_derives proved hits ps n c e =
    by (is_form c) refl e
  where
    kept : (o : Option Lists) → hit c ps ≡ o → is_form c ≡ true → is_proved (answered_by o n c) ≡ true → Der c.facts (c.goal ∷ [])
    kept (Some p) h f e = (proof_of p, hits c ps p h)
    kept None h f e = proved n c f e

    by : (b : Bool) → is_form c ≡ b → is_proved (answered_where b ps n c) ≡ true → Der c.facts (c.goal ∷ [])
    by true f e = kept (hit c ps) refl f e
    by false f e = absurd cc

pub saturated_is_searched : SaturatedIsSearched
saturated_is_searched ps n c values turns e =
    by (is_form c) e
  where
    kept : (o : Option Lists) → answered_by o n c ≡ Saturated values turns → answer n c ≡ Saturated values turns
    kept (Some p) e = absurd cc
    kept None e = e

    by : (b : Bool) → answered_where b ps n c ≡ Saturated values turns → answer n c ≡ Saturated values turns
    by true e = kept (hit c ps) e
    by false e = absurd cc
