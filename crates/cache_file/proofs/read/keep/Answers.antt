use Rattle.std.proofs.Common.{◌++◌, ◌∷◌, [], ◌∙◌, ap, sym, subst}
use Rattle.std.specs.Prelude.{Some}
use Rattle.cache_file.specs.Records.{Holds}
use Rattle.cache_file.proofs.Keeping.{one_kept, one_skipped}
use Rattle.cache_file.proofs.read.keep.Goals as goal

pub returns-in_ok-keep-in-Some : goal.returns-in_ok-keep-in-Some
returns-in_ok-keep-in-Some c = λ os few h.
    let said = c.in_ok-keep-in-Some.ensures in
    subst (λ o. Holds c.keep.new.self (os ++ o ∷ [])) (sym (c.in-Some.is ∙ ap Some c.in-Some.field-0-is)) (one_kept _ _ os _ h said.keeps said.skipped)

pub returns-in-None : goal.returns-in-None
returns-in-None c = λ os few h.
    subst (λ o. Holds c.skip.new.self (os ++ o ∷ [])) (sym c.in-None.is) (one_skipped _ _ os h c.skip.ensures.keeps c.skip.ensures.skipped few)
