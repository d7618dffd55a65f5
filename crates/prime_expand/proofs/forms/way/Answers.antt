use Rattle.std.proofs.Common.{◌++◌, ◌∷◌, [], map, ap, sym, ◌∙◌}
use Rattle.std.proofs.lemmas.List.{map-append}
use Rattle.core_expr.specs.declared.head.Head.TheVariants.{Apply}
use Rattle.prime_expand.specs.Both.{binary}
use Rattle.prime_expand.proofs.Ways.{turned, way_last, along_last}
use Rattle.prime_expand.proofs.forms.way.Goals as goal

pub loop-key-preserved : goal.loop-key-preserved
loop-key-preserved c =
    let old = c.loop-key in
    record {
      turns =
          ap (map turned) c.in_ok-push.ensures.items ∙ map-append turned old.turns.items _
          ∙ (λ i. old.invariant.turns i ++ (old.invariant.value i, c.in-Some.key) ∷ []) ∙ sym (way_last c.args.r old.yielded c.in-Some.key);
      value = c.in_ok-next.ensures ∙ ap (λ v. binary Apply v c.in-Some.key) old.invariant.value ∙ sym (along_last c.args.r old.yielded c.in-Some.key);
    }
