use Rattle.std.proofs.Common.{◌++◌, ◌∷◌, [], ◌∙◌, sym, ap, subst, List}
use Rattle.std.proofs.lemmas.List.{map-append}
use Rattle.canonical_form.specs.declared.form.Named.{Named}
use Rattle.job_plan.specs.Plan.{ArePlaces, canons_of}
use Rattle.job_plan.proofs.Places.{jobs_more, places_more}
use Rattle.job_plan.proofs.numbering.number.Goals as goal

pub loop-leaf-preserved : goal.loop-leaf-preserved
loop-leaf-preserved c =
    let ls : List Named = c.loop-leaf.yielded in
    let l = c.in-Some.leaf in
    let keys = c.in_ok-place.ensures.keys in
    let stored = c.in_ok-place.ensures.stored in
    let new = c.insert_full.new.self.keys in
    let places = places_more ls l c.loop-leaf.jobs.keys new c.loop-leaf.of_leaf.items c.in_ok-place.place stored.0 c.loop-leaf.invariant.places keys stored.1 stored.2 in
    record {
      jobs = jobs_more ls l c.loop-leaf.jobs.keys new c.loop-leaf.invariant.jobs keys;
      places = subst (λ js. ArePlaces new (canons_of (ls ++ l ∷ [])) js) (sym c.in_ok-push.ensures.items) places;
      names = c.in_ok-push-2.ensures.items ∙ ap (λ ns. ns ++ l.names ∷ []) c.loop-leaf.invariant.names ∙ sym (map-append (λ (k : Named). k.names) ls (l ∷ []));
    }
