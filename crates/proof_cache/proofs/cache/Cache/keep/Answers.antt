use Rattle.std.proofs.Common.{◌<◌, length, sym, subst, ap, ◌∙◌}
use Rattle.std.proofs.Common.{arith}
use Rattle.std.specs.Prelude.{if◌then◌else◌, ◌++◌, ◌∷◌, []}
use Rattle.std.proofs.lemmas.Grind.{common_steps}
use Rattle.proof_cache.specs.Records.{Record, Kept, Keeps}
use Rattle.proof_cache.proofs.Keeping.{keeps_more}
use Rattle.proof_cache.proofs.cache.Cache.keep.Goals as goal

pub returns-clause-keeps : goal.returns-clause-keeps
returns-clause-keeps c rs was =
    let inside = c.self.inside in
    let old : Kept = record { canons = inside.canons.keys; proofs = inside.proofs.items; skipped = inside.skipped } in
    let new : Kept = record { canons = c.insert_full.new.self.keys; proofs = c.put.new.lists.items; skipped = inside.skipped } in
    let r : Record = record { canon = c.args.canon; proof = c.args.proof } in
    let lists = c.widen.new.lists.items in
    let stored = c.in_ok-place.ensures in
    let room = c.widen.ensures ∙ ap (λ ps. if c.in_ok-place.is_new then ps ++ [] ∷ [] else ps) c.reserve.ensures.items in
    let within : c.in_ok-place.place < length lists = grind (arith, common_steps) in
    keeps_more old new r c.in_ok-place.is_new c.in_ok-place.place lists c.self.invariant stored.keys room stored.index stored.within within c.in_ok-put.ensures.lists rs (subst (λ k. Keeps k rs) (sym c.self.view_is) was)
