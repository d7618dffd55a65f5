use Rattle.std.proofs.Common.{◌≡◌, ◌≤◌, ◌∙◌, ap, sym, arith, length, take}
use Rattle.std.proofs.lemmas.List.{take-map, take-take}
use Rattle.proof_checker.specs.Latest.{items_of}
use Rattle.proof_checker.specs.declared.trail.Kept.{Kept}
use Rattle.proof_checker.proofs.trail.Trail.cut.Goals as goal

pub loop-self-preserved : goal.loop-self-preserved
loop-self-preserved c =
    let ks = c.loop-self.self-inside.kept.items in
    let less = c.drop_last.new.kept.items in
    let l : c.args.count ≤ length less = omega (arith, c.drop_last.ensures.shorter) in
    let e : items_of less ≡ take (length less) (items_of ks) = ap items_of c.drop_last.ensures.rest ∙ sym (take-map (λ (k : Kept). k.item) (length less) ks) in (
      c.drop_last.ensures.kept,
      l,
      ap (take c.args.count) e ∙ take-take c.args.count (length less) (items_of ks) l ∙ c.loop-self.invariant.2,
    )
