use Rattle.std.proofs.Common.{◌∷◌, ◌++◌, [], inr, length, drop, ap, sym, arith}
use Rattle.std.proofs.lemmas.List.{drop_all}
use Rattle.prime_expand.specs.Walk.{point, finish}
use Rattle.prime_expand.proofs.Nodes.{no-update}
use Rattle.prime_expand.proofs.env.Names.push_updates.Goals as goal

pub loop-i-init : goal.loop-i-init
loop-i-init c vs r =
    let s = c.args.self.now in
    let q = point s c.args.spot.now in
    let ns = c.args.news.now in
    let n = length ns in
    ap (λ b. finish s c.args.tasks.now.items (vs ++ b ∷ [])) (sym (no-update s q r (drop n c.args.paths.now) (drop n ns) (inr (ap length (drop_all n ns (omega arith))))))
