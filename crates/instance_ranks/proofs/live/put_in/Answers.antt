use Rattle.std.proofs.Common.{◌≡◌, ◌<◌, ◌≤◌, true, false, length, sym, ◌∙◌, subst}
use Rattle.std.specs.Prelude.{nat_le}
use Rattle.instance_ranks.specs.Lives.{live_at}
use Rattle.instance_ranks.proofs.PlaceLaws.{put_at}
use Rattle.instance_ranks.proofs.live.put_in.Goals as goal

pub returns : goal.returns
returns c =
    let e = c.as_slice.ensures.value in
    let p = c.position-at.ensures in
    let at = c.position-at.result in
    let n = c.args.x.count in
    c.in_ok-insert.ensures.items
    ∙ put_at c.args.x c.args.list.now.items at (subst (λ ys. at ≤ length ys) e p.within) (λ k m. subst (λ ys. nat_le n (live_at ys k).count ≡ false) e (p.before k m))
    (λ m. subst (λ ys. nat_le n (live_at ys at).count ≡ true) e (p.at (subst (λ ys. at < length ys) (sym e) m)))
