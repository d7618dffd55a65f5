use Rattle.std.proofs.Common.{◌≡◌, ◌<◌, ◌++◌, cond, Option, ℕ, [], ◌∷◌, ◌∙◌, sym, ap, subst, arith}
use Rattle.std.specs.List.{AllByRecursion}
use Rattle.claim_board.specs.declared.view.View.{View}
use Rattle.claim_board.specs.Views.{IsRising}
use Rattle.claim_board.specs.Seats.{view_of, jobs_of}
use Rattle.proof_cache.specs.declared.verdict.Verdict.{Verdict}
use Rattle.worker_map.specs.Answers.{IsOf, noted_by}
use Rattle.worker_map.specs.Crew.{jobs_in, noted_of, IsBehind, SkipsAfter}
use Rattle.worker_map.proofs.Skips.{skips_more}
use Rattle.worker_map.proofs.Failed.{new_job, noted_snoc, behind_more, times_last}
use Rattle.claim_board.specs.Views.{times}
use Rattle.std.proofs.lemmas.List.{map-append}
use Rattle.worker_map.proofs.Rising.{drawn, rising_length, all_snoc}
use Rattle.worker_map.proofs.work.step.Goals as goal

pub returns-in_default-clause-bound : goal.returns-in_default-clause-bound
returns-in_default-clause-bound g c = rising_length _ _ c.requires.done.rising c.requires.done.below

pub push_reserved-requires : goal.push_reserved-requires
push_reserved-requires g c =
    let less = (drawn _ c.in-Some.job _ c.requires.done.rising c.requires.done.below (subst (AllByRecursion (λ y. y < c.in-Some.job)) (sym c.requires.done.drawn) c.in-Some.ensures.found.3) c.in-Some.ensures.found.0).room in
    let room = c.requires.done.room in
    omega arith

pub push_reserved-requires-2 : goal.push_reserved-requires-2
push_reserved-requires-2 g c =
    let less = (drawn _ c.in-Some.job _ c.requires.done.rising c.requires.done.below (subst (AllByRecursion (λ y. y < c.in-Some.job)) (sym c.requires.done.drawn) c.in-Some.ensures.found.3) c.in-Some.ensures.found.0).room in
    let same = c.requires.done.same in
    let room = c.requires.done.verdict_room in
    omega arith

pub judge-verdict-requires-clause-mine : goal.judge-verdict-requires-clause-mine
judge-verdict-requires-clause-mine g c κs within =
    let found = c.in-Some.ensures.found in
    let mine = ap (λ (v : View). v.mine) found.2 in
    subst (λ l. 0 < times c.in-Some.job l) (sym mine) (times_last c.in-Some.job (view_of c.args.w.now.seat).mine)

pub judge-verdict-requires-clause-new : goal.judge-verdict-requires-clause-new
judge-verdict-requires-clause-new g c κs within =
    let w = c.args.w.now in
    let found = c.in-Some.ensures.found in
    let above = subst (AllByRecursion (λ y. y < c.in-Some.job)) (sym (c.requires.done.jobs ∙ c.requires.done.drawn)) found.3 in
    let noted = ap (λ (v : View). v.noted) found.2 ∙ c.requires.done.noted in
    subst (λ l. times c.in-Some.job l ≡ 0) (sym noted) (new_job c.args.stop c.in-Some.job w.verdicts.items above)

pub returns-clause-done : goal.returns-clause-done
returns-clause-done g c =
    let w = c.args.w.now in
    let stop = c.args.stop in
    let answers = g.A.Answers.right c.args.answers.now in
    let jobs = jobs_of c.args.board.now in
    let job = c.in-Some.job in
    let result = c.judge-verdict.result in
    let found = c.in-Some.ensures.found in
    let judged = c.judge-verdict.ensures.judges in
    let above = subst (AllByRecursion (λ y. y < job)) (sym c.requires.done.drawn) found.3 in
    let more = drawn jobs job w.drawn.items c.requires.done.rising c.requires.done.below above found.0 in
    let mine = ap (λ (v : View). v.mine) judged.same ∙ ap (λ (v : View). v.mine) found.2 in
    let noted = ap (λ (v : View). v.noted) found.2 ∙ c.requires.done.noted in
    let seen = ap (λ (v : View). v.seen) found.2 in
    let is = c.push_reserved.ensures.items in
    let items = c.push_reserved-2.ensures.items in
    let less = judged.seen in
    record {
      own = c.judge-verdict.ensures.seat;
      drawn = is ∙ ap (λ l. l ++ job ∷ []) c.requires.done.drawn ∙ sym mine;
      same = let a = c.push_reserved.ensures.len in let b = c.push_reserved-2.ensures.len in let s = c.requires.done.same in omega arith;
      rising = subst IsRising (sym is) more.rising;
      below = subst (AllByRecursion (λ n. n < jobs)) (sym is) more.below;
      right = subst (AllByRecursion (IsOf answers jobs)) (sym items) (all_snoc (IsOf answers jobs) w.verdicts.items (job, result) c.requires.done.right (found.0, judged.given));
      jobs = ap jobs_in items ∙ map-append (λ (v : ℕ × Option Verdict). v.0) w.verdicts.items ((job, result) ∷ []) ∙ ap (λ l. l ++ job ∷ []) c.requires.done.jobs ∙ sym is;
      noted = judged.noted ∙ ap (λ l. l ++ cond stop (noted_by (job, result)) []) noted ∙ sym (noted_snoc stop w.verdicts.items (job, result)) ∙ ap (noted_of stop) (sym items);
      skipped = subst (AllByRecursion (IsBehind stop (view_of c.judge-verdict.new.seat).seen)) (sym items)
          (all_snoc (IsBehind stop (view_of c.judge-verdict.new.seat).seen) w.verdicts.items (job, result)
          (behind_more stop (view_of w.seat).seen (view_of c.judge-verdict.new.seat).seen (omega arith) w.verdicts.items c.requires.done.skipped) judged.behind);
      stops = λ s. subst SkipsAfter (sym items)
          (skips_more w.verdicts.items (job, result) (c.requires.done.stops s) (subst (AllByRecursion (λ y. y < job)) (sym (c.requires.done.jobs ∙ c.requires.done.drawn)) found.3)
          (λ k lt some. judged.skips s k lt (subst (λ l. 0 < times k l) (sym (noted ∙ ap (λ b. noted_of b w.verdicts.items) s)) some)));
      room = let same = c.push_reserved.ensures.capacity in let room = c.requires.done.room in omega arith;
      verdict_room = let same = c.push_reserved-2.ensures.capacity in let room = c.requires.done.verdict_room in omega arith;
    }

pub returns-clause-bound : goal.returns-clause-bound
returns-clause-bound g c =
    let less = (drawn _ c.in-Some.job _ c.requires.done.rising c.requires.done.below (subst (AllByRecursion (λ y. y < c.in-Some.job)) (sym c.requires.done.drawn) c.in-Some.ensures.found.3) c.in-Some.ensures.found.0).room in
    let long = c.push_reserved.ensures.len in
    omega arith
