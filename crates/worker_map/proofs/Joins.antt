-- One worker's lists are taken in.
use Rattle.std.proofs.Common.{◌≡◌, ℕ, ◌+◌, ◌≤◌, Bool, true, false, List, [], ◌∷◌, ◌++◌, Option, sym, refl, ap, ◌∙◌, arith, subst, append_assoc, append-nil}
use Rattle.std.specs.Prelude.{◌||◌}
use Rattle.std.proofs.lemmas.List.{map-append}
use Rattle.std.specs.List.{AllByRecursion}
use Rattle.std.specs.Global.{Vec}
use Rattle.pool_core.specs.Numbers.{IsRising}
use Rattle.claim_board.specs.declared.board.Board.{Board}
use Rattle.claim_board.specs.declared.board.BoardSeat.{BoardSeat}
use Rattle.claim_board.specs.declared.view.View.{View}
use Rattle.claim_board.specs.Views.{all_rooms, joined}
use Rattle.claim_board.specs.Board.{HoldsEachBelow, HasSeen}
use Rattle.claim_board.specs.Seats.{Belongs, view_of, jobs_of}
use Rattle.proof_cache.specs.declared.verdict.Verdict.{Verdict}
use Rattle.worker_map.specs.declared.work.Worker.{Worker}
use Rattle.worker_map.specs.declared.collect.Lists.{Lists}
use Rattle.worker_map.specs.Answers.{IsOf}
use Rattle.worker_map.specs.Crew.{jobs_in, noted_of, IsBehind, SkipsAfter}
use Rattle.worker_map.specs.Settled.{lists_of}
use Rattle.worker_map.specs.Collected.{Collected, IsDone, shown, noted_all}
use Rattle.worker_map.proofs.Rising.{all_snoc}
use Rattle.worker_map.proofs.Failed.{behind_more}

or_true : (a b : Bool) → b ≡ true → (a || b) ≡ true
or_true true b e = refl
or_true false b e = e

noted_last : (stop : Bool) (ls : List (Vec (ℕ × Option Verdict))) (l : Vec (ℕ × Option Verdict)) → noted_all stop (ls ++ l ∷ []) ≡ (noted_all stop ls ++ noted_of stop l.items)
noted_last stop [] l = append-nil (noted_of stop l.items)
noted_last stop (k ∷ ks) l = ap (λ t. noted_of stop k.items ++ t) (noted_last stop ks l) ∙ sym (append_assoc (noted_of stop k.items) (noted_all stop ks) (noted_of stop l.items))

abbrev AllBehind : Bool → ℕ → Vec (ℕ × Option Verdict) → Type 0
AllBehind stop seen l = AllByRecursion (IsBehind stop seen) l.items

behind_all : (stop : Bool) (old new : ℕ) → new ≤ old → (ls : List (Vec (ℕ × Option Verdict))) → AllByRecursion (AllBehind stop old) ls → AllByRecursion (AllBehind stop new) ls
behind_all stop old new le [] h = tt
behind_all stop old new le (l ∷ ls) h = (behind_more stop old new le l.items h.0, behind_all stop old new le ls h.1)

pub taken_in : (stop : Bool) (answers : ℕ → Verdict → Type 0) (board : Board) (left : ℕ) (old new : BoardSeat) (w : Worker) (all more : Lists)
    → Collected stop answers board (left + 1) old all → IsDone stop answers board w
    → Belongs board new → view_of new ≡ joined (view_of old) (view_of w.seat)
    → ((view_of new).room ≡ all_rooms → (view_of new).ended ≡ true → HoldsEachBelow (view_of new) (jobs_of board)) → ((view_of new).room ≡ all_rooms → HasSeen (view_of new))
    → more.drawn.items ≡ all.drawn.items ++ w.drawn ∷ [] → more.verdicts.items ≡ all.verdicts.items ++ w.verdicts ∷ [] → Collected stop answers board left new more
taken_in stop answers board left old new w all more a d own is whole has_seen drawn verdicts =
    let lists = ap shown drawn ∙ map-append (λ (v : Vec ℕ). v.items) all.drawn.items (w.drawn ∷ []) in
    let mine : (view_of w.seat).mine ≡ w.drawn.items = sym d.done.drawn in
    let room = ap (λ (v : View). v.room) is in
    let rooms = a.room in
    let one = d.room in
    let seen = ap (λ (v : View). v.seen) is in
    let end = ap (λ (v : View). v.ended) is ∙ or_true (view_of old).ended (view_of w.seat).ended d.ended in
    record {
      own = own;
      mine = ap (λ (v : View). v.mine) is ∙ a.mine;
      taken = ap (λ (v : View). v.taken) is ∙ (λ i. a.taken i ++ mine i ∷ d.taken i) ∙ sym lists;
      jobs = ap lists_of verdicts ∙ map-append (λ (k : Vec (ℕ × Option Verdict)). jobs_in k.items) all.verdicts.items (w.verdicts ∷ []) ∙ (λ i. a.jobs i ++ d.done.jobs i ∷ []) ∙ sym lists;
      room = omega arith;
      ended = λ _. end;
      rising = subst (AllByRecursion IsRising) (sym lists) (all_snoc IsRising (shown all.drawn.items) w.drawn.items a.rising d.done.rising);
      right = subst (AllByRecursion (λ (l : Vec (ℕ × Option Verdict)). AllByRecursion (IsOf answers (jobs_of board)) l.items)) (sym verdicts)
          (all_snoc (λ (l : Vec (ℕ × Option Verdict)). AllByRecursion (IsOf answers (jobs_of board)) l.items) all.verdicts.items w.verdicts a.right d.done.right);
      noted = ap (λ (v : View). v.noted) is ∙ (λ i. a.noted i ++ d.done.noted i) ∙ sym (ap (noted_all stop) verdicts ∙ noted_last stop all.verdicts.items w.verdicts);
      skipped = subst (AllByRecursion (AllBehind stop (view_of new).seen)) (sym verdicts)
          (all_snoc (AllBehind stop (view_of new).seen) all.verdicts.items w.verdicts
          (behind_all stop (view_of old).seen (view_of new).seen (omega arith) all.verdicts.items a.skipped)
          (behind_more stop (view_of w.seat).seen (view_of new).seen (omega arith) w.verdicts.items d.done.skipped));
      stops = λ s. subst (AllByRecursion (λ (l : Vec (ℕ × Option Verdict)). SkipsAfter l.items)) (sym verdicts)
          (all_snoc (λ (l : Vec (ℕ × Option Verdict)). SkipsAfter l.items) all.verdicts.items w.verdicts (a.stops s) (d.done.stops s));
      whole = λ none _. whole (omega arith) end;
      has_seen = λ none _. has_seen (omega arith);
    }
