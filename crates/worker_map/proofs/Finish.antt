-- What is collected at the start, and what it comes to at the end.
use Rattle.std.proofs.Common.{◌≡◌, ℕ, zero, suc, ◌+◌, ◌-◌, ◌≤◌, ◌<◌, ◌^◌, inl, inr, Bool, true, false, List, [], ◌∷◌, ◌++◌, length, take, Option, Some, None, sym, ap, subst, ◌∙◌, arith, refl, append-nil}
use Rattle.std.specs.Prelude.{slice_get, nat_lt}
use Rattle.std.specs.List.{AllByRecursion, AllZip, flat_map}
use Rattle.std.specs.Global.{Vec}
use Rattle.std.proofs.lemmas.Option.{slice_get_within}
use Rattle.std.proofs.lemmas.List.{length-map}
use Rattle.pool_core.specs.Numbers.{times, times_all, once_below, IsRising}
use Rattle.pool_core.specs.Schedule.{IsShared}
use Rattle.claim_board.specs.declared.board.Board.{Board}
use Rattle.claim_board.specs.declared.board.BoardSeat.{BoardSeat}
use Rattle.claim_board.specs.declared.view.View.{View}
use Rattle.claim_board.specs.Views.{all_rooms, view, first_view}
use Rattle.claim_board.specs.Board.{HasSeen}
use Rattle.claim_board.specs.Seats.{Belongs, view_of, jobs_of}
use Rattle.claim_board.proofs.Lists.{times_append}
use Rattle.proof_cache.specs.declared.verdict.Verdict.{Verdict}
use Rattle.worker_map.specs.declared.work.Worker.{Worker}
use Rattle.worker_map.specs.declared.collect.Lists.{Lists}
use Rattle.worker_map.specs.Answers.{IsOf, has_failed, noted_by}
use Rattle.worker_map.specs.Crew.{HasDone, Finishes, with_room, jobs_in, noted_of, IsBehind, SkipsAfter}
use Rattle.worker_map.specs.Desks.{IsNew}
use Rattle.worker_map.specs.Settled.{SkipsBehind, Pending, Fits, FitsAll, lists_of}
use Rattle.worker_map.specs.Collected.{Collected, IsDone, shown, noted_all}
use Rattle.worker_map.specs.Stops.{AllGiven, AllSkipBehind, IsCut, IsLeast, IsNoted, HasTaken, SkipsBehindLeast}
use Rattle.worker_map.proofs.Settles.{failed_noted, fails_most}
use Rattle.worker_map.proofs.Skips.{skips_behind}

new_done : (stop : Bool) (answers : ℕ → Verdict → Type 0) (board : Board) (w : Worker) → IsNew board w → HasDone stop answers board w
new_done stop answers board w h =
    let none = ap (λ (v : View). v.mine) h.seat in
    record {
      own = h.own;
      drawn = h.drawn ∙ sym none;
      same = ap length h.verdicts ∙ sym (ap length h.drawn);
      rising = subst IsRising (sym h.drawn) tt;
      below = subst (AllByRecursion (λ n. n < jobs_of board)) (sym h.drawn) tt;
      right = subst (AllByRecursion (IsOf answers (jobs_of board))) (sym h.verdicts) tt;
      jobs = ap jobs_in h.verdicts ∙ sym h.drawn;
      noted = ap (λ (v : View). v.noted) h.seat ∙ sym (ap (noted_of stop) h.verdicts ∙ nothing stop);
      skipped = subst (AllByRecursion (IsBehind stop (view_of w.seat).seen)) (sym h.verdicts) tt;
      stops = λ _. subst SkipsAfter (sym h.verdicts) tt;
      room = h.room;
      verdict_room = h.verdict_room;
    }
  where
    nothing : (b : Bool) → noted_of b [] ≡ []
    nothing true = refl
    nothing false = refl

pub all_new : (stop : Bool) (answers : ℕ → Verdict → Type 0) (board : Board) (ws : List Worker) → AllByRecursion (IsNew board) ws → AllByRecursion (HasDone stop answers board) ws
all_new stop answers board [] h = tt
all_new stop answers board (w ∷ ws) h = (new_done stop answers board w h.0, all_new stop answers board ws h.1)

pub all_done : (stop : Bool) (answers : ℕ → Verdict → Type 0) (board : Board) (vs ws : List Worker) → AllByRecursion (IsNew board) vs → AllZip (Finishes stop answers board) vs ws → AllByRecursion (IsDone stop answers board) ws
all_done stop answers board [] [] h z = tt
all_done stop answers board (v ∷ vs) [] h z = absurd z
all_done stop answers board [] (w ∷ ws) h z = absurd z
all_done stop answers board (v ∷ vs) (w ∷ ws) h z = (
  record {
    done = z.0.done;
    ended = z.0.ended;
    room = z.0.same.room ∙ ap (λ (u : View). u.room) h.0.seat;
    taken = z.0.same.taken ∙ ap (λ (u : View). u.taken) h.0.seat;
  },
  all_done stop answers board vs ws h.1 z.1,
)

pub take_front : {X : Type 0} (n : ℕ) (xs ys : List X) → length xs ≡ n → take n (xs ++ ys) ≡ xs
take_front n [] ys e = let none : n ≡ 0 = sym e in ap (λ k. take k ys) none
take_front n (x ∷ xs) ys e = ap (λ k. take k (x ∷ xs ++ ys)) (sym e) ∙ ap (λ t. x ∷ t) (take_front (length xs) xs ys refl)

pub begins : (stop : Bool) (answers : ℕ → Verdict → Type 0) (board : Board) (old new : BoardSeat) (count jobs : ℕ) (all : Lists) → view_of old ≡ first_view jobs → count ≤ 64
    → Belongs board new → view_of new ≡ with_room (view_of old) ((view_of old).room - count) → all.drawn.items ≡ [] → all.verdicts.items ≡ [] → Collected stop answers board count new all
begins stop answers board old new count jobs all whole few own kept none empty =
    let room : (view_of old).room ≡ all_rooms = ap (λ (v : View). v.room) whole in
    let now : (view_of new).room ≡ (view_of old).room - count = ap (λ (v : View). v.room) kept in
    let zero_drawn : length all.drawn.items ≡ 0 = ap length none in
    record {
      own = own;
      mine = ap (λ (v : View). v.mine) kept ∙ ap (λ (v : View). v.mine) whole;
      taken = ap (λ (v : View). v.taken) kept ∙ ap (λ (v : View). v.taken) whole ∙ sym (ap shown none);
      jobs = ap lists_of empty ∙ sym (ap shown none);
      room = omega arith;
      ended = λ some. absurd (omega arith);
      rising = subst (λ l. AllByRecursion IsRising (shown l)) (sym none) tt;
      right = subst (AllByRecursion (λ (l : Vec (ℕ × Option Verdict)). AllByRecursion (IsOf answers (jobs_of board)) l.items)) (sym empty) tt;
      noted = ap (λ (v : View). v.noted) kept ∙ ap (λ (v : View). v.noted) whole ∙ sym (ap (noted_all stop) empty);
      skipped = subst (AllByRecursion (λ (l : Vec (ℕ × Option Verdict)). AllByRecursion (IsBehind stop (view_of new).seen) l.items)) (sym empty) tt;
      stops = λ _. subst (AllByRecursion (λ (l : Vec (ℕ × Option Verdict)). SkipsAfter l.items)) (sym empty) tt;
      whole = λ _ some. absurd (omega arith);
      has_seen = λ _ some. absurd (omega arith);
    }

module _ (stop : Bool) (answers : ℕ → Verdict → Type 0) (board : Board) (seat : BoardSeat) (jobs : ℕ) (all : Lists) (is_jobs : jobs ≡ jobs_of board) (some : 0 < length all.drawn.items) (g : Collected stop answers board 0 seat all) where
  pub shared : IsShared (shown all.drawn.items) jobs
  shared = (
    g.rising,
    λ x.
        let all = g.whole refl some x in
        let mine = ap (times x) g.mine in
        let lists = ap (times_all x) g.taken in
        let below = ap (once_below x) is_jobs in
        omega arith,
  )

  pub taken : HasTaken jobs (shown all.drawn.items) (view_of seat)
  taken =
      let room : (view_of seat).room ≡ all_rooms = (let r = g.room in omega arith) in
      let same = g.own.jobs ∙ sym is_jobs in
      let ended = g.ended some in
      λ i. view (same i) (g.mine i) (g.taken i) (ended i) (room i) (view_of seat).noted (view_of seat).seen

noted_most : (x : ℕ) (ls : List (Vec (ℕ × Option Verdict))) → times x (noted_all true ls) ≤ times_all x (lists_of ls)
noted_most x [] = omega arith
noted_most x (l ∷ ls) =
    let rest = noted_most x ls in
    let here = fails_most x l.items in
    let sum = times_append x (noted_of true l.items) (noted_all true ls) in
    omega arith

abbrev pub IsTrue : (ℕ → ℕ) → ℕ × Option Verdict → Type 0
IsTrue noted e = has_failed e.1 ≡ nat_lt 0 (noted e.0)

-- each entry of all lists has failed just where its job is noted
all_failed : (noted : ℕ → ℕ) (ls : List (Vec (ℕ × Option Verdict))) → ((x : ℕ) → times x (noted_all true ls) ≤ noted x) → ((x : ℕ) → noted x + times_all x (lists_of ls) ≤ times x (noted_all true ls) + 1)
    → AllByRecursion (λ (l : Vec (ℕ × Option Verdict)). AllByRecursion (IsTrue noted) l.items) ls
all_failed noted [] lo hi = tt
all_failed noted (l ∷ ls) lo hi = (
  failed_noted noted l.items
      (λ x. let a = lo x in let sum = times_append x (noted_of true l.items) (noted_all true ls) in omega arith)
      (λ x. let a = hi x in let m = noted_most x ls in let sum = times_append x (noted_of true l.items) (noted_all true ls) in omega arith),
  all_failed noted ls
      (λ x. let a = lo x in let sum = times_append x (noted_of true l.items) (noted_all true ls) in omega arith)
      (λ x. let a = hi x in let m = fails_most x l.items in let sum = times_append x (noted_of true l.items) (noted_all true ls) in omega arith),
)

fits_list : (stop : Bool) (answers : ℕ → Verdict → Type 0) (seat : View) (jobs : ℕ) (es : List (ℕ × Option Verdict)) → AllByRecursion (IsOf answers jobs) es → AllByRecursion (IsBehind stop seat.seen) es
    → (stop ≡ true → AllByRecursion (IsTrue (λ x. times x seat.noted)) es) → (stop ≡ true → length seat.taken ≡ 1 → AllByRecursion (SkipsBehind seat.noted) es) → AllByRecursion (Fits stop answers seat jobs) es
fits_list stop answers seat jobs [] right skipped failed alone = tt
fits_list stop answers seat jobs (e ∷ es) right skipped failed alone = (
  (right.0.0, record { given = right.0.1; behind = skipped.0; failed = λ s. (failed s).0; alone = λ s one. (alone s one).0 }),
  fits_list stop answers seat jobs es right.1 skipped.1 (λ s. (failed s).1) (λ s one. (alone s one).1),
)

fits_lists : (stop : Bool) (answers : ℕ → Verdict → Type 0) (seat : View) (jobs : ℕ) (ls : List (Vec (ℕ × Option Verdict))) → AllByRecursion (λ (l : Vec (ℕ × Option Verdict)). AllByRecursion (IsOf answers jobs) l.items) ls
    → AllByRecursion (λ (l : Vec (ℕ × Option Verdict)). AllByRecursion (IsBehind stop seat.seen) l.items) ls
    → (stop ≡ true → AllByRecursion (λ (l : Vec (ℕ × Option Verdict)). AllByRecursion (IsTrue (λ x. times x seat.noted)) l.items) ls)
    → (stop ≡ true → length seat.taken ≡ 1 → AllByRecursion (λ (l : Vec (ℕ × Option Verdict)). AllByRecursion (SkipsBehind seat.noted) l.items) ls) → AllByRecursion (FitsAll stop answers seat jobs) ls
fits_lists stop answers seat jobs [] right skipped failed alone = tt
fits_lists stop answers seat jobs (l ∷ ls) right skipped failed alone = (
  fits_list stop answers seat jobs l.items right.0 skipped.0 (λ s. (failed s).0) (λ s one. (alone s one).0),
  fits_lists stop answers seat jobs ls right.1 skipped.1 (λ s. (failed s).1) (λ s one. (alone s one).1),
)

-- of one worker's list
lone : (noted : List ℕ) (lists : List (List ℕ)) (ls : List (Vec (ℕ × Option Verdict))) → length lists ≡ 1 → lists_of ls ≡ lists → AllByRecursion IsRising lists → AllByRecursion (λ (l : Vec (ℕ × Option Verdict)). SkipsAfter l.items) ls
    → noted ≡ noted_all true ls → AllByRecursion (λ (l : Vec (ℕ × Option Verdict)). AllByRecursion (SkipsBehind noted) l.items) ls
lone noted lists [] one is rising stops same = tt
lone noted lists (l ∷ m ∷ ls) one is rising stops same = absurd (let n = ap length is in omega arith)
lone noted lists (l ∷ []) one is rising stops same =
    let up : IsRising (jobs_in l.items) = (subst (AllByRecursion IsRising) (sym is) rising).0 in
    let all : noted ≡ flat_map noted_by l.items = same ∙ append-nil (flat_map noted_by l.items) in
    (subst (λ ns. AllByRecursion (SkipsBehind ns) l.items) (sym all) (skips_behind l.items up stops.0), tt)

get_within : {X : Type 0} (xs : List X) (k : ℕ) → k < length xs → (v : X) × (slice_get xs k ≡ Some v)
get_within [] k lt = absurd (omega arith)
get_within (x ∷ xs) zero lt = (x, refl)
get_within (x ∷ xs) (suc k) lt = get_within xs k (omega arith)

none_noted_all : (ls : List (Vec (ℕ × Option Verdict))) → noted_all false ls ≡ []
none_noted_all [] = refl
none_noted_all (l ∷ ls) = none_noted_all ls

module _ (stop : Bool) (answers : ℕ → Verdict → Type 0) (board : Board) (seat : BoardSeat) (jobs : ℕ) (all : Lists) (is_jobs : jobs ≡ jobs_of board) (some : 0 < length all.drawn.items) (g : Collected stop answers board 0 seat all) where
  counts : (x : ℕ) → times_all x (lists_of all.verdicts.items) ≡ once_below x jobs
  counts x = ap (times_all x) g.jobs ∙ (shared stop answers board seat jobs all is_jobs some g).1 x

  pub fits : (n : ℕ) → n ≡ jobs → AllByRecursion (FitsAll stop answers (view_of seat) n) all.verdicts.items
  fits n is =
      subst (λ k. AllByRecursion (FitsAll stop answers (view_of seat) k) all.verdicts.items) (sym (is ∙ is_jobs))
      (fits_lists stop answers (view_of seat) (jobs_of board) all.verdicts.items g.right g.skipped
      (λ s. all_failed (λ x. times x (view_of seat).noted) all.verdicts.items
      (λ x. let e = ap (times x) (g.noted ∙ ap (λ b. noted_all b all.verdicts.items) s) in omega arith)
      (λ x.
      let e = ap (times x) (g.noted ∙ ap (λ b. noted_all b all.verdicts.items) s) in
      let c = counts x in
      let m : once_below x jobs ≤ 1 = grind arith in
      omega arith))
      (λ s one.
      lone (view_of seat).noted (view_of seat).taken all.verdicts.items one (g.jobs ∙ sym g.taken) (subst (AllByRecursion IsRising) (sym g.taken) g.rising) (g.stops s)
      (g.noted ∙ ap (λ b. noted_all b all.verdicts.items) s)))

  pub pending : (table : List (Option Verdict)) → length table ≡ jobs → Pending stop answers (view_of seat) (λ x. times_all x (lists_of all.verdicts.items)) table
  pending table len j v at none =
      let lt = slice_get_within table j v at in
      let below : j < jobs = omega arith in
      let one : once_below j jobs ≡ 1 = grind arith in
      let c = counts j in
      absurd (omega arith)

  pub cut : (table : List (Option Verdict)) → length table ≡ jobs → jobs ≤ 2 ^ 32 → Pending stop answers (view_of seat) (λ x. 0) table → IsCut stop table
  cut table len small h j at =
      let b = (h j None at refl).behind refl in
      let lt = slice_get_within table j None at in
      let f = by_seen b (g.has_seen refl some) lt in (b.0, f.0, f.1, f.2, f.3, f.4)
    where
      by_seen : (stop ≡ true) × ((view_of seat).seen < j) → HasSeen (view_of seat) → j < length table → (k : ℕ) × (k < j) × (v : Option Verdict) × (slice_get table k ≡ Some v) × (has_failed v ≡ true)
      by_seen b (inl none) lt = let l = b.1 in absurd (omega arith)
      by_seen b (inr has) lt =
          let k = (view_of seat).seen in
          let l = b.1 in
          let found = get_within table k (omega arith) in
          let now : nat_lt 0 (times k (view_of seat).noted) ≡ true = grind arith in
          (k, l, found.0, found.1, (h k found.0 found.1 refl).failed b.0 ∙ now)

  pub noted : (table : List (Option Verdict)) → length table ≡ jobs → Pending stop answers (view_of seat) (λ x. 0) table → IsNoted stop (view_of seat).noted table
  noted table len h = record {
    failed = λ s j v at. (h j v at refl).failed s;
    jobs = λ j le. by_stop stop j refl (omega arith);
    none = λ s. g.noted ∙ ap (λ b. noted_all b all.verdicts.items) s ∙ none_noted_all all.verdicts.items;
  }
    where
      by_stop : (b : Bool) (j : ℕ) → stop ≡ b → jobs ≤ j → times j (view_of seat).noted ≡ 0
      by_stop true j s le =
          let e = ap (times j) (g.noted ∙ ap (λ b. noted_all b all.verdicts.items) s) in
          let most = noted_most j all.verdicts.items in
          let c = counts j in
          let none : once_below j jobs ≡ 0 = grind arith in
          omega arith
      by_stop false j s le = ap (times j) (g.noted ∙ ap (λ b. noted_all b all.verdicts.items) s ∙ none_noted_all all.verdicts.items)

  pub alone : (table : List (Option Verdict)) → Pending stop answers (view_of seat) (λ x. 0) table → length all.drawn.items ≡ 1 → stop ≡ true → AllSkipBehind (view_of seat).noted table
  alone table h one s j v at = (h j v at refl).alone s (ap length g.taken ∙ length-map all.drawn.items (λ (l : Vec ℕ). l.items) ∙ one)

pub given_all : (stop : Bool) (answers : ℕ → Verdict → Type 0) (seat : View) (table : List (Option Verdict)) → Pending stop answers seat (λ x. 0) table → AllGiven answers table
given_all stop answers seat table h j v at = (h j v at refl).given

-- one worker skips each job behind the least failed one
pub skips_behind_least : (least : Option ℕ) (noted : List ℕ) (table : List (Option Verdict)) → IsLeast least table → IsNoted true noted table → AllSkipBehind noted table → SkipsBehindLeast least table
skips_behind_least None noted table least is all k j v e lt at = absurd cc
skips_behind_least (Some m) noted table least is all k j v e lt at =
    let same : m ≡ k = cc in
    let found = is.failed refl m least.0 least.1 in
    let now : nat_lt 0 (times m noted) ≡ true = sym found ∙ least.2 in
    let some : 0 < times m noted = grind arith in
    all j v at m (subst (λ n. n < j) (sym same) lt) some
