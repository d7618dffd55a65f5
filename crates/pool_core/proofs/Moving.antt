-- Moves of the code's worker are those of the machine's, and keep its room.
use Rattle.std.proofs.Common.{◌≡◌, ℕ, ◌+◌, ◌≤◌, ◌<◌, Bool, true, false, ◌==◌, ◌||◌, ◌&&◌, not, List, [], ◌∷◌, ◌++◌, take, length, Option, Some, None, sym, refl, ap, ◌∙◌, arith, cond, subst}
use Rattle.std.proofs.lemmas.List.{length-map, length-append, map-append}
use Rattle.std.proofs.Math.Seq.{take-append_seam}
use Rattle.std.specs.Prelude.{vec_capacity, nat_lt}
use Rattle.pool_core.specs.declared.marks.Mark.{Mark}
use Rattle.pool_core.specs.declared.worker.Worker.{Worker}
use Rattle.pool_core.specs.Numbers.{times}
use Rattle.pool_core.specs.States.{shown, Answered, jobs_in, HasRoom, CanNote, Draws, Moves}
use Rattle.pool_core.specs.Machine as machine
use Rattle.pool_core.proofs.Lists.{pick, times_append, answer_jobs, no_longer, job_of}

-- a number below the last is taken
pub takes : (jobs next : ℕ) (v w : Worker) → HasRoom jobs next v → next < jobs → w.drawn.items ≡ v.drawn.items ++ machine.mark next false ∷ [] → vec_capacity w.drawn ≡ vec_capacity v.drawn → w.noted ≡ v.noted → w.seen ≡ v.seen → w.ended ≡ v.ended
    → Draws jobs next v w
takes jobs next v w h lt items cap noted seen ended =
    let one = machine.mark next false ∷ [] in let a = h.room in let b = h.short in
    let c = ap (λ (l : List Mark). length l) items ∙ length-append v.drawn.items one in
    record {
      shows = (λ i. machine.worker (items i) (noted i).items (seen i) (ended i)) ∙ sym (pick (nat_lt next jobs) _ _ (grind arith));
      room = record {
        room = omega arith;
        noted_room = let d = h.noted_room in let e = ap vec_capacity noted in omega arith;
        own = λ x.
            let more = ap (λ l. times x (jobs_in l)) items ∙ ap (times x) (map-append job_of v.drawn.items one) ∙ times_append x (jobs_in v.drawn.items) (next ∷ []) in
            let was = h.own x in let same = ap (λ u. times x u.items) noted in omega arith;
        short = omega arith;
        below = omega arith;
      };
      ended = λ _. ended;
      ends = λ le. absurd (omega arith);
    }

-- room stays where the jobs of the marks do
same_room : (v w : Worker) → jobs_in w.drawn.items ≡ jobs_in v.drawn.items → vec_capacity w.drawn ≡ vec_capacity v.drawn → w.noted ≡ v.noted → (jobs next : ℕ) → HasRoom jobs next v → HasRoom jobs next w
same_room v w jobs cap noted all next h =
    let a = h.short in let b = h.below in
    let len : length w.drawn.items ≡ length v.drawn.items = sym (length-map w.drawn.items job_of) ∙ ap (λ (l : List ℕ). length l) jobs ∙ length-map v.drawn.items job_of in
    record {
      room = let c = h.room in omega arith;
      noted_room = let c = h.noted_room in let e = ap vec_capacity noted in omega arith;
      own = λ x. let was = h.own x in let same = ap (times x) jobs in let e = ap (λ u. times x u.items) noted in omega arith;
      short = omega arith;
      below = omega arith;
    }

-- a list written back whole
pub written : (n : ℕ) (xs ys : List Mark) → n ≡ length xs → take n (xs ++ ys) ≡ xs
written n xs ys e = ap (λ k. take k (xs ++ ys)) e ∙ take-append_seam xs ys

-- a job is answered, or not
pub answers : (j : ℕ) (done : Bool) (v w : Worker) (ms : List Mark) → Answered j done v.drawn.items ms
    → w.drawn.items ≡ ms → vec_capacity w.drawn ≡ vec_capacity v.drawn → w.noted ≡ v.noted → w.seen ≡ v.seen → w.ended ≡ v.ended → Moves (machine.after_answer j) done v w
answers j true v w ms is items cap noted seen ended = record {
  shows = ap (machine.with_marks (shown v)) is ∙ ap Some (sym (λ i. machine.worker (items i) (noted i).items (seen i) (ended i)));
  room = same_room v w (ap jobs_in items ∙ answer_jobs j v.drawn.items ms is) cap noted;
  ended = ended;
}
answers j false v w ms is items cap noted seen ended = record {
  shows = (ap (machine.with_marks (shown v)) is.0, λ i. machine.worker ((items ∙ is.1) i) (noted i).items (seen i) (ended i));
  room = same_room v w (ap jobs_in (items ∙ is.1)) cap noted;
  ended = ended;
}

drawn_times : (j : ℕ) (ms : List Mark) → machine.has_drawn j ms ≡ true → 0 < times j (jobs_in ms)
drawn_times j [] has = absurd (cc)
drawn_times j (m ∷ ms) has = cases (m.job == j) (drawn_times j ms) has
  where
    cases : (b : Bool) → (machine.has_drawn j ms ≡ true → 0 < times j (jobs_in ms)) → (b || machine.has_drawn j ms) ≡ true → 0 < cond b 1 0 + times j (jobs_in ms)
    cases true rest has = omega arith
    cases false rest has = let r = rest has in omega arith

noted_times : (j : ℕ) (js : List ℕ) → machine.has_noted j js ≡ false → times j js ≡ 0
noted_times j [] has = refl
noted_times j (k ∷ ks) has = cases (k == j) (noted_times j ks) has
  where
    cases : (b : Bool) → (machine.has_noted j ks ≡ false → times j ks ≡ 0) → (b || machine.has_noted j ks) ≡ false → cond b 1 0 + times j ks ≡ 0
    cases true rest has = absurd (cc)
    cases false rest has = let r = rest has in omega arith

abbrev one_of : Bool → ℕ
one_of b = cond b 1 0

module _ (j : ℕ) (v : Worker) (h : CanNote v) (drawn : machine.has_drawn j v.drawn.items ≡ true) (fresh : machine.has_noted j v.noted.items ≡ false) where
  own_after : (x : ℕ) → times x (v.noted.items ++ j ∷ []) ≤ times x (jobs_in v.drawn.items)
  own_after x = cases (j == x) refl
    where
      more : times x (v.noted.items ++ j ∷ []) ≡ times x v.noted.items + times x (j ∷ [])
      more = times_append x v.noted.items (j ∷ [])

      cases : (b : Bool) → (j == x) ≡ b → times x (v.noted.items ++ j ∷ []) ≤ times x (jobs_in v.drawn.items)
      cases true e =
          let same : j ≡ x = grind arith in let some = subst (λ k. 0 < times k (jobs_in v.drawn.items)) same (drawn_times j v.drawn.items drawn) in
          let none = subst (λ k. times k v.noted.items ≡ 0) same (noted_times j v.noted.items fresh) in let one = ap one_of e in
          let sum = more in omega arith
      cases false e = let was = h.own x in let one = ap one_of e in let sum = more in omega arith

  -- a job that is noted finds room
  pub note_fits : length v.noted.items < vec_capacity v.noted
  note_fits =
      let most = no_longer (v.noted.items ++ j ∷ []) (jobs_in v.drawn.items) own_after in
      let a = length-append v.noted.items (j ∷ []) in let b = length-map v.drawn.items job_of in let c = h.room in omega arith

  -- a job is noted
  pub notes : (w : Worker) → w.drawn ≡ v.drawn → w.noted.items ≡ v.noted.items ++ j ∷ [] → vec_capacity w.noted ≡ vec_capacity v.noted → w.seen ≡ v.seen → w.ended ≡ v.ended → Moves (machine.after_note j) true v w
  notes w same items cap seen ended = record {
    shows = ap (λ b. test (b && not (machine.has_noted j v.noted.items))) drawn
        ∙ ap (λ b. test (true && not b)) fresh
        ∙ ap Some (sym (λ i. machine.worker (same i).items (items i) (seen i) (ended i)));
    room = λ all next r.
        let len = ap (λ u. length u.items) same in let a = r.short in let b = r.below in
        record {
          room = let c = r.room in let e = ap vec_capacity same in omega arith;
          noted_room = let c = r.noted_room in omega arith;
          own = λ x. let most = own_after x in let e = ap (times x) items in let d = ap (λ u. times x (jobs_in u.items)) same in omega arith;
          short = omega arith;
          below = omega arith;
        };
    ended = ended;
  }
    where
      test : Bool → Option machine.Worker
      test b = cond b (Some (machine.worker v.drawn.items (v.noted.items ++ j ∷ []) v.seen v.ended)) None
