-- The loop over turns.
use Rattle.std.specs.Prelude.{◌≡◌, ℕ, zero, suc, ◌+◌, ◌-◌, ◌<◌, ◌≤◌, Bool, List, [], ◌∷◌, length, map, drop}
use Rattle.std.proofs.Common.{get_or, ap, sym, ◌∙◌, subst, arith}
use Rattle.core_expr.specs.Tree.{Tree, true_}
use Rattle.search_definition.specs.Rules.Sides.{Alone, Both}
use Rattle.search_definition.specs.Search.{Move}
use Rattle.search_definition.specs.Search.Move.{Shuts, Applied}
use Rattle.search_trace.specs.declared.turn.Added.{Added}
use Rattle.search_trace.specs.declared.turn.Used.{Used}
use Rattle.search_trace.specs.declared.turn.Turn.{Turn}
use Rattle.search_trace.specs.declared.turn.Turn.TheVariants.{Shut, Alone as One, Split}
use Rattle.search_trace.specs.Traces.{AreUnder, UsedUnder, AddedUnder, TurnUnder, TurnsUnder, added_trees, move_of, moves_of}
use Rattle.proof_writer.specs.Written.{Written, count}
use Rattle.proof_trees.specs.Machine.{State, turned, back}
use Rattle.proof_trees.specs.Told.{MoveTold, MovesTold}
use Rattle.seq_translate.specs.States.{IsState, IsRun}
use Rattle.seq_translate.specs.declared.state.Second.{Second}
use Rattle.seq_translate.proofs.Stepped.{map-same, added-same, result-same}

under_wider : (m n : ℕ) (is : List ℕ) → m ≤ n → AreUnder m is → AreUnder n is
under_wider m n [] l h = tt
under_wider m n (i ∷ is) l h = (let a = h.0 in omega (arith, a, l), under_wider m n is l h.1)

added_wider : (m n : ℕ) (as' : List Added) → m ≤ n → AddedUnder m as' → AddedUnder n as'
added_wider m n [] l h = tt
added_wider m n (a ∷ as') l h = (let b = h.0 in omega (arith, b, l), added_wider m n as' l h.1)

used_wider : (m n : ℕ) (u : Used) → m ≤ n → UsedUnder m u → UsedUnder n u
used_wider m n u l h = (under_wider m n u.named.items l h.0, under_wider m n u.terms.items l h.1)

turn_wider : (m n : ℕ) (t : Turn) → m ≤ n → TurnUnder m t → TurnUnder n t
turn_wider m n (Shut k es next) l h = under_wider m n es.items l h
turn_wider m n (One u fs) l h = (used_wider m n u l h.0, added_wider m n fs.items l h.1)
turn_wider m n (Split u fs gs) l h = (used_wider m n u l h.0, added_wider m n fs.items l h.1, added_wider m n gs.items l h.2)

-- the turn of a place
under-at : (n : ℕ) (turns : List Turn) (k : ℕ) (t : Turn) → k < length turns → t ≡ get_or turns k t → TurnsUnder n turns → TurnUnder n t
under-at n [] k t l e h = absurd (omega arith)
under-at n (x ∷ turns) zero t l e h = subst (λ y. TurnUnder n y) (sym e) h.0
under-at n (x ∷ turns) (suc k) t l e h = under-at n turns k t (omega arith) e h.1

told-at : (ts : List Tree) (turns : List Turn) (k : ℕ) (t : Turn) → k < length turns → t ≡ get_or turns k t → MovesTold (moves_of ts turns) → MoveTold (move_of ts t)
told-at ts [] k t l e h = absurd (omega arith)
told-at ts (x ∷ turns) zero t l e h = subst (λ y. MoveTold (move_of ts y)) (sym e) h.0
told-at ts (x ∷ turns) (suc k) t l e h = told-at ts turns k t (omega arith) e h.1

-- the steps from a turn on
drop-at : (ts : List Tree) (turns : List Turn) (k : ℕ) (t : Turn) → k < length turns → t ≡ get_or turns k t → drop k (moves_of ts turns) ≡ move_of ts t ∷ drop (suc k) (moves_of ts turns)
drop-at ts [] k t l e = absurd (omega arith)
drop-at ts (x ∷ turns) zero t l e = ap (λ y. move_of ts y ∷ moves_of ts turns) (sym e)
drop-at ts (x ∷ turns) (suc k) t l e = drop-at ts turns k t (omega arith) e

move-same : (ts us : List Tree) (t : Turn) → ((i : ℕ) → i < length ts → get_or us i true_ ≡ get_or ts i true_) → TurnUnder (length ts) t → move_of us t ≡ move_of ts t
move-same ts us (Shut k es next) same h = ap (λ l. Shuts (record { clash = k; entries = l }) next) (map-same ts us same es.items h)
move-same ts us (One u fs) same h =
    ap (λ r. Applied r (map (λ a. a.is_new) fs.items) []) (result-same ts us same u (Alone (added_trees us fs.items)) (Alone (added_trees ts fs.items)) h.0 (ap (λ l. Alone l) (added-same ts us same fs.items h.1)))
move-same ts us (Split u fs gs) same h =
    ap (λ r. Applied r (map (λ a. a.is_new) fs.items) (map (λ a. a.is_new) gs.items))
    (result-same ts us same u (Both (added_trees us fs.items) (added_trees us gs.items)) (Both (added_trees ts fs.items) (added_trees ts gs.items)) h.0
    (ap (λ l. Both l (added_trees us gs.items)) (added-same ts us same fs.items h.1) ∙ ap (λ l. Both (added_trees ts fs.items) l) (added-same ts us same gs.items h.2)))

-- what a turn of the loop needs
pub run_under :
    (ts : List Tree) (turns : List Turn) (ms : List Bool) (ss : List Second) (w : Written) (done k : ℕ) (t : Turn) → k < length turns → t ≡ get_or turns k t → TurnsUnder (length ts) turns
    → IsRun ts turns ms ss w done → TurnUnder (count w) t
run_under ts turns ms ss w done k t l e under h = turn_wider (length ts) (count w) t h.more (under-at (length ts) turns k t l e under)

pub run_told :
    (ts : List Tree) (turns : List Turn) (ms : List Bool) (ss : List Second) (w : Written) (done k : ℕ) (t : Turn) → k < length turns → t ≡ get_or turns k t → TurnsUnder (length ts) turns
    → MovesTold (moves_of ts turns) → IsRun ts turns ms ss w done → MoveTold (move_of w.trees t)
run_told ts turns ms ss w done k t l e under told h =
    subst (λ m. MoveTold m) (sym (move-same ts w.trees t h.same (under-at (length ts) turns k t l e under))) (told-at ts turns k t l e told)

pub run_step :
    (ts : List Tree) (turns : List Turn) (ms ns : List Bool) (ss us : List Second) (w v : Written) (done k : ℕ) (t : Turn) → done < length turns → k ≡ length turns - 1 - done → t ≡ get_or turns k t
    → TurnsUnder (length ts) turns → IsRun ts turns ms ss w done
    → ((s : State) → TurnUnder (length ts) t → IsState ts ms ss w s → IsState ts ns us v (turned (moves_of ts turns) (k + 1) (move_of ts t) s)) → IsRun ts turns ns us v (done + 1)
run_step ts turns ms ns ss us w v done k t l q e under h step =
    let all : List Move = moves_of ts turns in
    let in_turns : k < length turns = omega arith in
    let number : k + 1 ≡ suc k = omega arith in
    let n : length turns - done ≡ suc k = omega arith in
    let m : k ≡ length turns - (done + 1) = omega arith in
    let before : IsState ts ms ss w (back all (suc (suc k)) (drop (suc k) all)) = subst (λ (j : ℕ). IsState ts ms ss w (back all (suc j) (drop j all))) n h in
    let after : IsState ts ns us v (turned all (suc k) (move_of ts t) (back all (suc (suc k)) (drop (suc k) all))) =
    subst (λ (j : ℕ). IsState ts ns us v (turned all j (move_of ts t) (back all (suc (suc k)) (drop (suc k) all)))) number (step (back all (suc (suc k)) (drop (suc k) all)) (under-at (length ts) turns k t in_turns e under) before) in
    subst (λ (j : ℕ). IsState ts ns us v (back all (suc j) (drop j all))) m
    (subst (λ (l : List Move). IsState ts ns us v (back all (suc k) l)) (sym (drop-at ts turns k t in_turns e)) after)
