-- The loop against the definition's run and steps.
use Rattle.std.proofs.Common.{◌≡◌, ℕ, zero, suc, ◌+◌, ◌<◌, List, [], ◌∷◌, ◌++◌, refl, ap, sym, ◌∙◌, arith, subst}
use Rattle.std.specs.Prelude.{Some, None}
use Rattle.std.proofs.lemmas.List.{append-nil, append_assoc}
use Rattle.search_definition.specs.Branches.{Branch}
use Rattle.search_definition.specs.Rules.Sides.{Alone as One, Both}
use Rattle.search_definition.specs.Instances.{Fresh}
use Rattle.search_definition.specs.Search.{Open, Move, shut, applied, turn, run, moves, last, then_run, then_moves, End}
use Rattle.search_definition.specs.Search.Move.{Shuts}
use Rattle.search_definition.specs.Search.Next.{Stuck as Sticks, Goes as Leads}
use Rattle.search_definition.specs.Search.End.{Saturated}
use Rattle.search_loop.specs.declared.work.Turned.TheVariants.{Stuck, Closes, Alone, Splits}
use Rattle.search_loop.specs.Stacks.{Tracked, Frame, path_of, siblings, open_of, popped, left_by, AreStacked, IsStackedBack}
use Rattle.search_loop.specs.Stacks.Frame.{first}
use Rattle.search_loop.specs.Stacks.Popped.{gone, back}
use Rattle.search_loop.specs.Turns.{State, Keeps, Tells, Resumes, turn_at, opens_at, RoundIs}
use Rattle.search_loop.specs.declared.run.Round.TheVariants.{Ends as Stops, Done, More}
use Rattle.search_loop.proofs.Stacking.{kept, higher, stacked, closes, goes, splits, sticks}

-- what a turn that is told left

pub told_stuck : (n : ℕ) (old new : State) (fs gs : List Frame) → Tells n old new Stuck → RoundIs n old fs new gs Stops
told_stuck n old new fs gs t = (sticks old.waits fs old.fresh n old.now t.0 t.1, t.2, t.3)

pub told_alone : (n : ℕ) (old new : State) (fs : List Frame) → Tells n old new Alone → Keeps old.count old new → AreStacked old.count fs → RoundIs n old fs new fs More
told_alone n old new fs (r, hs, c, f, e, d, m) k a =
    let s = kept old.waits new.waits old.count fs k.1 a in
    (applied r old.now.branch (One hs), goes old.waits fs old.fresh n old.now r hs c f e ∙ (λ i. Leads (applied r old.now.branch (One hs)) (open_of (sym d i) (path_of fs) ∷ sym s i)), m, higher old.count new.count fs k.0 a)

pub told_splits : (n m : ℕ) (old new : State) (fs : List Frame) → Tells n old new (Splits m) → Keeps old.count old new → AreStacked old.count fs → RoundIs n old fs new (first n m ∷ fs) More
told_splits n m old new fs (r, gs, hs, c, f, e, d, b, l, u, j) k a =
    let s = kept old.waits new.waits old.count fs k.1 a in (
      applied r old.now.branch (Both gs hs),
      ap (λ os. turn old.fresh n (open_of old.now (path_of fs)) os) (sym s)
          ∙ splits new.waits fs old.fresh n m old.now r gs hs c f e b
          ∙ ap (λ t. Leads (applied r old.now.branch (Both gs hs)) (open_of t (path_of (first n m ∷ fs)) ∷ siblings new.waits (first n m ∷ fs))) (sym d),
      j,
      (u, higher old.count m fs l a),
    )

-- a branch that closed, and nothing waits
pub told_gone : (n : ℕ) (old new : State) (fs gs : List Frame) (v : _) → Tells n old new (Closes v) → gone ≡ popped fs v.items → RoundIs n old fs new gs Done
told_gone n old new fs gs v (c, e, u, f, m) p =
    (Shuts c None, closes old.waits fs old.fresh n old.now c e ∙ ap (λ us. shut c (left_by old.waits (popped fs us))) (sym u) ∙ ap (λ q. shut c (left_by old.waits q)) (sym p), m)

-- a branch that closed, and the second side of the split i, which waits at m, is next
pub told_back : (n i m : ℕ) (old mid new : State) (fs gs : List Frame) (v : _) → Tells n old mid (Closes v) → back i m gs ≡ popped fs v.items → AreStacked old.count fs → Keeps old.count old mid → Keeps m mid new → new.now ≡ mid.waits m
    → Resumes i mid.moves new.moves → RoundIs n old fs new gs More
told_back n i m old mid new fs gs v (c, e, u, f, j) p a k l b h =
    let q : IsStackedBack old.count (back i m gs) = subst (λ x. IsStackedBack old.count x) (sym p) (stacked old.count fs v.items a) in
    let s : siblings new.waits gs ≡ siblings old.waits gs = kept old.waits new.waits m gs (λ x y. l.1 x y ∙ k.1 x (omega (arith, q.0))) q.1 in
    let d : old.waits m ≡ new.now = sym (b ∙ k.1 m q.0) in (
      Shuts c (Some i),
      closes old.waits fs old.fresh n old.now c e
          ∙ ap (λ us. shut c (left_by old.waits (popped fs us))) (sym u)
          ∙ ap (λ x. shut c (left_by old.waits x)) (sym p)
          ∙ (λ x. Leads (Shuts c (Some i)) (open_of (d x) (path_of gs) ∷ sym s x)),
      h old.moves c j,
      higher m new.count gs l.0 q.1,
    )

pub back_below : (n i m : ℕ) (fs gs : List Frame) (u : List ℕ) → back i m gs ≡ popped fs u → AreStacked n fs → m < n
back_below n i m fs gs u p a = (subst (λ x. IsStackedBack n x) (sym p) (stacked n fs u a)).0

-- the run and the steps after such a turn

run_stuck : (w : Fresh) (n used : ℕ) (o : Open) (os : List Open) (b : Branch) → turn w (suc used) o os ≡ Sticks b → run w n used (o ∷ os) ≡ Saturated b used
run_stuck w zero used o os b e = ap (last used) e
run_stuck w (suc n) used o os b e = ap (then_run (run w n (suc used)) used) e

moves_stuck : (w : Fresh) (n used : ℕ) (o : Open) (os : List Open) (b : Branch) → turn w (suc used) o os ≡ Sticks b → moves w n used (o ∷ os) ≡ []
moves_stuck w zero used o os b e = refl
moves_stuck w (suc n) used o os b e = ap (then_moves (moves w n (suc used))) e

stuck_at : (n used k : ℕ) (s : State) (fs : List Frame) → k ≡ used + 1 → turn_at k s fs ≡ Sticks s.now.branch → (run s.fresh n used (opens_at s fs) ≡ Saturated s.now.branch used) × (moves s.fresh n used (opens_at s fs) ≡ [])
stuck_at n used k s fs e h =
    let q : k ≡ suc used = omega arith in
    let t = subst (λ j. turn_at j s fs ≡ Sticks s.now.branch) q h in
    (run_stuck s.fresh n used (open_of s.now (path_of fs)) (siblings s.waits fs) s.now.branch t, moves_stuck s.fresh n used (open_of s.now (path_of fs)) (siblings s.waits fs) s.now.branch t)

more_at : (n i used k : ℕ) (s : State) (fs : List Frame) (m : Move) (cs : List Open) → k ≡ used + 1 → n ≡ i + 1 → turn_at k s fs ≡ Leads m cs
    → (run s.fresh n used (opens_at s fs) ≡ run s.fresh i k cs) × (moves s.fresh n used (opens_at s fs) ≡ m ∷ moves s.fresh i k cs)
more_at n i used k s fs m cs e z h =
    let q : k ≡ suc used = omega arith in
    let r : n ≡ suc i = omega arith in
    let t = subst (λ j. turn_at j s fs ≡ Leads m cs) q h in (
      ap (λ j. run s.fresh j used (opens_at s fs)) r ∙ ap (then_run (run s.fresh i (suc used)) used) t ∙ ap (λ j. run s.fresh i j cs) (sym q),
      ap (λ j. moves s.fresh j used (opens_at s fs)) r ∙ ap (then_moves (moves s.fresh i (suc used))) t ∙ ap (λ j. m ∷ moves s.fresh i j cs) (sym q),
    )

-- the same for a loop whose run x and steps y are those of what is left

pub stuck_kept : (n used k : ℕ) (s new : State) (fs gs : List Frame) (x : End) (y : List Move) → k ≡ used + 1 → RoundIs k s fs new gs Stops → x ≡ run s.fresh n used (opens_at s fs) → y ≡ s.moves ++ moves s.fresh n used (opens_at s fs)
    → (x ≡ Saturated new.now.branch used) × (new.moves ≡ y)
stuck_kept n used k s new fs gs x y e (q, a, b) f g =
    let t = stuck_at n used k s fs e q in
    (f ∙ t.0 ∙ ap (λ (z : Tracked). Saturated z.branch used) (sym a), b ∙ sym (g ∙ ap (λ ms. s.moves ++ ms) t.1 ∙ append-nil s.moves))

pub more_kept : (n i used k : ℕ) (s new : State) (fs gs : List Frame) (x : End) (y : List Move) → k ≡ used + 1 → n ≡ i + 1 → RoundIs k s fs new gs More → new.fresh ≡ s.fresh → x ≡ run s.fresh n used (opens_at s fs)
    → y ≡ s.moves ++ moves s.fresh n used (opens_at s fs) → (x ≡ run new.fresh i k (opens_at new gs)) × (y ≡ new.moves ++ moves new.fresh i k (opens_at new gs))
more_kept n i used k s new fs gs x y e z (m, q, b, a) h f g =
    let os = opens_at new gs in
    let t = more_at n i used k s fs m os e z q in (
      f ∙ t.0 ∙ ap (λ w. run w i k os) (sym h),
      g
          ∙ ap (λ ms. s.moves ++ ms) t.1
          ∙ sym (append_assoc s.moves (m ∷ []) (moves s.fresh i k os))
          ∙ ap (λ ms. ms ++ moves s.fresh i k os) (sym b)
          ∙ ap (λ w. new.moves ++ moves w i k os) (sym h),
    )
