-- What a turn tells and keeps.
use Rattle.std.proofs.Common.{◌≡◌, ℕ, ◌+◌, ◌<◌, false, List, [], ◌∷◌, ◌++◌, length, get_or, take, map, refl, ap, sym, ◌∙◌, arith, subst, Vec, Global}
use Rattle.std.specs.Prelude.{None}
use Rattle.std.proofs.lemmas.List.{get_or_append_left, get_or_push, length_push, get_or-take, length-take-le}
use Rattle.core_expr.specs.Tree.{Tree}
use Rattle.seq_calculus.specs.Calculus.{AllClosed}
use Rattle.term_bank.specs.Banks.{tree_at, IsDistinct, Extends}
use Rattle.search_definition.specs.Branches.{add_all, news}
use Rattle.search_definition.specs.Rules.{Result, stays, stays_second, rises}
use Rattle.search_definition.specs.Rules.Sides.{Alone as Lone, Both}
use Rattle.search_definition.specs.Instances.{Fresh}
use Rattle.search_definition.specs.Needs.{union, with_news}
use Rattle.search_definition.specs.Search.{lacking, applied, grown, start, denied, End}
use Rattle.search_definition.specs.Search.End.{Saturated}
use Rattle.search_definition.specs.Search.Move.{Applied}
use Rattle.search_trace.specs.declared.turn.Added.{Added}
use Rattle.search_trace.specs.declared.turn.Used.{Used}
use Rattle.search_trace.specs.declared.turn.Turn.{Turn}
use Rattle.search_trace.specs.declared.turn.Turn.TheVariants.{Shut, Alone as One, Split}
use Rattle.search_trace.specs.Traces.{result_of, added_trees, moves_of, AddedUnder, TurnsUnder}
use Rattle.search_loop.specs.declared.work.Turned.{Turned}
use Rattle.search_loop.specs.declared.work.Turned.TheVariants.{Stuck as Sticks, Closes as Shuts, Alone as Goes, Splits as Forks}
use Rattle.search_loop.specs.declared.run.Ending.{Ending}
use Rattle.search_loop.specs.declared.run.Ending.TheVariants.{Closed as Ended, Saturated as Full, Spent as Cut}
use Rattle.search_loop.specs.Stacks.{open_of, Falls}
use Rattle.search_loop.specs.Turns.{Keeps, Resumes, Ends, side_of, needs_by, start_at}
use Rattle.branch_book.specs.declared.item.Item.{Item}
use Rattle.branch_state.specs.declared.parts.New.{New}
use Rattle.branch_state.specs.Shown.{Placed, Shown, item_of, with_all, used_at, reopened}
use Rattle.tableau_search.specs.declared.finder.Closing.{Closing as Shutting}
use Rattle.tableau_search.specs.declared.finder.Found.TheVariants.{Alone, Splits}
use Rattle.tableau_search.specs.declared.finder.Decision.TheVariants.{Stuck, Closes, Applies}
use Rattle.tableau_search.specs.Entries.{branch_of, branch_by, needs_in, tracked, new_trees, AreKnown, AreClosed, NewsUnder, ItemsUnder, needs_of_all}
use Rattle.tableau_search.specs.Found.{closing_of, Decided}
use Rattle.tableau_search.specs.Boards.{IsBoard, state_of, used_alone, used_both, second_used, added_by, NotesShut, NotesAlone, NotesSplit, Turns, ReopensBoard, IsEnd}
use Rattle.tableau_search.proofs.ClosedLaws.{closed_all, closed_used, closed_kept, each_closed_kept, each_closed_push, each_closed_at, each_closed_take, sides_closed}
use Rattle.tableau_search.proofs.SplitLaws.{split_rule}
use Rattle.tableau_search.proofs.LiftLaws.{lift_needs, lift_side, lift_all, lift_news, lift_lacking, lift_added, known_all, known_used, known_higher, each_push, each_at, each_take, each_higher, added_under, used_twice, extends_length, branch_kept}
use Rattle.tableau_search.proofs.TurnLaws.{moves_kept, moves_push, turns_push, turns_higher, resumed_under, resumed_moves}

-- formulas come

pub state_kept : (w : Fresh) (ts us : List Tree) (s : Shown) (turns : List Turn) → Extends ts us → IsBoard ts s turns → state_of w us s turns ≡ state_of w ts s turns
state_kept w ts us s turns g b =
    let p : (es : List Placed) → AreKnown (length ts) es → tracked us es ≡ tracked ts es = λ es a. ap (λ c. record { branch = c; needs = needs_in es }) (branch_kept ts us es g a) in
    let q : (k : ℕ) → tracked us (get_or s.waits k []) ≡ tracked ts (get_or s.waits k []) = λ k. p (get_or s.waits k []) (each_at (length ts) s.waits k b.waits) in
    let m : moves_of us turns ≡ moves_of ts turns = moves_kept ts us turns g b.under in
    λ i. record { now = p s.now b.known i; waits = λ k. q k i; count = length s.waits; fresh = w; moves = m i }

pub board_kept : (ts us : List Tree) (s : Shown) (turns : List Turn) → Extends ts us → IsDistinct us → IsBoard ts s turns → IsBoard us s turns
board_kept ts us s turns g d b =
    let l = extends_length ts us g in
    record {
      distinct = d;
      known = known_higher (length ts) (length us) s.now l b.known;
      waits = each_higher (length ts) (length us) s.waits l b.waits;
      under = turns_higher (length ts) (length us) turns l b.under;
      closed = closed_kept ts us s.now g b.known b.closed;
      waits_closed = each_closed_kept ts us s.waits g b.waits b.waits_closed;
    }

-- no rule fits
pub sticks : (w : Fresh) (n : ℕ) (us : List Tree) (s : Shown) (turns : List Turn) → Decided w us s.now Stuck → Turns n (state_of w us s turns) (state_of w us s turns) Sticks
sticks w n us s turns d = ((d.0, d.1, refl, refl), (omega arith, λ m l. refl, refl))

-- the branch closes
pub shuts : (w : Fresh) (n : ℕ) (us : List Tree) (s : Shown) (old new : List Turn) (c : Shutting) (v : Vec ℕ Global) → IsBoard us s old → Decided w us s.now (Closes c) → v.items ≡ needs_of_all s.now c.entries.items → Falls v.items → NotesShut c old new
    → Turns n (state_of w us s old) (state_of w us s new) (Shuts v) × IsBoard us s new
shuts w n us s old new c v b d e f m = (
  (
    (
      closing_of us c,
      d.0,
      e ∙ sym (lift_needs us b.distinct s.now c.entries.items b.known d.1),
      f,
      ap (moves_of us) m ∙ moves_push us old (Shut c.clash c.entries None),
    ),
    (omega arith, λ i l. refl, refl),
  ),
  record { distinct = b.distinct; known = b.known; waits = b.waits; under = subst (λ xs. TurnsUnder (length us) xs) (sym m) (turns_push (length us) old (Shut c.clash c.entries None) b.under d.1); closed = b.closed; waits_closed = b.waits_closed },
)

-- what is noted of what is added

trees_noted : (us : List Tree) (es : List Placed) (ms : List New) (v : Vec Added Global) → v.items ≡ map (added_by es) ms → added_trees us v.items ≡ new_trees us ms
trees_noted us es ms v e = ap (added_trees us) e ∙ lift_added us es ms

news_noted : (us : List Tree) (es : List Placed) (ms : List New) (v : Vec Added Global) → IsDistinct us → AreKnown (length us) es → NewsUnder (length us) ms → v.items ≡ map (added_by es) ms → map (λ x. x.is_new) v.items ≡ lacking (branch_of us es) (new_trees us ms)
news_noted us es ms v d a l e = ap (map (λ x. x.is_new)) e ∙ sym (lift_lacking us d es ms a l)

noted_under : (n : ℕ) (es : List Placed) (ms : List New) (v : Vec Added Global) → NewsUnder n ms → v.items ≡ map (added_by es) ms → AddedUnder n v.items
noted_under n es ms v l e = subst (λ xs. AddedUnder n xs) (sym e) (added_under n es ms l)

-- a rule with one side
pub goes : (w : Fresh) (n : ℕ) (us : List Tree) (s : Shown) (old new : List Turn) (u : Used) (ns : Vec New Global) → IsBoard us s old → Decided w us s.now (Applies (Alone u ns)) → NotesAlone s.now u ns.items old new
    → Turns n (state_of w us s old) (state_of w us (used_alone s u ns.items (needs_of_all s.now u.named.items)) new) Goes × IsBoard us (used_alone s u ns.items (needs_of_all s.now u.named.items)) new
goes w n us s old new u ns b (c, (f, i, j)) (v, e, m) = (((r, fs, c, f, refl, now, steps), (omega arith, λ x l. refl, refl)), board)
  where
    ks : List ℕ
    ks = needs_of_all s.now u.named.items

    fs : List Tree
    fs = new_trees us ns.items

    r : Result
    r = result_of us u (Lone (new_trees us ns.items))

    now : tracked us (with_all (needs_of_all s.now u.named.items) (used_at (stays u.rule) (rises u.rule) s.now u.entry) ns.items) ≡ side_of (stays u.rule) (result_of us u (Lone (new_trees us ns.items))) (needs_by n (result_of us u (Lone (new_trees us ns.items))) (tracked us s.now)) (tracked us s.now) (new_trees us ns.items)
    now =
        lift_side us (stays u.rule) (result_of us u (Lone (new_trees us ns.items))) (needs_of_all s.now u.named.items) s.now ns.items b.distinct b.known i.lives j.under
        ∙ ap (λ us2. side_of (stays u.rule) (result_of us u (Lone (new_trees us ns.items))) us2 (tracked us s.now) (new_trees us ns.items)) (sym (lift_needs us b.distinct s.now u.named.items b.known i.under.0))

    steps : moves_of us new ≡ moves_of us old ++ applied (result_of us u (Lone (new_trees us ns.items))) (branch_of us s.now) (Lone (new_trees us ns.items)) ∷ []
    steps =
        let p : added_trees us v.items ≡ new_trees us ns.items = trees_noted us s.now ns.items v e in
        let q : map (λ x. x.is_new) v.items ≡ lacking (branch_of us s.now) (new_trees us ns.items) = news_noted us s.now ns.items v b.distinct b.known j.under e in
        ap (moves_of us) m ∙ moves_push us old (One u v) ∙ (λ x. moves_of us old ++ Applied (result_of us u (Lone (p x))) (q x) [] ∷ [])

    board : IsBoard us (used_alone s u ns.items (needs_of_all s.now u.named.items)) new
    board =
        record {
          distinct = b.distinct;
          known = known_all (length us) (needs_of_all s.now u.named.items) (used_at (stays u.rule) (rises u.rule) s.now u.entry) ns.items (known_used (length us) (stays u.rule) (rises u.rule) s.now u.entry b.known) j.under;
          waits = b.waits;
          under = subst (λ xs. TurnsUnder (length us) xs) (sym m) (turns_push (length us) old (One u v) b.under (i.under, noted_under (length us) s.now ns.items v j.under e));
          closed = closed_all us (needs_of_all s.now u.named.items) (used_at (stays u.rule) (rises u.rule) s.now u.entry) ns.items (closed_used us (stays u.rule) (rises u.rule) s.now u.entry b.closed) (sides_closed w us s.now r b.closed f);
          waits_closed = b.waits_closed;
        }

-- a rule with two sides
pub forks : (w : Fresh) (n : ℕ) (us : List Tree) (s : Shown) (old new : List Turn) (u : Used) (ns ms : Vec New Global) → IsBoard us s old → Decided w us s.now (Applies (Splits u ns ms)) → NotesSplit s.now u ns.items ms.items old new
    → Turns n (state_of w us s old) (state_of w us (used_both s u ns.items ms.items (union (n ∷ []) (needs_of_all s.now u.named.items))) new) (Forks (length s.waits))
    × IsBoard us (used_both s u ns.items ms.items (union (n ∷ []) (needs_of_all s.now u.named.items))) new
forks w n us s old new u ns ms b (c, (f, i, j, k)) (v, z, e, g, m) =
    (((r, new_trees us ns.items, new_trees us ms.items, c, f, refl, first, second, omega arith, omega (arith, count), steps), (omega (arith, count), stay, refl)), board)
  where
    r : Result
    r = result_of us u (Both (new_trees us ns.items) (new_trees us ms.items))

    ks : List ℕ
    ks = union (n ∷ []) (needs_of_all s.now u.named.items)

    side : List Placed
    side = with_all ks (second_used s u) ms.items

    needed : ks ≡ needs_by n r (tracked us s.now)
    needed = ap (λ x. union (n ∷ []) x) (sym (lift_needs us b.distinct s.now u.named.items b.known i.under.0))

    twice : used_at (stays u.rule) false (second_used s u) u.entry ≡ used_at (stays u.rule) (rises u.rule) s.now u.entry
    twice = used_twice (stays u.rule) (stays_second u.rule) (rises u.rule) s.now u.entry (split_rule w us s.now r (new_trees us ns.items) (new_trees us ms.items) b.closed f refl)

    first : tracked us (with_all ks (used_at (stays u.rule) false (second_used s u) u.entry) ns.items) ≡ side_of (stays u.rule) r (needs_by n r (tracked us s.now)) (tracked us s.now) (new_trees us ns.items)
    first =
        ap (λ ds. tracked us (with_all ks ds ns.items)) twice
        ∙ lift_side us (stays u.rule) r ks s.now ns.items b.distinct b.known i.lives j.under
        ∙ ap (λ x. side_of (stays u.rule) r x (tracked us s.now) (new_trees us ns.items)) needed

    count : length (s.waits ++ side ∷ []) ≡ length s.waits + 1
    count = length_push s.waits side

    second : tracked us (get_or (s.waits ++ side ∷ []) (length s.waits) []) ≡ side_of (stays_second u.rule) r (needs_by n r (tracked us s.now)) (tracked us s.now) (new_trees us ms.items)
    second =
        ap (tracked us) (get_or_push s.waits side [] (length s.waits) refl)
        ∙ lift_side us (stays_second u.rule) r ks s.now ms.items b.distinct b.known i.lives k.under
        ∙ ap (λ x. side_of (stays_second u.rule) r x (tracked us s.now) (new_trees us ms.items)) needed

    stay : (x : ℕ) → x < length s.waits → tracked us (get_or (s.waits ++ side ∷ []) x []) ≡ tracked us (get_or s.waits x [])
    stay x l = ap (tracked us) (get_or_append_left s.waits (side ∷ []) [] x l)

    steps : moves_of us new ≡ moves_of us old ++ applied r (branch_of us s.now) (Both (new_trees us ns.items) (new_trees us ms.items)) ∷ []
    steps =
        let p : added_trees us v.items ≡ new_trees us ns.items = trees_noted us s.now ns.items v e in
        let p2 : added_trees us z.items ≡ new_trees us ms.items = trees_noted us s.now ms.items z g in
        let q : map (λ x. x.is_new) v.items ≡ lacking (branch_of us s.now) (new_trees us ns.items) = news_noted us s.now ns.items v b.distinct b.known j.under e in
        let q2 : map (λ x. x.is_new) z.items ≡ lacking (branch_of us s.now) (new_trees us ms.items) = news_noted us s.now ms.items z b.distinct b.known k.under g in
        ap (moves_of us) m ∙ moves_push us old (Split u v z) ∙ (λ x. moves_of us old ++ Applied (result_of us u (Both (p x) (p2 x))) (q x) (q2 x) ∷ [])

    used : AreKnown (length us) (second_used s u)
    used = known_used (length us) (stays_second u.rule) (rises u.rule) s.now u.entry b.known

    used_closed : AreClosed us (second_used s u)
    used_closed = closed_used us (stays_second u.rule) (rises u.rule) s.now u.entry b.closed

    sides : AllClosed (new_trees us ns.items) × AllClosed (new_trees us ms.items)
    sides = sides_closed w us s.now r b.closed f

    board : IsBoard us (used_both s u ns.items ms.items ks) new
    board =
        record {
          distinct = b.distinct;
          known = known_all (length us) ks (used_at (stays u.rule) false (second_used s u) u.entry) ns.items (known_used (length us) (stays u.rule) false (second_used s u) u.entry used) j.under;
          waits = each_push (length us) s.waits side b.waits (known_all (length us) ks (second_used s u) ms.items used k.under);
          under = subst (λ xs. TurnsUnder (length us) xs) (sym m) (turns_push (length us) old (Split u v z) b.under (i.under, noted_under (length us) s.now ns.items v j.under e, noted_under (length us) s.now ms.items z k.under g));
          closed = closed_all us ks (used_at (stays u.rule) false (second_used s u) u.entry) ns.items (closed_used us (stays u.rule) false (second_used s u) u.entry used_closed) sides.0;
          waits_closed = each_closed_push us s.waits side b.waits_closed (closed_all us ks (second_used s u) ms.items used_closed sides.1);
        }

-- the branch that waits at k is worked on

abbrev Back : Fresh → ℕ → ℕ → List Tree → Shown → List Turn → Shown → List Turn → Type 0
Back w k n us s old t new =
    ((state_of w us t new).now ≡ (state_of w us s old).waits k) × Keeps k (state_of w us s old) (state_of w us t new) × Resumes n (moves_of us old) (moves_of us new) × IsBoard us t new

pub reopens : (w : Fresh) (k n : ℕ) (us : List Tree) (s : Shown) (old : List Turn) (t : Shown) (new : List Turn) → IsBoard us s old → k < length s.waits → ReopensBoard k n s old t new
    → ((state_of w us t new).now ≡ (state_of w us s old).waits k) × Keeps k (state_of w us s old) (state_of w us t new) × Resumes n (moves_of us old) (moves_of us new) × IsBoard us t new
reopens w k n us s old t new b l ((m, e), h) = subst (λ z. Back w k n us s old z new) (sym e) (refl, (omega (arith, count), stay, refl), resumed_moves us n old new h, board)
  where
    count : length (take k s.waits) ≡ k
    count = length-take-le k s.waits (omega (arith, l))

    stay : (x : ℕ) → x < k → tracked us (get_or (take k s.waits) x []) ≡ tracked us (get_or s.waits x [])
    stay x y = ap (tracked us) (get_or-take k s.waits x [] y)

    board : IsBoard us (reopened s k m) new
    board =
        record { distinct = b.distinct; known = each_at (length us) s.waits k b.waits; waits = each_take (length us) s.waits k b.waits; under = resumed_under (length us) n old new h b.under; closed = each_closed_at us s.waits k b.waits_closed; waits_closed = each_closed_take us s.waits k b.waits_closed }

-- the same before formulas came
pub from_kept : (w w2 : Fresh) (n : ℕ) (ts us : List Tree) (s s2 : Shown) (old new : List Turn) (t : Turned) → Extends ts us → IsBoard ts s old → w2 ≡ w → Turns n (state_of w us s old) (state_of w us s2 new) t → Turns n (state_of w ts s old) (state_of w2 us s2 new) t
from_kept w w2 n ts us s s2 old new t g b e h = subst (λ v. Turns n (state_of w ts s old) (state_of v us s2 new) t) (sym e) (subst (λ x. Turns n x (state_of w us s2 new) t) (state_kept w ts us s old g b) h)

-- the start

pub board_start : (ts : List Tree) (s : Shown) (turns : List Turn) (ms : List New) → IsDistinct ts → NewsUnder (length ts) ms → AllClosed (new_trees ts ms) → s ≡ record { now = with_all [] [] ms; waits = []; sets = [] ∷ [] } → turns ≡ []
    → IsBoard ts s turns
board_start ts s turns ms d k h e f =
    subst (λ xs. IsBoard ts s xs) (sym f)
    (subst (λ z. IsBoard ts z []) (sym e) (record { distinct = d; known = known_all (length ts) [] [] ms tt k; waits = tt; under = tt; closed = closed_all ts [] [] ms tt h; waits_closed = tt }))

-- the state's branch as the only open one is what the search starts with
pub state_start : (w : Fresh) (ts : List Tree) (s : Shown) (turns : List Turn) (ms : List New) (facts : List Tree) (goal : Tree) → IsDistinct ts → NewsUnder (length ts) ms → s ≡ record { now = with_all [] [] ms; waits = []; sets = [] ∷ [] }
    → new_trees ts ms ≡ denied facts goal → start_at (state_of w ts s turns) ≡ start facts goal
state_start w ts s turns ms facts goal d k e f =
    let p : branch_of ts (with_all [] [] ms) ≡ add_all [] (new_trees ts ms) = sym (lift_all ts d [] [] ms tt k) in
    let q : needs_in (with_all [] [] ms) ≡ with_news [] [] (news [] (new_trees ts ms)) = sym (lift_news ts d [] [] ms tt k) in
    ap (λ (z : Shown). open_of (tracked ts z.now) [] ∷ []) e
    ∙ (λ i. record { branch = p i; needs = q i; path = [] } ∷ [])
    ∙ ap (λ fs. grown [] [] [] [] fs ∷ []) f

-- the end

branch_items : (ts : List Tree) (es : List Placed) → branch_by ts (map item_of es) ≡ branch_of ts es
branch_items ts [] = refl
branch_items ts (e ∷ es) = ap (λ b. record { formula = tree_at ts e.formula; live = e.live; count = e.count } ∷ b) (branch_items ts es)

pub ended : (ts : List Tree) (es : List Placed) (xs : List Item) (e : Ending) (x : End) → xs ≡ map item_of es → Ends (tracked ts es) e x → IsEnd ts xs e x
ended ts es xs (Ended n) x p h = h
ended ts es xs (Full n) x p h = h ∙ ap (λ b. Saturated b n) (sym (ap (branch_by ts) p ∙ branch_items ts es))
ended ts es xs (Cut n) x p h = h

pub items_under : (n : ℕ) (es : List Placed) (xs : List Item) → xs ≡ map item_of es → AreKnown n es → ItemsUnder n xs
items_under n es xs e a = subst (λ ys. ItemsUnder n ys) (sym e) (go es a)
  where
    go : (ds : List Placed) → AreKnown n ds → ItemsUnder n (map item_of ds)
    go [] b = tt
    go (d ∷ ds) b = (b.0, go ds b.1)
