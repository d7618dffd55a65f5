use Rattle.std.proofs.Common.{refl, ◌≡◌, ◌<◌, ℕ, Bool, true, List, ◌∷◌, [], length, sym, subst, ◌∙◌}
use Rattle.branch_state.specs.declared.parts.New.{New}
use Rattle.branch_state.specs.Shown.{Placed, placed_at}
use Rattle.seq_calculus.specs.Calculus.{IsClosed}
use Rattle.search_definition.specs.Rules.Sides.{Alone as One, Both}
use Rattle.search_trace.specs.Traces.{result_of}
use Rattle.search_definition.specs.Needs.{union}
use Rattle.branch_state.specs.Parts.{shown}
use Rattle.search_loop.specs.declared.work.Turned.TheVariants.{Stuck as Sticks, Closes as Shuts, Alone as Goes, Splits as Forks}
use Rattle.tableau_search.specs.declared.finder.Decision.TheVariants.{Applies}
use Rattle.tableau_search.specs.Found.{Decided}
use Rattle.tableau_search.specs.Entries.{AreKnown, new_tree, new_trees, needs_of_all}
use Rattle.tableau_search.specs.Memos.{IsMemo}
use Rattle.tableau_search.specs.Boards.{IsBoard, state_of, Turns, used_alone, used_both}
use Rattle.tableau_search.proofs.ClosedLaws.{sides_closed}
use Rattle.tableau_search.proofs.SplitLaws.{split_rule}
use Rattle.tableau_search.proofs.MemoLaws.{memo_kept, memo_alone, memo_split}
use Rattle.tableau_search.proofs.BoardLaws.{board_kept, from_kept, sticks, shuts, goes, forks}
use Rattle.tableau_search.proofs.engine.take_turn.Goals as goal

pub returns-in-Stuck-clause-board : goal.returns-in-Stuck-clause-board
returns-in-Stuck-clause-board g c =
    let r = c.in_ok-find.ensures in
    board_kept (g.F.Memo.trees c.args.finder.now) (g.F.Memo.trees c.find.new.self) (shown c.args.parts.now) c.args.turns.now.items r.extends r.distinct c.requires.board

pub returns-in-Stuck-clause-turns : goal.returns-in-Stuck-clause-turns
returns-in-Stuck-clause-turns g c =
    let w = g.F.Memo.fresh c.args.finder.now in
    let w2 = g.F.Memo.fresh c.find.new.self in
    let ts = g.F.Memo.trees c.args.finder.now in
    let us = g.F.Memo.trees c.find.new.self in
    let s = shown c.args.parts.now in
    let old = c.args.turns.now.items in
    let n = c.args.number in
    let r = c.in_ok-find.ensures in
    let b = board_kept ts us s old r.extends r.distinct c.requires.board in
    let d = subst (λ x. Decided w us s.now x) c.in-Stuck.is r.decided in
    from_kept w w2 n ts us s s old old Sticks r.extends c.requires.board r.fresh (sticks w n us s old d)

pub returns-in_ok-needs-in-Closes-clause-board : goal.returns-in_ok-needs-in-Closes-clause-board
returns-in_ok-needs-in-Closes-clause-board g c =
    let w = g.F.Memo.fresh c.args.finder.now in
    let w2 = g.F.Memo.fresh c.find.new.self in
    let ts = g.F.Memo.trees c.args.finder.now in
    let us = g.F.Memo.trees c.find.new.self in
    let s = shown c.args.parts.now in
    let old = c.args.turns.now.items in
    let n = c.args.number in
    let r = c.in_ok-find.ensures in
    let b = board_kept ts us s old r.extends r.distinct c.requires.board in
    let d = subst (λ x. Decided w us s.now x) c.in-Closes.is r.decided in
    let k = c.in_ok-needs-in-Closes.ensures in
    let v = c.in_ok-needs-in-Closes.needs in
    let new = c.shut.new.turns.items in
    let t = shuts w n us s old new c.in-Closes.closing v b d k.needs k.falls k.turns in
    t.1

pub returns-in_ok-needs-in-Closes-clause-turns : goal.returns-in_ok-needs-in-Closes-clause-turns
returns-in_ok-needs-in-Closes-clause-turns g c =
    let w = g.F.Memo.fresh c.args.finder.now in
    let w2 = g.F.Memo.fresh c.find.new.self in
    let ts = g.F.Memo.trees c.args.finder.now in
    let us = g.F.Memo.trees c.find.new.self in
    let s = shown c.args.parts.now in
    let old = c.args.turns.now.items in
    let n = c.args.number in
    let r = c.in_ok-find.ensures in
    let b = board_kept ts us s old r.extends r.distinct c.requires.board in
    let d = subst (λ x. Decided w us s.now x) c.in-Closes.is r.decided in
    let k = c.in_ok-needs-in-Closes.ensures in
    let v = c.in_ok-needs-in-Closes.needs in
    let new = c.shut.new.turns.items in
    let t = shuts w n us s old new c.in-Closes.closing v b d k.needs k.falls k.turns in
    from_kept w w2 n ts us s s old new (Shuts v) r.extends c.requires.board r.fresh t.0

pub returns-in_ok-apply_alone-in-Applies-Alone-clause-board : goal.returns-in_ok-apply_alone-in-Applies-Alone-clause-board
returns-in_ok-apply_alone-in-Applies-Alone-clause-board g c =
    let w = g.F.Memo.fresh c.args.finder.now in
    let w2 = g.F.Memo.fresh c.find.new.self in
    let ts = g.F.Memo.trees c.args.finder.now in
    let us = g.F.Memo.trees c.find.new.self in
    let s = shown c.args.parts.now in
    let old = c.args.turns.now.items in
    let n = c.args.number in
    let r = c.in_ok-find.ensures in
    let b = board_kept ts us s old r.extends r.distinct c.requires.board in
    let d = subst (λ f. Decided w us s.now (Applies f)) c.in-Applies-Alone.field-0-is (subst (λ x. Decided w us s.now x) c.in-Applies-Alone.is r.decided) in
    let k = c.in_ok-apply_alone-in-Applies-Alone.ensures in
    let new = c.apply_alone.new.turns.items in
    let z = used_alone s c.in-Applies-Alone.used c.in-Applies-Alone.added.items (needs_of_all s.now c.in-Applies-Alone.used.named.items) in
    let t = goes w n us s old new c.in-Applies-Alone.used c.in-Applies-Alone.added b d k.turns in
    subst (λ x. IsBoard us x new) (sym {b = z} k.ok) t.1

pub returns-in_ok-apply_alone-in-Applies-Alone-clause-turns : goal.returns-in_ok-apply_alone-in-Applies-Alone-clause-turns
returns-in_ok-apply_alone-in-Applies-Alone-clause-turns g c =
    let w = g.F.Memo.fresh c.args.finder.now in
    let w2 = g.F.Memo.fresh c.find.new.self in
    let ts = g.F.Memo.trees c.args.finder.now in
    let us = g.F.Memo.trees c.find.new.self in
    let s = shown c.args.parts.now in
    let old = c.args.turns.now.items in
    let n = c.args.number in
    let r = c.in_ok-find.ensures in
    let b = board_kept ts us s old r.extends r.distinct c.requires.board in
    let d = subst (λ f. Decided w us s.now (Applies f)) c.in-Applies-Alone.field-0-is (subst (λ x. Decided w us s.now x) c.in-Applies-Alone.is r.decided) in
    let k = c.in_ok-apply_alone-in-Applies-Alone.ensures in
    let new = c.apply_alone.new.turns.items in
    let z = used_alone s c.in-Applies-Alone.used c.in-Applies-Alone.added.items (needs_of_all s.now c.in-Applies-Alone.used.named.items) in
    let t = goes w n us s old new c.in-Applies-Alone.used c.in-Applies-Alone.added b d k.turns in
    subst (λ x. Turns n (state_of w ts s old) (state_of w2 us x new) Goes) (sym {b = z} k.ok)
    (from_kept w w2 n ts us s z old new Goes r.extends c.requires.board r.fresh t.0)

pub returns-in_ok-place-in-Applies-Splits-clause-board : goal.returns-in_ok-place-in-Applies-Splits-clause-board
returns-in_ok-place-in-Applies-Splits-clause-board g c =
    let w = g.F.Memo.fresh c.args.finder.now in
    let w2 = g.F.Memo.fresh c.find.new.self in
    let ts = g.F.Memo.trees c.args.finder.now in
    let us = g.F.Memo.trees c.find.new.self in
    let s = shown c.args.parts.now in
    let old = c.args.turns.now.items in
    let n = c.args.number in
    let r = c.in_ok-find.ensures in
    let b = board_kept ts us s old r.extends r.distinct c.requires.board in
    let d = subst (λ f. Decided w us s.now (Applies f)) c.in-Applies-Splits.field-0-is (subst (λ x. Decided w us s.now x) c.in-Applies-Splits.is r.decided) in
    let q = c.in_ok-put_off-in-Applies-Splits.ensures in
    let k = c.in_ok-place-in-Applies-Splits.ensures in
    let new = c.apply_split.new.turns.items in
    let z = used_both s c.in-Applies-Splits.used c.in-Applies-Splits.first.items c.in-Applies-Splits.second.items (union (n ∷ []) (needs_of_all s.now c.in-Applies-Splits.used.named.items)) in
    let t = forks w n us s old new c.in-Applies-Splits.used c.in-Applies-Splits.first c.in-Applies-Splits.second b d k.turns in
    subst (λ x. IsBoard (g.F.Memo.trees c.put_off.new.self) x new) (sym {b = z} k.ok) (subst (λ xs. IsBoard xs z new) (sym q.trees) t.1)

pub returns-in_ok-place-in-Applies-Splits-clause-turns : goal.returns-in_ok-place-in-Applies-Splits-clause-turns
returns-in_ok-place-in-Applies-Splits-clause-turns g c =
    let w = g.F.Memo.fresh c.args.finder.now in
    let w2 = g.F.Memo.fresh c.put_off.new.self in
    let ts = g.F.Memo.trees c.args.finder.now in
    let us = g.F.Memo.trees c.find.new.self in
    let s = shown c.args.parts.now in
    let old = c.args.turns.now.items in
    let n = c.args.number in
    let r = c.in_ok-find.ensures in
    let b = board_kept ts us s old r.extends r.distinct c.requires.board in
    let d = subst (λ f. Decided w us s.now (Applies f)) c.in-Applies-Splits.field-0-is (subst (λ x. Decided w us s.now x) c.in-Applies-Splits.is r.decided) in
    let q = c.in_ok-put_off-in-Applies-Splits.ensures in
    let k = c.in_ok-place-in-Applies-Splits.ensures in
    let new = c.apply_split.new.turns.items in
    let z = used_both s c.in-Applies-Splits.used c.in-Applies-Splits.first.items c.in-Applies-Splits.second.items (union (n ∷ []) (needs_of_all s.now c.in-Applies-Splits.used.named.items)) in
    let t = forks w n us s old new c.in-Applies-Splits.used c.in-Applies-Splits.first c.in-Applies-Splits.second b d k.turns in
    let vs = g.F.Memo.trees c.put_off.new.self in
    let x = from_kept w w2 n ts us s z old new (Forks (length s.waits)) r.extends c.requires.board (q.fresh ∙ r.fresh) t.0 in
    subst (λ m. Turns n (state_of w ts s old) (state_of w2 vs (shown c.apply_split.new.parts) new) (Forks m)) (sym k.place)
    (subst (λ y. Turns n (state_of w ts s old) (state_of w2 vs y new) (Forks (length s.waits))) (sym {b = z} k.ok)
    (subst (λ xs. Turns n (state_of w ts s old) (state_of w2 xs z new) (Forks (length s.waits))) (sym q.trees) x))

pub returns-in-Stuck-clause-memo : goal.returns-in-Stuck-clause-memo
returns-in-Stuck-clause-memo g c =
    let old = c.args.finder.now in
    let mid = c.find.new.self in
    let s = shown c.args.parts.now in
    let r = c.in_ok-find.ensures in
    let m = memo_kept (length (g.F.Memo.trees old)) (g.F.Memo.right old) (g.F.Memo.right mid) (g.F.Memo.saved old) (g.F.Memo.saved mid) (g.F.Memo.count old) (g.F.Memo.count mid) s c.requires.memo c.requires.board.waits r.right r.count r.saved in
    m

pub returns-in_ok-needs-in-Closes-clause-memo : goal.returns-in_ok-needs-in-Closes-clause-memo
returns-in_ok-needs-in-Closes-clause-memo g c =
    let old = c.args.finder.now in
    let mid = c.find.new.self in
    let s = shown c.args.parts.now in
    let r = c.in_ok-find.ensures in
    let m = memo_kept (length (g.F.Memo.trees old)) (g.F.Memo.right old) (g.F.Memo.right mid) (g.F.Memo.saved old) (g.F.Memo.saved mid) (g.F.Memo.count old) (g.F.Memo.count mid) s c.requires.memo c.requires.board.waits r.right r.count r.saved in
    m

pub returns-in_ok-apply_alone-in-Applies-Alone-clause-memo : goal.returns-in_ok-apply_alone-in-Applies-Alone-clause-memo
returns-in_ok-apply_alone-in-Applies-Alone-clause-memo g c =
    let old = c.args.finder.now in
    let mid = c.find.new.self in
    let s = shown c.args.parts.now in
    let r = c.in_ok-find.ensures in
    let m = memo_kept (length (g.F.Memo.trees old)) (g.F.Memo.right old) (g.F.Memo.right mid) (g.F.Memo.saved old) (g.F.Memo.saved mid) (g.F.Memo.count old) (g.F.Memo.count mid) s c.requires.memo c.requires.board.waits r.right r.count r.saved in
    let us = g.F.Memo.trees mid in
    let b = board_kept (g.F.Memo.trees old) us s c.args.turns.now.items r.extends r.distinct c.requires.board in
    let added = λ (es : List Placed) (ls : List ℕ) (n : New) (a : AreKnown (length us) es) (l : n.formula < length us) (h : IsClosed (new_tree us n)) (x : g.F.Memo.right mid es). g.met.F.Memo.added mid es ls n r.holds r.distinct a l h x in
    let used = λ (es : List Placed) (live more : Bool) (i : ℕ) (v : (placed_at es i).live ≡ true) (x : g.F.Memo.right mid es). g.met.F.Memo.used mid es live more i r.holds v x in
    let w = g.F.Memo.fresh old in
    let d = subst (λ f. Decided w us s.now (Applies f)) c.in-Applies-Alone.field-0-is (subst (λ x. Decided w us s.now x) c.in-Applies-Alone.is r.decided) in
    let u = c.in-Applies-Alone.used in
    let ns = c.in-Applies-Alone.added.items in
    let ks = needs_of_all s.now u.named.items in
    let z = used_alone s u ns ks in
    subst (λ x. IsMemo (g.F.Memo.right mid) (g.F.Memo.saved mid) (g.F.Memo.count mid) x) (sym {b = z} c.in_ok-apply_alone-in-Applies-Alone.ensures.ok)
    (memo_alone (g.F.Memo.right mid) (g.F.Memo.saved mid) (g.F.Memo.count mid) us s u ns ks added used b.known d.1.1.lives d.1.2.under (sides_closed w us s.now (result_of us u (One (new_trees us ns))) b.closed d.1.0) m)

pub returns-in_ok-place-in-Applies-Splits-clause-memo : goal.returns-in_ok-place-in-Applies-Splits-clause-memo
returns-in_ok-place-in-Applies-Splits-clause-memo g c =
    let old = c.args.finder.now in
    let mid = c.find.new.self in
    let s = shown c.args.parts.now in
    let r = c.in_ok-find.ensures in
    let m = memo_kept (length (g.F.Memo.trees old)) (g.F.Memo.right old) (g.F.Memo.right mid) (g.F.Memo.saved old) (g.F.Memo.saved mid) (g.F.Memo.count old) (g.F.Memo.count mid) s c.requires.memo c.requires.board.waits r.right r.count r.saved in
    let us = g.F.Memo.trees mid in
    let b = board_kept (g.F.Memo.trees old) us s c.args.turns.now.items r.extends r.distinct c.requires.board in
    let added = λ (es : List Placed) (ls : List ℕ) (n : New) (a : AreKnown (length us) es) (l : n.formula < length us) (h : IsClosed (new_tree us n)) (x : g.F.Memo.right mid es). g.met.F.Memo.added mid es ls n r.holds r.distinct a l h x in
    let used = λ (es : List Placed) (live more : Bool) (i : ℕ) (v : (placed_at es i).live ≡ true) (x : g.F.Memo.right mid es). g.met.F.Memo.used mid es live more i r.holds v x in
    let w = g.F.Memo.fresh old in
    let new = c.put_off.new.self in
    let d = subst (λ f. Decided w us s.now (Applies f)) c.in-Applies-Splits.field-0-is (subst (λ x. Decided w us s.now x) c.in-Applies-Splits.is r.decided) in
    let q = c.in_ok-put_off-in-Applies-Splits.ensures in
    let u = c.in-Applies-Splits.used in
    let ns = c.in-Applies-Splits.first.items in
    let ms = c.in-Applies-Splits.second.items in
    let ks = union (c.args.number ∷ []) (needs_of_all s.now u.named.items) in
    let h = sides_closed w us s.now (result_of us u (Both (new_trees us ns) (new_trees us ms))) b.closed d.1.0 in
    let z = used_both s u ns ms ks in
    subst (λ x. IsMemo (g.F.Memo.right new) (g.F.Memo.saved new) (g.F.Memo.count new) x) (sym {b = z} c.in_ok-place-in-Applies-Splits.ensures.ok)
    (memo_split (g.F.Memo.right mid) (g.F.Memo.right new) (g.F.Memo.saved mid) (g.F.Memo.saved new) (g.F.Memo.count mid) (g.F.Memo.count new) us s u ns ms ks added used b.waits b.known d.1.1.lives d.1.2.under d.1.3.under h.0 h.1 (split_rule w us s.now (result_of us u (Both (new_trees us ns) (new_trees us ms))) (new_trees us ns) (new_trees us ms) b.closed d.1.0 refl) m q.count q.right q.put q.saved)
