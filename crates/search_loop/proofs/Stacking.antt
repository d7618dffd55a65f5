-- Frames against open branches, and the turns of the definition on them.
use Rattle.std.proofs.Common.{◌≡◌, ℕ, ◌<◌, ◌≤◌, Bool, true, false, List, [], ◌∷◌, ◌++◌, refl, ap, sym, ◌∙◌, arith, eq-eqb}
use Rattle.std.specs.Prelude.{Option, Some, None}
use Rattle.core_expr.specs.Tree.{Tree}
use Rattle.search_definition.specs.Terms.{if_so}
use Rattle.search_definition.specs.Branches.{Closing, closing}
use Rattle.search_definition.specs.Rules.{Sides, Result, stays, stays_second}
use Rattle.search_definition.specs.Rules.Sides.{Alone, Both}
use Rattle.search_definition.specs.Instances.{Fresh}
use Rattle.search_definition.specs.Needs.{contains, union, without, needs_of}
use Rattle.search_definition.specs.Search.{Turning, Open, Leaving, leaving, set_mark, taken, first_rule, applied, apply, sides_open, added_needs, turn, turn_by, turn_by_rule, shut}
use Rattle.search_definition.specs.Search.Mark.{Left, Waiting, Needed}
use Rattle.search_definition.specs.Search.Next.{Stuck, Goes}
use Rattle.search_loop.specs.Stacks.{Tracked, open_of, Frame, path_of, siblings, opens, Popped, popped, left_by, AreStacked, IsStackedBack}
use Rattle.search_loop.specs.Stacks.Frame.{first, second}
use Rattle.search_loop.specs.Stacks.Popped.{gone, back}
use Rattle.search_loop.specs.Turns.{side_of, needs_by}

marked : (n : ℕ) (k : List ℕ) (ts : List Turning) → set_mark n k (record { number = n; mark = Waiting } ∷ ts) ≡ record { number = n; mark = Needed k } ∷ ts
marked n k ts = ap (λ b. if_so b (record { number = n; mark = Needed k } ∷ ts) (record { number = n; mark = Waiting } ∷ set_mark n k ts)) (eq-eqb n n refl)

-- popping frames is what the definition takes from a path
pub pops : (waits : ℕ → Tracked) (fs : List Frame) (u : List ℕ) → taken (path_of fs) u (siblings waits fs) ≡ left_by waits (popped fs u)
pops waits [] u = refl
pops waits (first n m ∷ fs) u = go (contains u n) (pops waits fs u)
  where
    side : List Turning → Leaving
    side ts = leaving (open_of (waits m) ts ∷ siblings waits fs) (Some n)

    go : (x : Bool) → taken (path_of fs) u (siblings waits fs) ≡ left_by waits (popped fs u)
        → if_so x (leaving (open_of (waits m) (set_mark n (without u n) (record { number = n; mark = Waiting } ∷ path_of fs)) ∷ siblings waits fs) (Some n)) (taken (path_of fs) u (siblings waits fs))
        ≡ left_by waits (if_so x (back n m (second n (without u n) ∷ fs)) (popped fs u))
    go true h = ap (λ ts. leaving (open_of (waits m) ts ∷ siblings waits fs) (Some n)) (marked n (without u n) (path_of fs))
    go false h = h
pops waits (second n k ∷ fs) u = pops waits fs (without (union u k) n)

pub kept : (old new : ℕ → Tracked) (n : ℕ) (fs : List Frame) → ((i : ℕ) → i < n → new i ≡ old i) → AreStacked n fs → siblings new fs ≡ siblings old fs
kept old new n [] h a = refl
kept old new n (first i m ∷ fs) h a =
    let r : siblings new fs ≡ siblings old fs = kept old new m fs (λ j l. h j (omega (arith, a.0))) a.1 in
    λ j. open_of (h m a.0 j) (record { number = i; mark = Waiting } ∷ path_of fs) ∷ r j
kept old new n (second i k ∷ fs) h a = kept old new n fs h a

pub higher : (m n : ℕ) (fs : List Frame) → m ≤ n → AreStacked m fs → AreStacked n fs
higher m n [] l a = tt
higher m n (first i k ∷ fs) l a = (omega (arith, a.0), a.1)
higher m n (second i k ∷ fs) l a = higher m n fs l a

lower : (m n : ℕ) (p : Popped) → m ≤ n → IsStackedBack m p → IsStackedBack n p
lower m n gone l a = tt
lower m n (back j i fs) l a = (omega (arith, a.0), a.1)

pub stacked : (n : ℕ) (fs : List Frame) (u : List ℕ) → AreStacked n fs → IsStackedBack n (popped fs u)
stacked n [] u a = tt
stacked n (first i m ∷ fs) u a = go (contains u i) (stacked m fs u a.1)
  where
    go : (x : Bool) → IsStackedBack m (popped fs u) → IsStackedBack n (if_so x (back i m (second i (without u i) ∷ fs)) (popped fs u))
    go true h = a
    go false h = lower m n (popped fs u) (omega (arith, a.0)) h
stacked n (second i k ∷ fs) u a = stacked n fs (without (union u k) i) a

-- the turn n on the branch t with these siblings

pub closes : (waits : ℕ → Tracked) (fs : List Frame) (w : Fresh) (n : ℕ) (t : Tracked) (c : Closing) → closing t.branch ≡ Some c
    → turn w n (open_of t (path_of fs)) (siblings waits fs) ≡ shut c (left_by waits (popped fs (needs_of t.branch t.needs c.entries)))
unfolding turn
closes waits fs w n t c e =
    ap (turn_by w n (open_of t (path_of fs)) (siblings waits fs)) e ∙ ap (shut c) (pops waits fs (needs_of t.branch t.needs c.entries))

ruled : (w : Fresh) (n : ℕ) (o : Open) (os : List Open) (r : Option Result) → closing o.branch ≡ None → first_rule w o.branch ≡ r → turn w n o os ≡ turn_by_rule n o os r
unfolding turn
ruled w n o os r e f = ap (turn_by w n o os) e ∙ ap (turn_by_rule n o os) f

sided : (n : ℕ) (o : Open) (os : List Open) (r : Result) (ss : Sides) → r.step.sides ≡ ss
    → turn_by_rule n o os (Some r) ≡ Goes (applied r o.branch ss) (sides_open n r (added_needs n r o.branch o.needs) o ss ++ os)
unfolding apply
sided n o os r ss e = ap (λ us. Goes (applied r o.branch us) (sides_open n r (added_needs n r o.branch o.needs) o us ++ os)) e

pub goes : (waits : ℕ → Tracked) (fs : List Frame) (w : Fresh) (n : ℕ) (t : Tracked) (r : Result) (gs : List Tree) → closing t.branch ≡ None → first_rule w t.branch ≡ Some r → r.step.sides ≡ Alone gs
    → turn w n (open_of t (path_of fs)) (siblings waits fs) ≡ Goes (applied r t.branch (Alone gs)) (opens (side_of (stays r.step.rule) r (needs_by n r t) t gs) waits fs)
goes waits fs w n t r gs e f g =
    ruled w n (open_of t (path_of fs)) (siblings waits fs) (Some r) e f ∙ sided n (open_of t (path_of fs)) (siblings waits fs) r (Alone gs) g

pub splits : (waits : ℕ → Tracked) (fs : List Frame) (w : Fresh) (n m : ℕ) (t : Tracked) (r : Result) (gs hs : List Tree) → closing t.branch ≡ None → first_rule w t.branch ≡ Some r → r.step.sides ≡ Both gs hs
    → waits m ≡ side_of (stays_second r.step.rule) r (needs_by n r t) t hs
    → turn w n (open_of t (path_of fs)) (siblings waits fs) ≡ Goes (applied r t.branch (Both gs hs)) (opens (side_of (stays r.step.rule) r (needs_by n r t) t gs) waits (first n m ∷ fs))
splits waits fs w n m t r gs hs e f g h =
    ruled w n (open_of t (path_of fs)) (siblings waits fs) (Some r) e f
    ∙ sided n (open_of t (path_of fs)) (siblings waits fs) r (Both gs hs) g
    ∙ ap
    (λ d. Goes (applied r t.branch (Both gs hs)) (open_of (side_of (stays r.step.rule) r (needs_by n r t) t gs) (record { number = n; mark = Left } ∷ path_of fs) ∷ open_of d (record { number = n; mark = Waiting } ∷ path_of fs) ∷ siblings waits fs))
    (sym h)

pub sticks : (waits : ℕ → Tracked) (fs : List Frame) (w : Fresh) (n : ℕ) (t : Tracked) → closing t.branch ≡ None → first_rule w t.branch ≡ None → turn w n (open_of t (path_of fs)) (siblings waits fs) ≡ Stuck t.branch
sticks waits fs w n t e f = ruled w n (open_of t (path_of fs)) (siblings waits fs) None e f
