-- The stack as it lies in the code.
use Rattle.std.proofs.Common.{◌≡◌, Bool, true, false, ◌&&◌, Some, cond, nat_lt, List, [], ◌∷◌, ◌++◌, refl, sym, ap, ◌∙◌}
use Rattle.std.proofs.lemmas.Bool.{cond-true}
use Rattle.std.proofs.lemmas.List.{same_from_push}
use Rattle.operator_chain.specs.declared.chain.Operator.{Operator}
use Rattle.tla_ast.specs.declared.tree.Node.{Node}
use Rattle.operator_chain.specs.declared.stack.Open.{Open}
use Rattle.operator_chain.specs.declared.stack.Open.TheVariants as opened
use Rattle.operator_chain.specs.declared.chain.Piece.TheVariants as piece
use Rattle.operator_chain.specs.declared.stack.Stack.{Stack}
use Rattle.operator_chain.specs.Tree.{Tree, node_of, joined, hole}
use Rattle.operator_chain.specs.Chain.{plain, or_else}
use Rattle.std.proofs.Math.Bool.{and-true}
use Rattle.operator_chain.specs.Machine.{Frame, State, in_prefixed, in_joined, around, plug, operator_of, is_same, popped, open_of, stacked, operator_in, closes, is_same_part, Keeps, may_stand, stands_inner, Shows, is_alive, moved, with_infix}
use Rattle.operator_chain.proofs.Laws.{cond-false}

no-push : {A : Type 0} (xs : List A) (x : A) → [] ≡ xs ++ x ∷ [] → ⊥
no-push [] x e = cc
no-push (a ∷ xs) x e = cc

pub record Turn (op : Operator) (old new : List Open) (p : Open) (last : Node) (q : List Frame × Tree) : Type 0 where
  pub over : nat_lt op.high (operator_in p).low ≡ true → (r : List Frame × Tree) × Keeps new (closes p last) r × (popped op q.0 q.1 ≡ popped op r.0 r.1)
  pub same : nat_lt op.high (operator_in p).low ≡ false → is_same_part p op ≡ true → Keeps new (closes p last) (popped op q.0 q.1)
  pub stays : nat_lt op.high (operator_in p).low ≡ false → is_same_part p op ≡ false → Keeps (new ++ p ∷ []) last (popped op q.0 q.1)

closes-around : (f : Frame) (t : Tree) → closes (open_of f) (node_of t) ≡ node_of (around f t)
closes-around (in_prefixed p) t = refl
closes-around (in_joined l o) t = refl

op-same : (f : Frame) → operator_in (open_of f) ≡ operator_of f
op-same (in_prefixed p) = refl
op-same (in_joined l o) = refl

is-same : (f : Frame) (op : Operator) → is_same_part (open_of f) op ≡ is_same f op
is-same (in_prefixed p) op = refl
is-same (in_joined l o) op = refl

pub turn : (op : Operator) (old new : List Open) (p : Open) (last : Node) (q : List Frame × Tree) → old ≡ new ++ p ∷ [] → Keeps old last q → Turn op old new p last q
turn op old new p last ([], t) e k = absurd (no-push new p (sym k.0 ∙ e))
turn op old new p last (f ∷ fs, t) e k =
    let both = same_from_push new (stacked fs) p (open_of f) (sym e ∙ k.0) in
    let low : nat_lt op.high (operator_in p).low ≡ nat_lt op.high (operator_of f).low = ap (λ x. nat_lt op.high (operator_in x).low) both.1 ∙ ap (λ x. nat_lt op.high x.low) (op-same f) in
    let same : is_same_part p op ≡ is_same f op = ap (λ x. is_same_part x op) both.1 ∙ is-same f op in
    let closed : closes p last ≡ node_of (around f t) = ap (λ x. closes x last) both.1 ∙ ap (closes (open_of f)) k.1 ∙ closes-around f t in
    record {
      over = λ yes. ((fs, around f t), (both.0, closed), cond-true _ _ _ (sym low ∙ yes));
      same = λ no yes. (let at : popped op (f ∷ fs) t ≡ (fs, around f t) = cond-false _ _ _ (sym low ∙ no) ∙ cond-true _ _ _ (sym same ∙ yes) in
          rw at (both.0, closed));
      stays = λ no other. (let at : popped op (f ∷ fs) t ≡ (f ∷ fs, t) = cond-false _ _ _ (sym low ∙ no) ∙ cond-false _ _ _ (sym same ∙ other) in
          rw at (sym e ∙ k.0, k.1));
    }

pub emptied : (op : Operator) (old : List Open) (last : Node) (q : List Frame × Tree) → old ≡ [] → Keeps old last q → Keeps [] last (popped op q.0 q.1)
emptied op old last ([], t) e k = (refl, k.1)
emptied op old last (f ∷ fs, t) e k = absurd (no-push (stacked fs) (open_of f) (sym e ∙ k.0))

pub close : (old new : List Open) (p : Open) (last : Node) (q : List Frame × Tree) → old ≡ new ++ p ∷ [] → Keeps old last q → (r : List Frame × Tree) × Keeps new (closes p last) r × (plug q.0 q.1 ≡ plug r.0 r.1)
close old new p last ([], t) e k = absurd (no-push new p (sym k.0 ∙ e))
close old new p last (f ∷ fs, t) e k =
    let both = same_from_push new (stacked fs) p (open_of f) (sym e ∙ k.0) in
    let closed : closes p last ≡ node_of (around f t) = ap (λ x. closes x last) both.1 ∙ ap (closes (open_of f)) k.1 ∙ closes-around f t in
    ((fs, around f t), (both.0, closed), refl)

pub all-closed : (old : List Open) (last : Node) (q : List Frame × Tree) → old ≡ [] → Keeps old last q → last ≡ node_of (plug q.0 q.1)
all-closed old last ([], t) e k = k.1
all-closed old last (f ∷ fs, t) e k = absurd (no-push (stacked fs) (open_of f) (sym e ∙ k.0))

pub may-infix : (fs : List Frame) (l : Tree) (o : Operator) (r : Tree) → may_stand fs o.low ≡ stands_inner fs (joined l o r)
may-infix [] l o r = refl
may-infix (f ∷ fs) l o r = refl

pub shows-infix : (s : State) (op : Operator) (left : Node) (parts : List Open) (may : Bool) (k m : Stack) → Shows s k → Keeps parts left (popped op s.frames s.last)
    → may ≡ may_stand (popped op s.frames s.last).0 op.low
    → m ≡ record { parts = parts ++ opened.Infix left op ∷ []; last = hole; is_sound = k.is_alive && may; is_alive = k.is_alive && may; wrong = cond (k.is_alive && may) k.wrong (or_else k.wrong (Some op.place)) }
    → Shows (moved s (piece.Infix op)) m
shows-infix s op left parts may k m h keeps e is =
    let p : List Frame × Tree = popped op s.frames s.last in
    let sound : (k.is_alive && may) ≡ (is_alive s && stands_inner p.0 (joined p.1 op plain)) =
    ap (λ b. b && may) h.is_alive ∙ ap (λ b. is_alive s && b) (e ∙ may-infix p.0 p.1 op plain) in
    record {
      parts = ap (λ x. x.parts) is ∙ ap (λ x. x ++ opened.Infix left op ∷ []) keeps.0 ∙ ap (λ x. stacked p.0 ++ opened.Infix x op ∷ []) keeps.1;
      last = ap (λ x. x.last) is;
      is_sound = ap (λ x. x.is_sound) is ∙ sound;
      is_alive = ap (λ x. x.is_alive) is ∙ sound ∙ sym (and-true _);
      wrong = ap (λ x. x.wrong) is ∙ ap (λ b. cond b k.wrong (or_else k.wrong (Some op.place))) (sound ∙ sym (and-true _)) ∙ ap (λ w. cond (is_alive (with_infix op (is_alive s) s.wrong p)) w (or_else w (Some op.place))) h.wrong;
    }
