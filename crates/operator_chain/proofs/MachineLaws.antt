-- The stack gives the tree of the chain, and the place that is wrong.
use Rattle.std.proofs.Common.{◌≡◌, ℕ, ◌<◌, ◌≤◌, Bool, true, false, ◌&&◌, ◌||◌, cond, nat_lt, List, [], ◌∷◌, Option, Some, None, refl, sym, ap, ◌∙◌, arith}
use Rattle.std.proofs.lemmas.Bool.{true≢false, false≢true, and_parts, and_left, and_from, ltb-true, lt-ltb, cond_both}
use Rattle.std.proofs.Math.Bool.{and-true}
use Rattle.operator_chain.specs.declared.chain.Operator.{Operator}
use Rattle.operator_chain.specs.declared.chain.Piece.{Piece}
use Rattle.operator_chain.specs.declared.chain.Piece.TheVariants as piece
use Rattle.operator_chain.specs.Tree.{Tree, leaf, prefixed, suffixed, joined, stands, over, before_infix, is_right}
use Rattle.operator_chain.specs.Chain.{plain, filled, put, grown, shape_from, shape, tree_of, fault_of, wrong_at, first_wrong_from, or_else, IsChain}
use Rattle.operator_chain.specs.Machine.{Frame, in_prefixed, in_joined, around, plug, operator_of, is_same, stands_inner, popped, State, is_alive, noted, with_infix, moved, moved_all, start}
use Rattle.std.specs.Str.{bytes_eq}
use Rattle.tla_ast.specs.declared.place.Place.{Place}
use Rattle.operator_chain.proofs.Rows.{IsInfix, IsPrefix, Listed, ListedPiece, ListedPieces}
use Rattle.operator_chain.proofs.Laws.{IsUnit, filled-plug, behind-plug, put-plug, put-around, put-over, stands-left, unit-behind, neither}
use Rattle.operator_chain.proofs.FaultLaws.{right_tree}

-- ---- a right context

abbrev pub frame_ok : Frame → Bool
frame_ok (in_prefixed p) = true
frame_ok (in_joined l o) = before_infix o l && is_right l

abbrev pub frames_right : List Frame → Bool
frames_right [] = true
frames_right (f ∷ fs) = frames_right fs && (stands_inner fs (around f plain) && frame_ok f)

stands-around : (fs : List Frame) (f : Frame) (t : Tree) → stands_inner fs (around f t) ≡ stands_inner fs (around f plain)
stands-around [] f t = refl
stands-around (g ∷ fs) (in_prefixed p) t = refl
stands-around (g ∷ fs) (in_joined l o) t = refl

swap_pre : (a b c d : Bool) → (a && (b && (c && d))) ≡ ((a && (b && true)) && (c && d))
swap_pre false b c d = refl
swap_pre true false c d = refl
swap_pre true true c d = refl

swap_bin : (a b e c l d : Bool) → (a && (b && (e && (c && (l && d))))) ≡ ((a && (b && (e && l))) && (c && d))
swap_bin false b e c l d = refl
swap_bin true false e c l d = refl
swap_bin true true false c l d = refl
swap_bin true true true true true d = refl
swap_bin true true true true false d = refl
swap_bin true true true false true d = refl
swap_bin true true true false false d = refl

right-around : (fs : List Frame) (f : Frame) (t : Tree) → (frames_right fs && (stands_inner fs (around f t) && is_right (around f t))) ≡ ((frames_right fs && (stands_inner fs (around f plain) && frame_ok f)) && (stands (operator_of f).high t && is_right t))
right-around fs (in_prefixed p) t =
    ap (λ x. frames_right fs && (x && (stands p.high t && is_right t))) (stands-around fs (in_prefixed p) t)
    ∙ swap_pre (frames_right fs) (stands_inner fs (prefixed p plain)) (stands p.high t) (is_right t)
right-around fs (in_joined l o) t =
    ap (λ x. frames_right fs && (x && is_right (joined l o t))) (stands-around fs (in_joined l o) t)
    ∙ swap_bin (frames_right fs) (stands_inner fs (joined l o plain)) (before_infix o l) (stands o.high t) (is_right l) (is_right t)

right-plug : (fs : List Frame) (t : Tree) → is_right (plug fs t) ≡ (frames_right fs && (stands_inner fs t && is_right t))
right-plug [] t = refl
right-plug (f ∷ fs) t = right-plug fs (around f t) ∙ right-around fs f t

-- ---- what is taken off the stack

plug-cond : (b : Bool) (p q : List Frame × Tree) (t : Tree) → plug p.0 p.1 ≡ t → plug q.0 q.1 ≡ t → plug (cond b p q).0 (cond b p q).1 ≡ t
plug-cond true p q t e f = e
plug-cond false p q t e f = f

pub popped-plug : (o : Operator) (fs : List Frame) (t : Tree) → plug (popped o fs t).0 (popped o fs t).1 ≡ plug fs t
popped-plug o [] t = refl
popped-plug o (f ∷ fs) t =
    plug-cond (nat_lt o.high (operator_of f).low) _ _ _ (popped-plug o fs (around f t)) (plug-cond (is_same f o) _ _ _ refl refl)

over-before : (o : Operator) (t : Tree) → over false o.high t ≡ true → before_infix o t ≡ true
over-before o (leaf a) e = refl
over-before o (prefixed p t) e = e
over-before o (suffixed t q) e = e
over-before o (joined l s r) e =
    let parts = and_parts _ _ e in
    and_from _ _ (or_second (o.is_left && bytes_eq s.sign o.sign) _ parts.0) parts.1
  where
    or_second : (a b : Bool) → b ≡ true → (a || b) ≡ true
    or_second true b e = refl
    or_second false b e = e

over-more : (o : Operator) (f : Frame) (t : Tree) → nat_lt o.high (operator_of f).low ≡ true → over false o.high t ≡ true → over false o.high (around f t) ≡ true
over-more o (in_prefixed p) t e h = and_from _ _ e h
over-more o (in_joined l s) t e h = and_from _ _ e h

before-same : (o : Operator) (f : Frame) (t : Tree) → is_same f o ≡ true → over false o.high t ≡ true → before_infix o (around f t) ≡ true
before-same o (in_prefixed p) t e h = absurd (false≢true e)
before-same o (in_joined l s) t e h = and_from _ _ (ap (λ b. b || nat_lt o.high s.low) e) h

not-over-around : (o : Operator) (f : Frame) (t : Tree) → nat_lt o.high (operator_of f).low ≡ false → over false o.high (around f t) ≡ false
not-over-around o (in_prefixed p) t e = and_left _ _ e
not-over-around o (in_joined l s) t e = and_left _ _ e

not-before-around : (o : Operator) (f : Frame) (t : Tree) → nat_lt o.high (operator_of f).low ≡ false → is_same f o ≡ false → before_infix o (around f t) ≡ false
not-before-around o (in_prefixed p) t e h = and_left _ _ e
not-before-around o (in_joined l s) t e h = and_left _ _ (neither _ _ h e)

-- an infix operator goes where the stack ends that it does not take off
put-popped : (o : Operator) (fs : List Frame) (t : Tree) → over false o.high t ≡ true → put o (plug fs t) ≡ plug (popped o fs t).0 (joined (popped o fs t).1 o plain)
put-popped o [] t e = put-over o t (over-before o t e)
put-popped o (f ∷ fs) t e =
    let P : List Frame × Tree → Type 0 = λ p. put o (plug fs (around f t)) ≡ plug p.0 (joined p.1 o plain) in
    let kept : nat_lt o.high (operator_of f).low ≡ false → is_same f o ≡ true → P (fs, around f t) =
    λ no same. (put-plug fs o (around f t) (not-over-around o f t no) ∙ ap (plug fs) (put-over o (around f t) (before-same o f t same e))) in
    let stays : nat_lt o.high (operator_of f).low ≡ false → is_same f o ≡ false → P (f ∷ fs, t) =
    λ no same. (put-plug fs o (around f t) (not-over-around o f t no)
    ∙ ap (plug fs) (put-around f o t (not-before-around o f t no same) ∙ ap (around f) (put-over o t (over-before o t e)))) in
    cond_both (nat_lt o.high (operator_of f).low) (popped o fs (around f t)) (cond (is_same f o) (fs, around f t) (f ∷ fs, t)) P
    (λ yes. put-popped o fs (around f t) (over-more o f t yes e))
    (λ no. cond_both (is_same f o) (fs, around f t) (f ∷ fs, t) P (kept no) (stays no))

popped-before : (o : Operator) (fs : List Frame) (t : Tree) → over false o.high t ≡ true → before_infix o (popped o fs t).1 ≡ true
popped-before o [] t e = over-before o t e
popped-before o (f ∷ fs) t e =
    let P : List Frame × Tree → Type 0 = λ p. before_infix o p.1 ≡ true in
    cond_both (nat_lt o.high (operator_of f).low) (popped o fs (around f t)) (cond (is_same f o) (fs, around f t) (f ∷ fs, t)) P
    (λ yes. popped-before o fs (around f t) (over-more o f t yes e))
    (λ no. cond_both (is_same f o) (fs, around f t) (f ∷ fs, t) P (λ same. before-same o f t same e) (λ same. over-before o t e))

-- ---- the operators of the table

module _ (row : List ℕ → ℕ) where
  abbrev pub ListedFrame : Frame → Type 0
  ListedFrame (in_prefixed p) = IsPrefix row p
  ListedFrame (in_joined l o) = IsInfix row o × Listed row l

  abbrev pub ListedFrames : List Frame → Type 0
  ListedFrames [] = Unit {0}
  ListedFrames (f ∷ fs) = ListedFrame f × ListedFrames fs

  listed-around : (f : Frame) (t : Tree) → ListedFrame f → Listed row t → Listed row (around f t)
  listed-around (in_prefixed p) t g h = (g, h)
  listed-around (in_joined l o) t g h = (g.0, g.1, h)

  popped-listed : (o : Operator) (fs : List Frame) (t : Tree) → ListedFrames fs → Listed row t → ListedFrames (popped o fs t).0 × Listed row (popped o fs t).1
  popped-listed o [] t g h = (tt, h)
  popped-listed o (f ∷ fs) t g h =
      let P : List Frame × Tree → Type 0 = λ p. ListedFrames p.0 × Listed row p.1 in
      cond_both (nat_lt o.high (operator_of f).low) (popped o fs (around f t)) (cond (is_same f o) (fs, around f t) (f ∷ fs, t)) P
      (λ yes. popped-listed o fs (around f t) g.1 (listed-around f t g.0 h))
      (λ no. cond_both (is_same f o) (fs, around f t) (f ∷ fs, t) P (λ same. (g.1, listed-around f t g.0 h)) (λ same. (g, h)))

  unit-right : (t : Tree) → IsUnit row t → is_right t ≡ true
  unit-right (leaf a) u = refl
  unit-right (prefixed p t) u = absurd u
  unit-right (suffixed (leaf a) q) u = refl
  unit-right (suffixed (suffixed t s) q) u = unit-right (suffixed t s) u
  unit-right (suffixed (prefixed p t) q) u = absurd u
  unit-right (suffixed (joined l o r) q) u = absurd u
  unit-right (joined l o r) u = absurd u

  unit-over : (o : Operator) (t : Tree) → IsInfix row o → IsUnit row t → Listed row t → over false o.high t ≡ true
  unit-over o (leaf a) i u g = refl
  unit-over o (prefixed p t) i u g = absurd u
  unit-over o (suffixed t q) i u g =
      let top : o.high ≡ row o.sign = i.high in
      let small : row o.sign < 15 = i.small in
      let large : 15 ≤ q.low = g.0.large in
      lt-ltb o.high q.low (omega arith)
  unit-over o (joined l s r) i u g = absurd u

  abbrev pub tree : State → Tree
  tree s = plug s.frames s.last

  pub record Good (s : State) : Type 0 where
    pub sound : s.is_sound ≡ frames_right s.frames
    pub unit : IsUnit row s.last
    pub listed : ListedFrames s.frames
    pub last_listed : Listed row s.last

  pub alive-right : (s : State) → Good s → is_alive s ≡ is_right (tree s)
  alive-right s g =
      sym (right-plug s.frames s.last ∙ ap (λ x. frames_right s.frames && (stands_inner s.frames s.last && x)) (unit-right s.last g.unit)
      ∙ ap (λ x. frames_right s.frames && x) (and-true (stands_inner s.frames s.last)) ∙ ap (λ x. x && stands_inner s.frames s.last) (sym g.sound))

  -- an operator that stands under the context does so above a tree that it takes as its left operand
  stands-under : (fs : List Frame) (o : Operator) (l : Tree) → IsInfix row o → Listed row l → before_infix o l ≡ true → stands_inner fs (joined l o plain) ≡ true → stands_inner fs l ≡ true
  stands-under [] o l i g e s = refl
  stands-under (f ∷ fs) o l i g e s = stands-left row (operator_of f).high o l i g (ltb-true _ _ s) e

  and-false : (b : Bool) → false ≡ (b && false)
  and-false true = refl
  and-false false = refl

  swap_sound : (a b c d : Bool) → (b ≡ true → c ≡ true) → ((a && (c && d)) && b) ≡ (a && (b && d))
  swap_sound false b c d h = refl
  swap_sound true true c d h = rw (h refl, and-true) refl
  swap_sound true false c d h = sym (and-false (c && d))

  infix-sound : (o : Operator) (s : State) → IsInfix row o → Good s → (is_alive s && stands_inner (popped o s.frames s.last).0 (joined (popped o s.frames s.last).1 o plain)) ≡ frames_right (in_joined (popped o s.frames s.last).1 o ∷ (popped o s.frames s.last).0)
  infix-sound o s i g =
      let p : List Frame × Tree = popped o s.frames s.last in
      let over : over false o.high s.last ≡ true = unit-over o s.last i g.unit g.last_listed in
      let before : before_infix o p.1 ≡ true = popped-before o s.frames s.last over in
      let listed : ListedFrames p.0 × Listed row p.1 = popped-listed o s.frames s.last g.listed g.last_listed in
      let alive : is_alive s ≡ (frames_right p.0 && (stands_inner p.0 p.1 && is_right p.1)) =
      alive-right s g ∙ ap is_right (sym (popped-plug o s.frames s.last)) ∙ right-plug p.0 p.1 in
      ap (λ x. x && stands_inner p.0 (joined p.1 o plain)) alive
      ∙ swap_sound (frames_right p.0) (stands_inner p.0 (joined p.1 o plain)) (stands_inner p.0 p.1) (is_right p.1) (stands-under p.0 o p.1 i listed.1 before)
      ∙ ap (λ x. frames_right p.0 && (stands_inner p.0 (joined p.1 o plain) && (x && is_right p.1))) (sym before)

  -- ---- one piece of the chain

  abbrev pub Expects : Bool → State → Type 0
  Expects true s = s.last ≡ plain
  Expects false s = Unit {0}

  record Follows (s : State) (x : Piece) (e : Bool) : Type 0 where
    good : Good (moved s x)
    grows : tree (moved s x) ≡ grown (tree s) x
    wrong : (moved s x).wrong ≡ or_else s.wrong (wrong_at (grown (tree s) x) x)
    expects : Expects e (moved s x)

  or_none : (o : Option Place) → o ≡ or_else o None
  or_none (Some n) = refl
  or_none None = refl

  none_at : (b : Bool) → cond {A = Option Place} b None None ≡ None
  none_at true = refl
  none_at false = refl

  noted_wrong : (a b : Bool) (w : Option Place) (place : Place) → a ≡ b → cond a w (or_else w (Some place)) ≡ or_else w (cond b None (Some place))
  noted_wrong true true w place e = or_none w
  noted_wrong true false w place e = absurd (true≢false e)
  noted_wrong false true w place e = absurd (false≢true e)
  noted_wrong false false w place e = refl

  noted-good : (place : Place) (t : State) → Good t → Good (noted place t)
  noted-good place t g = record { sound = g.sound; unit = g.unit; listed = g.listed; last_listed = g.last_listed }

  prefixed-stands : (fs : List Frame) (p : Operator) (t : Tree) → stands_inner fs (prefixed p t) ≡ true
  prefixed-stands [] p t = refl
  prefixed-stands (f ∷ fs) p t = refl

  abbrev Next : State → Piece → List Piece → Type 0
  Next s x rest = (next : Bool) × Follows s x next × IsChain next rest

  noted-wrong : (place : Place) (w : Option Place) (t : State) (u : Tree) → Good t → tree t ≡ u → w ≡ t.wrong → (noted place t).wrong ≡ or_else w (cond {A = Option Place} (is_right u) None (Some place))
  noted-wrong place w t u g e same =
      let alive : is_alive t ≡ is_right u = alive-right t g ∙ ap is_right e in
      noted_wrong (is_alive t) (is_right u) t.wrong place alive ∙ ap (λ v. or_else v (cond {A = Option Place} (is_right u) None (Some place))) (sym same)

  follows : (s : State) (x : Piece) (rest : List Piece) (e : Bool) → ListedPiece row x → Good s → IsChain e (x ∷ rest) → Expects e s → Next s x rest
  follows s (piece.Operand a) rest true l g c p = (
    false,
    record {
      good = record { sound = g.sound; unit = tt; listed = g.listed; last_listed = tt };
      grows = sym (filled-plug s.frames (leaf a) s.last ∙ ap (λ t. plug s.frames (filled (leaf a) t)) p);
      wrong = or_none s.wrong ∙ ap (or_else s.wrong) (sym (none_at (is_right (grown (tree s) (piece.Operand a)))));
      expects = tt;
    },
    c,
  )
  follows s (piece.Prefix p) rest true l g c e =
      let t : State = record s { frames = in_prefixed p ∷ s.frames; last = plain } in
      let sound : s.is_sound ≡ frames_right (in_prefixed p ∷ s.frames) =
      g.sound ∙ sym (ap (λ x. frames_right s.frames && (x && true)) (prefixed-stands s.frames p plain) ∙ and-true (frames_right s.frames)) in
      let good : Good t = record { sound = sound; unit = tt; listed = (l, g.listed); last_listed = tt } in
      let grows : tree t ≡ grown (tree s) (piece.Prefix p) = sym (filled-plug s.frames (prefixed p plain) s.last ∙ ap (λ t. plug s.frames (filled (prefixed p plain) t)) e) in
      (true, record { good = noted-good p.place t good; grows = grows; wrong = noted-wrong p.place s.wrong t _ good grows refl; expects = refl }, c)
  follows s (piece.Infix o) rest false l g c e =
      let p : List Frame × Tree = popped o s.frames s.last in
      let t : State = with_infix o (is_alive s) s.wrong p in
      let listed : ListedFrames p.0 × Listed row p.1 = popped-listed o s.frames s.last g.listed g.last_listed in
      let good : Good t = record { sound = infix-sound o s l g; unit = tt; listed = ((l, listed.1), listed.0); last_listed = tt } in
      let grows : tree t ≡ grown (tree s) (piece.Infix o) = sym (put-popped o s.frames s.last (unit-over o s.last l g.unit g.last_listed)) in
      (true, record { good = noted-good o.place t good; grows = grows; wrong = noted-wrong o.place s.wrong t _ good grows refl; expects = refl }, c)
  follows s (piece.Postfix q) rest false l g c e =
      let t : State = record s { last = suffixed s.last q } in
      let good : Good t = record { sound = g.sound; unit = g.unit; listed = g.listed; last_listed = (l, g.last_listed) } in
      let grows : tree t ≡ grown (tree s) (piece.Postfix q) = sym (behind-plug s.frames q s.last ∙ ap (plug s.frames) (unit-behind row q s.last g.unit)) in
      (false, record { good = noted-good q.place t good; grows = grows; wrong = noted-wrong q.place s.wrong t _ good grows refl; expects = tt }, c)
  follows s (piece.Operand a) rest false l g c e = absurd c
  follows s (piece.Prefix p) rest false l g c e = absurd c
  follows s (piece.Infix o) rest true l g c e = absurd c
  follows s (piece.Postfix q) rest true l g c e = absurd c

  -- ---- all of them

  pub record Ends (s : State) (c : List Piece) : Type 0 where
    pub good : Good (moved_all s c)
    pub grows : tree (moved_all s c) ≡ shape_from (tree s) c
    pub wrong : (moved_all s c).wrong ≡ or_else s.wrong (first_wrong_from (tree s) c)

  or_assoc : (a b c : Option Place) → or_else (or_else a b) c ≡ or_else a (or_else b c)
  or_assoc (Some n) b c = refl
  or_assoc None b c = refl

  pub ends : (e : Bool) (s : State) (c : List Piece) → ListedPieces row c → Good s → IsChain e c → Expects e s → Ends s c
  ends e s [] l g c p = record { good = g; grows = refl; wrong = or_none s.wrong }
  ends e s (x ∷ xs) l g c p =
      let n : Next s x xs = follows s x xs e l.0 g c p in
      let more : Ends (moved s x) xs = ends n.0 (moved s x) xs l.1 n.1.good n.2 n.1.expects in
      record {
        good = more.good;
        grows = more.grows ∙ ap (λ t. shape_from t xs) n.1.grows;
        wrong = more.wrong ∙ ap (λ w. or_else w (first_wrong_from (tree (moved s x)) xs)) n.1.wrong
            ∙ ap (λ t. or_else (or_else s.wrong (wrong_at (grown (tree s) x) x)) (first_wrong_from t xs)) n.1.grows
            ∙ or_assoc s.wrong _ _;
      }

  start_good : Good start
  start_good = record { sound = refl; unit = tt; listed = tt; last_listed = tt }

  -- what the code answers is what the definition says
  pub answer_told : (c : List Piece) → ListedPieces row c → IsChain true c → cond {A = Option Place} (is_alive (moved_all start c)) None (moved_all start c).wrong ≡ fault_of c
  answer_told c l chain =
      let all : Ends start c = ends true start c l start_good chain refl in
      let right : is_alive (moved_all start c) ≡ is_right (shape c) = alive-right (moved_all start c) all.good ∙ ap is_right all.grows in
      λ i. cond {A = Option Place} (right i) None (all.wrong i)

  pub answer_ok : (c : List Piece) → ListedPieces row c → IsChain true c → fault_of c ≡ None → tree_of c ≡ Some (tree (moved_all start c))
  answer_ok c l chain none =
      let all : Ends start c = ends true start c l start_good chain refl in
      right_tree c none ∙ ap Some (sym all.grows)
