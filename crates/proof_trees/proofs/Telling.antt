-- What is told of each rule's step.
use Rattle.std.specs.Prelude.{◌≡◌, ℕ, suc, ◌+◌, Bool, true, false, not, nat_eq, Option, Some, None, List, [], ◌∷◌, ◌++◌}
use Rattle.std.proofs.Common.{refl, subst}
use Rattle.core_expr.specs.Tree.{Tree, not_, and_, or_, imp_, iff_, eq_, in_, funset_, dom_, apply_, if_, all_, ex_, fun_}
use Rattle.core_expr.specs.Tree.Tree.{bound}
use Rattle.core_expr.specs.Put.{shift}
use Rattle.core_expr.specs.Terms.{same}
use Rattle.seq_calculus.specs.Calculus.{IsClosed, AllClosed}
use Rattle.search_definition.specs.declared.rule.Rank.{Rank}
use Rattle.search_definition.specs.declared.rule.Rank.TheVariants as rank
use Rattle.search_definition.specs.declared.rule.Rule.{Rule}
use Rattle.search_definition.specs.declared.rule.Rule.TheVariants as rule
use Rattle.search_definition.specs.Terms.{either, after, first_some, first_at, occurs}
use Rattle.search_definition.specs.Branches.{Branch, formulas, alive, has}
use Rattle.search_definition.specs.Values.{Truth, truth, grounds}
use Rattle.search_definition.specs.Values.Truth.{Yes, No, Unknown}
use Rattle.search_definition.specs.Rules.{Sides, Step, Result, oldest, stays, stays_second}
use Rattle.search_definition.specs.Rules.Sides.{Alone, Both}
use Rattle.search_definition.specs.Plain.{Left, left_side, by_left, by_not_left, plain, rewrite_of, rewritten, rewrite, choice}
use Rattle.search_definition.specs.Equations.{is_set, is_fun, same_members, step_if, derive_set, at_all, lacks, derive_fun, Described, describes, other_function, derive_not, derive, Ordered, sides_of, replaced_by, by_sides, by_equation, extension}
use Rattle.search_definition.specs.Splits.{Splitting, splitting, split, Settled, settled, settle_as, settle_split, settle, is_literal, of_literal, split_term, split_by, split_at, term_split, untaken, taken_up, take_up}
use Rattle.search_definition.specs.Splits.Settled.{OneTrue, LeftFalse, RightFalse}
use Rattle.search_definition.specs.Instances.{Fresh, Place, places, by_count, instance, instance_step, at_place, found_term, spare_at, spare_term, new_term, is_new, mapped}
use Rattle.search_definition.specs.Search.{by_rank, Applies, Move}
use Rattle.search_definition.specs.Trees.{Turns, first_branch, second_branch, IsClosedFor, turns, steps_of}
use Rattle.search_definition.specs.Trees.Turns.{shut, one, first, both}
use Rattle.search_definition.specs.Watches.{ClosedSides}
use Rattle.search_definition.proofs.Standing.{Holds, held, or-holds, after-holds, if-holds, first-holds, each, at-holds, oldest_is, sides_stay_closed}
use Rattle.search_definition.proofs.Telling.{if-fine, rule_tells}
use Rattle.proof_trees.specs.Told.{told_by, ToldStep, Told, MovesTold}
use Rattle.proof_trees.proofs.Had.{Closed-all}
use Rattle.proof_trees.proofs.Cutting.{split-term-closed}
use Rattle.proof_trees.proofs.Instanced.{found-closed}
use Rattle.proof_trees.proofs.Carried.{RewriteIs, rewrite-is}

-- what a step tells, where there is one
step-told : (x : Bool) (o : Option Step) → Holds ToldStep o → Holds ToldStep (step_if x o)
step-told true o h = h
step-told false o h = tt

literal-told : (x : Bool) (o : Option Step) → Holds ToldStep o → Holds ToldStep (of_literal x o)
literal-told true o h = h
literal-told false o h = tt

left-told : (f : Tree) (o : Option Left) → left_side f ≡ o → Holds ToldStep (by_left f o)
left-told f None e = tt
left-told f (Some l) e = (l, e, refl)

not-left-told : (a : Tree) (o : Option Left) → left_side a ≡ o → Holds ToldStep (by_not_left (not_ a) o)
not-left-told a None e = tt
not-left-told a (Some l) e = (a, l, refl, e, refl)

plain-told : (f : Tree) → Holds ToldStep (plain f)
plain-told (not_ (not_ a)) = tt
plain-told (and_ a b) = tt
plain-told (not_ (or_ a b)) = tt
plain-told (not_ (imp_ a b)) = tt
plain-told (not_ a) = not-left-told a (left_side a) refl
plain-told (in_ f (funset_ s t)) = tt
plain-told f = left-told f (left_side f) refl

rewrite-told : (f : Tree) → Holds ToldStep (rewrite f)
rewrite-told f = after-holds ToldStep (rewritten f) RewriteIs (λ r q. (r, q.0, refl, q.2.0, q.2.1.0)) (first_at rewrite_of f) (at-holds RewriteIs rewrite_of rewrite-is f)

derive-not-told : (b : Branch) (f g u : Tree) → Holds ToldStep (derive_not b f g u)
derive-not-told b f g u =
    step-told (is_fun u) _ (step-told (not (is_fun g)) _
    (after-holds ToldStep (other_function b f g u) (λ d. Unit {0}) (λ d k. step-told (not (has b (not_ (eq_ d.function u)))) _ ((d.formula, refl), (g, refl)))
    (first_some (describes g) (alive b)) (any (first_some (describes g) (alive b)))))
  where
    any : (o : Option Described) → Holds (λ d. Unit {0}) o
    any None = tt
    any (Some d) = tt

derive-fun-told : (b : Branch) (f g u : Tree) → Holds ToldStep (derive_fun b f g u)
derive-fun-told b f g (fun_ s e) = step-told (not (either (is_fun g) (same e (apply_ (shift 0 1 g) (bound 0))))) _ (step-told (lacks b (eq_ (dom_ g) s) (at_all g s e)) _ tt)
derive-fun-told b f g _ = tt

derive-told : (b : Branch) (f : Tree) → Holds ToldStep (derive b f)
derive-told b (eq_ s t) =
    or-holds ToldStep (derive_set b s t) _ (step-told (either (is_set s) (is_set t)) _ (step-told (not (has b (same_members s t))) _ (s, t, refl, refl)))
    (or-holds ToldStep (derive_fun b (eq_ s t) s t) _ (derive-fun-told b (eq_ s t) s t) (derive-fun-told b (eq_ s t) t s))
derive-told b (not_ (eq_ s t)) = or-holds ToldStep (derive_not b (not_ (eq_ s t)) s t) _ (derive-not-told b (not_ (eq_ s t)) s t) (derive-not-told b (not_ (eq_ s t)) t s)
derive-told b _ = tt

replaced-told : (q : Tree) (o : Ordered) (f : Tree) → Holds ToldStep (replaced_by q o f)
replaced-told q o f = step-told (not (same q f)) _ (step-told (occurs o.greater f) _ ((q, refl), (o.greater, o.smaller, refl)))

settle-told : (b : Branch) (f : Tree) → Holds ToldStep (settle b f)
settle-told b f = go (splitting f)
  where
    by : (s : Splitting) (o : Option Settled) → Holds ToldStep (after (settle_as b f s) o)
    by s None = tt
    by s (Some OneTrue) = tt
    by s (Some LeftFalse) = tt
    by s (Some RightFalse) = tt

    go : (o : Option Splitting) → Holds ToldStep (after (settle_split b f) o)
    go None = tt
    go (Some s) = by s (settled (truth b) s)

choice-told : (f : Tree) → Holds ToldStep (choice f)
choice-told (ex_ q) = tt
choice-told (not_ (all_ q)) = tt
choice-told _ = tt

split-told : (f : Tree) → Holds ToldStep (split f)
split-told (or_ a b) = tt
split-told (not_ (and_ a b)) = tt
split-told (imp_ a b) = tt
split-told (iff_ a b) = tt
split-told (not_ (iff_ a b)) = tt
split-told _ = tt

split-by-told : (r : Rule) (f u : Tree) (gs ls rs : List Tree) → ((ts : List Tree) (ss : Sides) → told_by r f ts (u ∷ []) ss) → (t : Truth) → Holds ToldStep (split_by t r f gs u ls rs)
split-by-told r f u gs ls rs h Yes = h gs (Alone ls)
split-by-told r f u gs ls rs h No = h gs (Alone rs)
split-by-told r f u gs ls rs h Unknown = h [] (Both ls rs)

split-at-told : (b : Branch) (f u : Tree) → IsClosed u → Holds ToldStep (split_at b f u)
split-at-told b f (if_ p x y) h = split-by-told rule.Conditional f (if_ p x y) (grounds b p) _ _ (λ ts ss. (if_ p x y, refl, h)) (truth b p)
split-at-told b f (apply_ (fun_ s e) a) h = split-by-told rule.Application f (apply_ (fun_ s e) a) (grounds b (in_ a s)) _ _ (λ ts ss. (apply_ (fun_ s e) a, refl, h)) (truth b (in_ a s))
split-at-told b f _ h = tt

term-split-told : (b : Branch) (f : Tree) → Holds ToldStep (term_split b f)
term-split-told b f =
    literal-told (is_literal f) _ (after-holds ToldStep (split_at b f) IsClosed (λ u h. split-at-told b f u h) (first_at (split_term b) f) (at-holds IsClosed (split_term b) (split-term-closed b) f))

take-up-told : (b : Branch) (f : Tree) → Holds ToldStep (take_up b f)
take-up-told b f = literal-told (is_literal f) _ (go (first_at (untaken b) f))
  where
    go : (o : Option Tree) → Holds ToldStep (after (taken_up f) o)
    go None = tt
    go (Some p) = (p, refl)

extension-told : (f : Tree) → Holds ToldStep (extension f)
extension-told (not_ (eq_ x y)) = step-told (either (is_set x) (is_set y)) _ (x, y, refl, refl)
extension-told _ = tt

-- what a result tells
abbrev ResultTold : Result → Type 0
ResultTold r = ToldStep r.step

oldest-told : (b : Branch) (rule : Tree → Option Step) → ((f : Tree) → Holds ToldStep (rule f)) → Holds ResultTold (oldest rule 0 b)
oldest-told b rule h = go (oldest rule 0 b) refl
  where
    go : (o : Option Result) → oldest rule 0 b ≡ o → Holds ResultTold o
    go None e = tt
    go (Some r) e = let f = oldest_is rule b r e in held ToldStep (rule f.0) r.step f.2 (h f.0)

instance-told : (b : Branch) (w : Fresh) (ps : List Place) → Holds ResultTold (first_some (at_place b w) ps)
instance-told b w ps = first-holds ResultTold (at_place b w) (λ p. Unit {0}) (λ p k. go p (found_term b w p.universal) (found-closed b w p.universal)) ps (each (λ p. Unit {0}) (λ p. tt) ps)
  where
    go : (p : Place) (o : Option Tree) → Holds IsClosed o → Holds ResultTold (mapped (instance_step rule.Instance p) o)
    go p None h = tt
    go p (Some t) h = (t, refl, h)

spare-told : (b : Branch) (w : Fresh) (ps : List Place) → Holds ResultTold (first_some (spare_at b w) ps)
spare-told b w ps =
    first-holds ResultTold (spare_at b w) (λ p. Unit {0})
    (λ p k. if-holds ResultTold (nat_eq p.count 0) _ None (go p (new_term b p.universal (spare_term w)) (if-fine IsClosed (is_new b (instance p.universal (spare_term w))) (spare_term w) tt)) tt) ps (each (λ p. Unit {0}) (λ p. tt) ps)
  where
    go : (p : Place) (o : Option Tree) → Holds IsClosed o → Holds ResultTold (mapped (instance_step rule.Spare p) o)
    go p None h = tt
    go p (Some t) h = (t, refl, h)

rank-told : (w : Fresh) (b : Branch) (k : Rank) → Holds ResultTold (by_rank w b k)
rank-told w b rank.Plain = oldest-told b plain plain-told
rank-told w b rank.Rewrite = oldest-told b rewrite rewrite-told
rank-told w b rank.Derive = oldest-told b (derive b) (derive-told b)
rank-told w b rank.Replace =
    first-holds ResultTold (by_equation b) (λ q. Unit {0}) (λ q h. after-holds ResultTold (by_sides b q) (λ o. Unit {0}) (λ o k. oldest-told b (replaced_by q o) (replaced-told q o)) (sides_of q) (any (sides_of q))) (alive b) (each (λ q. Unit {0}) (λ q. tt) (alive b))
  where
    any : (o : Option Ordered) → Holds (λ d. Unit {0}) o
    any None = tt
    any (Some d) = tt
rank-told w b rank.Settle = oldest-told b (settle b) (settle-told b)
rank-told w b rank.Choice = oldest-told b choice choice-told
rank-told w b rank.Split = oldest-told b split split-told
rank-told w b rank.TermSplit = oldest-told b (term_split b) (term-split-told b)
rank-told w b rank.Extension = oldest-told b extension extension-told
rank-told w b rank.Instance = instance-told b w (by_count (places 0 b))
rank-told w b rank.Spare = spare-told b w (places 0 b)
rank-told w b rank.TakeUp = oldest-told b (take_up b) (take-up-told b)

applies-told : (w : Fresh) (b : Branch) (r : Result) → AllClosed (formulas b) → Applies w b r → Told r.step
applies-told w b r cb h =
    let t = rule_tells w b h.0 r cb h.1 in
    record { formula = t.0; others = t.1; names = t.2; closed = Closed-all (formulas b) r.step.named cb t.5; told = held ResultTold (by_rank w b h.0) r h.1 (rank-told w b h.0) }

told-both : (xs ys : List Move) → MovesTold xs → MovesTold ys → MovesTold (xs ++ ys)
told-both [] ys h k = k
told-both (x ∷ xs) ys h k = (h.0, told-both xs ys h.1 k)

-- the steps of a closed tree
pub tree-told : (w : Fresh) (n : ℕ) (next : Option ℕ) (b : Branch) (t : Turns) → AllClosed (formulas b) → IsClosedFor w b t → MovesTold (steps_of n next b t)
tree-told w n next b (shut c) cb h = (tt, tt)
tree-told w n next b (one r fs t) cb h =
    let cl : ClosedSides (Alone fs) = subst ClosedSides h.1 (rule_tells w b h.0.0 r cb h.0.1).6 in
    (applies-told w b r cb h.0, tree-told w (suc n) next (first_branch r b fs) t (sides_stay_closed (stays r.step.rule) b r fs cb cl) h.2)
tree-told w n next b (first r fs gs t) cb h =
    let cl : ClosedSides (Both fs gs) = subst ClosedSides h.1 (rule_tells w b h.0.0 r cb h.0.1).6 in
    (applies-told w b r cb h.0, tree-told w (suc n) next (first_branch r b fs) t (sides_stay_closed (stays r.step.rule) b r fs cb cl.0) h.2)
tree-told w n next b (both r fs gs t v) cb h =
    let cl : ClosedSides (Both fs gs) = subst ClosedSides h.1 (rule_tells w b h.0.0 r cb h.0.1).6 in (
      applies-told w b r cb h.0,
      told-both (steps_of (suc n) (Some n) (first_branch r b fs) t) (steps_of (suc n + turns t) next (second_branch r b gs) v) (tree-told w (suc n) (Some n) (first_branch r b fs) t (sides_stay_closed (stays r.step.rule) b r fs cb cl.0) h.2)
          (tree-told w (suc n + turns t) next (second_branch r b gs) v (sides_stay_closed (stays_second r.step.rule) b r gs cb cl.1) h.3),
    )
