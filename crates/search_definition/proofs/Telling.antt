-- What a rule tells: its rank, its entry, that what it names stands on the branch, and that what it adds is closed.
use Rattle.std.specs.Prelude.{◌≡◌, ℕ, zero, suc, ◌+◌, Bool, true, false, not, nat_le, nat_eq, Option, Some, None, List, [], ◌∷◌}
use Rattle.std.proofs.Common.{refl, ap, sym, arith, subst}
use Rattle.core_expr.specs.declared.head.Sym.{Sym}
use Rattle.core_expr.specs.Tree.{Tree, Parts, not_, and_, or_, imp_, iff_, eq_, in_, funset_, dom_, apply_, except_, if_, tuple_, num_, all_, ex_, choose_, fun_}
use Rattle.core_expr.specs.Tree.Tree.{bound, app}
use Rattle.core_expr.specs.Tree.Parts.{end, part}
use Rattle.core_expr.specs.Put.{inst, shift, IsScoped, AreScoped}
use Rattle.core_expr.specs.Terms.{same, less}
use Rattle.seq_calculus.specs.Calculus.{Has, HasAll, IsClosed, AllClosed}
use Rattle.seq_calculus.specs.Schemas.{nth}
use Rattle.unifier_definition.specs.Unify.{Binding, mgu, bound_to}
use Rattle.unifier_definition.proofs.Substituted.{scoped-assign}
use Rattle.unifier_definition.proofs.Rounds.{mgu-unifies}
use Rattle.search_definition.specs.declared.rule.Rank.{Rank}
use Rattle.search_definition.specs.declared.rule.Rank.TheVariants as rank
use Rattle.search_definition.specs.declared.rule.Rule.{Rule}
use Rattle.search_definition.specs.declared.rule.Rule.TheVariants as rule
use Rattle.search_definition.specs.Terms.{if_so, either, when, after, first_some, first_at, list_of, occurs, replace, closed_subterms}
use Rattle.search_definition.specs.Branches.{Entry, Branch, formulas, alive, has}
use Rattle.search_definition.specs.Values.{Truth, truth, grounds, first_no}
use Rattle.search_definition.specs.Values.Truth.{Yes, No, Unknown}
use Rattle.search_definition.specs.Rules.{Step, Result, gives, splits, oldest, rank_of}
use Rattle.search_definition.specs.Plain.{Left, left_side, by_left, by_not_left, plain, Rewrite, nth_rewrite, rewrite_of, rewritten, rewrite, choice}
use Rattle.search_definition.specs.Equations.{is_set, is_fun, same_members, step_if, derive_set, at_all, lacks, derive_fun, Described, describes, described, fun_of, other_function, derive_not, derive, Ordered, sides_of, replaced_by, by_sides, by_equation, extension}
use Rattle.search_definition.specs.Splits.{Splitting, splitting, split_as, split, Settled, settled, settle_as, settle_split, settle, is_literal, of_literal, split_term, split_by, split_at, term_split, untaken, taken_up, take_up}
use Rattle.search_definition.specs.Splits.Settled.{OneTrue, LeftFalse, RightFalse}
use Rattle.search_definition.specs.Instances.{Fresh, spare_term, own_meta, Universal, universal, instance, Signed, instance_term, grounded, mapped, equation_term, sides_term, signed_term, literal_term, new_term, is_new, at_atom, by_universal, at_universal, at_literal, at_subterm, at_subterms, at_side, at_sides, by_atom, found_term, signed_atoms, partner_meta, own_metas, both_metas, is_side, are_opposite, signed_literal, Place, place_before, places, insert, by_count, instance_step, at_place, instance_rule, spare_at, spare_rule}
use Rattle.search_definition.specs.Search.{by_rank}
use Rattle.search_definition.specs.Watches.{LiveAt, ClosedSides}
use Rattle.search_definition.specs.Laws.{RuleTells}
use Rattle.search_definition.proofs.Lefts.{up, low, put_scoped, members-scoped, left_side-scoped, LeftScoped}
use Rattle.search_definition.proofs.Standing.{Holds, held, or-holds, after-holds, if-holds, Each, first-holds, each, at-holds, replace-scoped, grounds-stand, first-no-stands, alive-stand, live-stands, closed-of, oldest_is}

-- what is told of a step at the formula f
record Fine (b : Branch) (f : Tree) (k : Rank) (s : Step) : Type 0 where
  more : List Tree
  names : s.named ≡ f ∷ more
  ranked : rank_of s.rule ≡ k
  standing : HasAll (formulas b) more
  closed : ClosedSides s.sides

fine : (b : Branch) (f : Tree) (r : Rule) (more terms fs : List Tree) → HasAll (formulas b) more → AllClosed fs → Holds (Fine b f (rank_of r)) (gives r (f ∷ more) terms fs)
fine b f r more terms fs h c = record { more = more; names = refl; ranked = refl; standing = h; closed = c }

fine-both : (b : Branch) (f : Tree) (r : Rule) (terms fs gs : List Tree) → AllClosed fs → AllClosed gs → Holds (Fine b f (rank_of r)) (splits r (f ∷ []) terms fs gs)
fine-both b f r terms fs gs c d = record { more = []; names = refl; ranked = refl; standing = tt; closed = (c, d) }

pub if-fine : {B : Type 0} (P : B → Type 0) (x : Bool) (y : B) → P y → Holds P (when x y)
if-fine P true y h = h
if-fine P false y h = tt

step-fine : (P : Step → Type 0) (x : Bool) (o : Option Step) → Holds P o → Holds P (step_if x o)
step-fine P true o h = h
step-fine P false o h = tt

-- the ranks plain, rewrite and choice
left-fine : (b : Branch) (f : Tree) (o : Option Left) → LeftScoped 0 o → Holds (Fine b f rank.Plain) (by_left f o)
left-fine b f None h = tt
left-fine b f (Some l) h = fine b f (rule.LeftSide l.schema) [] [] (l.right ∷ []) tt (h, tt)

not-left-fine : (b : Branch) (f : Tree) (o : Option Left) → LeftScoped 0 o → Holds (Fine b f rank.Plain) (by_not_left f o)
not-left-fine b f None h = tt
not-left-fine b f (Some l) h = fine b f (rule.DeniedLeftSide l.schema) [] [] (not_ l.right ∷ []) tt ((h, tt), tt)

plain-fine : (b : Branch) (f : Tree) → IsClosed f → Holds (Fine b f rank.Plain) (plain f)
plain-fine b (not_ (not_ a)) c = fine b (not_ (not_ a)) rule.DoubleNot [] [] (a ∷ []) tt (c.0.0, tt)
plain-fine b (and_ x y) c = fine b (and_ x y) rule.Conjunction [] [] (x ∷ y ∷ []) tt (c.0, (c.1.0, tt))
plain-fine b (not_ (or_ x y)) c = fine b (not_ (or_ x y)) rule.DeniedDisjunction [] [] (not_ x ∷ not_ y ∷ []) tt ((c.0.0, tt), ((c.0.1.0, tt), tt))
plain-fine b (not_ (imp_ x y)) c = fine b (not_ (imp_ x y)) rule.DeniedImplication [] [] (x ∷ not_ y ∷ []) tt (c.0.0, ((c.0.1.0, tt), tt))
plain-fine b (not_ a) c = not-left-fine b (not_ a) (left_side a) (left_side-scoped 0 a c.0)
plain-fine b (in_ g (funset_ s t)) c =
    let at : IsScoped 1 (apply_ (shift 0 1 g) (bound 0)) = (up 0 g c.0, (low 0, tt)) in
    fine b (in_ g (funset_ s t)) rule.FunctionSet [] []
    (eq_ g (fun_ s (apply_ (shift 0 1 g) (bound 0))) ∷ eq_ (dom_ g) s ∷ all_ (imp_ (in_ (bound 0) (shift 0 1 s)) (in_ (apply_ (shift 0 1 g) (bound 0)) (shift 0 1 t))) ∷ []) tt
    ((c.0, (((c.1.0.0, tt), at), tt)), (((c.0, tt), (c.1.0.0, tt)), ((tt, ((low 0, (up 0 s c.1.0.0, tt)), ((at, (up 0 t c.1.0.1.0, tt)), tt))), tt)))
plain-fine b f c = left-fine b f (left_side f) (left_side-scoped 0 f c)

abbrev RewriteClosed : Rewrite → Type 0
RewriteClosed r = IsClosed r.to

nth-closed : (ps : Parts) (i : ℕ) → AreScoped 0 ps → Holds IsClosed (nth (list_of ps) i)
nth-closed end i h = tt
nth-closed (part e ps) zero h = h.0
nth-closed (part e ps) (suc i) h = nth-closed ps i h.1

rewrite-closed : (t : Tree) → IsClosed t → Holds RewriteClosed (rewrite_of t)
rewrite-closed (dom_ (fun_ s e)) h = h.0.0.0
rewrite-closed (except_ f a b) h = (((h.0, tt), tt), ((low 0, (up 0 a h.1.0, tt)), (up 0 b h.1.1.0, ((up 0 f h.0, (low 0, tt)), tt))))
rewrite-closed (apply_ (tuple_ ps) (num_ zero (suc i))) h = go (nth (list_of ps) i) (nth-closed ps i h.0)
  where
    go : (o : Option Tree) → Holds IsClosed o → Holds RewriteClosed (nth_rewrite ps (suc i) o)
    go None k = tt
    go (Some a) k = k
rewrite-closed _ h = tt

rewrite-fine : (b : Branch) (f : Tree) → IsClosed f → Holds (Fine b f rank.Rewrite) (rewrite f)
rewrite-fine b f c =
    after-holds (Fine b f rank.Rewrite) (rewritten f) RewriteClosed
    (λ r k. fine b f (rule.Rewritten r.schema) [] (r.from ∷ r.to ∷ []) (replace r.from r.to f ∷ []) tt (replace-scoped r.from r.to k 0 f c, tt))
    (first_at rewrite_of f) (at-holds RewriteClosed rewrite_of rewrite-closed f)

choice-fine : (b : Branch) (f : Tree) → IsClosed f → Holds (Fine b f rank.Choice) (choice f)
choice-fine b (ex_ p) c = fine b (ex_ p) rule.Witness [] [] (inst p (choose_ p) ∷ []) tt (put_scoped 0 p (choose_ p) c, tt)
choice-fine b (not_ (all_ p)) c =
    fine b (not_ (all_ p)) rule.Counterexample [] [] (not_ (inst p (choose_ (not_ p))) ∷ []) tt ((put_scoped 0 p (choose_ (not_ p)) (tt, (c.0.1, tt)), tt), tt)
choice-fine b _ c = tt

-- the ranks derive and extension
same-closed : (s t : Tree) → IsClosed s → IsClosed t → IsClosed (same_members s t)
same-closed s t cs ct = (tt, (members-scoped s cs, (members-scoped t ct, tt)))

derive-set-fine : (b : Branch) (s t : Tree) → IsClosed s → IsClosed t → Holds (Fine b (eq_ s t) rank.Derive) (derive_set b s t)
derive-set-fine b s t cs ct =
    step-fine (Fine b (eq_ s t) rank.Derive) (either (is_set s) (is_set t)) _
    (step-fine (Fine b (eq_ s t) rank.Derive) (not (has b (same_members s t))) _ (fine b (eq_ s t) rule.SameMembers [] [] (same_members s t ∷ []) tt (same-closed s t cs ct, tt)))

derive-fun-fine : (b : Branch) (f g u : Tree) → IsClosed g → IsClosed u → Holds (Fine b f rank.Derive) (derive_fun b f g u)
derive-fun-fine b f g (fun_ s e) cg cu =
    step-fine (Fine b f rank.Derive) (not (either (is_fun g) (same e (apply_ (shift 0 1 g) (bound 0))))) _
    (step-fine (Fine b f rank.Derive) (lacks b (eq_ (dom_ g) s) (at_all g s e)) _
    (fine b f rule.FunctionValues [] (g ∷ []) (eq_ (dom_ g) s ∷ at_all g s e ∷ []) tt
    (((cg, tt), (cu.0.0, tt)), ((tt, ((low 0, (up 0 s cu.0.0, tt)), (((up 0 g cg, (low 0, tt)), (cu.1, tt)), tt))), tt))))
derive-fun-fine b f g _ cg cu = tt

-- what says which function g is
abbrev Describes : Branch → Described → Type 0
Describes b d = Has (formulas b) d.formula × IsClosed d.function

describes-fine : (b : Branch) → AllClosed (formulas b) → (g f : Tree) → Has (formulas b) f → Holds (Describes b) (describes g f)
describes-fine b cb g f h = go (fun_of g f) (of f (closed-of (formulas b) f cb h))
  where
    of : (f : Tree) → IsClosed f → Holds IsClosed (fun_of g f)
    of (eq_ a (fun_ s e)) c = if-fine IsClosed (same a g) (fun_ s e) c.1.0
    of (eq_ (fun_ s e) a) c = if-fine IsClosed (same a g) (fun_ s e) c.0
    of _ c = tt

    go : (o : Option Tree) → Holds IsClosed o → Holds (Describes b) (described f o)
    go None k = tt
    go (Some u) k = (h, k)

derive-not-fine : (b : Branch) → AllClosed (formulas b) → (f g u : Tree) → IsClosed u → Holds (Fine b f rank.Derive) (derive_not b f g u)
derive-not-fine b cb f g u cu =
    step-fine (Fine b f rank.Derive) (is_fun u) _
    (step-fine (Fine b f rank.Derive) (not (is_fun g)) _
    (after-holds (Fine b f rank.Derive) (other_function b f g u) (Describes b)
    (λ d k. step-fine (Fine b f rank.Derive) (not (has b (not_ (eq_ d.function u)))) _ (fine b f rule.OtherFunction (d.formula ∷ []) (g ∷ []) (not_ (eq_ d.function u) ∷ []) (k.0, tt) (((k.1, (cu, tt)), tt), tt)))
    (first_some (describes g) (alive b)) (first-holds (Describes b) (describes g) (Has (formulas b)) (describes-fine b cb g) (alive b) (alive-stand b))))

derive-fine : (b : Branch) → AllClosed (formulas b) → (f : Tree) → IsClosed f → Holds (Fine b f rank.Derive) (derive b f)
derive-fine b cb (eq_ s t) c =
    or-holds (Fine b (eq_ s t) rank.Derive) (derive_set b s t) _ (derive-set-fine b s t c.0 c.1.0)
    (or-holds (Fine b (eq_ s t) rank.Derive) (derive_fun b (eq_ s t) s t) _ (derive-fun-fine b (eq_ s t) s t c.0 c.1.0) (derive-fun-fine b (eq_ s t) t s c.1.0 c.0))
derive-fine b cb (not_ (eq_ s t)) c =
    or-holds (Fine b (not_ (eq_ s t)) rank.Derive) (derive_not b (not_ (eq_ s t)) s t) _ (derive-not-fine b cb (not_ (eq_ s t)) s t c.0.1.0) (derive-not-fine b cb (not_ (eq_ s t)) t s c.0.0)
derive-fine b cb _ c = tt

extension-fine : (b : Branch) (f : Tree) → IsClosed f → Holds (Fine b f rank.Extension) (extension f)
extension-fine b (not_ (eq_ x y)) c =
    step-fine (Fine b (not_ (eq_ x y)) rank.Extension) (either (is_set x) (is_set y)) _ (fine b (not_ (eq_ x y)) rule.Members [] [] (not_ (same_members x y) ∷ []) tt ((same-closed x y c.0.0 c.0.1.0, tt), tt))
extension-fine b _ c = tt

-- the rank replace
abbrev OrderedClosed : Ordered → Type 0
OrderedClosed o = IsClosed o.smaller

sides-closed : (q : Tree) → IsClosed q → Holds OrderedClosed (sides_of q)
sides-closed (eq_ s t) c = if-fine OrderedClosed (not (same s t)) _ (go (less s t))
  where
    go : (x : Bool) → OrderedClosed (if_so x (record { greater = t; smaller = s }) (record { greater = s; smaller = t }))
    go true = c.0
    go false = c.1.0
sides-closed _ c = tt

replaced-fine : (b : Branch) (q : Tree) (o : Ordered) → Has (formulas b) q → IsClosed o.smaller → (f : Tree) → IsClosed f → Holds (Fine b f rank.Replace) (replaced_by q o f)
replaced-fine b q o h co f c =
    step-fine (Fine b f rank.Replace) (not (same q f)) _
    (step-fine (Fine b f rank.Replace) (occurs o.greater f) _
    (fine b f rule.Replaced (q ∷ []) (o.greater ∷ o.smaller ∷ []) (replace o.greater o.smaller f ∷ []) (h, tt) (replace-scoped o.greater o.smaller co 0 f c, tt)))

-- the ranks split and settle
abbrev SplitFine : Tree → Splitting → Type 0
SplitFine f s = AllClosed s.left × AllClosed s.right × (rank_of s.rule ≡ rank.Split)

splitting-fine : (f : Tree) → IsClosed f → Holds (SplitFine f) (splitting f)
splitting-fine (or_ x y) c = ((c.0, tt), (c.1.0, tt), refl)
splitting-fine (not_ (and_ x y)) c = (((c.0.0, tt), tt), ((c.0.1.0, tt), tt), refl)
splitting-fine (imp_ x y) c = (((c.0, tt), tt), (c.1.0, tt), refl)
splitting-fine (iff_ x y) c = ((c.0, (c.1.0, tt)), ((c.0, tt), ((c.1.0, tt), tt)), refl)
splitting-fine (not_ (iff_ x y)) c = ((c.0.0, ((c.0.1.0, tt), tt)), ((c.0.0, tt), (c.0.1.0, tt)), refl)
splitting-fine _ c = tt

split-fine : (b : Branch) (f : Tree) → IsClosed f → Holds (Fine b f rank.Split) (split f)
split-fine b f c =
    after-holds (Fine b f rank.Split) (split_as f) (SplitFine f)
    (λ s k. record { more = []; names = refl; ranked = k.2; standing = tt; closed = (k.0, k.1) }) (splitting f) (splitting-fine f c)

settle-fine : (b : Branch) (f : Tree) → IsClosed f → Holds (Fine b f rank.Settle) (settle b f)
settle-fine b f c = after-holds (Fine b f rank.Settle) (settle_split b f) (SplitFine f) (λ s k. by s k (settled (truth b) s)) (splitting f) (splitting-fine f c)
  where
    by : (s : Splitting) → SplitFine f s → (o : Option Settled) → Holds (Fine b f rank.Settle) (after (settle_as b f s) o)
    by s k None = tt
    by s k (Some OneTrue) = fine b f rule.TrueSide [] [] [] tt tt
    by s k (Some LeftFalse) = fine b f rule.FalseLeft (first_no b s.left) [] s.right (first-no-stands b s.left) k.1
    by s k (Some RightFalse) = fine b f rule.FalseRight (first_no b s.right) [] s.left (first-no-stands b s.right) k.0

-- the ranks term split and take up
literal-fine : (P : Step → Type 0) (x : Bool) (o : Option Step) → Holds P o → Holds P (of_literal x o)
literal-fine P true o h = h
literal-fine P false o h = tt

split-by-fine : (b : Branch) (f p : Tree) (r : Rule) (u : Tree) (ls rs : List Tree) → rank_of r ≡ rank.TermSplit → AllClosed ls → AllClosed rs → (t : Truth) → Holds (Fine b f rank.TermSplit) (split_by t r f (grounds b p) u ls rs)
split-by-fine b f p r u ls rs k cl cr Yes = record { more = grounds b p; names = refl; ranked = k; standing = grounds-stand b p; closed = cl }
split-by-fine b f p r u ls rs k cl cr No = record { more = grounds b p; names = refl; ranked = k; standing = grounds-stand b p; closed = cr }
split-by-fine b f p r u ls rs k cl cr Unknown = record { more = []; names = refl; ranked = k; standing = tt; closed = (cl, cr) }

split-at-fine : (b : Branch) (f u : Tree) → IsClosed f → IsClosed u → Holds (Fine b f rank.TermSplit) (split_at b f u)
split-at-fine b f (if_ p x y) c h =
    split-by-fine b f p rule.Conditional (if_ p x y) (p ∷ replace (if_ p x y) x f ∷ []) (not_ p ∷ replace (if_ p x y) y f ∷ []) refl
    (h.0, (replace-scoped (if_ p x y) x h.1.0 0 f c, tt)) ((h.0, tt), (replace-scoped (if_ p x y) y h.1.1.0 0 f c, tt)) (truth b p)
split-at-fine b f (apply_ (fun_ s e) a) c h =
    let m : IsClosed (in_ a s) = (h.1.0, (h.0.0.0, tt)) in
    split-by-fine b f (in_ a s) rule.Application (apply_ (fun_ s e) a) (in_ a s ∷ replace (apply_ (fun_ s e) a) (inst e a) f ∷ []) (not_ (in_ a s) ∷ []) refl
    (m, (replace-scoped (apply_ (fun_ s e) a) (inst e a) (put_scoped 0 e a h.1.0) 0 f c, tt)) ((m, tt), tt) (truth b (in_ a s))
split-at-fine b f _ c h = tt

split-term-closed : (b : Branch) (t : Tree) → IsClosed t → Holds IsClosed (split_term b t)
split-term-closed b (if_ p x y) h = h
split-term-closed b (apply_ (fun_ s e) a) h = if-fine IsClosed (not (has b (not_ (in_ a s)))) (apply_ (fun_ s e) a) h
split-term-closed b _ h = tt

term-split-fine : (b : Branch) (f : Tree) → IsClosed f → Holds (Fine b f rank.TermSplit) (term_split b f)
term-split-fine b f c =
    literal-fine (Fine b f rank.TermSplit) (is_literal f) _
    (after-holds (Fine b f rank.TermSplit) (split_at b f) IsClosed (λ u h. split-at-fine b f u c h) (first_at (split_term b) f) (at-holds IsClosed (split_term b) (split-term-closed b) f))

abbrev Choosable : Tree → Type 0
Choosable p = IsClosed (ex_ p)

untaken-closed : (b : Branch) (t : Tree) → IsClosed t → Holds Choosable (untaken b t)
untaken-closed b (choose_ p) h = if-fine Choosable _ p h
untaken-closed b _ h = tt

take-up-fine : (b : Branch) (f : Tree) → IsClosed f → Holds (Fine b f rank.TakeUp) (take_up b f)
take-up-fine b f c =
    literal-fine (Fine b f rank.TakeUp) (is_literal f) _
    (after-holds (Fine b f rank.TakeUp) (taken_up f) Choosable
    (λ p h. fine-both b f rule.TakenUp (p ∷ []) (ex_ p ∷ inst p (choose_ p) ∷ []) (not_ (ex_ p) ∷ []) (h, (put_scoped 0 p (choose_ p) h, tt)) ((h, tt), tt))
    (first_at (untaken b) f) (at-holds Choosable (untaken b) (untaken-closed b) f))

-- the ranks instance and spare
bound-closed : (ms : List Sym) (s t : Tree) (m : Sym) (o : Option (List Binding)) → mgu ms s t ≡ o → Holds IsClosed (after (bound_to m) o)
bound-closed ms s t m None e = tt
bound-closed ms s t m (Some bs) e = go (bound_to m bs) refl
  where
    go : (o : Option Tree) → bound_to m bs ≡ o → Holds IsClosed o
    go None q = tt
    go (Some u) q = subst IsClosed (ap (λ x. elim x [ None ↦ app m end | Some v ↦ v ]) q) ((mgu-unifies ms s t bs e).0 m)

instance-term-closed : (w : Fresh) (ms : List Sym) (s t : Tree) → Holds IsClosed (instance_term w ms s t)
unfolding instance_term
instance-term-closed w ms s t = go (after (bound_to (own_meta w 0)) (mgu ms s t)) (bound-closed ms s t (own_meta w 0) (mgu ms s t) refl)
  where
    go : (o : Option Tree) → Holds IsClosed o → Holds IsClosed (mapped (grounded w ms) o)
    go None h = tt
    go (Some u) h = scoped-assign ms (λ f. spare_term w) (λ f. tt) 0 u h

new-closed : (b : Branch) (u : Universal) (o : Option Tree) → Holds IsClosed o → Holds IsClosed (after (new_term b u) o)
new-closed b u o h = after-holds IsClosed (new_term b u) IsClosed (λ t k. if-fine IsClosed (is_new b (instance u t)) t k) o h

signed-closed : (w : Fresh) (a c : Signed) → Holds IsClosed (signed_term w a c)
signed-closed w a c = if-holds IsClosed (are_opposite a.holds c.holds) _ None (instance-term-closed w (both_metas w a c) a.atom c.atom) tt

by-atom-closed : (b : Branch) (w : Fresh) (u : Universal) (a : Signed) → Holds IsClosed (by_atom b w u a)
by-atom-closed b w u a =
    or-holds IsClosed (after (new_term b u) (sides_term w a)) _ (new-closed b u (sides_term w a) (if-holds IsClosed a.holds None (equation_term w (own_metas w a) a.atom) tt (equation a.atom)))
    (or-holds IsClosed (first_some (at_literal b w u a) (alive b)) _ (search_all (at_literal b w u a) (λ f. new-closed b u (literal_term w a f) (if-holds IsClosed (is_literal f) _ None (signed-closed w a (signed_literal f)) tt)) (alive b))
    (or-holds IsClosed (first_some (at_universal b w u a) (alive b)) _
    (search_all (at_universal b w u a)
    (λ f. after-holds IsClosed (by_universal b w u a) (λ v. Unit {0}) (λ v k. search_signed (at_atom b w u a) (λ c. new-closed b u (signed_term w a c) (signed-closed w a c)) (signed_atoms (partner_meta w) v)) (universal f) (any (universal f))) (alive b))
    (if-holds IsClosed a.holds (at_sides b w u a a.atom) None (sides a.atom) tt)))
  where
    any : (o : Option Universal) → Holds (λ v. Unit {0}) o
    any None = tt
    any (Some v) = tt

    equation : (f : Tree) → Holds IsClosed (equation_term w (own_metas w a) f)
    equation (eq_ s t) = instance-term-closed w (own_metas w a) s t
    equation _ = tt

    search_all : (g : Tree → Option Tree) → ((f : Tree) → Holds IsClosed (g f)) → (fs : List Tree) → Holds IsClosed (first_some g fs)
    search_all g h fs = first-holds IsClosed g (λ f. Unit {0}) (λ f k. h f) fs (each (λ f. Unit {0}) (λ f. tt) fs)

    search_signed : (g : Signed → Option Tree) → ((c : Signed) → Holds IsClosed (g c)) → (cs : List Signed) → Holds IsClosed (first_some g cs)
    search_signed g h cs = first-holds IsClosed g (λ c. Unit {0}) (λ c k. h c) cs (each (λ c. Unit {0}) (λ c. tt) cs)

    side : (l : Tree) → Holds IsClosed (at_side b w u a l)
    side l =
        if-holds IsClosed (is_side (own_metas w a) l) _ None
        (search_all (at_subterms b w u a l)
        (λ f. if-holds IsClosed (is_literal f) _ None (search_all (at_subterm b w u a l) (λ t. new-closed b u (instance_term w (own_metas w a) l t) (instance-term-closed w (own_metas w a) l t)) (closed_subterms f)) tt) (alive b)) tt

    sides : (f : Tree) → Holds IsClosed (at_sides b w u a f)
    sides (eq_ l r) = or-holds IsClosed (at_side b w u a l) (at_side b w u a r) (side l) (side r)
    sides _ = tt

found-closed : (b : Branch) (w : Fresh) (u : Universal) → Holds IsClosed (found_term b w u)
unfolding found_term
found-closed b w u = first-holds IsClosed (by_atom b w u) (λ a. Unit {0}) (λ a k. by-atom-closed b w u a) (signed_atoms (own_meta w) u) (each (λ a. Unit {0}) (λ a. tt) (signed_atoms (own_meta w) u))

-- where the universals stand, of a branch that begins with the index i
record At (i : ℕ) (b : Branch) (p : Place) : Type 0 where
  behind : ℕ
  place : p.entry ≡ i + behind
  live : LiveAt b behind p.formula

places-later : (i : ℕ) (e : Entry) (b : Branch) (ps : List Place) → Each (At (suc i) b) ps → Each (At i (e ∷ b)) ps
places-later i e b [] h = tt
places-later i e b (p ∷ ps) h = (record { behind = suc h.0.behind; place = next p.entry h.0.behind h.0.place; live = h.0.live }, places-later i e b ps h.1)
  where
    next : (x j : ℕ) → x ≡ suc i + j → x ≡ i + suc j
    next x j e = omega arith

places-at : (i : ℕ) (b : Branch) → Each (At i b) (places i b)
places-at i [] = tt
places-at i (e ∷ b) = go e.live refl (places-later i e b (places (suc i) b) (places-at (suc i) b))
  where
    this : e.live ≡ true → (o : Option Universal) → Each (At i (e ∷ b)) (places (suc i) b) → Each (At i (e ∷ b)) (place_before i e.count e.formula o (places (suc i) b))
    this l None h = h
    this l (Some u) h = (record { behind = 0; place = omega arith; live = (l, refl) }, h)

    go : (x : Bool) → e.live ≡ x → Each (At i (e ∷ b)) (places (suc i) b) → Each (At i (e ∷ b)) (if_so x (place_before i e.count e.formula (universal e.formula) (places (suc i) b)) (places (suc i) b))
    go true l h = this l (universal e.formula) h
    go false l h = h

insert-each : (Q : Place → Type 0) (p : Place) (ps : List Place) → Q p → Each Q ps → Each Q (insert p ps)
insert-each Q p [] h k = (h, tt)
insert-each Q p (q ∷ qs) h k = go (nat_le p.count q.count) (insert-each Q p qs h k.1)
  where
    go : (x : Bool) → Each Q (insert p qs) → Each Q (if_so x (p ∷ q ∷ qs) (q ∷ insert p qs))
    go true r = (h, k)
    go false r = (k.0, r)

count-each : (Q : Place → Type 0) (ps : List Place) → Each Q ps → Each Q (by_count ps)
count-each Q [] h = tt
count-each Q (p ∷ ps) h = insert-each Q p (by_count ps) h.0 (count-each Q ps h.1)

-- what is told of a result
record Told (b : Branch) (k : Rank) (r : Result) : Type 0 where
  formula : Tree
  live : LiveAt b r.entry formula
  step : Fine b formula k r.step

instance-closed : (u : Universal) (t : Tree) → IsClosed t → IsClosed (instance u t)
instance-closed u t h = go u.holds
  where
    go : (x : Bool) → IsClosed (if_so x (inst u.body t) (not_ (inst u.body t)))
    go true = put_scoped 0 u.body t h
    go false = (put_scoped 0 u.body t h, tt)

instance-told : (b : Branch) (r : Rule) (p : Place) → At 0 b p → (o : Option Tree) → Holds IsClosed o → Holds (Told b (rank_of r)) (mapped (instance_step r p) o)
instance-told b r p a None h = tt
instance-told b r p a (Some t) h =
    let q : a.behind ≡ p.entry = omega (arith, a.place) in
    record {
      formula = p.formula;
      live = subst (λ i. LiveAt b i p.formula) q a.live;
      step = record { more = []; names = refl; ranked = refl; standing = tt; closed = (instance-closed p.universal t h, tt) };
    }

instance-rule-told : (w : Fresh) (b : Branch) → Holds (Told b rank.Instance) (instance_rule w b)
instance-rule-told w b =
    first-holds (Told b rank.Instance) (at_place b w) (At 0 b) (λ p a. instance-told b rule.Instance p a (found_term b w p.universal) (found-closed b w p.universal)) (by_count (places 0 b))
    (count-each (At 0 b) (places 0 b) (places-at 0 b))

spare-rule-told : (w : Fresh) (b : Branch) → Holds (Told b rank.Spare) (spare_rule w b)
spare-rule-told w b =
    first-holds (Told b rank.Spare) (spare_at b w) (At 0 b)
    (λ p a. if-holds (Told b rank.Spare) (nat_eq p.count 0) _ None
    (instance-told b rule.Spare p a (new_term b p.universal (spare_term w)) (if-fine IsClosed (is_new b (instance p.universal (spare_term w))) (spare_term w) tt)) tt) (places 0 b) (places-at 0 b)

-- the rules at the oldest entry
oldest-told : (b : Branch) → AllClosed (formulas b) → (k : Rank) (rule : Tree → Option Step) → ((f : Tree) → IsClosed f → Holds (Fine b f k) (rule f)) → Holds (Told b k) (oldest rule 0 b)
oldest-told b cb k rule h = go (oldest rule 0 b) refl
  where
    go : (o : Option Result) → oldest rule 0 b ≡ o → Holds (Told b k) o
    go None e = tt
    go (Some r) e =
        let f = oldest_is rule b r e in
        record { formula = f.0; live = f.1; step = held (Fine b f.0 k) (rule f.0) r.step f.2 (h f.0 (closed-of (formulas b) f.0 cb (live-stands b r.entry f.0 f.1))) }

rank-told : (w : Fresh) (b : Branch) → AllClosed (formulas b) → (k : Rank) → Holds (Told b k) (by_rank w b k)
rank-told w b cb rank.Plain = oldest-told b cb rank.Plain plain (plain-fine b)
rank-told w b cb rank.Rewrite = oldest-told b cb rank.Rewrite rewrite (rewrite-fine b)
rank-told w b cb rank.Derive = oldest-told b cb rank.Derive (derive b) (derive-fine b cb)
rank-told w b cb rank.Replace =
    first-holds (Told b rank.Replace) (by_equation b) (Has (formulas b))
    (λ q h. after-holds (Told b rank.Replace) (by_sides b q) OrderedClosed (λ o k. oldest-told b cb rank.Replace (replaced_by q o) (replaced-fine b q o h k)) (sides_of q) (sides-closed q (closed-of (formulas b) q cb h)))
    (alive b) (alive-stand b)
rank-told w b cb rank.Settle = oldest-told b cb rank.Settle (settle b) (settle-fine b)
rank-told w b cb rank.Choice = oldest-told b cb rank.Choice choice (choice-fine b)
rank-told w b cb rank.Split = oldest-told b cb rank.Split split (split-fine b)
rank-told w b cb rank.TermSplit = oldest-told b cb rank.TermSplit (term_split b) (term-split-fine b)
rank-told w b cb rank.Extension = oldest-told b cb rank.Extension extension (extension-fine b)
rank-told w b cb rank.Instance = instance-rule-told w b
rank-told w b cb rank.Spare = spare-rule-told w b
rank-told w b cb rank.TakeUp = oldest-told b cb rank.TakeUp (take_up b) (take-up-fine b)

pub rule_tells : RuleTells
rule_tells w b k r cb e =
    let t = held (Told b k) (by_rank w b k) r e (rank-told w b cb k) in
    (t.formula, t.step.more, t.step.names, t.live, t.step.ranked, subst (HasAll (formulas b)) (sym t.step.names) (live-stands b r.entry t.formula t.live, t.step.standing), t.step.closed)
