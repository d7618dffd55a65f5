-- Each rule's step is carried by its proof tree.
use Rattle.std.specs.Prelude.{◌≡◌, ℕ, zero, suc, Bool, true, false, not, Option, Some, None, []}
use Rattle.std.proofs.Common.{refl, ap, sym, ◌∙◌, subst}
use Rattle.core_expr.specs.Tree.{Tree, Parts, not_, and_, or_, imp_, eq_, in_, funset_, dom_, apply_, except_, tuple_, num_, fun_}
use Rattle.core_expr.specs.Tree.Tree.{bound}
use Rattle.core_expr.specs.Tree.Parts.{end, part}
use Rattle.core_expr.specs.Put.{shift, AreScoped}
use Rattle.core_expr.specs.Terms.{same, less}
use Rattle.core_expr.proofs.Equal.{same-refl, same-true}
use Rattle.seq_calculus.specs.Calculus.{Has, IsClosed, Proof}
use Rattle.seq_calculus.specs.Schemas.{instance_of, nth, about_nth}
use Rattle.search_definition.specs.declared.rule.Rank.{Rank}
use Rattle.search_definition.specs.declared.rule.Rank.TheVariants as rank
use Rattle.search_definition.specs.Terms.{if_so, either, when, first_some, first_at, list_of, occurs}
use Rattle.search_definition.specs.Branches.{Branch, alive, has}
use Rattle.search_definition.specs.Rules.{Step, Result, oldest}
use Rattle.search_definition.specs.Plain.{left_side, plain, Rewrite, nth_rewrite, rewrite_of, rewritten, rewrite, choice}
use Rattle.search_definition.specs.Equations.{is_set, is_fun, same_members, step_if, derive_set, at_all, lacks, derive_fun, Described, described, describes, other_function, derive_not, derive, Ordered, sides_of, replaced_by, by_sides, by_equation, extension}
use Rattle.search_definition.specs.Splits.{split, settle, term_split, take_up}
use Rattle.search_definition.specs.Instances.{Fresh}
use Rattle.search_definition.specs.Search.{by_rank, Applies}
use Rattle.search_definition.proofs.Lefts.{up, low, parts-list}
use Rattle.search_definition.proofs.Standing.{Holds, held, or-holds, after-holds, first-holds, each, at-holds, oldest_is}
use Rattle.proof_trees.specs.Says.{Says, Carries}
use Rattle.proof_trees.specs.By.{rewritten_by, by}
use Rattle.proof_trees.specs.Equated.{other_function_by}
use Rattle.proof_trees.proofs.Said.{says_and_l}
use Rattle.proof_trees.proofs.Replaced.{says_replace_by, says_rewrite_by}
use Rattle.proof_trees.proofs.Ranked.{Fits, left-fits, not_left-fits, double-not-says, not-or-says, not-imp-says, split-fits, choice-fits}
use Rattle.proof_trees.proofs.Settled.{settle-fits}
use Rattle.proof_trees.proofs.Cutting.{term-split-fits, take-up-fits}
use Rattle.proof_trees.proofs.Equated.{function-set-says, values-says, described-says, OtherIs, second-other, first-other, other-says, same-members-says, extension-says}
use Rattle.proof_trees.proofs.Instanced.{ResultFits, instance-rule-fits, spare-rule-fits}

plain-fits : (f : Tree) → Holds Fits (plain f)
plain-fits (not_ (not_ a)) = λ us n p k. double-not-says p us a n.0 k
plain-fits (and_ a b) = λ us n p k. says_and_l p us [] a b n.0 k
plain-fits (not_ (or_ a b)) = λ us n p k. not-or-says p us a b n.0 k
plain-fits (not_ (imp_ a b)) = λ us n p k. not-imp-says p us a b n.0 k
plain-fits (not_ a) = not_left-fits a (left_side a) refl
plain-fits (in_ f (funset_ s t)) = λ us n p k. function-set-says p us f s t n.0 k
plain-fits f = left-fits f (left_side f) refl

-- rank rewrite
abbrev pub RewriteIs : Rewrite → Type 0
RewriteIs r = (rewrite_of r.from ≡ Some r) × (instance_of r.schema r.z r.params ≡ Some (eq_ r.from r.to)) × IsClosed (eq_ r.from r.to)

nth-closed : (ps : Parts) (i : ℕ) → AreScoped 0 ps → Holds IsClosed (nth (list_of ps) i)
nth-closed end i h = tt
nth-closed (part e ps) zero h = h.0
nth-closed (part e ps) (suc i) h = nth-closed ps i h.1

pub rewrite-is : (t : Tree) → IsClosed t → Holds RewriteIs (rewrite_of t)
rewrite-is (dom_ (fun_ s e)) h = (refl, refl, (h, (h.0.0.0, tt)))
rewrite-is (except_ f a b) h = (refl, refl, (h, ((((h.0, tt), tt), ((low 0, (up 0 a h.1.0, tt)), (up 0 b h.1.1.0, ((up 0 f h.0, (low 0, tt)), tt)))), tt)))
rewrite-is (apply_ (tuple_ ps) (num_ zero (suc i))) h = go (nth (list_of ps) i) refl (nth-closed ps i h.0)
  where
    go : (o : Option Tree) → nth (list_of ps) i ≡ o → Holds IsClosed o → Holds RewriteIs (nth_rewrite ps (suc i) o)
    go None e k = tt
    go (Some a) e k = (
      ap (nth_rewrite ps (suc i)) e,
      ap (about_nth (list_of ps) (suc i)) e ∙ ap (λ qs. Some (eq_ (apply_ (tuple_ qs) (num_ 0 (suc i))) a)) (parts-list ps),
      (h, (k, tt)),
    )
rewrite-is _ h = tt

rewrite-fits : (f : Tree) → Holds Fits (rewrite f)
rewrite-fits f =
    after-holds Fits (rewritten f) RewriteIs
    (λ r q us n p k. subst (λ o. Says (rewritten_by o f p) us []) (sym q.0) (says_rewrite_by p us [] r f q.1 q.2 n.0 k))
    (first_at rewrite_of f) (at-holds RewriteIs rewrite_of rewrite-is f)

-- the ranks derive and extension
step-fits : (x : Bool) (o : Option Step) → Holds Fits o → Holds Fits (step_if x o)
step-fits true o h = h
step-fits false o h = tt

derive-set-fits : (b : Branch) (s t : Tree) → Holds Fits (derive_set b s t)
derive-set-fits b s t = step-fits (either (is_set s) (is_set t)) _ (step-fits (not (has b (same_members s t))) _ (λ us n p k. same-members-says p us s t n.0 k))

-- g = u, or u = g
derive-second-fits : (b : Branch) (g u : Tree) → Holds Fits (derive_fun b (eq_ g u) g u)
derive-second-fits b g (fun_ s e) =
    step-fits (not (either (is_fun g) (same e (apply_ (shift 0 1 g) (bound 0))))) _ (step-fits (lacks b (eq_ (dom_ g) s) (at_all g s e)) _ (λ us n p k. values-says p us g s e n.0 k))
derive-second-fits b g _ = tt

derive-first-fits : (b : Branch) (g u : Tree) → Holds Fits (derive_fun b (eq_ u g) g u)
derive-first-fits b (fun_ t d) (fun_ s e) = tt
derive-first-fits b g (fun_ s e) =
    step-fits (not (either (is_fun g) (same e (apply_ (shift 0 1 g) (bound 0))))) _ (step-fits (lacks b (eq_ (dom_ g) s) (at_all g s e)) _ (λ us n p k. described-says p us g s e n.0 k))
derive-first-fits b g _ = tt

-- what says which function g is
abbrev Describes : Tree → Described → Type 0
Describes g d = (c : Tree) × (e : Tree) × (d.formula ≡ eq_ c e) × OtherIs c e g d.function

describes-is : (g f : Tree) → Holds (Describes g) (describes g f)
describes-is g (eq_ a (fun_ s e)) = go (same a g) refl
  where
    go : (x : Bool) → same a g ≡ x → Holds (Describes g) (described (eq_ a (fun_ s e)) (when x (fun_ s e)))
    go true q = (a, fun_ s e, refl, subst (λ y. OtherIs y (fun_ s e) g (fun_ s e)) (sym (same-true a g q)) (second-other g (fun_ s e)))
    go false q = tt
describes-is g (eq_ (fun_ s e) a) = go (same a g) refl
  where
    go : (x : Bool) → same a g ≡ x → Holds (Describes g) (described (eq_ (fun_ s e) a) (when x (fun_ s e)))
    go true q = (fun_ s e, a, refl, first-other a g (fun_ s e) (same-true a g q))
    go false q = tt
describes-is g _ = tt

derive-not-fits : (b : Branch) (a c g u : Tree) → OtherIs a c g u → Holds Fits (derive_not b (not_ (eq_ a c)) g u)
derive-not-fits b a c g u o =
    step-fits (is_fun u) _ (step-fits (not (is_fun g)) _
    (after-holds Fits (other_function b (not_ (eq_ a c)) g u) (Describes g) named
    (first_some (describes g) (alive b)) (first-holds (Describes g) (describes g) (λ f. Unit {0}) (λ f k. describes-is g f) (alive b) (each (λ f. Unit {0}) (λ f. tt) (alive b)))))
  where
    named : (d : Described) → Describes g d → Holds Fits (other_function b (not_ (eq_ a c)) g u d)
    named d (x, y, q, r) = step-fits (not (has b (not_ (eq_ d.function u)))) _ (λ us n p k.
        subst (λ z. Says (by_other z p) us []) (sym q) (other-says p us a c x y g u d.function o r n.0 (subst (Has us) q n.1.0) k))
      where
        by_other : Tree → Proof → Proof
        by_other z p = other_function_by (not_ (eq_ a c)) z g p

derive-fits : (b : Branch) (f : Tree) → Holds Fits (derive b f)
derive-fits b (eq_ s t) =
    or-holds Fits (derive_set b s t) _ (derive-set-fits b s t) (or-holds Fits (derive_fun b (eq_ s t) s t) _ (derive-second-fits b s t) (derive-first-fits b t s))
derive-fits b (not_ (eq_ s t)) =
    or-holds Fits (derive_not b (not_ (eq_ s t)) s t) _ (derive-not-fits b s t s t (second-other s t)) (derive-not-fits b s t t s (first-other t t s refl))
derive-fits b _ = tt

extension-fits : (f : Tree) → Holds Fits (extension f)
extension-fits (not_ (eq_ x y)) = step-fits (either (is_set x) (is_set y)) _ (λ us n p k. extension-says p us x y n.0 k)
extension-fits _ = tt

-- the rules at the oldest entry
oldest-fits : (b : Branch) (rule : Tree → Option Step) → ((f : Tree) → Holds Fits (rule f)) → Holds ResultFits (oldest rule 0 b)
oldest-fits b rule h = go (oldest rule 0 b) refl
  where
    go : (o : Option Result) → oldest rule 0 b ≡ o → Holds ResultFits o
    go None e = tt
    go (Some r) e = let f = oldest_is rule b r e in held Fits (rule f.0) r.step f.2 (h f.0)

-- the equation says that its sides, by their order, are equal, one way round or the other
abbrev OrderedIs : Tree → Ordered → Type 0
OrderedIs q o = same q (eq_ o.greater o.smaller) ≡ false → q ≡ eq_ o.smaller o.greater

sides-are : (q : Tree) → Holds (OrderedIs q) (sides_of q)
sides-are (eq_ s t) = whole (not (same s t)) (less s t)
  where
    never : true ≡ false → ⊥
    never e = cc

    whole : (y x : Bool) → Holds (OrderedIs (eq_ s t)) (when y (if_so x (record { greater = t; smaller = s }) (record { greater = s; smaller = t })))
    whole false x = tt
    whole true true = λ e. refl
    whole true false = λ e. absurd (never (sym (same-refl (eq_ s t)) ∙ e))
sides-are _ = tt

replaced-fits : (q : Tree) (o : Ordered) → OrderedIs q o → (f : Tree) → Holds Fits (replaced_by q o f)
replaced-fits q o h f = step-fits (not (same q f)) _ (step-fits (occurs o.greater f) _ (λ us n p k. says_replace_by p us [] q o.greater o.smaller f h n.1.0 n.0 k))

rank-fits : (w : Fresh) (b : Branch) (k : Rank) → Holds ResultFits (by_rank w b k)
rank-fits w b rank.Plain = oldest-fits b plain plain-fits
rank-fits w b rank.Rewrite = oldest-fits b rewrite rewrite-fits
rank-fits w b rank.Derive = oldest-fits b (derive b) (derive-fits b)
rank-fits w b rank.Replace =
    first-holds ResultFits (by_equation b) (λ q. Unit {0})
    (λ q h. after-holds ResultFits (by_sides b q) (OrderedIs q) (λ o k. oldest-fits b (replaced_by q o) (replaced-fits q o k)) (sides_of q) (sides-are q)) (alive b) (each (λ q. Unit {0}) (λ q. tt) (alive b))
rank-fits w b rank.Settle = oldest-fits b (settle b) (settle-fits b)
rank-fits w b rank.Choice = oldest-fits b choice choice-fits
rank-fits w b rank.Split = oldest-fits b split split-fits
rank-fits w b rank.TermSplit = oldest-fits b (term_split b) (term-split-fits b)
rank-fits w b rank.Extension = oldest-fits b extension extension-fits
rank-fits w b rank.Instance = instance-rule-fits w b
rank-fits w b rank.Spare = spare-rule-fits w b
rank-fits w b rank.TakeUp = oldest-fits b (take_up b) (take-up-fits b)

-- what applies to a branch is carried
pub rules_are_carried : (w : Fresh) (b : Branch) (r : Result) → Applies w b r → Carries r.step (by r)
rules_are_carried w b r h = held ResultFits (by_rank w b h.0) r h.1 (rank-fits w b h.0)
