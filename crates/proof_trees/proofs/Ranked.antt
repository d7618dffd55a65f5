-- The shapes of the ranks plain, choice, split, instance and spare carry their rules.
use Rattle.std.specs.Prelude.{◌≡◌, Option, Some, None, List, [], ◌∷◌, ◌++◌}
use Rattle.std.proofs.Common.{refl, sym, subst, inl, inr}
use Rattle.core_expr.specs.Tree.{Tree, not_, and_, or_, imp_, iff_, all_, ex_, choose_}
use Rattle.core_expr.specs.Put.{inst}
use Rattle.seq_calculus.specs.Calculus.{Has, IsClosed, Proof}
use Rattle.seq_calculus.specs.Calculus.Rule.{NotR, AndR, OrR, ImpR, IffR, AllR, ExR}
use Rattle.search_definition.specs.Rules.{Step}
use Rattle.search_definition.specs.Plain.{Left, left_side, choice}
use Rattle.search_definition.specs.Plain.{by_left as left_step}
use Rattle.search_definition.specs.Plain.{by_not_left as not_left_step}
use Rattle.search_definition.specs.Equations.{right_or}
use Rattle.search_definition.specs.Splits.{Splitting, splitting, split}
use Rattle.search_definition.proofs.Lefts.{LeftRow, LeftScoped, left_side-row, left_side-scoped}
use Rattle.search_definition.proofs.Standing.{Holds}
use Rattle.proof_writer.specs.Shapes.{over, join, neg_left}
use Rattle.proof_trees.specs.Says.{Says, Carries}
use Rattle.proof_trees.specs.Simple.{by_left, by_not_left, plain_by, split_by, instance_by}
use Rattle.proof_trees.specs.By.{step_by}
use Rattle.proof_trees.proofs.Had.{HasAll-cons, HasAll-itself, HasAll-one}
use Rattle.proof_trees.proofs.Said.{narrower, wider, under_closed, says_not_l, says_not_r, says_and_r, says_or_l, says_or_r, says_imp_l, says_imp_r, says_iff_l, says_iff_r, says_all_l, says_all_r, says_ex_l, says_ex_r, says_neg_left, says_iff_left, says_iff_not}

-- the step is carried by its rule's shape
abbrev pub Fits : Step → Type 0
Fits s = Carries s (step_by s)

-- f is on the left; p has the right side of its schema there, or f
pub says_by_left : (p : Proof) (us vs : List Tree) (f : Tree) (o : Option Left) → LeftRow f o → LeftScoped 0 o → IsClosed f → Has us f → Says p (right_or f o ∷ us) vs → Says (by_left f o p) us vs
says_by_left p us vs f None r c cf h k = narrower p us vs (f ∷ us) vs (h, HasAll-itself us) (HasAll-itself vs) k
says_by_left p us vs f (Some l) r c cf h k = says_iff_left p us vs l.schema l.z l.params f l.right (cf, (c, tt)) r h k

pub left-fits : (f : Tree) (o : Option Left) → left_side f ≡ o → Holds Fits (left_step f o)
left-fits f None e = tt
left-fits f (Some l) e = λ us n p k.
    under_closed (by_left f (left_side f) p) us [] f n.0
    (λ cf. says_by_left p us [] f (left_side f) (left_side-row f) (left_side-scoped 0 f cf) cf n.0 (subst (λ o. Says p (right_or f o ∷ us) []) (sym e) k))

pub not_left-fits : (a : Tree) (o : Option Left) → left_side a ≡ o → Holds Fits (not_left_step (not_ a) o)
not_left-fits a None e = tt
not_left-fits a (Some l) e = λ us n p k.
    under_closed (by_not_left a (left_side a) p) us [] (not_ a) n.0
    (λ cf. subst (λ o. Says (by_not_left a o p) us []) (sym e)
    (says_iff_not p us [] l.schema l.z l.params a l.right (cf.0, (subst (LeftScoped 0) e (left_side-scoped 0 a cf.0), tt)) (subst (LeftRow a) e (left_side-row a)) n.0 k))

pub double-not-says : (p : Proof) (us : List Tree) (a : Tree) → Has us (not_ (not_ a)) → Says p (a ∷ us) [] → Says (plain_by (not_ (not_ a)) p) us []
double-not-says p us a n s = says_not_l (over (NotR a) p) us [] (not_ a) n (says_not_r p us (not_ a ∷ []) a (inl refl) (wider p (a ∷ us) (not_ a ∷ []) s))

pub not-or-says : (p : Proof) (us : List Tree) (a b : Tree) → Has us (not_ (or_ a b)) → Says p (not_ a ∷ not_ b ∷ us) [] → Says (plain_by (not_ (or_ a b)) p) us []
not-or-says p us a b n s =
    says_not_l (over (OrR a b) (neg_left a (neg_left b p))) us [] (or_ a b) n
    (says_or_r (neg_left a (neg_left b p)) us (or_ a b ∷ []) a b (inl refl)
    (says_neg_left (neg_left b p) us (a ∷ b ∷ or_ a b ∷ []) a (inl refl)
    (says_neg_left p (not_ a ∷ us) (a ∷ b ∷ or_ a b ∷ []) b (inr (inl refl))
    (narrower p (not_ b ∷ not_ a ∷ us) (a ∷ b ∷ or_ a b ∷ []) (not_ a ∷ not_ b ∷ us) [] (inr (inl refl), (inl refl, HasAll-cons (not_ b) (not_ a ∷ us) us (HasAll-one (not_ a) us))) tt s))))

pub not-imp-says : (p : Proof) (us : List Tree) (a b : Tree) → Has us (not_ (imp_ a b)) → Says p (a ∷ not_ b ∷ us) [] → Says (plain_by (not_ (imp_ a b)) p) us []
not-imp-says p us a b n s =
    says_not_l (over (ImpR a b) (neg_left b p)) us [] (imp_ a b) n
    (says_imp_r (neg_left b p) us (imp_ a b ∷ []) a b (inl refl)
    (says_neg_left p (a ∷ us) (b ∷ imp_ a b ∷ []) b (inl refl)
    (narrower p (not_ b ∷ a ∷ us) (b ∷ imp_ a b ∷ []) (a ∷ not_ b ∷ us) [] (inr (inl refl), (inl refl, HasAll-cons (not_ b) (a ∷ us) us (HasAll-one a us))) tt s)))

-- both orders of two that are added
swapped : (p : Proof) (a b : Tree) (us vs : List Tree) → Says p (a ∷ b ∷ us) [] → Says p (b ∷ a ∷ us) vs
swapped p a b us vs s = narrower p (b ∷ a ∷ us) vs (a ∷ b ∷ us) [] (inr (inl refl), (inl refl, HasAll-cons b (a ∷ us) us (HasAll-one a us))) tt s

-- a formula that is split, over the proofs of its sides
abbrev pub SplitSays : Tree → Splitting → Type 0
SplitSays f s = (us : List Tree) (p q : Proof) → Has us f → Says p (s.left ++ us) [] → Says q (s.right ++ us) [] → Says (split_by f p q) us []

pub split-says : (f : Tree) → Holds (SplitSays f) (splitting f)
split-says (or_ a b) = λ us p q n s r. says_or_l p q us [] a b n s r
split-says (not_ (and_ a b)) = λ us p q n s r.
    says_not_l (join (AndR a b) (neg_left a p) (neg_left b q)) us [] (and_ a b) n
    (says_and_r (neg_left a p) (neg_left b q) us (and_ a b ∷ []) a b (inl refl)
    (says_neg_left p us (a ∷ and_ a b ∷ []) a (inl refl) (wider p (not_ a ∷ us) (a ∷ and_ a b ∷ []) s))
    (says_neg_left q us (b ∷ and_ a b ∷ []) b (inl refl) (wider q (not_ b ∷ us) (b ∷ and_ a b ∷ []) r)))
split-says (imp_ a b) = λ us p q n s r. says_imp_l (neg_left a p) q us [] a b n (says_neg_left p us (a ∷ []) a (inl refl) (wider p (not_ a ∷ us) (a ∷ []) s)) r
split-says (iff_ a b) = λ us p q n s r.
    says_iff_l p (neg_left a (neg_left b q)) us [] a b n s
    (says_neg_left (neg_left b q) us (a ∷ b ∷ []) a (inl refl) (says_neg_left q (not_ a ∷ us) (a ∷ b ∷ []) b (inr (inl refl)) (swapped q (not_ a) (not_ b) us (a ∷ b ∷ []) r)))
split-says (not_ (iff_ a b)) = λ us p q n s r.
    says_not_l (join (IffR a b) (neg_left b p) (neg_left a q)) us [] (iff_ a b) n
    (says_iff_r (neg_left b p) (neg_left a q) us (iff_ a b ∷ []) a b (inl refl)
    (says_neg_left p (a ∷ us) (b ∷ iff_ a b ∷ []) b (inl refl) (swapped p a (not_ b) us (b ∷ iff_ a b ∷ []) s))
    (says_neg_left q (b ∷ us) (a ∷ iff_ a b ∷ []) a (inl refl) (wider q (not_ a ∷ b ∷ us) (a ∷ iff_ a b ∷ []) r)))
split-says _ = tt

pub split-fits : (f : Tree) → Holds Fits (split f)
split-fits (or_ a b) = λ us n p q. split-says (or_ a b) us p q n.0
split-fits (not_ (and_ a b)) = λ us n p q. split-says (not_ (and_ a b)) us p q n.0
split-fits (imp_ a b) = λ us n p q. split-says (imp_ a b) us p q n.0
split-fits (iff_ a b) = λ us n p q. split-says (iff_ a b) us p q n.0
split-fits (not_ (iff_ a b)) = λ us n p q. split-says (not_ (iff_ a b)) us p q n.0
split-fits _ = tt

pub choice-fits : (f : Tree) → Holds Fits (choice f)
choice-fits (ex_ q) = λ us n p s. says_ex_l p us [] q n.0 s
choice-fits (not_ (all_ q)) = λ us n p s.
    let c : Tree = inst q (choose_ (not_ q)) in
    says_not_l (over (AllR q) (neg_left c p)) us [] (all_ q) n.0
    (says_all_r (neg_left c p) us (all_ q ∷ []) q (inl refl) (says_neg_left p us (c ∷ all_ q ∷ []) c (inl refl) (wider p (not_ c ∷ us) (c ∷ all_ q ∷ []) s)))
choice-fits _ = tt

pub all-says : (p : Proof) (us : List Tree) (q t : Tree) → IsClosed t → Has us (all_ q) → Says p (inst q t ∷ us) [] → Says (instance_by t (all_ q) p) us []
all-says p us q t ct n k = says_all_l p us [] q t n ct k

pub not-ex-says : (p : Proof) (us : List Tree) (q t : Tree) → IsClosed t → Has us (not_ (ex_ q)) → Says p (not_ (inst q t) ∷ us) [] → Says (instance_by t (not_ (ex_ q)) p) us []
not-ex-says p us q t ct n k =
    says_not_l (over (ExR q t) (neg_left (inst q t) p)) us [] (ex_ q) n
    (says_ex_r (neg_left (inst q t) p) us (ex_ q ∷ []) q t (inl refl) ct
    (says_neg_left p us (inst q t ∷ ex_ q ∷ []) (inst q t) (inl refl) (wider p (not_ (inst q t) ∷ us) (inst q t ∷ ex_ q ∷ []) k)))
