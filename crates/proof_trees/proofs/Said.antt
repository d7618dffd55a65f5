-- What proof trees say, rule by rule.
use Rattle.std.specs.Prelude.{◌≡◌, ℕ, Some, List, [], ◌∷◌, ◌++◌}
use Rattle.std.proofs.Common.{refl, ap, sym, subst, inl, inr}
use Rattle.core_expr.specs.Tree.{Tree, true_, false_, not_, and_, or_, imp_, iff_, eq_, all_, ex_, choose_}
use Rattle.core_expr.specs.Put.{inst, IsScoped}
use Rattle.seq_calculus.specs.Schemas.{instance_of}
use Rattle.seq_calculus.specs.Calculus.{Has, HasAll, IsClosed, AllClosed, Proof, AreCorrect, schema_premise}
use Rattle.seq_calculus.specs.Calculus.Rule.{Ax, TrueR, FalseL, Cut, NotL, NotR, AndL, AndR, OrL, OrR, ImpL, ImpR, IffL, IffR, AllL, AllR, ExL, ExR, Refl, Repl}
use Rattle.seq_calculus.specs.Calculus.Proofs.{no_more, more}
use Rattle.search_definition.proofs.Standing.{closed-of}
use Rattle.proof_writer.specs.Shapes.{leaf, over, join, neg_left, clash, iff_left, iff_not, iff_right, with_schema}
use Rattle.proof_trees.specs.Says.{Says}
use Rattle.proof_trees.proofs.Had.{HasAll-cons, HasAll-itself, HasAll-one, has_of, all_of, inst_closed}

-- fewer formulas are asked of a sequent
pub narrower : (p : Proof) (us vs us1 vs1 : List Tree) → HasAll us us1 → HasAll vs vs1 → Says p us1 vs1 → Says p us vs
narrower p us vs us1 vs1 h k s = λ g d cg cd hg hd. s g d cg cd (all_of g us us1 hg h) (all_of d vs vs1 hd k)

put_on : (x : Tree) (g us : List Tree) → HasAll g us → HasAll (x ∷ g) (x ∷ us)
put_on x g us h = (inl refl, HasAll-cons x g us h)

put_two : (x y : Tree) (g us : List Tree) → HasAll g us → HasAll (x ∷ y ∷ g) (x ∷ y ∷ us)
put_two x y g us h = (inl refl, (inr (inl refl), HasAll-cons x (y ∷ g) us (HasAll-cons y g us h)))

pub says_ax : (us vs : List Tree) (f : Tree) → Has us f → Has vs f → Says (leaf (Ax f)) us vs
says_ax us vs f h k = λ g d cg cd hg hd. (cg, cd, (has_of g us f hg h, has_of d vs f hd k), tt)

pub says_true : (us vs : List Tree) → Has vs true_ → Says (leaf TrueR) us vs
says_true us vs h = λ g d cg cd hg hd. (cg, cd, has_of d vs true_ hd h, tt)

pub says_false : (us vs : List Tree) → Has us false_ → Says (leaf FalseL) us vs
says_false us vs h = λ g d cg cd hg hd. (cg, cd, has_of g us false_ hg h, tt)

pub says_refl : (us vs : List Tree) (t : Tree) → Has vs (eq_ t t) → Says (leaf (Refl t)) us vs
says_refl us vs t h = λ g d cg cd hg hd. (cg, cd, has_of d vs (eq_ t t) hd h, tt)

pub says_cut : (p q : Proof) (us vs : List Tree) (a : Tree) → IsClosed a → Says p us (a ∷ vs) → Says q (a ∷ us) vs → Says (join (Cut a) p q) us vs
says_cut p q us vs a ca h k = λ g d cg cd hg hd. (cg, cd, tt, (h g (a ∷ d) cg (ca, cd) hg (put_on a d vs hd), (k (a ∷ g) d (ca, cg) cd (put_on a g us hg) hd, tt)))

-- the closedness of what stands on a side
on_left : (g us : List Tree) (f : Tree) → AllClosed g → HasAll g us → Has us f → IsClosed f
on_left g us f cg hg h = closed-of g f cg (has_of g us f hg h)

pub says_not_l : (p : Proof) (us vs : List Tree) (a : Tree) → Has us (not_ a) → Says p us (a ∷ vs) → Says (over (NotL a) p) us vs
says_not_l p us vs a h k = λ g d cg cd hg hd. (cg, cd, has_of g us (not_ a) hg h, (k g (a ∷ d) cg ((on_left g us (not_ a) cg hg h).0, cd) hg (put_on a d vs hd), tt))

pub says_not_r : (p : Proof) (us vs : List Tree) (a : Tree) → Has vs (not_ a) → Says p (a ∷ us) vs → Says (over (NotR a) p) us vs
says_not_r p us vs a h k = λ g d cg cd hg hd. (cg, cd, has_of d vs (not_ a) hd h, (k (a ∷ g) d ((on_left d vs (not_ a) cd hd h).0, cg) cd (put_on a g us hg) hd, tt))

pub says_and_l : (p : Proof) (us vs : List Tree) (a b : Tree) → Has us (and_ a b) → Says p (a ∷ b ∷ us) vs → Says (over (AndL a b) p) us vs
says_and_l p us vs a b h k = λ g d cg cd hg hd.
    let c = on_left g us (and_ a b) cg hg h in
    (cg, cd, has_of g us (and_ a b) hg h, (k (a ∷ b ∷ g) d (c.0, (c.1.0, cg)) cd (put_two a b g us hg) hd, tt))

pub says_and_r : (p q : Proof) (us vs : List Tree) (a b : Tree) → Has vs (and_ a b) → Says p us (a ∷ vs) → Says q us (b ∷ vs) → Says (join (AndR a b) p q) us vs
says_and_r p q us vs a b h k l = λ g d cg cd hg hd.
    let c = on_left d vs (and_ a b) cd hd h in
    (cg, cd, has_of d vs (and_ a b) hd h, (k g (a ∷ d) cg (c.0, cd) hg (put_on a d vs hd), (l g (b ∷ d) cg (c.1.0, cd) hg (put_on b d vs hd), tt)))

pub says_or_l : (p q : Proof) (us vs : List Tree) (a b : Tree) → Has us (or_ a b) → Says p (a ∷ us) vs → Says q (b ∷ us) vs → Says (join (OrL a b) p q) us vs
says_or_l p q us vs a b h k l = λ g d cg cd hg hd.
    let c = on_left g us (or_ a b) cg hg h in
    (cg, cd, has_of g us (or_ a b) hg h, (k (a ∷ g) d (c.0, cg) cd (put_on a g us hg) hd, (l (b ∷ g) d (c.1.0, cg) cd (put_on b g us hg) hd, tt)))

pub says_or_r : (p : Proof) (us vs : List Tree) (a b : Tree) → Has vs (or_ a b) → Says p us (a ∷ b ∷ vs) → Says (over (OrR a b) p) us vs
says_or_r p us vs a b h k = λ g d cg cd hg hd.
    let c = on_left d vs (or_ a b) cd hd h in
    (cg, cd, has_of d vs (or_ a b) hd h, (k g (a ∷ b ∷ d) cg (c.0, (c.1.0, cd)) hg (put_two a b d vs hd), tt))

pub says_imp_l : (p q : Proof) (us vs : List Tree) (a b : Tree) → Has us (imp_ a b) → Says p us (a ∷ vs) → Says q (b ∷ us) vs → Says (join (ImpL a b) p q) us vs
says_imp_l p q us vs a b h k l = λ g d cg cd hg hd.
    let c = on_left g us (imp_ a b) cg hg h in
    (cg, cd, has_of g us (imp_ a b) hg h, (k g (a ∷ d) cg (c.0, cd) hg (put_on a d vs hd), (l (b ∷ g) d (c.1.0, cg) cd (put_on b g us hg) hd, tt)))

pub says_imp_r : (p : Proof) (us vs : List Tree) (a b : Tree) → Has vs (imp_ a b) → Says p (a ∷ us) (b ∷ vs) → Says (over (ImpR a b) p) us vs
says_imp_r p us vs a b h k = λ g d cg cd hg hd.
    let c = on_left d vs (imp_ a b) cd hd h in
    (cg, cd, has_of d vs (imp_ a b) hd h, (k (a ∷ g) (b ∷ d) (c.0, cg) (c.1.0, cd) (put_on a g us hg) (put_on b d vs hd), tt))

pub says_iff_l : (p q : Proof) (us vs : List Tree) (a b : Tree) → Has us (iff_ a b) → Says p (a ∷ b ∷ us) vs → Says q us (a ∷ b ∷ vs) → Says (join (IffL a b) p q) us vs
says_iff_l p q us vs a b h k l = λ g d cg cd hg hd.
    let c = on_left g us (iff_ a b) cg hg h in
    (cg, cd, has_of g us (iff_ a b) hg h, (k (a ∷ b ∷ g) d (c.0, (c.1.0, cg)) cd (put_two a b g us hg) hd, (l g (a ∷ b ∷ d) cg (c.0, (c.1.0, cd)) hg (put_two a b d vs hd), tt)))

pub says_iff_r : (p q : Proof) (us vs : List Tree) (a b : Tree) → Has vs (iff_ a b) → Says p (a ∷ us) (b ∷ vs) → Says q (b ∷ us) (a ∷ vs) → Says (join (IffR a b) p q) us vs
says_iff_r p q us vs a b h k l = λ g d cg cd hg hd.
    let c = on_left d vs (iff_ a b) cd hd h in
    (cg, cd, has_of d vs (iff_ a b) hd h, (k (a ∷ g) (b ∷ d) (c.0, cg) (c.1.0, cd) (put_on a g us hg) (put_on b d vs hd), (l (b ∷ g) (a ∷ d) (c.1.0, cg) (c.0, cd) (put_on b g us hg) (put_on a d vs hd), tt)))

pub says_all_l : (p : Proof) (us vs : List Tree) (q t : Tree) → Has us (all_ q) → IsClosed t → Says p (inst q t ∷ us) vs → Says (over (AllL q t) p) us vs
says_all_l p us vs q t h ct k = λ g d cg cd hg hd. (cg, cd, (has_of g us (all_ q) hg h, ct), (k (inst q t ∷ g) d (inst_closed q t ct, cg) cd (put_on (inst q t) g us hg) hd, tt))

pub says_all_r : (p : Proof) (us vs : List Tree) (q : Tree) → Has vs (all_ q) → Says p us (inst q (choose_ (not_ q)) ∷ vs) → Says (over (AllR q) p) us vs
says_all_r p us vs q h k = λ g d cg cd hg hd.
    let c = on_left d vs (all_ q) cd hd h in
    (cg, cd, has_of d vs (all_ q) hd h, (k g (inst q (choose_ (not_ q)) ∷ d) cg (inst_closed q (choose_ (not_ q)) (tt, (c.1, tt)), cd) hg (put_on (inst q (choose_ (not_ q))) d vs hd), tt))

pub says_ex_l : (p : Proof) (us vs : List Tree) (q : Tree) → Has us (ex_ q) → Says p (inst q (choose_ q) ∷ us) vs → Says (over (ExL q) p) us vs
says_ex_l p us vs q h k = λ g d cg cd hg hd.
    let c = on_left g us (ex_ q) cg hg h in
    (cg, cd, has_of g us (ex_ q) hg h, (k (inst q (choose_ q) ∷ g) d (inst_closed q (choose_ q) c, cg) cd (put_on (inst q (choose_ q)) g us hg) hd, tt))

pub says_ex_r : (p : Proof) (us vs : List Tree) (q t : Tree) → Has vs (ex_ q) → IsClosed t → Says p us (inst q t ∷ vs) → Says (over (ExR q t) p) us vs
says_ex_r p us vs q t h ct k = λ g d cg cd hg hd. (cg, cd, (has_of d vs (ex_ q) hd h, ct), (k g (inst q t ∷ d) cg (inst_closed q t ct, cd) hg (put_on (inst q t) d vs hd), tt))

-- The replacement by an equation.
pub says_repl : (p : Proof) (us vs : List Tree) (h s t : Tree) → Has us (eq_ s t) → Has us (inst h s) → IsScoped 1 h → Says p (inst h t ∷ us) vs → Says (over (Repl h s t) p) us vs
says_repl p us vs h s t e k ch l = λ g d cg cd hg hd.
    let c = on_left g us (eq_ s t) cg hg e in
    (cg, cd, (has_of g us (eq_ s t) hg e, has_of g us (inst h s) hg k, ch), (l (inst h t ∷ g) d (inst_closed h t c.1.0, cg) cd (put_on (inst h t) g us hg) hd, tt))

-- The instance of a schema comes to the left.
pub says_schema : (p : Proof) (us vs : List Tree) (k z : ℕ) (ps : List Tree) (i : Tree) → IsClosed i → instance_of k z ps ≡ Some i → Says p (i ∷ us) vs → Says (with_schema k z ps p) us vs
says_schema p us vs k z ps i ci e h = λ g d cg cd hg hd.
    (cg, cd, (i, e), subst (AreCorrect (more p no_more)) (sym (ap (λ o. schema_premise o g d) e)) (h (i ∷ g) d (ci, cg) cd (put_on i g us hg) hd, tt))

-- macros

pub says_neg_left : (p : Proof) (us vs : List Tree) (a : Tree) → Has vs a → Says p (not_ a ∷ us) vs → Says (neg_left a p) us vs
says_neg_left p us vs a h k = λ g d cg cd hg hd.
    let ca : IsClosed a = on_left d vs a cd hd h in
    says_cut (over (NotR a) (leaf (Ax a))) p us vs (not_ a) (ca, tt) (says_not_r (leaf (Ax a)) us (not_ a ∷ vs) a (inl refl) (says_ax (a ∷ us) (not_ a ∷ vs) a (inl refl) (inr h))) k g d cg cd hg hd

pub says_clash : (us vs : List Tree) (a : Tree) → Has us a → Has us (not_ a) → Says (clash a) us vs
says_clash us vs a h k = says_not_l (leaf (Ax a)) us vs a k (says_ax us (a ∷ vs) a h (inl refl))

pub says_iff_left : (p : Proof) (us vs : List Tree) (k z : ℕ) (ps : List Tree) (l r : Tree) → IsClosed (iff_ l r) → instance_of k z ps ≡ Some (iff_ l r) → Has us l → Says p (r ∷ us) vs → Says (iff_left k z ps l r p) us vs
says_iff_left p us vs k z ps l r ci e h s =
    says_schema (join (IffL l r) p (leaf (Ax l))) us vs k z ps (iff_ l r) ci e
    (says_iff_l p (leaf (Ax l)) (iff_ l r ∷ us) vs l r (inl refl)
    (narrower p (l ∷ r ∷ iff_ l r ∷ us) vs (r ∷ us) vs (inr (inl refl), HasAll-cons l (r ∷ iff_ l r ∷ us) us (HasAll-cons r (iff_ l r ∷ us) us (HasAll-cons (iff_ l r) us us (HasAll-itself us)))) (HasAll-itself vs) s)
    (says_ax (iff_ l r ∷ us) (l ∷ r ∷ vs) l (inr h) (inl refl)))

pub says_iff_not : (p : Proof) (us vs : List Tree) (k z : ℕ) (ps : List Tree) (l r : Tree) → IsClosed (iff_ l r) → instance_of k z ps ≡ Some (iff_ l r) → Has us (not_ l) → Says p (not_ r ∷ us) vs → Says (iff_not k z ps l r p) us vs
says_iff_not p us vs k z ps l r ci e h s =
    says_schema (join (IffL l r) (clash l) (neg_left r p)) us vs k z ps (iff_ l r) ci e
    (says_iff_l (clash l) (neg_left r p) (iff_ l r ∷ us) vs l r (inl refl)
    (says_clash (l ∷ r ∷ iff_ l r ∷ us) vs l (inl refl) (inr (inr (inr h))))
    (says_neg_left p (iff_ l r ∷ us) (l ∷ r ∷ vs) r (inr (inl refl))
    (narrower p (not_ r ∷ iff_ l r ∷ us) (l ∷ r ∷ vs) (not_ r ∷ us) vs (inl refl, HasAll-cons (not_ r) (iff_ l r ∷ us) us (HasAll-cons (iff_ l r) us us (HasAll-itself us))) (HasAll-cons l (r ∷ vs) vs (HasAll-cons r vs vs (HasAll-itself vs))) s)))

-- l is on the right, and p shows r
pub says_iff_right : (p : Proof) (us vs : List Tree) (k z : ℕ) (ps : List Tree) (l r : Tree) → IsClosed (iff_ l r) → instance_of k z ps ≡ Some (iff_ l r) → Has vs l → Says p us (r ∷ vs) → Says (iff_right k z ps l r p) us vs
says_iff_right p us vs k z ps l r ci e h s =
    says_schema (join (IffL l r) (leaf (Ax l)) p) us vs k z ps (iff_ l r) ci e
    (says_iff_l (leaf (Ax l)) p (iff_ l r ∷ us) vs l r (inl refl)
    (says_ax (l ∷ r ∷ iff_ l r ∷ us) vs l (inl refl) h)
    (narrower p (iff_ l r ∷ us) (l ∷ r ∷ vs) us (r ∷ vs) (HasAll-one (iff_ l r) us) (inr (inl refl), HasAll-cons l (r ∷ vs) vs (HasAll-one r vs)) s))

-- more on either side
pub says_under : (p : Proof) (us vs : List Tree) (x : Tree) → Says p us vs → Says p (x ∷ us) vs
says_under p us vs x k = narrower p (x ∷ us) vs us vs (HasAll-one x us) (HasAll-itself vs) k

pub says_beside : (p : Proof) (us vs : List Tree) (x : Tree) → Says p us vs → Says p us (x ∷ vs)
says_beside p us vs x k = narrower p us (x ∷ vs) us vs (HasAll-itself us) (HasAll-one x vs) k

pub wider : (p : Proof) (us vs : List Tree) → Says p us [] → Says p us vs
wider p us vs s = narrower p us vs us [] (HasAll-itself us) tt s

-- more behind what is added
pub says_behind : (p : Proof) (fs us vs : List Tree) (x : Tree) → Says p (fs ++ us) vs → Says p (fs ++ (x ∷ us)) vs
says_behind p fs us vs x k = narrower p (fs ++ (x ∷ us)) vs (fs ++ us) vs (put_in fs x us) (HasAll-itself vs) k
  where
    put_in : (fs : List Tree) (x : Tree) (us : List Tree) → HasAll (fs ++ (x ∷ us)) (fs ++ us)
    put_in [] x us = HasAll-one x us
    put_in (f ∷ fs) x us = (inl refl, HasAll-cons f (fs ++ (x ∷ us)) (fs ++ us) (put_in fs x us))

-- a proof of what a closed left side has
pub under_closed : (p : Proof) (us vs : List Tree) (f : Tree) → Has us f → (IsClosed f → Says p us vs) → Says p us vs
under_closed p us vs f h k = λ g d cg cd hg hd. k (closed-of g f cg (has_of g us f hg h)) g d cg cd hg hd
