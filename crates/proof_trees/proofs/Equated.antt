-- Function sets and the ranks derive and extension are carried.
use Rattle.std.specs.Prelude.{◌≡◌, Bool, true, false, Option, Some, None, List, [], ◌∷◌}
use Rattle.std.proofs.Common.{refl, sym, ◌∙◌, subst, arith, inl, inr}
use Rattle.core_expr.specs.Tree.{Tree, not_, and_, imp_, iff_, eq_, in_, funset_, dom_, apply_, all_, choose_, fun_}
use Rattle.core_expr.specs.Tree.Tree.{bound}
use Rattle.core_expr.specs.Tree.Parts.{end, part}
use Rattle.core_expr.specs.Put.{inst, shift, put, IsScoped}
use Rattle.core_expr.specs.Terms.{same}
use Rattle.core_expr.proofs.Equal.{same-refl, same-true}
use Rattle.core_expr.proofs.Laws.{put_closed, shift_closed}
use Rattle.seq_calculus.specs.Calculus.{Has, IsClosed, Proof}
use Rattle.seq_calculus.specs.Calculus.Rule.{Ax, Cut, Schema, NotR, NotL, AndL, ImpR, ImpL, IffR, IffL, AllL, Repl}
use Rattle.search_definition.specs.Terms.{if_so}
use Rattle.search_definition.specs.Plain.{Left, member}
use Rattle.search_definition.specs.Equations.{right_or, same_members, at_all}
use Rattle.search_definition.proofs.Lefts.{LeftRow, LeftScoped, member-row, member-scoped, members-scoped, members-inst, low}
use Rattle.proof_writer.specs.Shapes.{leaf, over, join, clash, mirror}
use Rattle.proof_trees.specs.Says.{Says}
use Rattle.proof_trees.specs.Simple.{by_left}
use Rattle.seq_calculus.specs.Schemas.{about_extensionality}
use Rattle.proof_trees.specs.Equated.{function_set_with, left_back, domain_by, function_set_by, at_body, value_at, values_shown, described_by, not_mirror, denied_by, said_by, other_function_by, member_at, moved_by, same_body, members_shown, same_members_by, carried_by, elements_body, elements_shown, extension_by}
use Rattle.proof_trees.proofs.Had.{HasAll-cons, HasAll-itself, HasAll-one, HasAll-more, inst_closed, loosen}
use Rattle.proof_trees.proofs.Said.{narrower, under_closed, says_ax, says_cut, says_not_l, says_not_r, says_and_l, says_imp_l, says_imp_r, says_iff_l, says_iff_r, says_all_l, says_all_r, says_repl, says_schema, says_clash, says_iff_left}
use Rattle.proof_trees.proofs.Replaced.{put_var, says_mirror}
use Rattle.proof_trees.proofs.Ranked.{says_by_left}

-- a closed term stays where t is put
still : (t a : Tree) → IsClosed a → put 0 (part t end) a ≡ a
still t a ca = put_closed 0 0 (part t end) a (omega arith) ca

-- a closed term is itself under a binder
itself : (a : Tree) → IsClosed a → shift 0 1 a ≡ a
itself a ca = shift_closed 0 0 1 a (omega arith) ca

-- the right side is on the left; p has f there
pub says_left_back : (p : Proof) (us vs : List Tree) (f : Tree) (o : Option Left) → LeftRow f o → LeftScoped 0 o → IsClosed f → Has us (right_or f o) → Says p (f ∷ us) vs → Says (left_back f o p) us vs
says_left_back p us vs f None r c cf h k = narrower p us vs (f ∷ us) vs (h, HasAll-itself us) (HasAll-itself vs) k
says_left_back p us vs f (Some l) r c cf h k =
    let i : Tree = iff_ f l.right in
    says_schema (join (IffL f l.right) p (leaf (Ax l.right))) us vs l.schema l.z l.params i (cf, (c, tt)) r
    (says_iff_l p (leaf (Ax l.right)) (i ∷ us) vs f l.right (inl refl)
    (narrower p (f ∷ l.right ∷ i ∷ us) vs (f ∷ us) vs (inl refl, HasAll-cons f (l.right ∷ i ∷ us) us (HasAll-cons l.right (i ∷ us) us (HasAll-one i us))) (HasAll-itself vs) k)
    (says_ax (i ∷ us) (f ∷ l.right ∷ vs) l.right (inr h) (inr (inl refl))))

-- Fun(S; e) = g is on the left
says_domain : (p : Proof) (us vs : List Tree) (g s e : Tree) → Has us (eq_ (fun_ s e) g) → Says p (eq_ (dom_ g) s ∷ us) vs → Says (domain_by g s e p) us vs
says_domain p us vs g s e h k =
    under_closed (domain_by g s e p) us vs (eq_ (fun_ s e) g) h
    (λ c. let cs : IsClosed s = c.0.0.0 in
    let u : Tree = fun_ s e in
    let i : Tree = eq_ (dom_ u) s in
    let at : (x : Tree) → IsClosed x → inst (eq_ (dom_ (bound 0)) s) x ≡ eq_ (dom_ x) s = λ x cx j. eq_ (dom_ (put_var 0 x cx j)) (still x s cs j) in
    says_schema (over (Repl (eq_ (dom_ (bound 0)) s) u g) p) us vs 15 0 (s ∷ e ∷ []) i ((c.0, tt), (cs, tt)) refl
    (says_repl p (i ∷ us) vs (eq_ (dom_ (bound 0)) s) u g (inr h) (inl (sym (at u c.0))) ((omega arith, tt), (loosen 0 s cs, tt))
    (subst (λ x. Says p (x ∷ i ∷ us) vs) (sym (at g c.1.0)) (narrower p (eq_ (dom_ g) s ∷ i ∷ us) vs (eq_ (dom_ g) s ∷ us) vs (inl refl, HasAll-cons (eq_ (dom_ g) s) (i ∷ us) us (HasAll-one i us)) (HasAll-itself vs) k))))

pub function-set-says : (p : Proof) (us : List Tree) (f s t : Tree) → Has us (in_ f (funset_ s t))
    → Says p (eq_ f (fun_ s (apply_ (shift 0 1 f) (bound 0))) ∷ eq_ (dom_ f) s ∷ all_ (imp_ (in_ (bound 0) (shift 0 1 s)) (in_ (apply_ (shift 0 1 f) (bound 0)) (shift 0 1 t))) ∷ us) []
    → Says (function_set_by (in_ f (funset_ s t)) p) us []
function-set-says p us f s t h k =
    under_closed (function_set_by (in_ f (funset_ s t)) p) us [] (in_ f (funset_ s t)) h
    (λ c. let v : Tree = apply_ (shift 0 1 f) (bound 0) in
    let e : Tree = eq_ f (fun_ s v) in
    let a : Tree = all_ (imp_ (in_ (bound 0) (shift 0 1 s)) (in_ v (shift 0 1 t))) in
    let cr : IsClosed (and_ e a) = (member-scoped 0 f (funset_ s t) c.0 c.1.0) in
    let here : function_set_with f s t (shift 0 1 f) (shift 0 1 s) (shift 0 1 t) p ≡ function_set_with f s t f s t p = λ i. function_set_with f s t (itself f c.0 i) (itself s c.1.0.0 i) (itself t c.1.0.1.0 i) p in
    subst (λ x. Says x us []) here
    (says_iff_left (over (AndL e a) (mirror f (fun_ s v) (domain_by f s v p))) us [] 18 0 (f ∷ s ∷ t ∷ []) (in_ f (funset_ s t)) (and_ e a) (c, (cr, tt)) refl h
    (says_and_l (mirror f (fun_ s v) (domain_by f s v p)) (and_ e a ∷ us) [] e a (inl refl)
    (says_mirror (domain_by f s v p) (e ∷ a ∷ and_ e a ∷ us) [] f (fun_ s v) (inl refl)
    (says_domain p (eq_ (fun_ s v) f ∷ e ∷ a ∷ and_ e a ∷ us) [] f s v (inl refl)
    (narrower p (eq_ (dom_ f) s ∷ eq_ (fun_ s v) f ∷ e ∷ a ∷ and_ e a ∷ us) [] (e ∷ eq_ (dom_ f) s ∷ a ∷ us) []
    (inr (inr (inl refl)), (inl refl, (inr (inr (inr (inl refl))), HasAll-more (eq_ (dom_ f) s ∷ eq_ (fun_ s v) f ∷ e ∷ a ∷ and_ e a ∷ []) us))) tt k))))))

-- the value of g at c
says_value_at : (us vs : List Tree) (g s e c : Tree) → IsClosed c → Has us (eq_ (fun_ s e) g) → Has us (in_ c s) → Has vs (eq_ (apply_ g c) (inst e c)) → Says (value_at g s e c) us vs
says_value_at us vs g s e c cc_ h m v =
    under_closed (value_at g s e c) us vs (eq_ (fun_ s e) g) h
    (λ q. let u : Tree = fun_ s e in
    let w : Tree = inst e c in
    let cw : IsClosed w = inst_closed e c cc_ in
    let i : Tree = imp_ (in_ c s) (eq_ (apply_ u c) w) in
    let y : Tree = eq_ (apply_ u c) w in
    let z : Tree = eq_ (apply_ g c) w in
    let at : (x : Tree) → IsClosed x → inst (eq_ (apply_ (bound 0) c) w) x ≡ eq_ (apply_ x c) w = λ x cx j. eq_ (apply_ (put_var 0 x cx j) (still x c cc_ j)) (still x w cw j) in
    says_schema (join (ImpL (in_ c s) y) (leaf (Ax (in_ c s))) (over (Repl (eq_ (apply_ (bound 0) c) w) u g) (leaf (Ax z)))) us vs 16 0 (c ∷ s ∷ e ∷ []) i
    ((cc_, (q.0.0.0, tt)), (((q.0, (cc_, tt)), (cw, tt)), tt)) refl
    (says_imp_l (leaf (Ax (in_ c s))) (over (Repl (eq_ (apply_ (bound 0) c) w) u g) (leaf (Ax z))) (i ∷ us) vs (in_ c s) y (inl refl)
    (says_ax (i ∷ us) (in_ c s ∷ vs) (in_ c s) (inr m) (inl refl))
    (says_repl (leaf (Ax z)) (y ∷ i ∷ us) vs (eq_ (apply_ (bound 0) c) w) u g (inr (inr h)) (inl (sym (at u q.0))) ((omega arith, (loosen 0 c cc_, tt)), (loosen 0 w cw, tt))
    (subst (λ x. Says (leaf (Ax z)) (x ∷ y ∷ i ∷ us) vs) (sym (at g q.1.0)) (says_ax (z ∷ y ∷ i ∷ us) vs z (inl refl) v)))))

-- what the body says of c
at-body : (g s e c : Tree) → IsClosed g → IsClosed s → IsClosed c → inst (at_body g s e) c ≡ imp_ (in_ c s) (eq_ (apply_ g c) (inst e c))
at-body g s e c cg cs cc_ = λ i. imp_ (in_ (put_var 0 c cc_ i) (still c s cs i)) (eq_ (apply_ (still c g cg i) (put_var 0 c cc_ i)) (inst e c))

says_described : (p : Proof) (us vs : List Tree) (g s e : Tree) → Has us (eq_ (fun_ s e) g) → Says p (eq_ (dom_ g) s ∷ at_all g s e ∷ us) vs → Says (described_by g s e p) us vs
says_described p us vs g s e h k =
    under_closed (described_by g s e p) us vs (eq_ (fun_ s e) g) h
    (λ q. let b : Tree = at_body g s e in
    let cg : IsClosed g = q.1.0 in
    let cs : IsClosed s = q.0.0.0 in
    let cb : IsScoped 1 b = ((low 0, (loosen 0 s cs, tt)), (((loosen 0 g cg, (low 0, tt)), (q.0.1, tt)), tt)) in
    let v : Tree = all_ b in
    let here : at_all g s e ≡ v = λ i. all_ (imp_ (in_ (bound 0) (itself s cs i)) (eq_ (apply_ (itself g cg i) (bound 0)) e)) in
    let c : Tree = choose_ (not_ b) in
    let cc_ : IsClosed c = (tt, (cb, tt)) in
    let d : Tree = eq_ (dom_ g) s in
    let x : Tree = in_ c s in
    let z : Tree = eq_ (apply_ g c) (inst e c) in
    says_domain (join (Cut (v)) (values_shown g s e c) p) us vs g s e h
    (says_cut (values_shown g s e c) p (d ∷ us) vs (v) (tt, cb)
    (says_all_r (over (ImpR x z) (value_at g s e c)) (d ∷ us) (v ∷ vs) b (inl refl)
    (subst (λ y. Says (over (ImpR x z) (value_at g s e c)) (d ∷ us) (y ∷ v ∷ vs)) (sym (at-body g s e c cg cs cc_))
    (says_imp_r (value_at g s e c) (d ∷ us) (imp_ x z ∷ v ∷ vs) x z (inl refl)
    (says_value_at (x ∷ d ∷ us) (z ∷ imp_ x z ∷ v ∷ vs) g s e c cc_ (inr (inr h)) (inl refl) (inl refl)))))
    (narrower p (v ∷ d ∷ us) vs (d ∷ v ∷ us) vs (inr (inl refl), (inl refl, HasAll-cons (v) (d ∷ us) us (HasAll-one d us))) (HasAll-itself vs) (subst (λ y. Says p (d ∷ y ∷ us) vs) here k))))

pub values-says : (p : Proof) (us : List Tree) (g s e : Tree) → Has us (eq_ g (fun_ s e)) → Says p (eq_ (dom_ g) s ∷ at_all g s e ∷ us) [] → Says (mirror g (fun_ s e) (described_by g s e p)) us []
values-says p us g s e h k =
    says_mirror (described_by g s e p) us [] g (fun_ s e) h
    (says_described p (eq_ (fun_ s e) g ∷ us) [] g s e (inl refl)
    (narrower p (eq_ (dom_ g) s ∷ at_all g s e ∷ eq_ (fun_ s e) g ∷ us) [] (eq_ (dom_ g) s ∷ at_all g s e ∷ us) []
    (inl refl, (inr (inl refl), HasAll-more (eq_ (dom_ g) s ∷ at_all g s e ∷ eq_ (fun_ s e) g ∷ []) us)) tt k))

pub described-says : (p : Proof) (us : List Tree) (g s e : Tree) → Has us (eq_ (fun_ s e) g) → Says p (eq_ (dom_ g) s ∷ at_all g s e ∷ us) [] → Says (described_by g s e p) us []
described-says p us g s e h k = says_described p us [] g s e h k

-- ~(s = t) is on the left
says_not_mirror : (p : Proof) (us vs : List Tree) (s t : Tree) → Has us (not_ (eq_ s t)) → Says p (not_ (eq_ t s) ∷ us) vs → Says (not_mirror s t p) us vs
says_not_mirror p us vs s t h k =
    under_closed (not_mirror s t p) us vs (not_ (eq_ s t)) h
    (λ c. let n : Tree = not_ (eq_ t s) in
    let m : Proof = mirror t s (leaf (Ax (eq_ s t))) in
    says_cut (over (NotR (eq_ t s)) (over (NotL (eq_ s t)) m)) p us vs n ((c.0.1.0, (c.0.0, tt)), tt)
    (says_not_r (over (NotL (eq_ s t)) m) us (n ∷ vs) (eq_ t s) (inl refl)
    (says_not_l m (eq_ t s ∷ us) (n ∷ vs) (eq_ s t) (inr h)
    (says_mirror (leaf (Ax (eq_ s t))) (eq_ t s ∷ us) (eq_ s t ∷ n ∷ vs) t s (inl refl) (says_ax (eq_ s t ∷ eq_ t s ∷ us) (eq_ s t ∷ n ∷ vs) (eq_ s t) (inl refl) (inl refl))))) k)

says_denied : (p : Proof) (us vs : List Tree) (g u v : Tree) → Has us (not_ (eq_ g u)) → Has us (eq_ g v) → Says p (not_ (eq_ v u) ∷ us) vs → Says (denied_by g u v p) us vs
says_denied p us vs g u v h e k =
    under_closed (denied_by g u v p) us vs (not_ (eq_ g u)) h
    (λ c. under_closed (denied_by g u v p) us vs (eq_ g v) e
    (λ d. let cu : IsClosed u = c.0.1.0 in
    let at : (x : Tree) → IsClosed x → inst (not_ (eq_ (bound 0) u)) x ≡ not_ (eq_ x u) = λ x cx j. not_ (eq_ (put_var 0 x cx j) (still x u cu j)) in
    says_repl p us vs (not_ (eq_ (bound 0) u)) g v e (subst (Has us) (sym (at g c.0.0)) h) ((omega arith, (loosen 0 u cu, tt)), tt)
    (subst (λ x. Says p (x ∷ us) vs) (sym (at v d.1.0)) k)))

-- the other side of an equation is v, where one side is g
abbrev pub OtherIs : Tree → Tree → Tree → Tree → Type 0
OtherIs a b g v = (same a g ≡ true → b ≡ v) × (same a g ≡ false → (b ≡ g) × (a ≡ v))

pub second-other : (g v : Tree) → OtherIs g v g v
second-other g v = (λ e. refl, λ e. absurd (never (sym (same-refl g) ∙ e)))
  where
    never : true ≡ false → ⊥
    never e = cc

pub first-other : (a g v : Tree) → a ≡ g → OtherIs v a g v
first-other a g v q = (λ e. q ∙ sym (same-true v g e), λ e. (q, refl))

says_said : (p : Proof) (us vs : List Tree) (c d g u v : Tree) → OtherIs c d g v → Has us (eq_ c d) → Has us (not_ (eq_ g u)) → Says p (not_ (eq_ v u) ∷ us) vs → Says (said_by (eq_ c d) g u p) us vs
says_said p us vs c d g u v o h n k = go (same c g) refl
  where
    go : (x : Bool) → same c g ≡ x → Says (if_so x (denied_by g u d p) (mirror c g (denied_by g u c p))) us vs
    go true e = says_denied p us vs g u d n (subst (λ y. Has us (eq_ y d)) (same-true c g e) h) (subst (λ y. Says p (not_ (eq_ y u) ∷ us) vs) (sym (o.0 e)) k)
    go false e =
        let z = o.1 e in
        says_mirror (denied_by g u c p) us vs c g (subst (λ y. Has us (eq_ c y)) z.0 h)
        (says_denied p (eq_ g c ∷ us) vs g u c (inr n) (inl refl)
        (narrower p (not_ (eq_ c u) ∷ eq_ g c ∷ us) vs (not_ (eq_ c u) ∷ us) vs (inl refl, HasAll-more (not_ (eq_ c u) ∷ eq_ g c ∷ []) us) (HasAll-itself vs) (subst (λ y. Says p (not_ (eq_ y u) ∷ us) vs) (sym z.1) k)))

pub other-says : (p : Proof) (us : List Tree) (a b c d g u v : Tree) → OtherIs a b g u → OtherIs c d g v → Has us (not_ (eq_ a b)) → Has us (eq_ c d) → Says p (not_ (eq_ v u) ∷ us) []
    → Says (other_function_by (not_ (eq_ a b)) (eq_ c d) g p) us []
other-says p us a b c d g u v o q n h k = go (same a g) refl
  where
    go : (x : Bool) → same a g ≡ x → Says (if_so x (said_by (eq_ c d) g b p) (not_mirror a g (said_by (eq_ c d) g a p))) us []
    go true e = says_said p us [] c d g b v q h (subst (λ y. Has us (not_ (eq_ y b))) (same-true a g e) n) (subst (λ y. Says p (not_ (eq_ v y) ∷ us) []) (sym (o.0 e)) k)
    go false e =
        let z = o.1 e in
        says_not_mirror (said_by (eq_ c d) g a p) us [] a g (subst (λ y. Has us (not_ (eq_ a y))) z.0 n)
        (says_said p (not_ (eq_ g a) ∷ us) [] c d g a v q (inr h) (inl refl)
        (narrower p (not_ (eq_ v a) ∷ not_ (eq_ g a) ∷ us) [] (not_ (eq_ v a) ∷ us) [] (inl refl, HasAll-more (not_ (eq_ v a) ∷ not_ (eq_ g a) ∷ []) us) tt (subst (λ y. Says p (not_ (eq_ v y) ∷ us) []) (sym z.1) k)))

-- members of s are members of t
says_moved : (us vs : List Tree) (c s t : Tree) → IsClosed c → Has us (eq_ s t) → Has us (member_at c s) → Has vs (member_at c t) → Says (moved_by c s t) us vs
says_moved us vs c s t cc_ e h k =
    under_closed (moved_by c s t) us vs (eq_ s t) e
    (λ q. let cs : IsClosed s = q.0 in
    let ct : IsClosed t = q.1.0 in
    let at : (x : Tree) → IsClosed x → inst (in_ c (bound 0)) x ≡ in_ c x = λ x cx j. in_ (still x c cc_ j) (put_var 0 x cx j) in
    let r : Proof = by_left (in_ c t) (member c t) (leaf (Ax (member_at c t))) in
    says_left_back (over (Repl (in_ c (bound 0)) s t) r) us vs (in_ c s) (member c s) (member-row c s) (member-scoped 0 c s cc_ cs) (cc_, (cs, tt)) h
    (says_repl r (in_ c s ∷ us) vs (in_ c (bound 0)) s t (inr e) (inl (sym (at s cs))) (loosen 0 c cc_, (omega arith, tt))
    (subst (λ x. Says r (x ∷ in_ c s ∷ us) vs) (sym (at t ct))
    (says_by_left (leaf (Ax (member_at c t))) (in_ c t ∷ in_ c s ∷ us) vs (in_ c t) (member c t) (member-row c t) (member-scoped 0 c t cc_ ct) (cc_, (ct, tt)) (inl refl)
    (says_ax (member_at c t ∷ in_ c t ∷ in_ c s ∷ us) vs (member_at c t) (inl refl) k)))))

same-at : (s t c : Tree) → IsClosed s → IsClosed t → IsClosed c → inst (same_body s t) c ≡ iff_ (member_at c s) (member_at c t)
same-at s t c cs ct cc_ = λ i. iff_ (members-inst c cc_ s cs i) (members-inst c cc_ t ct i)

pub same-members-says : (p : Proof) (us : List Tree) (s t : Tree) → Has us (eq_ s t) → Says p (same_members s t ∷ us) [] → Says (same_members_by (eq_ s t) p) us []
same-members-says p us s t e k =
    under_closed (same_members_by (eq_ s t) p) us [] (eq_ s t) e
    (λ q. let cs : IsClosed s = q.0 in
    let ct : IsClosed t = q.1.0 in
    let b : Tree = same_body s t in
    let cb : IsScoped 1 b = (members-scoped s cs, (members-scoped t ct, tt)) in
    let c : Tree = choose_ (not_ b) in
    let cc_ : IsClosed c = (tt, (cb, tt)) in
    let f : Tree = same_members s t in
    let l : Tree = member_at c s in
    let r : Tree = member_at c t in
    let ms : Proof = moved_by c s t in
    let mt : Proof = mirror s t (moved_by c t s) in
    says_cut (members_shown s t c) p us [] f (tt, cb)
    (says_all_r (join (IffR l r) ms mt) us (f ∷ []) b (inl refl)
    (subst (λ y. Says (join (IffR l r) ms mt) us (y ∷ f ∷ [])) (sym (same-at s t c cs ct cc_))
    (says_iff_r ms mt us (iff_ l r ∷ f ∷ []) l r (inl refl)
    (says_moved (l ∷ us) (r ∷ iff_ l r ∷ f ∷ []) c s t cc_ (inr e) (inl refl) (inl refl))
    (says_mirror (moved_by c t s) (r ∷ us) (l ∷ iff_ l r ∷ f ∷ []) s t (inr e)
    (says_moved (eq_ t s ∷ r ∷ us) (l ∷ iff_ l r ∷ f ∷ []) c t s cc_ (inl refl) (inr (inl refl)) (inl refl)))))) k)

-- an element of x is one of y
says_carried : (us vs : List Tree) (c x y l r : Tree) → IsClosed c → IsClosed x → IsClosed y → Has us (in_ c x) → Has us (iff_ l r)
    → ((zs ws : List Tree) → Has zs (member_at c x) → Says (leaf (Ax (member_at c x))) zs (l ∷ r ∷ ws)) → ((zs : List Tree) → Has (l ∷ r ∷ zs) (member_at c y)) → Has vs (in_ c y) → Says (carried_by c x y l r) us vs
says_carried us vs c x y l r cc_ cx cy h i a b k =
    let q : Proof = left_back (in_ c y) (member c y) (leaf (Ax (in_ c y))) in
    let m : Tree = member_at c x in
    says_by_left (join (IffL l r) q (leaf (Ax m))) us vs (in_ c x) (member c x) (member-row c x) (member-scoped 0 c x cc_ cx) (cc_, (cx, tt)) h
    (says_iff_l q (leaf (Ax m)) (m ∷ us) vs l r (inr i)
    (says_left_back (leaf (Ax (in_ c y))) (l ∷ r ∷ m ∷ us) vs (in_ c y) (member c y) (member-row c y) (member-scoped 0 c y cc_ cy) (cc_, (cy, tt)) (b (m ∷ us)) (says_ax (in_ c y ∷ l ∷ r ∷ m ∷ us) vs (in_ c y) (inl refl) k))
    (a (m ∷ us) vs (inl refl)))

pub extension-says : (p : Proof) (us : List Tree) (a b : Tree) → Has us (not_ (eq_ a b)) → Says p (not_ (same_members a b) ∷ us) [] → Says (extension_by (not_ (eq_ a b)) p) us []
extension-says p us a b n k =
    under_closed (extension_by (not_ (eq_ a b)) p) us [] (not_ (eq_ a b)) n
    (λ q. let ca : IsClosed a = q.0.0 in
    let cb : IsClosed b = q.0.1.0 in
    let m : Tree = same_members a b in
    let cm : IsScoped 1 (same_body a b) = (members-scoped a ca, (members-scoped b cb, tt)) in
    let y : Tree = elements_body a b in
    let cy : IsScoped 1 y = ((low 0, (loosen 0 a ca, tt)), ((low 0, (loosen 0 b cb, tt)), tt)) in
    let c : Tree = choose_ (not_ y) in
    let cc_ : IsClosed c = (tt, (cy, tt)) in
    let i : Tree = imp_ (all_ y) (eq_ a b) in
    let l : Tree = member_at c a in
    let r : Tree = member_at c b in
    let es : Proof = elements_shown a b c in
    let pa : Proof = carried_by c a b l r in
    let pb : Proof = carried_by c b a l r in
    let at : inst y c ≡ iff_ (in_ c a) (in_ c b) = λ j. iff_ (in_ (put_var 0 c cc_ j) (still c a ca j)) (in_ (put_var 0 c cc_ j) (still c b cb j)) in
    let row : Some (about_extensionality a b) ≡ Some i = λ j. Some (imp_ (all_ (iff_ (in_ (bound 0) (itself a ca j)) (in_ (bound 0) (itself b cb j)))) (eq_ a b)) in
    let js : Proof = join (IffR (in_ c a) (in_ c b)) pa pb in
    says_cut (over (NotR m) (over (Schema 11 0 (a ∷ b ∷ [])) (join (ImpL (all_ y) (eq_ a b)) es (clash (eq_ a b))))) p us [] (not_ m) ((tt, cm), tt)
    (says_not_r (over (Schema 11 0 (a ∷ b ∷ [])) (join (ImpL (all_ y) (eq_ a b)) es (clash (eq_ a b)))) us (not_ m ∷ []) m (inl refl)
    (says_schema (join (ImpL (all_ y) (eq_ a b)) es (clash (eq_ a b))) (m ∷ us) (not_ m ∷ []) 11 0 (a ∷ b ∷ []) i ((tt, cy), ((ca, (cb, tt)), tt)) row
    (says_imp_l es (clash (eq_ a b)) (i ∷ m ∷ us) (not_ m ∷ []) (all_ y) (eq_ a b) (inl refl)
    (says_all_r (over (AllL (same_body a b) c) js) (i ∷ m ∷ us) (all_ y ∷ not_ m ∷ []) y (inl refl)
    (subst (λ z. Says (over (AllL (same_body a b) c) js) (i ∷ m ∷ us) (z ∷ all_ y ∷ not_ m ∷ [])) (sym at)
    (says_all_l js (i ∷ m ∷ us) (iff_ (in_ c a) (in_ c b) ∷ all_ y ∷ not_ m ∷ []) (same_body a b) c (inr (inl refl)) cc_
    (subst (λ z. Says js (z ∷ i ∷ m ∷ us) (iff_ (in_ c a) (in_ c b) ∷ all_ y ∷ not_ m ∷ [])) (sym (same-at a b c ca cb cc_))
    (says_iff_r pa pb (iff_ l r ∷ i ∷ m ∷ us) (iff_ (in_ c a) (in_ c b) ∷ all_ y ∷ not_ m ∷ []) (in_ c a) (in_ c b) (inl refl)
    (says_carried (in_ c a ∷ iff_ l r ∷ i ∷ m ∷ us) (in_ c b ∷ iff_ (in_ c a) (in_ c b) ∷ all_ y ∷ not_ m ∷ []) c a b l r cc_ ca cb (inl refl) (inr (inl refl))
    (λ zs ws h. says_ax zs (l ∷ r ∷ ws) l h (inl refl)) (λ zs. inr (inl refl)) (inl refl))
    (says_carried (in_ c b ∷ iff_ l r ∷ i ∷ m ∷ us) (in_ c a ∷ iff_ (in_ c a) (in_ c b) ∷ all_ y ∷ not_ m ∷ []) c b a l r cc_ cb ca (inl refl) (inr (inl refl))
    (λ zs ws h. says_ax zs (l ∷ r ∷ ws) r h (inr (inl refl))) (λ zs. inl refl) (inl refl)))))))
    (says_clash (eq_ a b ∷ i ∷ m ∷ us) (not_ m ∷ []) (eq_ a b) (inl refl) (inr (inr (inr n))))))) k)
