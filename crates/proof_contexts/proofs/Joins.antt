-- Derivations joined.
use Rattle.std.specs.Prelude.{◌≡◌, ℕ, ◌≤◌, Bool, true, false, Some, None, List, [], ◌∷◌, map}
use Rattle.std.proofs.Common.{refl, ap, ◌∙◌, arith, subst, inl, inr}
use Rattle.core_expr.specs.declared.head.Sym.{Sym}
use Rattle.core_expr.specs.Tree.{Tree, not_, and_, imp_, all_, ex_, choose_}
use Rattle.core_expr.specs.Tree.Parts.{end}
use Rattle.core_expr.specs.Put.{inst, apply_body, sub}
use Rattle.core_expr.proofs.Equal.{sym-refl}
use Rattle.core_expr.proofs.Laws.{sub-inst, put_closed}
use Rattle.seq_calculus.specs.Calculus.{HasAll, IsClosed, AllClosed, Der}
use Rattle.seq_calculus.specs.Calculus.Rule.{Cut, AndL, AndR, ImpL, ImpR, AllR, ExL, ExR}
use Rattle.proof_contexts.proofs.Rules.{HasAll-itself, HasAll-one, HasAll-cons, by_one, by_two}
use Rattle.seq_calculus.proofs.Renamed.{Der-sub, Der-weak, Der-closed}
use Rattle.proof_contexts.specs.Expansion.{name, IsBelow}
use Rattle.proof_contexts.proofs.Putting.{at, sub_absent}

pub cut_in : (g : List Tree) (a b : Tree) → IsClosed b → Der g (a ∷ []) → Der (a ∷ g) (b ∷ []) → Der g (b ∷ [])
cut_in g a b cb h k =
    let cg = Der-closed g (a ∷ []) h in
    by_two (Cut a) g (b ∷ []) g (a ∷ b ∷ []) (a ∷ g) (b ∷ []) cg.0 (cb, tt) tt refl
    (Der-weak g (a ∷ b ∷ []) g (a ∷ []) cg.0 (cg.1.0, (cb, tt)) (HasAll-itself g) (inl refl, tt) h)
    k

-- fewer on the left
pub widen : (g g1 : List Tree) (b : Tree) → AllClosed g → HasAll g g1 → Der g1 (b ∷ []) → Der g (b ∷ [])
widen g g1 b cg hg h = Der-weak g (b ∷ []) g1 (b ∷ []) cg (Der-closed g1 (b ∷ []) h).1 hg (HasAll-itself (b ∷ [])) h

pub imp_r : (g : List Tree) (a b : Tree) → Der (a ∷ g) (b ∷ []) → Der g (imp_ a b ∷ [])
imp_r g a b h =
    let c = Der-closed (a ∷ g) (b ∷ []) h in
    let ci : IsClosed (imp_ a b) = (c.0.0, (c.1.0, tt)) in
    by_one (ImpR a b) g (imp_ a b ∷ []) (a ∷ g) (b ∷ imp_ a b ∷ []) c.0.1 (ci, tt) (inl refl) refl
    (Der-weak (a ∷ g) (b ∷ imp_ a b ∷ []) (a ∷ g) (b ∷ []) c.0 (c.1.0, (ci, tt)) (HasAll-itself (a ∷ g)) (inl refl, tt) h)

-- from A => B and A to B
pub imp_l : (g : List Tree) (a b x : Tree) → IsClosed x → Der g (imp_ a b ∷ []) → Der g (a ∷ []) → Der (b ∷ g) (x ∷ []) → Der g (x ∷ [])
imp_l g a b x cx h k r =
    let c = Der-closed g (imp_ a b ∷ []) h in
    let ca : IsClosed a = c.1.0.0 in
    let cb : IsClosed b = c.1.0.1.0 in
    let ci : IsClosed (imp_ a b) = c.1.0 in
    let cg : AllClosed g = c.0 in
    cut_in g (imp_ a b) x cx h
    (by_two (ImpL a b) (imp_ a b ∷ g) (x ∷ []) (imp_ a b ∷ g) (a ∷ x ∷ []) (b ∷ imp_ a b ∷ g) (x ∷ []) (ci, cg) (cx, tt) (inl refl) refl
    (Der-weak (imp_ a b ∷ g) (a ∷ x ∷ []) g (a ∷ []) (ci, cg) (ca, (cx, tt)) (HasAll-one (imp_ a b) g) (inl refl, tt) k)
    (Der-weak (b ∷ imp_ a b ∷ g) (x ∷ []) (b ∷ g) (x ∷ []) (cb, (ci, cg)) (cx, tt) (inl refl, HasAll-cons b (imp_ a b ∷ g) g (HasAll-one (imp_ a b) g)) (HasAll-itself (x ∷ [])) r))

pub and_r : (g : List Tree) (a b : Tree) → Der g (a ∷ []) → Der g (b ∷ []) → Der g (and_ a b ∷ [])
and_r g a b h k =
    let c = Der-closed g (a ∷ []) h in
    let d = Der-closed g (b ∷ []) k in
    let ci : IsClosed (and_ a b) = (c.1.0, (d.1.0, tt)) in
    by_two (AndR a b) g (and_ a b ∷ []) g (a ∷ and_ a b ∷ []) g (b ∷ and_ a b ∷ []) c.0 (ci, tt) (inl refl) refl
    (Der-weak g (a ∷ and_ a b ∷ []) g (a ∷ []) c.0 (c.1.0, (ci, tt)) (HasAll-itself g) (inl refl, tt) h)
    (Der-weak g (b ∷ and_ a b ∷ []) g (b ∷ []) c.0 (d.1.0, (ci, tt)) (HasAll-itself g) (inl refl, tt) k)

pub and_l : (g : List Tree) (a b x : Tree) → Der (b ∷ a ∷ g) (x ∷ []) → Der (and_ a b ∷ g) (x ∷ [])
and_l g a b x h =
    let c = Der-closed (b ∷ a ∷ g) (x ∷ []) h in
    let ci : IsClosed (and_ a b) = (c.0.1.0, (c.0.0, tt)) in
    by_one (AndL a b) (and_ a b ∷ g) (x ∷ []) (a ∷ b ∷ and_ a b ∷ g) (x ∷ []) (ci, c.0.1.1) c.1 (inl refl) refl
    (Der-weak (a ∷ b ∷ and_ a b ∷ g) (x ∷ []) (b ∷ a ∷ g) (x ∷ []) (c.0.1.0, (c.0.0, (ci, c.0.1.1))) c.1
    (inr (inl refl), (inl refl, HasAll-cons a (b ∷ and_ a b ∷ g) g (HasAll-cons b (and_ a b ∷ g) g (HasAll-one (and_ a b) g)))) (HasAll-itself (x ∷ [])) h)

pub ex_r : (g : List Tree) (p t : Tree) → IsClosed (ex_ p) → IsClosed t → Der g (inst p t ∷ []) → Der g (ex_ p ∷ [])
ex_r g p t cp ct h =
    let c = Der-closed g (inst p t ∷ []) h in
    by_one (ExR p t) g (ex_ p ∷ []) g (inst p t ∷ ex_ p ∷ []) c.0 (cp, tt) (inl refl, ct) refl
    (Der-weak g (inst p t ∷ ex_ p ∷ []) g (inst p t ∷ []) c.0 (c.1.0, (cp, tt)) (HasAll-itself g) (inl refl, tt) h)

pub all_choice : (g : List Tree) (p : Tree) → IsClosed (all_ p) → Der g (inst p (choose_ (not_ p)) ∷ []) → Der g (all_ p ∷ [])
all_choice g p cp h =
    let c = Der-closed g (inst p (choose_ (not_ p)) ∷ []) h in
    by_one (AllR p) g (all_ p ∷ []) g (inst p (choose_ (not_ p)) ∷ all_ p ∷ []) c.0 (cp, tt) (inl refl) refl
    (Der-weak g (inst p (choose_ (not_ p)) ∷ all_ p ∷ []) g (inst p (choose_ (not_ p)) ∷ []) c.0 (c.1.0, (cp, tt)) (HasAll-itself g) (inl refl, tt) h)

pub ex_choice : (g : List Tree) (p x : Tree) → IsClosed (ex_ p) → Der (inst p (choose_ p) ∷ g) (x ∷ []) → Der (ex_ p ∷ g) (x ∷ [])
ex_choice g p x cp h =
    let c = Der-closed (inst p (choose_ p) ∷ g) (x ∷ []) h in
    by_one (ExL p) (ex_ p ∷ g) (x ∷ []) (inst p (choose_ p) ∷ ex_ p ∷ g) (x ∷ []) (cp, c.0.1) c.1 (inl refl) refl
    (Der-weak (inst p (choose_ p) ∷ ex_ p ∷ g) (x ∷ []) (inst p (choose_ p) ∷ g) (x ∷ []) (c.0.0, (cp, c.0.1)) c.1
    (inl refl, HasAll-cons (inst p (choose_ p)) (ex_ p ∷ g) g (HasAll-one (ex_ p) g)) (HasAll-itself (x ∷ [])) h)

-- a symbol of a higher rank than all others stands for any value
module _ (rank : Sym → ℕ) where
  abbrev pub AllBelow : ℕ → List Tree → Type 0
  AllBelow n [] = Unit {0}
  AllBelow n (e ∷ g) = IsBelow rank n e × AllBelow n g

  same_left : (n : ℕ) (c : Sym) (t : Tree) (g : List Tree) → n ≤ rank c → AllBelow n g → map (sub (at c t)) g ≡ g
  same_left n c t [] q h = refl
  same_left n c t (e ∷ g) q h = λ i. sub_absent rank n c t e q h.0 i ∷ same_left n c t g q h.1 i

  at_itself : (c : Sym) (t : Tree) → IsClosed t → sub (at c t) (name c) ≡ t
  at_itself c t ct =
      ap (λ (b : Bool). apply_body (elim b [ true ↦ Some t | false ↦ None ]) c end) (sym-refl c)
      ∙ put_closed 0 0 end t (omega arith) ct

  inst_at : (n : ℕ) (c : Sym) (p t : Tree) → n ≤ rank c → IsBelow rank n p → IsClosed t → sub (at c t) (inst p (name c)) ≡ inst p t
  inst_at n c p t q hp ct =
      sub-inst (at c t) p (name c)
      ∙ (λ i. inst (sub_absent rank n c t p q hp i) (at_itself c t ct i))

  pub new_all : (n : ℕ) (c : Sym) (g : List Tree) (p : Tree) → n ≤ rank c → AllBelow n g → IsBelow rank n p → IsClosed (all_ p) → Der g (inst p (name c) ∷ []) → Der g (all_ p ∷ [])
  new_all n c g p q hg hp cp h =
      let t : Tree = choose_ (not_ p) in
      let k : Der (map (sub (at c t)) g) (sub (at c t) (inst p (name c)) ∷ []) = Der-sub (at c t) g (inst p (name c) ∷ []) h in
      let e = inst_at n c p t q hp (tt, (cp.1, tt)) in
      let w : Der g (inst p t ∷ []) = subst (λ (x : List Tree). Der x (inst p t ∷ [])) (same_left n c t g q hg) (subst (λ (y : Tree). Der (map (sub (at c t)) g) (y ∷ [])) e k) in
      all_choice g p cp w

  pub new_ex : (n : ℕ) (c : Sym) (g : List Tree) (p x : Tree) → n ≤ rank c → AllBelow n g → IsBelow rank n p → IsBelow rank n x → IsClosed (ex_ p) → Der (inst p (name c) ∷ g) (x ∷ []) → Der (ex_ p ∷ g) (x ∷ [])
  new_ex n c g p x q hg hp hx cp h =
      let t : Tree = choose_ p in
      let k : Der (sub (at c t) (inst p (name c)) ∷ map (sub (at c t)) g) (sub (at c t) x ∷ []) = Der-sub (at c t) (inst p (name c) ∷ g) (x ∷ []) h in
      let e = inst_at n c p t q hp cp in
      let w : Der (inst p t ∷ g) (x ∷ []) =
      subst (λ (y : Tree). Der (inst p t ∷ g) (y ∷ [])) (sub_absent rank n c t x q hx)
      (subst (λ (y : List Tree). Der (inst p t ∷ y) (sub (at c t) x ∷ [])) (same_left n c t g q hg)
      (subst (λ (y : Tree). Der (y ∷ map (sub (at c t)) g) (sub (at c t) x ∷ [])) e k)) in
      ex_choice g p x cp w
