-- Replacing by an equation, and the ranks that do so.
use Rattle.std.specs.Prelude.{◌≡◌, ℕ, suc, ◌-◌, Bool, true, false, cond, nat_lt, Some, List, ◌∷◌}
use Rattle.std.proofs.lemmas.Bool.Decides.{nat_tests}
use Rattle.std.proofs.Common.{refl, ap, sym, ◌∙◌, subst, arith, inl, inr}
use Rattle.core_expr.specs.Tree.{Tree, Parts, eq_}
use Rattle.core_expr.specs.Tree.Tree.{bound, app, node, bind}
use Rattle.core_expr.specs.Tree.Parts.{end, part}
use Rattle.core_expr.specs.Put.{shift, argument, put, puts, inst, IsScoped, AreScoped}
use Rattle.core_expr.specs.Terms.{same}
use Rattle.core_expr.proofs.Equal.{same-true}
use Rattle.core_expr.proofs.Laws.{put_closed, shift_closed}
use Rattle.seq_calculus.specs.Schemas.{instance_of}
use Rattle.seq_calculus.specs.Calculus.{Has, IsClosed, Proof}
use Rattle.seq_calculus.specs.Calculus.Rule.{Refl, Repl}
use Rattle.search_definition.specs.Terms.{if_so, replace, replaces}
use Rattle.search_definition.specs.Plain.{Rewrite}
use Rattle.search_definition.proofs.Standing.{closed-of}
use Rattle.proof_writer.specs.Shapes.{leaf, over, mirror}
use Rattle.proof_trees.specs.Says.{Says}
use Rattle.term_patterns.specs.Abstracted.{abstracted, abstracteds}
use Rattle.proof_trees.specs.Abstracted.{put_for, replace_by, rewrite_by}
use Rattle.proof_trees.proofs.Had.{HasAll-cons, HasAll-itself, HasAll-one, has_of, loosen}
use Rattle.proof_trees.proofs.Said.{narrower, says_refl, says_cut, says_repl, says_schema}

mutual
  abstracted-scoped : (s : Tree) (d : ℕ) (f : Tree) → IsScoped d f → IsScoped (suc d) (abstracted s d f)
  abstracted-scoped s d (bound i) h = loosen d (bound i) h
  abstracted-scoped s d (app f ps) h = go (same s (app f ps)) (abstracteds-scoped s d ps h)
    where
      go : (x : Bool) → AreScoped (suc d) (abstracteds s d ps) → IsScoped (suc d) (if_so x (bound d) (app f (abstracteds s d ps)))
      go true k = omega arith
      go false k = k
  abstracted-scoped s d (node n ns ps) h = go (same s (node n ns ps)) (abstracteds-scoped s d ps h)
    where
      go : (x : Bool) → AreScoped (suc d) (abstracteds s d ps) → IsScoped (suc d) (if_so x (bound d) (node n ns (abstracteds s d ps)))
      go true k = omega arith
      go false k = k
  abstracted-scoped s d (bind b ps e) h = go (same s (bind b ps e)) (abstracteds-scoped s d ps h.0) (abstracted-scoped s (suc d) e h.1)
    where
      go : (x : Bool) → AreScoped (suc d) (abstracteds s d ps) → IsScoped (suc (suc d)) (abstracted s (suc d) e) → IsScoped (suc d) (if_so x (bound d) (bind b (abstracteds s d ps) (abstracted s (suc d) e)))
      go true k l = omega arith
      go false k l = (k, l)

  abstracteds-scoped : (s : Tree) (d : ℕ) (ps : Parts) → AreScoped d ps → AreScoped (suc d) (abstracteds s d ps)
  abstracteds-scoped s d end h = tt
  abstracteds-scoped s d (part e ps) h = (abstracted-scoped s d e h.0, abstracteds-scoped s d ps h.1)

pub put_var : (d : ℕ) (t : Tree) → IsClosed t → put d (part t end) (bound d) ≡ t
put_var d t ct = at d (nat_lt d d) (d - d) (irrefl d) (self d)
  where
    irrefl : (d : ℕ) → nat_lt d d ≡ false
    irrefl d = grind (arith, nat_tests)

    self : (d : ℕ) → d - d ≡ 0
    self d = omega arith

    at : (d : ℕ) (x : Bool) (k : ℕ) → x ≡ false → k ≡ 0 → cond x (bound d) (shift 0 d (argument (part t end) k)) ≡ t
    at d x k p q = (λ i. cond (p i) (bound d) (shift 0 d (argument (part t end) (q i)))) ∙ shift_closed 0 0 d t (omega arith) ct

mutual
  put-abstracted : (s t : Tree) (d : ℕ) (f : Tree) → IsClosed t → IsScoped d f → put d (part t end) (abstracted s d f) ≡ replace s t f
  put-abstracted s t d (bound i) ct h = put_closed d d (part t end) (bound i) (omega arith) h
  put-abstracted s t d (app f ps) ct h = go (same s (app f ps)) (puts-abstracteds s t d ps ct h)
    where
      go : (x : Bool) → puts d (part t end) (abstracteds s d ps) ≡ replaces s t ps → put d (part t end) (if_so x (bound d) (app f (abstracteds s d ps))) ≡ if_so x t (app f (replaces s t ps))
      go true q = put_var d t ct
      go false q = ap (app f) q
  put-abstracted s t d (node k ns ps) ct h = go (same s (node k ns ps)) (puts-abstracteds s t d ps ct h)
    where
      go : (x : Bool) → puts d (part t end) (abstracteds s d ps) ≡ replaces s t ps → put d (part t end) (if_so x (bound d) (node k ns (abstracteds s d ps))) ≡ if_so x t (node k ns (replaces s t ps))
      go true q = put_var d t ct
      go false q = ap (node k ns) q
  put-abstracted s t d (bind b ps e) ct h = go (same s (bind b ps e)) (puts-abstracteds s t d ps ct h.0) (put-abstracted s t (suc d) e ct h.1)
    where
      go : (x : Bool) → puts d (part t end) (abstracteds s d ps) ≡ replaces s t ps → put (suc d) (part t end) (abstracted s (suc d) e) ≡ replace s t e → put d (part t end) (if_so x (bound d) (bind b (abstracteds s d ps) (abstracted s (suc d) e))) ≡ if_so x t (bind b (replaces s t ps) (replace s t e))
      go true q r = put_var d t ct
      go false q r = λ i. bind b (q i) (r i)

  puts-abstracteds : (s t : Tree) (d : ℕ) (ps : Parts) → IsClosed t → AreScoped d ps → puts d (part t end) (abstracteds s d ps) ≡ replaces s t ps
  puts-abstracteds s t d end ct h = refl
  puts-abstracteds s t d (part e ps) ct h = λ i. part (put-abstracted s t d e ct h.0 i) (puts-abstracteds s t d ps ct h.1 i)

mutual
  replace-self : (s f : Tree) → replace s s f ≡ f
  replace-self s (bound i) = refl
  replace-self s (app f ps) = go (same s (app f ps)) refl (replaces-self s ps)
    where
      go : (x : Bool) → same s (app f ps) ≡ x → replaces s s ps ≡ ps → if_so x s (app f (replaces s s ps)) ≡ app f ps
      go true e q = same-true s (app f ps) e
      go false e q = ap (app f) q
  replace-self s (node k ns ps) = go (same s (node k ns ps)) refl (replaces-self s ps)
    where
      go : (x : Bool) → same s (node k ns ps) ≡ x → replaces s s ps ≡ ps → if_so x s (node k ns (replaces s s ps)) ≡ node k ns ps
      go true e q = same-true s (node k ns ps) e
      go false e q = ap (node k ns) q
  replace-self s (bind b ps f) = go (same s (bind b ps f)) refl (replaces-self s ps) (replace-self s f)
    where
      go : (x : Bool) → same s (bind b ps f) ≡ x → replaces s s ps ≡ ps → replace s s f ≡ f → if_so x s (bind b (replaces s s ps) (replace s s f)) ≡ bind b ps f
      go true e q r = same-true s (bind b ps f) e
      go false e q r = λ i. bind b (q i) (r i)

  replaces-self : (s : Tree) (ps : Parts) → replaces s s ps ≡ ps
  replaces-self s end = refl
  replaces-self s (part e ps) = λ i. part (replace-self s e i) (replaces-self s ps i)

-- the lemma of all replacements by an equation
pub says_replaced : (p : Proof) (us vs : List Tree) (s t f : Tree) → Has us (eq_ s t) → Has us f → Says p (replace s t f ∷ us) vs → Says (put_for s t f p) us vs
says_replaced p us vs s t f e h k = λ g d cg cd hg hd.
    let ce : IsClosed (eq_ s t) = closed-of g (eq_ s t) cg (has_of g us (eq_ s t) hg e) in
    let cf : IsClosed f = closed-of g f cg (has_of g us f hg h) in
    let before : f ≡ inst (abstracted s 0 f) s = sym (put-abstracted s s 0 f ce.0 cf ∙ replace-self s f) in
    says_repl p us vs (abstracted s 0 f) s t e (subst (Has us) before h) (abstracted-scoped s 0 f cf) (subst (λ x. Says p (x ∷ us) vs) (sym (put-abstracted s t 0 f ce.1.0 cf)) k) g d cg cd hg hd

pub says_mirror : (p : Proof) (us vs : List Tree) (s t : Tree) → Has us (eq_ s t) → Says p (eq_ t s ∷ us) vs → Says (mirror s t p) us vs
says_mirror p us vs s t e k = λ g d cg cd hg hd.
    let c : IsClosed (eq_ s t) = closed-of g (eq_ s t) cg (has_of g us (eq_ s t) hg e) in
    let cs : IsClosed s = c.0 in
    let ct : IsClosed t = c.1.0 in
    let at : (x : Tree) → IsClosed x → inst (eq_ (bound 0) s) x ≡ eq_ x s = λ x cx i. eq_ (put_var 0 x cx i) (put_closed 0 0 (part x end) s (omega arith) cs i) in
    says_cut (leaf (Refl s)) (over (Repl (eq_ (bound 0) s) s t) p) us vs (eq_ s s) (cs, (cs, tt)) (says_refl us (eq_ s s ∷ vs) s (inl refl))
    (says_repl p (eq_ s s ∷ us) vs (eq_ (bound 0) s) s t (inr e) (inl (sym (at s cs))) (omega arith, (loosen 0 s cs, tt))
    (subst (λ x. Says p (x ∷ eq_ s s ∷ us) vs) (sym (at t ct)) (narrower p (eq_ t s ∷ eq_ s s ∷ us) vs (eq_ t s ∷ us) vs (inl refl, HasAll-cons (eq_ t s) (eq_ s s ∷ us) us (HasAll-cons (eq_ s s) us us (HasAll-itself us))) (HasAll-itself vs) k)))
    g d cg cd hg hd

-- the equation q says s = t, either way round
pub says_replace_by : (p : Proof) (us vs : List Tree) (q s t f : Tree) → (same q (eq_ s t) ≡ false → q ≡ eq_ t s) → Has us q → Has us f → Says p (replace s t f ∷ us) vs → Says (replace_by q s t f p) us vs
says_replace_by p us vs q s t f w hq hf k = go (same q (eq_ s t)) refl
  where
    go : (x : Bool) → same q (eq_ s t) ≡ x → Says (if_so x (put_for s t f p) (mirror t s (put_for s t f p))) us vs
    go true e = says_replaced p us vs s t f (subst (Has us) (same-true q (eq_ s t) e) hq) hf k
    go false e =
        says_mirror (put_for s t f p) us vs t s (subst (Has us) (w e) hq)
        (says_replaced p (eq_ s t ∷ us) vs s t f (inl refl) (inr hf) (narrower p (replace s t f ∷ eq_ s t ∷ us) vs (replace s t f ∷ us) vs (inl refl, HasAll-cons (replace s t f) (eq_ s t ∷ us) us (HasAll-one (eq_ s t) us)) (HasAll-itself vs) k))

-- the rewrite is a closed equation of a schema
pub says_rewrite_by : (p : Proof) (us vs : List Tree) (r : Rewrite) (f : Tree) → instance_of r.schema r.z r.params ≡ Some (eq_ r.from r.to) → IsClosed (eq_ r.from r.to) → Has us f → Says p (replace r.from r.to f ∷ us) vs → Says (rewrite_by r f p) us vs
says_rewrite_by p us vs r f e c hf k =
    says_schema (put_for r.from r.to f p) us vs r.schema r.z r.params (eq_ r.from r.to) c e
    (says_replaced p (eq_ r.from r.to ∷ us) vs r.from r.to f (inl refl) (inr hf)
    (narrower p (replace r.from r.to f ∷ eq_ r.from r.to ∷ us) vs (replace r.from r.to f ∷ us) vs (inl refl, HasAll-cons (replace r.from r.to f) (eq_ r.from r.to ∷ us) us (HasAll-one (eq_ r.from r.to) us)) (HasAll-itself vs) k))
