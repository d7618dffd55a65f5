-- The room that the signed atoms take: four for each node are enough.
use Rattle.std.specs.Prelude.{◌≡◌, ℕ, zero, suc, ◌+◌, ◌*◌, ◌-◌, ◌≤◌, ◌<◌, Bool, true, false, not, cond, nat_lt, nat_eq, Some, None, List, [], ◌∷◌, ◌++◌, length}
use Rattle.std.proofs.Common.{refl, ap, sym, ◌∙◌, arith, subst}
use Rattle.core_expr.specs.declared.head.Sym.{Sym}
use Rattle.core_expr.specs.declared.head.Head.TheVariants.{Eq, In}
use Rattle.core_expr.specs.Tree.{Tree, Parts, true_, false_, boolean_, not_, and_, or_, imp_, iff_, eq_, in_, subseteq_, cup_, cap_, diff_, power_, union_, funset_, enum_, tuple_, all_, ex_, filter_, image_, fun_}
use Rattle.core_expr.specs.Tree.Tree.{bound, app, node, bind}
use Rattle.core_expr.specs.Tree.Parts.{end, part}
use Rattle.core_expr.specs.Put.{inst, put, puts, shift, shifts, argument}
use Rattle.core_expr.specs.Terms.{nodes, nodes_of}
use Rattle.seq_calculus.specs.Schemas.{join, join_from, equals_each}
use Rattle.search_definition.specs.Terms.{if_so, list_of}
use Rattle.search_definition.specs.Instances.{Signed, has_no_parts, atoms, atom_or, where_universal, mapped, signed_atoms}
use Rattle.search_definition.specs.Laws.{AtomsHaveRoom}

-- sizes
nodes-some : (e : Tree) → 1 ≤ nodes e
nodes-some (bound i) = omega arith
nodes-some (app f ps) = omega arith
nodes-some (node h ns ps) = omega arith
nodes-some (bind b ps e) = omega arith

mutual
  nodes-shift : (c k : ℕ) (e : Tree) → nodes (shift c k e) ≡ nodes e
  nodes-shift c k (bound i) = refl
  nodes-shift c k (app f ps) = ap suc (nodes-shifts c k ps)
  nodes-shift c k (node h ns ps) = ap suc (nodes-shifts c k ps)
  nodes-shift c k (bind b ps e) = λ i. suc (nodes-shifts c k ps i + nodes-shift (suc c) k e i)

  nodes-shifts : (c k : ℕ) (ps : Parts) → nodes_of (shifts c k ps) ≡ nodes_of ps
  nodes-shifts c k end = refl
  nodes-shifts c k (part e ps) = λ i. nodes-shift c k e i + nodes-shifts c k ps i

-- a single node put for a variable changes no size
var-size : (t : Tree) → nodes t ≡ 1 → (d i : ℕ) → nodes (put d (part t end) (bound i)) ≡ 1
var-size t h d i = at (nat_lt i d)
  where
    one : (x : Bool) → nodes (cond x t true_) ≡ 1
    one true = h
    one false = refl

    at : (x : Bool) → nodes (cond x (bound i) (shift 0 d (argument (part t end) (i - d)))) ≡ 1
    at true = refl
    at false = nodes-shift 0 d (argument (part t end) (i - d)) ∙ one (nat_eq (i - d) 0)

mutual
  nodes-put : (t : Tree) → nodes t ≡ 1 → (d : ℕ) (e : Tree) → nodes (put d (part t end) e) ≡ nodes e
  nodes-put t h d (bound i) = var-size t h d i
  nodes-put t h d (app f ps) = ap suc (nodes-puts t h d ps)
  nodes-put t h d (node k ns ps) = ap suc (nodes-puts t h d ps)
  nodes-put t h d (bind b ps e) = λ i. suc (nodes-puts t h d ps i + nodes-put t h (suc d) e i)

  nodes-puts : (t : Tree) → nodes t ≡ 1 → (d : ℕ) (ps : Parts) → nodes_of (puts d (part t end) ps) ≡ nodes_of ps
  nodes-puts t h d end = refl
  nodes-puts t h d (part e ps) = λ i. nodes-put t h d e i + nodes-puts t h d ps i

single : (t : Tree) → has_no_parts t ≡ true → nodes t ≡ 1
single (bound i) h = refl
single (app f end) h = refl
single (app f (part e ps)) h = cc
single (node k ns end) h = refl
single (node k ns (part e ps)) h = cc
single (bind b ps e) h = cc

-- with room c or more, the atoms of f are the same
abbrev Same : ℕ → Tree → Type 0
Same c f = (k : ℕ → Sym) (n m d : ℕ) (s : Bool) → c ≤ n → c ≤ m → atoms k n d s f ≡ atoms k m d s f

-- the atoms with room for one step at least
abbrev Step : ℕ → Tree → Type 0
Step c f = (k : ℕ → Sym) (n m d : ℕ) (s : Bool) → c ≤ n → c ≤ m → atoms k (suc n) d s f ≡ atoms k (suc m) d s f

stepped : (c : ℕ) (f : Tree) → Step c f → Same (suc c) f
stepped c f h k zero m d s p q = absurd (omega arith)
stepped c f h k (suc n) zero d s p q = absurd (omega arith)
stepped c f h k (suc n) (suc m) d s p q = h k n m d s (omega arith) (omega arith)

more_room : (c x : ℕ) (f : Tree) → c ≤ x → Same c f → Same x f
more_room c x f l h k n m d s p q = h k n m d s (omega arith) (omega arith)

same-not : (c : ℕ) (a : Tree) → Same c a → Same (suc c) (not_ a)
same-not c a h = stepped c (not_ a) go
  where
    go : Step c (not_ a)
    go k n m d s p q = h k n m d (not s) p q

same-and : (c : ℕ) (a b : Tree) → Same c a → Same c b → Same (suc c) (and_ a b)
same-and c a b h j = stepped c (and_ a b) (λ k n m d s p q i. h k n m d s p q i ++ j k n m d s p q i)

same-or : (c : ℕ) (a b : Tree) → Same c a → Same c b → Same (suc c) (or_ a b)
same-or c a b h j = stepped c (or_ a b) (λ k n m d s p q i. h k n m d s p q i ++ j k n m d s p q i)

same-imp : (c : ℕ) (a b : Tree) → Same c a → Same c b → Same (suc c) (imp_ a b)
same-imp c a b h j = stepped c (imp_ a b) (λ k n m d s p q i. h k n m d (not s) p q i ++ j k n m d s p q i)

same-iff : (c : ℕ) (a b : Tree) → Same c a → Same c b → Same (suc c) (iff_ a b)
same-iff c a b h j =
    stepped c (iff_ a b) (λ k n m d s p q i. (h k n m d true p q i ++ h k n m d false p q i) ++ (j k n m d true p q i ++ j k n m d false p q i))

same-all : (c : ℕ) (p : Tree) → ((k : ℕ → Sym) (d : ℕ) → Same c (inst p (app (k d) end))) → Same (suc c) (all_ p)
same-all c p h = stepped c (all_ p) (λ k n m d s x y. ap (where_universal s) (h k d k n m (suc d) true x y))

same-ex : (c : ℕ) (p : Tree) → ((k : ℕ → Sym) (d : ℕ) → Same c (inst p (app (k d) end))) → Same (suc c) (ex_ p)
same-ex c p h = stepped c (ex_ p) (λ k n m d s x y. ap (where_universal (not s)) (h k d k n m (suc d) false x y))

-- a formula that is an atom whatever the room
atomic : (c : ℕ) (f : Tree) → ((k : ℕ → Sym) (n m d : ℕ) (s : Bool) → atoms k (suc n) d s f ≡ atoms k (suc m) d s f) → Same (suc c) f
atomic c f h = stepped c f (λ k n m d s p q. h k n m d s)

-- the room that is enough: four for each node, and somewhat less for a membership and an inclusion
data Room : ℕ → Tree → Type 0 where
  whole : (n : ℕ) (f : Tree) → 4 * nodes f ≤ n → Room n f
  belongs : (n : ℕ) (t a : Tree) → 4 * (nodes t + nodes a) ≤ n + 3 → Room n (in_ t a)
  within : (n : ℕ) (a b : Tree) → 4 * (nodes a + nodes b) ≤ n → Room n (subseteq_ a b)

abbrev Below : ℕ → Type 0
Below c = (j : ℕ) → j < c → (f : Tree) → Room j f → Same j f

-- an equation is an atom
equation : (t e : Tree) → Same 1 (eq_ t e)
equation t e = atomic 0 (eq_ t e) (go t e)
  where
    go : (t e : Tree) (k : ℕ → Sym) (n m d : ℕ) (s : Bool) → atoms k (suc n) d s (eq_ t e) ≡ atoms k (suc m) d s (eq_ t e)
    go (fun_ u v) (fun_ x y) k n m d s = refl
    go (tuple_ us) (tuple_ vs) k n m d s = refl
    go _ _ k n m d s = refl

truth : (c : ℕ) → Same c false_
truth c = go
  where
    none : (k : ℕ → Sym) (n d : ℕ) (s : Bool) → atoms k n d s false_ ≡ []
    none k zero d s = refl
    none k (suc n) d s = refl

    go : Same c false_
    go k n m d s p q = none k n d s ∙ sym (none k m d s)

-- an or over further equations
joined-room : (t x : Tree) (es : List Tree) (c : ℕ) → 1 ≤ c → Same c x → Same (c + length es) (join_from (λ a b. or_ a b) x (equals_each t es))
joined-room t x [] c p h = subst (λ y. Same y x) (omega arith) h
joined-room t x (e ∷ es) c p h =
    let q : Same 1 (eq_ t e) = equation t e in
    subst (λ y. Same y (join_from (λ a b. or_ a b) (or_ x (eq_ t e)) (equals_each t es))) (omega arith)
    (joined-room t (or_ x (eq_ t e)) es (suc c) (omega arith) (same-or c x (eq_ t e) h (more_room 1 c (eq_ t e) p q)))

length-parts : (ps : Parts) → length (list_of ps) ≤ nodes_of ps
length-parts end = omega arith
length-parts (part e ps) = omega (arith, nodes-some e, length-parts ps)

enum-room : (c : ℕ) (t : Tree) (es : List Tree) → suc (length es) ≤ c → Same c (join (λ a b. or_ a b) false_ (equals_each t es))
enum-room c t [] p = truth c
enum-room c t (e ∷ es) p = more_room (1 + length es) c (join_from (λ a b. or_ a b) (eq_ t e) (equals_each t es)) (omega arith) (joined-room t (eq_ t e) es 1 (omega arith) (equation t e))

-- the atom itself, but where t has no parts
abbrev kept_or : Bool → Bool → ℕ → Tree → Tree → (Tree → List Signed) → List Signed
kept_or y s d f x g = atom_or s d f (mapped g (if_so (not y) None (Some x)))

-- a membership, with three steps at hand
member-room : (c : ℕ) → Below (suc (suc (suc c))) → (t a : Tree) → 4 * (nodes t + nodes a) ≤ c + 6 → Same (suc (suc (suc c))) (in_ t a)
member-room c below t (enum_ es) r =
    let h : Same (suc (suc c)) (join (λ a b. or_ a b) false_ (equals_each t (list_of es))) = enum-room (suc (suc c)) t (list_of es) (omega (arith, length-parts es, nodes-some t)) in
    stepped (suc (suc c)) (in_ t (enum_ es)) (λ k n m d s p q. h k n m d s p q)
member-room c below t (cup_ a b) r =
    let x : Same (suc c) (in_ t a) = below (suc c) (omega arith) (in_ t a) (belongs (suc c) t a (omega (arith, nodes-some b))) in
    let y : Same (suc c) (in_ t b) = below (suc c) (omega arith) (in_ t b) (belongs (suc c) t b (omega (arith, nodes-some a))) in
    let h : Same (suc (suc c)) (or_ (in_ t a) (in_ t b)) = same-or (suc c) (in_ t a) (in_ t b) x y in
    stepped (suc (suc c)) (in_ t (cup_ a b)) (λ k n m d s p q. h k n m d s p q)
member-room c below t (cap_ a b) r =
    let x : Same (suc c) (in_ t a) = below (suc c) (omega arith) (in_ t a) (belongs (suc c) t a (omega (arith, nodes-some b))) in
    let y : Same (suc c) (in_ t b) = below (suc c) (omega arith) (in_ t b) (belongs (suc c) t b (omega (arith, nodes-some a))) in
    let h : Same (suc (suc c)) (and_ (in_ t a) (in_ t b)) = same-and (suc c) (in_ t a) (in_ t b) x y in
    stepped (suc (suc c)) (in_ t (cap_ a b)) (λ k n m d s p q. h k n m d s p q)
member-room c below t (diff_ a b) r =
    let x : Same (suc c) (in_ t a) = below (suc c) (omega arith) (in_ t a) (belongs (suc c) t a (omega (arith, nodes-some b))) in
    let y : Same c (in_ t b) = below c (omega arith) (in_ t b) (belongs c t b (omega (arith, nodes-some a))) in
    let h : Same (suc (suc c)) (and_ (in_ t a) (not_ (in_ t b))) = same-and (suc c) (in_ t a) (not_ (in_ t b)) x (same-not c (in_ t b) y) in
    stepped (suc (suc c)) (in_ t (diff_ a b)) (λ k n m d s p q. h k n m d s p q)
member-room c below t (power_ a) r =
    let h : Same (suc (suc c)) (subseteq_ t a) = below (suc (suc c)) (omega arith) (subseteq_ t a) (within (suc (suc c)) t a (omega arith)) in
    stepped (suc (suc c)) (in_ t (power_ a)) (λ k n m d s p q. h k n m d s p q)
member-room c below t (union_ a) r =
    let p : Tree = and_ (in_ (bound 0) (shift 0 1 a)) (in_ (shift 0 1 t) (bound 0)) in
    let h : Same (suc (suc c)) (ex_ p) = same-ex (suc c) p under in
    stepped (suc (suc c)) (in_ t (union_ a)) (λ k n m d s p q. h k n m d s p q)
  where
    under : (k : ℕ → Sym) (d : ℕ) → Same (suc c) (inst (and_ (in_ (bound 0) (shift 0 1 a)) (in_ (shift 0 1 t) (bound 0))) (app (k d) end))
    under k d =
        let a1 : Tree = put 0 (part (app (k d) end) end) (shift 0 1 a) in
        let t1 : Tree = put 0 (part (app (k d) end) end) (shift 0 1 t) in
        let ea : nodes a1 ≡ nodes a = nodes-put (app (k d) end) refl 0 (shift 0 1 a) ∙ nodes-shift 0 1 a in
        let et : nodes t1 ≡ nodes t = nodes-put (app (k d) end) refl 0 (shift 0 1 t) ∙ nodes-shift 0 1 t in
        let x : Same c (in_ (app (k d) end) a1) = below c (omega arith) (in_ (app (k d) end) a1) (belongs c (app (k d) end) a1 (omega (arith, nodes-some t))) in
        let y : Same c (in_ t1 (app (k d) end)) = below c (omega arith) (in_ t1 (app (k d) end)) (belongs c t1 (app (k d) end) (omega (arith, nodes-some a))) in
        same-and c (in_ (app (k d) end) a1) (in_ t1 (app (k d) end)) x y
member-room c below t (filter_ a p) r = go (has_no_parts t) refl
  where
    go : (x : Bool) → has_no_parts t ≡ x → Same (suc (suc (suc c))) (in_ t (filter_ a p))
    go true e =
        let x : Same (suc c) (in_ t a) = below (suc c) (omega arith) (in_ t a) (belongs (suc c) t a (omega (arith, nodes-some p))) in
        let es : nodes (inst p t) ≡ nodes p = nodes-put t (single t e) 0 p in
        let y : Same (suc c) (inst p t) = below (suc c) (omega arith) (inst p t) (whole (suc c) (inst p t) (omega (arith, nodes-some a, nodes-some t))) in
        let h : Same (suc (suc c)) (and_ (in_ t a) (inst p t)) = same-and (suc c) (in_ t a) (inst p t) x y in
        stepped (suc (suc c)) (in_ t (filter_ a p)) (λ k n m d s u v. kept k n m d s (λ s. h k n m d s u v))
      where
        kept : (k : ℕ → Sym) (n m d : ℕ) (s : Bool) → ((s : Bool) → atoms k n d s (and_ (in_ t a) (inst p t)) ≡ atoms k m d s (and_ (in_ t a) (inst p t))) → atoms k (suc n) d s (in_ t (filter_ a p)) ≡ atoms k (suc m) d s (in_ t (filter_ a p))
        kept k n m d s h =
            ap (λ y. kept_or y s d (in_ t (filter_ a p)) (and_ (in_ t a) (inst p t)) (atoms k n d s)) e
            ∙ h s
            ∙ sym (ap (λ y. kept_or y s d (in_ t (filter_ a p)) (and_ (in_ t a) (inst p t)) (atoms k m d s)) e)
    go false e = atomic (suc (suc c)) (in_ t (filter_ a p)) (λ k n m d s. kept k n d s ∙ sym (kept k m d s))
      where
        kept : (k : ℕ → Sym) (n d : ℕ) (s : Bool) → atoms k (suc n) d s (in_ t (filter_ a p)) ≡ record { holds = s; atom = in_ t (filter_ a p); metas = d } ∷ []
        kept k n d s = ap (λ y. kept_or y s d (in_ t (filter_ a p)) (and_ (in_ t a) (inst p t)) (atoms k n d s)) e
member-room c below t (image_ a e) r =
    let p : Tree = and_ (in_ (bound 0) (shift 0 1 a)) (eq_ (shift 0 1 t) e) in
    let h : Same (suc (suc c)) (ex_ p) = same-ex (suc c) p under in
    stepped (suc (suc c)) (in_ t (image_ a e)) (λ k n m d s p q. h k n m d s p q)
  where
    under : (k : ℕ → Sym) (d : ℕ) → Same (suc c) (inst (and_ (in_ (bound 0) (shift 0 1 a)) (eq_ (shift 0 1 t) e)) (app (k d) end))
    under k d =
        let a1 : Tree = put 0 (part (app (k d) end) end) (shift 0 1 a) in
        let ea : nodes a1 ≡ nodes a = nodes-put (app (k d) end) refl 0 (shift 0 1 a) ∙ nodes-shift 0 1 a in
        let x : Same c (in_ (app (k d) end) a1) = below c (omega arith) (in_ (app (k d) end) a1) (belongs c (app (k d) end) a1 (omega (arith, nodes-some t, nodes-some e))) in
        let y : Same c (eq_ (put 0 (part (app (k d) end) end) (shift 0 1 t)) (put 0 (part (app (k d) end) end) e)) =
        more_room 1 c _ (omega (arith, nodes-some t, nodes-some e, nodes-some a)) (equation (put 0 (part (app (k d) end) end) (shift 0 1 t)) (put 0 (part (app (k d) end) end) e)) in
        same-and c (in_ (app (k d) end) a1) (eq_ (put 0 (part (app (k d) end) end) (shift 0 1 t)) (put 0 (part (app (k d) end) end) e)) x y
member-room c below t boolean_ r =
    let h : Same (suc (suc c)) (or_ (eq_ t true_) (eq_ t false_)) =
    same-or (suc c) (eq_ t true_) (eq_ t false_) (more_room 1 (suc c) (eq_ t true_) (omega arith) (equation t true_)) (more_room 1 (suc c) (eq_ t false_) (omega arith) (equation t false_)) in
    stepped (suc (suc c)) (in_ t boolean_) (λ k n m d s p q. h k n m d s p q)
member-room c below t (funset_ u v) r = atomic (suc (suc c)) (in_ t (funset_ u v)) (λ k n m d s. refl)
member-room c below t a r = atomic (suc (suc c)) (in_ t a) (λ k n m d s. refl)

-- an inclusion, with three steps at hand
subset-room : (c : ℕ) → Below (suc (suc (suc c))) → (a b : Tree) → 4 * (nodes a + nodes b) ≤ c + 3 → Same (suc (suc (suc c))) (subseteq_ a b)
subset-room c below a b r =
    let p : Tree = imp_ (in_ (bound 0) (shift 0 1 a)) (in_ (bound 0) (shift 0 1 b)) in
    let h : Same (suc (suc c)) (all_ p) = same-all (suc c) p under in
    stepped (suc (suc c)) (subseteq_ a b) (λ k n m d s p q. h k n m d s p q)
  where
    under : (k : ℕ → Sym) (d : ℕ) → Same (suc c) (inst (imp_ (in_ (bound 0) (shift 0 1 a)) (in_ (bound 0) (shift 0 1 b))) (app (k d) end))
    under k d =
        let a1 : Tree = put 0 (part (app (k d) end) end) (shift 0 1 a) in
        let b1 : Tree = put 0 (part (app (k d) end) end) (shift 0 1 b) in
        let ea : nodes a1 ≡ nodes a = nodes-put (app (k d) end) refl 0 (shift 0 1 a) ∙ nodes-shift 0 1 a in
        let eb : nodes b1 ≡ nodes b = nodes-put (app (k d) end) refl 0 (shift 0 1 b) ∙ nodes-shift 0 1 b in
        let x : Same c (in_ (app (k d) end) a1) = below c (omega arith) (in_ (app (k d) end) a1) (belongs c (app (k d) end) a1 (omega (arith, nodes-some b))) in
        let y : Same c (in_ (app (k d) end) b1) = below c (omega arith) (in_ (app (k d) end) b1) (belongs c (app (k d) end) b1 (omega (arith, nodes-some a))) in
        same-imp c (in_ (app (k d) end) a1) (in_ (app (k d) end) b1) x y

-- three steps are at hand
belongs-same : (c : ℕ) → Below c → (t a : Tree) → 4 * (nodes t + nodes a) ≤ c + 3 → Same c (in_ t a)
belongs-same zero below t a r = absurd (omega (arith, nodes-some t, nodes-some a))
belongs-same (suc zero) below t a r = absurd (omega (arith, nodes-some t, nodes-some a))
belongs-same (suc (suc zero)) below t a r = absurd (omega (arith, nodes-some t, nodes-some a))
belongs-same (suc (suc (suc c))) below t a r = member-room c below t a (omega arith)

within-same : (c : ℕ) → Below c → (a b : Tree) → 4 * (nodes a + nodes b) ≤ c → Same c (subseteq_ a b)
within-same zero below a b r = absurd (omega (arith, nodes-some a, nodes-some b))
within-same (suc zero) below a b r = absurd (omega (arith, nodes-some a, nodes-some b))
within-same (suc (suc zero)) below a b r = absurd (omega (arith, nodes-some a, nodes-some b))
within-same (suc (suc (suc c))) below a b r = subset-room c below a b (omega arith)

eq-alone : (a : Tree) (k : ℕ → Sym) (n m d : ℕ) (s : Bool) → atoms k (suc n) d s (node Eq [] (part a end)) ≡ atoms k (suc m) d s (node Eq [] (part a end))
eq-alone (fun_ u v) k n m d s = refl
eq-alone (tuple_ us) k n m d s = refl
eq-alone _ k n m d s = refl

eq-long : (a b x : Tree) (ps : Parts) (k : ℕ → Sym) (n m d : ℕ) (s : Bool)
    → atoms k (suc n) d s (node Eq [] (part a (part b (part x ps)))) ≡ atoms k (suc m) d s (node Eq [] (part a (part b (part x ps))))
eq-long (fun_ u v) (fun_ y z) x ps k n m d s = refl
eq-long (tuple_ us) (tuple_ vs) x ps k n m d s = refl
eq-long _ _ x ps k n m d s = refl

in-long : (t a x : Tree) (ps : Parts) (k : ℕ → Sym) (n m d : ℕ) (s : Bool)
    → atoms k (suc n) d s (node In [] (part t (part a (part x ps)))) ≡ atoms k (suc m) d s (node In [] (part t (part a (part x ps))))
in-long t (filter_ u v) x ps k n m d s = refl
in-long t _ x ps k n m d s = refl

whole-same : (c : ℕ) → Below (suc c) → (f : Tree) → 4 * nodes f ≤ suc c → Same (suc c) f
whole-same c below (not_ a) r = same-not c a (below c (omega arith) a (whole c a (omega arith)))
whole-same c below (and_ a b) r = same-and c a b (below c (omega arith) a (whole c a (omega arith))) (below c (omega arith) b (whole c b (omega arith)))
whole-same c below (or_ a b) r = same-or c a b (below c (omega arith) a (whole c a (omega arith))) (below c (omega arith) b (whole c b (omega arith)))
whole-same c below (imp_ a b) r = same-imp c a b (below c (omega arith) a (whole c a (omega arith))) (below c (omega arith) b (whole c b (omega arith)))
whole-same c below (iff_ a b) r = same-iff c a b (below c (omega arith) a (whole c a (omega arith))) (below c (omega arith) b (whole c b (omega arith)))
whole-same c below (all_ p) r = same-all c p (λ k d. let e : nodes (inst p (app (k d) end)) ≡ nodes p = nodes-put (app (k d) end) refl 0 p in below c (omega arith) (inst p (app (k d) end)) (whole c (inst p (app (k d) end)) (omega arith)))
whole-same c below (ex_ p) r = same-ex c p (λ k d. let e : nodes (inst p (app (k d) end)) ≡ nodes p = nodes-put (app (k d) end) refl 0 p in below c (omega arith) (inst p (app (k d) end)) (whole c (inst p (app (k d) end)) (omega arith)))
whole-same c below true_ r = atomic c true_ (λ k n m d s. refl)
whole-same c below false_ r = atomic c false_ (λ k n m d s. refl)
whole-same c below (in_ t a) r = belongs-same (suc c) below t a (omega arith)
whole-same c below (subseteq_ a b) r = within-same (suc c) below a b (omega arith)
whole-same c below (eq_ a b) r = more_room 1 (suc c) (eq_ a b) (omega arith) (equation a b)
whole-same c below (node Eq [] (part a end)) r = atomic c (node Eq [] (part a end)) (eq-alone a)
whole-same c below (node Eq [] (part a (part b (part x ps)))) r = atomic c (node Eq [] (part a (part b (part x ps)))) (eq-long a b x ps)
whole-same c below (node In [] (part t (part a (part x ps)))) r = atomic c (node In [] (part t (part a (part x ps)))) (in-long t a x ps)
whole-same c below f r = atomic c f (λ k n m d s. refl)

room-same : (c : ℕ) → Below c → (f : Tree) → Room c f → Same c f
room-same zero below f (whole _ _ r) = absurd (omega (arith, nodes-some f))
room-same (suc c) below f (whole _ _ r) = whole-same c below f r
room-same c below f (belongs _ t a r) = belongs-same c below t a r
room-same c below f (within _ a b r) = within-same c below a b r

all-below : (c : ℕ) → Below c
all-below zero j p f r = absurd (omega arith)
all-below (suc c) j p f r = room-same j (λ i q. all-below c i (omega arith)) f r

-- four steps for each node are enough
atoms-room : (k : ℕ → Sym) (n d : ℕ) (s : Bool) (f : Tree) → 4 * nodes f ≤ n → atoms k n d s f ≡ atoms k (4 * nodes f) d s f
atoms-room k n d s f r =
    let h : Same (4 * nodes f) f = room-same (4 * nodes f) (all-below (4 * nodes f)) f (whole (4 * nodes f) f (omega arith)) in
    h k n (4 * nodes f) d s r (omega arith)

pub atoms_have_room : AtomsHaveRoom
unfolding signed_atoms
atoms_have_room k n u r =
    let e : nodes (inst u.body (app (k 0) end)) ≡ nodes u.body = nodes-put (app (k 0) end) refl 0 u.body in
    atoms-room k n 1 u.holds (inst u.body (app (k 0) end)) (omega arith) ∙ sym (atoms-room k (4 * nodes u.body + 4) 1 u.holds (inst u.body (app (k 0) end)) (omega arith))
