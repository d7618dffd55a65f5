use Rattle.std.proofs.Common.{◌≡◌, sym, subst, Some, inl, inr, ◌∙◌, ℕ, zero, suc, ◌+◌, ◌<◌, ◌≤◌, List, [], ◌∷◌, ◌++◌, arith, refl, max}
use Rattle.tla_ast.specs.declared.place.Place.{Place}
use Rattle.tla_ast.specs.Tree.{plain, Follows}
use denote.Param.Weighed.{most}
use Rattle.tla_ast.specs.declared.tree.Node.{Node, out-Node, roll-Node, size_is-Node, out-roll-Node}
use Rattle.tla_ast.specs.declared.tree.Form.{Form}
use Rattle.tla_ast.specs.declared.tree.Form.TheViews.{size_is-Form, deep-Tuple}
use Rattle.tla_ast.specs.declared.tree.Form.TheVariants.{Tuple}
use Rattle.tla_ast.proofs.tree.Node.TheLaws as node
use Rattle.tla_ast.proofs.tree.Form.TheLaws as form

-- every form that is reached by parts is less deep than this
mutual
  pub data Light (d : ℕ) : Node → Type 0 where
    light : {n : Node} → form.the_size (out-Node n).form < d → AreLight d (out-Node n).parts → Light d n

  pub data AreLight (d : ℕ) : List Node → Type 0 where
    none : AreLight d []
    more : {n : Node} {ns : List Node} → Light d n → AreLight d ns → AreLight d (n ∷ ns)

size-is : (n : Node) → node.the_size n ≡ max (form.the_size (out-Node n).form) (max (most node.the_size (out-Node n).parts) 0) + 1
size-is n = size_is-Node n

all-by : (k d : ℕ) → ((n : Node) → node.the_size n ≤ k → Light d n) → (ns : List Node) → most node.the_size ns ≤ k → AreLight d ns
all-by k d f [] h = none
all-by k d f (n ∷ ns) h = more (f n (omega arith)) (all-by k d f ns (omega arith))

light-by : (k d : ℕ) → k ≤ d → (n : Node) → node.the_size n ≤ k → Light d n
light-by zero d h n s = let e = size-is n in absurd (omega arith)
light-by (suc k) d h n s = let e = size-is n in light (omega arith) (all-by k d (light-by k d (omega arith)) (out-Node n).parts (omega arith))

pub form-light : (d : ℕ) (n : Node) (f : Form) → f ≡ (out-Node n).form → Light d n → form.the_size f < d
form-light d n f e (light h l) = subst (λ x. form.the_size x < d) (sym e) h

last-light : (d : ℕ) (all front : List Node) (last : Node) → all ≡ front ++ last ∷ [] → AreLight d all → Light d last × AreLight d front
last-light d all front last e l = go front last (subst (λ x. AreLight d x) e l)
  where
    go : (ns : List Node) (n : Node) → AreLight d (ns ++ n ∷ []) → Light d n × AreLight d ns
    go [] n (more h ls) = (h, none)
    go (m ∷ ns) n (more h ls) = let r = go ns n ls in (r.0, more h r.1)

-- the parts of a node are lighter than the node is deep
pub parts-light : (n last : Node) (front : List Node) → (out-Node n).parts ≡ front ++ last ∷ [] → Light (node.the_size n) last × AreLight (node.the_size n) front
parts-light n last front q = let e = size-is n in
    last-light (node.the_size n) (out-Node n).parts front last q (all-by (node.the_size n) (node.the_size n) (light-by (node.the_size n) (node.the_size n) (omega arith)) (out-Node n).parts (omega arith))

-- a plain node over light ones, in the place of a light one
wrapped : (d : ℕ) (n : Node) (at : Place) (ns : List Node) → Light d n → AreLight d ns → Light d (roll-Node (record { form = Tuple; parts = ns; place = at }))
wrapped d n at ns h l =
    let e = sym (out-roll-Node (record { form = Tuple; parts = ns; place = at })) in
    let p = deep-Tuple in
    let q = size_is-Form (out-Node n).form in
    let r = form-light d n _ refl h in
    light (subst (λ x. form.the_size x.form < d) e (omega arith)) (subst (λ x. AreLight d x.parts) e l)

both-light : (d : ℕ) (ns ms : List Node) → AreLight d ns → AreLight d ms → AreLight d (ns ++ ms)
both-light d [] ms none l = l
both-light d (n ∷ ns) ms (more h k) l = more h (both-light d ns ms k l)

under-light : (d : ℕ) (n : Node) → Light d n → AreLight d (out-Node n).parts
under-light d n (light h k) = k

turned : (d : ℕ) (n first : Node) (at : Place) (others rest after : List Node) → after ≡ plain at rest ∷ others → Light d n → AreLight d rest → AreLight d (first ∷ others) → Light d first × AreLight d after
turned d n first at others rest after q l ls (more h k) = (h, subst (λ x. AreLight d x) (sym q) (more (wrapped d n at rest l ls) k))

-- what follows a light node is light
pub next-light : (d : ℕ) (n : Node) (at : Place) (parts rest : List Node) (p : Node × List Node) → parts ≡ (out-Node n).parts → Follows rest parts at (Some p) → Light d n → AreLight d rest → Light d p.0 × AreLight d p.1
next-light d n at parts rest p e (inl q) l ls = last-light d (rest ++ parts) p.1 p.0 q (both-light d rest parts ls (subst (λ x. AreLight d x) (sym e) (under-light d n l)))
next-light d n at parts rest p e (inr q) l ls = turned d n p.0 at q.0 rest p.1 q.2 l ls (subst (λ x. AreLight d x) (sym e ∙ q.1) (under-light d n l))
