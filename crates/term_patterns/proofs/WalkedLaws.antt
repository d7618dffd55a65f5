-- Turns of the walk that makes a pattern.
use Rattle.std.proofs.Common.{◌≡◌, ℕ, suc, ◌+◌, ◌*◌, ◌<◌, ◌≤◌, Bool, true, false, Option, Some, None, List, [], ◌∷◌, ◌++◌, length, map, get_or, refl, ap, sym, ◌∙◌, arith, subst, inl, inr, append_assoc, append-nil}
use Rattle.std.specs.Prelude.{IsSome}
use Rattle.core_expr.specs.Tree.{Tree, true_}
use Rattle.core_expr.specs.Tree.Tree.{bound, app, node, bind}
use Rattle.core_expr.specs.Terms.{same, nodes}
use Rattle.core_expr.specs.Nodes.{Node, AreBelow, node_kind, node_make, picked, tree_over}
use Rattle.term_bank.specs.Banks.{IsDistinct, Extends, HasNode}
use Rattle.term_bank.specs.Loose.{binds, is_binder}
use Rattle.term_bank.proofs.NodeLaws.{binder-kind}
use Rattle.term_bank.proofs.TableLaws.{AreBelow-more, picked-extend, fits-picked}
use Rattle.term_bank.proofs.InstLaws.{same_tree, longer, Extends-trans}
use Rattle.term_walks.proofs.TreeLaws.{shape-node}
use Rattle.term_walks.proofs.NodeLaws.{HasTree-more, one_node, same-index}
use Rattle.term_patterns.specs.Abstracted.{abstracted}
use Rattle.term_patterns.specs.declared.spots.Spot.{Spot}
use Rattle.term_patterns.specs.declared.tasks.Task.{Task}
use Rattle.term_patterns.specs.declared.tasks.Task.TheVariants.{Visit, Build}
use Rattle.term_patterns.specs.Depths.{spot, spots_under, image_at, kept}
use Rattle.term_patterns.specs.Walked.{is_bound, or_node, image_or, AreWithin, spot_of, HasSpots, IsPartOf, IsVisited, IsRemade, IsMade, IsBuilt, IsReady, AreReady, AreSupported, AreUnder, IsTurn, weights, IsImage, IsOnWay}
use Rattle.term_patterns.proofs.AbstractedLaws.{abs_all, abstracted-made, abstracted-self, nodes_all, nodes-made}
use Rattle.term_patterns.proofs.TaskLaws.{Last, kept_last, kept_has, kept_more, ready_after, supported_after, last_supported, visits_ready, visits_supported, under-both, under_front, under_last, weights-both}

-- a node that was there
was_node : (ts now : List Tree) (i : ℕ) (n : Node) → Extends ts now → i < length ts → AreBelow i n.parts → HasNode now i n → HasNode ts i n
was_node ts now i n x h b g =
    let c = AreBelow-more i (length ts) n.parts (omega arith) b in
    record {
      within = h;
      node = (g.node.0, c);
      tree = sym (same_tree ts now i x h) ∙ g.tree ∙ ap (λ us. tree_over us n) x.1 ∙ ap (λ us. node_over us) (picked-extend ts x.0 n.parts c);
    }
  where
    node_over : List Tree → Tree
    node_over us = node_make n.head n.numbers us

pub spots_back : (ts now : List Tree) (s : ℕ) (q : Spot) (ps : List Spot) → Extends ts now → q.node < length ts → HasSpots now s q ps → HasSpots ts s q ps
spots_back ts now s q ps x l h = record { other = h.other; node = h.node; stands = was_node ts now q.node h.node x l h.below h.stands; below = h.below; spots = h.spots }

part_back : (ts now : List Tree) (s : ℕ) (q : Spot) (ps : List Spot) → Extends ts now → q.node < length ts → IsPartOf now s q ps → IsPartOf ts s q ps
part_back ts now s q ps x l (inl h) = inl h
part_back ts now s q ps x l (inr h) = inr (spots_back ts now s q ps x l h)

-- there is one such list
part_once : (ts : List Tree) (s : ℕ) (q : Spot) (ps qs : List Spot) → IsDistinct ts → IsPartOf ts s q ps → IsPartOf ts s q qs → ps ≡ qs
part_once ts s q ps qs d (inl h) (inl g) = h.1 ∙ sym g.1
part_once ts s q ps qs d (inl h) (inr g) = absurd (g.other h.0)
part_once ts s q ps qs d (inr h) (inl g) = absurd (h.other g.0)
part_once ts s q ps qs d (inr h) (inr g) = h.spots ∙ ap (λ (n : Node). spots_under (is_binder n.head) q.depth n.parts) (one_node ts q.node h.node g.node d h.stands g.stands) ∙ sym g.spots

-- the parts stand lower
spots_less : (e i d : ℕ) (b : Bool) (ps : List ℕ) → AreBelow i ps → i + d ≤ e → AreUnder e (map Visit (spots_under b d ps))
spots_less e i d b [] h l = tt
spots_less e i d true (p ∷ []) h l = let k = h.0 in (omega (arith, k, l), tt)
spots_less e i d false (p ∷ []) h l = let k = h.0 in (omega (arith, k, l), tt)
spots_less e i d b (p ∷ q ∷ ps) h l = let k = h.0 in (omega (arith, k, l), spots_less e i d b (q ∷ ps) h.1 l)

part_less : (ts : List Tree) (s e : ℕ) (q : Spot) (ps : List Spot) → IsPartOf ts s q ps → q.node + q.depth ≤ e → AreUnder e (map Visit ps)
part_less ts s e q ps (inl h) l = subst (λ xs. AreUnder e (map Visit xs)) (sym h.1) tt
part_less ts s e q ps (inr h) l = subst (λ xs. AreUnder e (map Visit xs)) (sym h.spots) (spots_less e q.node q.depth (is_binder h.node.head) h.node.parts h.below l)

-- and are lighter
spots_weight : (ts : List Tree) (b : Bool) (d : ℕ) (ps : List ℕ) → weights ts (map Visit (spots_under b d ps)) ≡ 2 * nodes_all (picked ts ps)
spots_weight ts b d [] = refl
spots_weight ts b d (p ∷ []) = omega arith
spots_weight ts b d (p ∷ q ∷ ps) = let e = spots_weight ts b d (q ∷ ps) in omega (arith, e)

positive : (t : Tree) → 0 < nodes t
positive (bound i) = omega arith
positive (app f ps) = omega arith
positive (node h ns ps) = omega arith
positive (bind b ps e) = omega arith

node_weight : (ts : List Tree) (i : ℕ) (n : Node) → HasNode ts i n → nodes (get_or ts i true_) ≡ suc (nodes_all (picked ts n.parts))
node_weight ts i n g = ap nodes g.tree ∙ nodes-made (node_kind n.head n.numbers) n.numbers (picked ts n.parts) (shape-node n.head n.numbers _ (fits-picked ts n g.node.0))

part_weight : (ts : List Tree) (s : ℕ) (q : Spot) (ps : List Spot) → IsPartOf ts s q ps → 1 + weights ts (map Visit ps) < 2 * nodes (get_or ts q.node true_)
part_weight ts s q ps (inl h) = let e = ap (λ xs. weights ts (map Visit xs)) h.1 in let k = positive (get_or ts q.node true_) in omega (arith, e, k)
part_weight ts s q ps (inr h) =
    let e = ap (λ xs. weights ts (map Visit xs)) h.spots in
    let f = spots_weight ts (is_binder h.node.head) q.depth h.node.parts in
    let g = node_weight ts q.node h.node h.stands in
    omega (arith, e, f, g)

-- A visit.
module _ (ts now : List Tree) (s e : ℕ) (es : List (Spot × ℕ)) (tasks mid : List Task) (d : IsDistinct ts) (inside : e < length ts) where
  module _ (q : Spot) (is : tasks ≡ mid ++ Visit q ∷ []) (h : IsOnWay ts now s e tasks es) where
    under : AreUnder e (mid ++ Visit q ∷ [])
    under = subst (AreUnder e) is h.under

    low : q.node + q.depth ≤ e
    low = under_last e mid (Visit q) under

    supported : AreSupported ts s es (mid ++ Visit q ∷ [])
    supported = subst (AreSupported ts s es) is h.supported

    start : IsReady es (mid ++ Visit q ∷ []) (spot e 0)
    start = subst (λ xs. IsReady es xs (spot e 0)) is h.start

    -- by tasks that take its place
    replaced : (us new : List Task) → new ≡ mid ++ us → IsReady es us q → AreSupported ts s es us → AreUnder e us → IsOnWay ts now s e new es
    replaced us new z own up low =
        subst (λ xs. IsOnWay ts now s e xs es) (sym z)
        (record {
          extends = h.extends;
          distinct = h.distinct;
          images = h.images;
          under = under-both e mid us (under_front e mid (Visit q ∷ []) under) low;
          supported = supported_after (Visit q) us es es (λ p w. w) own ts s mid up supported;
          start = ready_after (Visit q) us es es (λ p w. w) own mid (spot e 0) start;
        })

    parts_there : (ps : List Spot) → IsPartOf now s q ps → IsPartOf ts s q ps
    parts_there ps w = part_back ts now s q ps h.extends (omega (arith, low, inside)) w

    pub way_visit : (new : List Task) → IsVisited now s es q mid new → IsOnWay ts now s e new es
    way_visit new (inl w) = replaced [] new (w.1 ∙ sym (append-nil mid)) (inl w.0) tt tt
    way_visit new (inr w) =
        replaced (Build q ∷ map Visit w.0) new (w.2 ∙ append_assoc mid (Build q ∷ []) (map Visit w.0)) (inr (inl refl))
        ((λ ps g. subst (AreReady es (map Visit w.0)) (part_once ts s q w.0 ps d (parts_there w.0 w.1) g) (visits_ready es w.0)), visits_supported ts s es w.0)
        (low, part_less ts s e q w.0 (parts_there w.0 w.1) low)

    pub visit_lighter : (new : List Task) → IsVisited now s es q mid new → weights ts new < weights ts tasks
    visit_lighter new (inl w) =
        let a = ap (weights ts) is in
        let b = ap (weights ts) w.1 in
        let c = weights-both ts mid (Visit q ∷ []) in
        let k = positive (get_or ts q.node true_) in
        omega (arith, a, b, c, k)
    visit_lighter new (inr w) =
        let a = ap (weights ts) is in
        let b = ap (weights ts) (w.2 ∙ append_assoc mid (Build q ∷ []) (map Visit w.0)) in
        let c = weights-both ts mid (Visit q ∷ []) in
        let f = weights-both ts mid (Build q ∷ map Visit w.0) in
        let k = part_weight ts s q w.0 (parts_there w.0 w.1) in
        omega (arith, a, b, c, f, k)

-- the images of parts
some_of : (o : Option ℕ) → IsSome o → (k : ℕ) × (o ≡ Some k)
some_of (Some k) h = (k, refl)
some_of None h = absurd (never h)
  where
    never : false ≡ true → ⊥
    never h = cc

abbrev AreImages : List Tree → List Tree → ℕ → List (Spot × ℕ) → List Spot → Type 0
AreImages ts now s es [] = Unit {0}
AreImages ts now s es (p ∷ ps) = (get_or now (image_or es p) true_ ≡ abstracted (get_or ts s true_) p.depth (get_or ts p.node true_)) × AreImages ts now s es ps

ready_images : (ts now : List Tree) (s : ℕ) (es : List (Spot × ℕ)) (ps : List Spot) → ((p : Spot) (k : ℕ) → image_at es p ≡ Some k → IsImage ts now s p k) → AreReady es [] ps → AreImages ts now s es ps
ready_images ts now s es [] f h = tt
ready_images ts now s es (p ∷ ps) f h = (go h.0, ready_images ts now s es ps f h.1)
  where
    at : (k : ℕ) × (image_at es p ≡ Some k) → get_or now (image_or es p) true_ ≡ abstracted (get_or ts s true_) p.depth (get_or ts p.node true_)
    at r = ap (λ o. get_or now (or_node o p.node) true_) r.1 ∙ (f p r.0 r.1).tree.tree

    go : IsReady es [] p → get_or now (image_or es p) true_ ≡ abstracted (get_or ts s true_) p.depth (get_or ts p.node true_)
    go (inl w) = at (some_of (image_at es p) w)
    go (inr w) = absurd w

picked-images : (ts now : List Tree) (s : ℕ) (es : List (Spot × ℕ)) (b : Bool) (d : ℕ) (ps : List ℕ) → AreImages ts now s es (spots_under b d ps) → picked now (map (image_or es) (spots_under b d ps)) ≡ abs_all (get_or ts s true_) b d (picked ts ps)
picked-images ts now s es b d [] h = refl
picked-images ts now s es b d (p ∷ []) h = λ i. h.0 i ∷ []
picked-images ts now s es b d (p ∷ q ∷ ps) h = λ i. h.0 i ∷ picked-images ts now s es b d (q ∷ ps) h.1 i

not_same : (ts : List Tree) (s i : ℕ) → IsDistinct ts → s < length ts → i < length ts → (i ≡ s → ⊥) → same (get_or ts s true_) (get_or ts i true_) ≡ false
not_same ts s i d k l ne = go (same (get_or ts s true_) (get_or ts i true_)) refl
  where
    go : (b : Bool) → same (get_or ts s true_) (get_or ts i true_) ≡ b → same (get_or ts s true_) (get_or ts i true_) ≡ false
    go true e = absurd (ne (sym (same-index ts s i d k l e)))
    go false e = e

-- A node that is made.
module _ (ts now next : List Tree) (s e : ℕ) (es fs : List (Spot × ℕ)) (tasks mid : List Task) (d : IsDistinct ts) (inside : e < length ts) (there : s < length ts) (free : is_bound (get_or ts s true_) ≡ false) where
  module _ (q : Spot) (is : tasks ≡ mid ++ Build q ∷ []) (h : IsOnWay ts now s e tasks es) (ext : Extends now next) (dn : IsDistinct next) where
    under_made : AreUnder e (mid ++ Build q ∷ [])
    under_made = subst (AreUnder e) is h.under

    inner : q.node < length ts
    inner = let l = under_last e mid (Build q) under_made in omega (arith, l, inside)

    supported_made : AreSupported ts s es (mid ++ Build q ∷ [])
    supported_made = subst (AreSupported ts s es) is h.supported

    remade : (k : ℕ) (w : IsRemade now next s q es k) → get_or next k true_ ≡ abstracted (get_or ts s true_) q.depth (get_or ts q.node true_)
    remade k w =
        let g : HasSpots ts s q w.parts = spots_back ts now s q w.parts h.extends inner w.has in
        let n : Node = w.has.node in
        let stands : HasNode ts q.node n = was_node ts now q.node n h.extends inner w.has.below w.has.stands in
        let r : AreReady es [] w.parts = last_supported ts s es mid (Build q) supported_made w.parts (inr g) in
        let i : AreImages ts now s es (spots_under (is_binder n.head) q.depth n.parts) = subst (AreImages ts now s es) w.has.spots (ready_images ts now s es w.parts h.images r) in
        let a : picked now (map (image_or es) w.parts) ≡ abs_all (get_or ts s true_) (is_binder n.head) q.depth (picked ts n.parts) = ap (λ xs. picked now (map (image_or es) xs)) w.has.spots ∙ picked-images ts now s es (is_binder n.head) q.depth n.parts i in
        let b : abs_all (get_or ts s true_) (is_binder n.head) q.depth (picked ts n.parts) ≡ abs_all (get_or ts s true_) (binds (node_kind n.head n.numbers)) q.depth (picked ts n.parts) = ap (λ x. abs_all (get_or ts s true_) x q.depth (picked ts n.parts)) (binder-kind n.head n.numbers) in
        let other : same (get_or ts s true_) (node_make n.head n.numbers (picked ts n.parts)) ≡ false = ap (same (get_or ts s true_)) (sym stands.tree) ∙ not_same ts s q.node d there inner w.has.other in
        w.tree.tree ∙ ap (node_make n.head n.numbers) (a ∙ b)
        ∙ sym (abstracted-made (get_or ts s true_) (node_kind n.head n.numbers) q.depth n.numbers (picked ts n.parts) (shape-node n.head n.numbers _ (fits-picked ts n stands.node.0)) other)
        ∙ ap (abstracted (get_or ts s true_) q.depth) (sym stands.tree)

    made : (k : ℕ) → IsMade now next s q es k → IsImage ts next s q k
    made k (inl w) =
        record {
          node = inner;
          tree = record { within = w.1.within; tree = w.1.tree ∙ sym (ap (λ i. abstracted (get_or ts s true_) q.depth (get_or ts i true_)) w.0 ∙ abstracted-self (get_or ts s true_) q.depth free) };
        }
    made k (inr w) = record { node = inner; tree = record { within = w.tree.within; tree = remade k w } }

    later_image : (p : Spot) (k : ℕ) → IsImage ts now s p k → IsImage ts next s p k
    later_image p k w = record { node = w.node; tree = HasTree-more now next k _ ext w.tree }

    some_is : (x y : ℕ) → Some x ≡ Some y → x ≡ y
    some_is x y q = cc

    images : (k : ℕ) → IsMade now next s q es k → (p : Spot) (m : ℕ) → image_at (kept q k es) p ≡ Some m → IsImage ts next s p m
    images k w p m z = go (kept_last es q p k)
      where
        go : Last es (kept q k es) q p k → IsImage ts next s p m
        go (Last.old r) = later_image p m (h.images p m (sym r ∙ z))
        go (Last.new g r) = subst (λ x. IsImage ts next s x m) g (subst (IsImage ts next s q) (some_is k m (sym r ∙ z)) (made k w))

    pub way_build : IsBuilt now next s q es fs → IsOnWay ts next s e mid fs
    way_build w = subst (IsOnWay ts next s e mid) (sym w.2) (subst (λ xs. IsOnWay ts next s e xs (kept q w.0 es)) (append-nil mid) way)
      where
        own : IsReady (kept q w.0 es) [] q
        own = inl (kept_has es q w.0)

        way : IsOnWay ts next s e (mid ++ []) (kept q w.0 es)
        way =
            record {
              extends = Extends-trans ts now next h.extends ext;
              distinct = dn;
              images = images w.0 w.1;
              under = under-both e mid [] (under_front e mid (Build q ∷ []) under_made) tt;
              supported = supported_after (Build q) [] es (kept q w.0 es) (λ p g. kept_more es q p w.0 g) own ts s mid tt supported_made;
              start = ready_after (Build q) [] es (kept q w.0 es) (λ p g. kept_more es q p w.0 g) own mid (spot e 0) (subst (λ xs. IsReady es xs (spot e 0)) is h.start);
            }

    pub build_lighter : weights ts mid < weights ts tasks
    build_lighter =
        let a = ap (weights ts) is in
        let c = weights-both ts mid (Build q ∷ []) in
        omega (arith, a, c)

-- the bank grows
way_more : (ts now next : List Tree) (s e : ℕ) (tasks : List Task) (es : List (Spot × ℕ)) → Extends now next → IsDistinct next → IsOnWay ts now s e tasks es → IsOnWay ts next s e tasks es
way_more ts now next s e tasks es ext dn h =
    record {
      extends = Extends-trans ts now next h.extends ext;
      distinct = dn;
      images = λ p k z. let w = h.images p k z in record { node = w.node; tree = HasTree-more now next k _ ext w.tree };
      under = h.under;
      supported = h.supported;
      start = h.start;
    }

-- A turn, whatever its task is.
module _ (ts now : List Tree) (s e : ℕ) (es : List (Spot × ℕ)) (tasks mid : List Task) (t : Task) (inside : e < length ts) (is : tasks ≡ mid ++ t ∷ []) (h : IsOnWay ts now s e tasks es) where
  low_turn : (spot_of t).node + (spot_of t).depth ≤ e
  low_turn = under_last e mid t (subst (AreUnder e) is h.under)

  pub turn_node : (spot_of t).node < length now
  turn_node = let l = longer ts now h.extends in let k = low_turn in omega (arith, l, k, inside)

  pub turn_depth : (spot_of t).depth ≤ e
  turn_depth = let k = low_turn in omega (arith, k)

  pub turn_within : AreWithin (length now) es
  turn_within p k z = (h.images p k z).tree.within

  module _ (next : List Tree) (new : List Task) (fs : List (Spot × ℕ)) (d : IsDistinct ts) (there : s < length ts) (free : is_bound (get_or ts s true_) ≡ false) (ext : Extends now next) (dn : IsDistinct next) where
    pub way_turn : IsTurn now next s t mid new es fs → IsOnWay ts next s e new fs
    way_turn w = go t is w
      where
        go : (t : Task) → tasks ≡ mid ++ t ∷ [] → IsTurn now next s t mid new es fs → IsOnWay ts next s e new fs
        go (Visit q) z g = subst (IsOnWay ts next s e new) (sym g.1) (way_more ts now next s e new es ext dn (way_visit ts now s e es tasks mid d inside q z h new g.0))
        go (Build q) z g = subst (λ xs. IsOnWay ts next s e xs fs) (sym g.1) (way_build ts now next s e es fs tasks mid d inside there free q z h ext dn g.0)

    pub turn_lighter : IsTurn now next s t mid new es fs → weights ts new < weights ts tasks
    turn_lighter w = go t is w
      where
        go : (t : Task) → tasks ≡ mid ++ t ∷ [] → IsTurn now next s t mid new es fs → weights ts new < weights ts tasks
        go (Visit q) z g = visit_lighter ts now s e es tasks mid d inside q z h new g.0
        go (Build q) z g = subst (λ xs. weights ts xs < weights ts tasks) (sym g.1) (build_lighter ts now next s e es fs tasks mid d inside there free q z h ext dn)
