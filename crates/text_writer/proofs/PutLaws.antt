-- A node that is put into a table stands there.
use Rattle.std.proofs.Common.{◌≡◌, suc, ◌+◌, ◌<◌, Bool, true, false, cond, not, ◌||◌, List, [], ◌∷◌, ◌++◌, length, get_or, refl, ap, sym, ◌∙◌, arith, append_assoc, append-nil, length-append, eqb, eq-eqb, ne_eqb}
use Rattle.std.proofs.lemmas.List.{get_or_at}
use Rattle.std.proofs.lemmas.List.Folds.{list_any-append, list_any_at, prefix_len-append}
use Rattle.std.specs.List.{list_any}
use Rattle.seq_calculus.specs.declared.lists.ProofNode.{ProofNode}
use Rattle.text_writer.specs.Keys.{same_node, node-Decides}
use Rattle.text_writer.specs.Shared.{here}
use Rattle.text_writer.specs.Tables.{Placed, seek, put}

-- a table that others were added to
pub record Extends (old new : List ProofNode) : Type 0 where
  pub more : List ProofNode
  pub new_is : new ≡ old ++ more

pub same : (ns : List ProofNode) → Extends ns ns
same ns = record { more = []; new_is = sym (append-nil ns) }

pub join : {ns ms ks : List ProofNode} → Extends ns ms → Extends ms ks → Extends ns ks
join {ns} x y = record { more = x.more ++ y.more; new_is = y.new_is ∙ ap (λ l. l ++ y.more) x.new_is ∙ append_assoc ns x.more y.more }

abbrev is_in : ProofNode → List ProofNode → Bool
is_in n ns = list_any (same_node n) ns

pub seek-none : (n : ProofNode) (ns : List ProofNode) → is_in n ns ≡ false → seek n ns ≡ length ns
seek-none n [] h = refl
seek-none n (m ∷ ns) h = go (same_node n m) (seek-none n ns) h
  where
    go : (b : Bool) → (is_in n ns ≡ false → seek n ns ≡ length ns) → (b || is_in n ns) ≡ false → cond (not b) (1 + seek n ns) 0 ≡ length (m ∷ ns)
    go true f h = cc
    go false f h = omega (arith, f h)

pub seek-some : (n : ProofNode) (ns : List ProofNode) (d : ProofNode) → is_in n ns ≡ true → (seek n ns < length ns) × (get_or ns (seek n ns) d ≡ n)
seek-some n [] d h = cc
seek-some n (m ∷ ns) d h = go (same_node n m) refl (seek-some n ns d) h
  where
    go : (b : Bool) → same_node n m ≡ b → (is_in n ns ≡ true → (seek n ns < length ns) × (get_or ns (seek n ns) d ≡ n)) → (b || is_in n ns) ≡ true → (cond (not b) (1 + seek n ns) 0 < length (m ∷ ns)) × (get_or (m ∷ ns) (cond (not b) (1 + seek n ns) 0) d ≡ n)
    go true e f h = (omega arith, sym ((node-Decides n m).0 e))
    go false e f h =
        let s = f h in
        let k : 1 + seek n ns ≡ suc (seek n ns) = omega arith in
        (omega (arith, s.0), ap (λ k. get_or (m ∷ ns) k d) k ∙ s.1)

itself : (n : ProofNode) → same_node n n ≡ true
itself n = (node-Decides n n).1 refl

is_in-front : (n : ProofNode) (ns ms : List ProofNode) → is_in n ns ≡ true → is_in n (ns ++ ms) ≡ true
is_in-front n ns ms h = list_any-append (same_node n) ns ms ∙ ap (λ b. b || is_in n ms) h

is_in-seam : (n : ProofNode) (ns ms : List ProofNode) → is_in n (ns ++ n ∷ ms) ≡ true
is_in-seam n ns ms =
    list_any_at (same_node n) (ns ++ n ∷ ms) (length ns) n (omega (arith, length-append ns (n ∷ ms))) (ap (same_node n) (get_or_at ns n ms n (length ns) refl) ∙ itself n)

-- the place of a node in a longer table
seek-append : (n : ProofNode) (ns ms : List ProofNode) (b : Bool) → eqb (seek n ns) (length ns) ≡ b → seek n (ns ++ ms) ≡ cond b (length ns + seek n ms) (seek n ns)
seek-append n ns ms b e = prefix_len-append (λ m. not (same_node n m)) ns ms ∙ ap (λ b. cond b (length ns + seek n ms) (seek n ns)) e

seek-front : (n : ProofNode) (ns ms : List ProofNode) → is_in n ns ≡ true → seek n (ns ++ ms) ≡ seek n ns
seek-front n ns ms h = let l = (seek-some n ns n h).0 in seek-append n ns ms false (ne_eqb _ _ (λ e. (let z : ⊥ = omega (arith, l, e) in z)))

seek-seam : (n : ProofNode) (ns ms : List ProofNode) → is_in n ns ≡ false → seek n (ns ++ n ∷ ms) ≡ length ns
seek-seam n ns ms h =
    let z : seek n (n ∷ ms) ≡ 0 = ap (λ b. cond (not b) (1 + seek n ms) 0) (itself n) in
    omega (arith, seek-append n ns (n ∷ ms) true (eq-eqb _ _ (seek-none n ns h)), z)

-- a node that is in the table already
pub put-there : (n : ProofNode) (ns : List ProofNode) → is_in n ns ≡ true → put n ns ≡ here ns (seek n ns)
put-there n ns h = ap (λ b. here (cond b ns (ns ++ n ∷ [])) (seek n ns)) h

-- a node that is not
pub put-new : (n : ProofNode) (ns : List ProofNode) → is_in n ns ≡ false → put n ns ≡ here (ns ++ n ∷ []) (length ns)
put-new n ns h = λ i. here (cond (h i) ns (ns ++ n ∷ [])) (seek-none n ns h i)

pub put-extends : (n : ProofNode) (ns : List ProofNode) → Extends ns (put n ns).nodes
put-extends n ns = go (is_in n ns)
  where
    go : (b : Bool) → Extends ns (cond b ns (ns ++ n ∷ []))
    go true = same ns
    go false = record { more = n ∷ []; new_is = refl }

-- a node that was put stands there
pub put-again : (n : ProofNode) (ns new : List ProofNode) → Extends (put n ns).nodes new → put n new ≡ here new (put n ns).place
put-again n ns new x = go (is_in n ns) refl
  where
    go : (b : Bool) → is_in n ns ≡ b → put n new ≡ here new (seek n ns)
    go true h =
        let e : new ≡ ns ++ x.more = x.new_is ∙ ap (λ (p : Placed). p.nodes ++ x.more) (put-there n ns h) in
        ap (put n) e ∙ put-there n (ns ++ x.more) (is_in-front n ns x.more h) ∙ (λ i. here (sym e i) (seek-front n ns x.more h i))
    go false h =
        let e : new ≡ ns ++ n ∷ x.more = x.new_is ∙ ap (λ (p : Placed). p.nodes ++ x.more) (put-new n ns h) ∙ append_assoc ns (n ∷ []) x.more in
        ap (put n) e ∙ put-there n (ns ++ n ∷ x.more) (is_in-seam n ns x.more)
        ∙ (λ i. here (sym e i) ((seek-seam n ns x.more h ∙ sym (seek-none n ns h)) i))
