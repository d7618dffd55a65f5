-- A proof that grows step by step.
use Rattle.std.specs.Prelude.{◌≡◌, ℕ, suc, ◌+◌, ◌-◌, ◌<◌, ◌≤◌, take, IsTrue, List, [], ◌∷◌, ◌++◌, length, map}
use Rattle.std.proofs.Common.{get_or, refl, ap, sym, ◌∙◌, subst, arith, append_assoc, length-append}
use Rattle.std.proofs.lemmas.List.{get_or_append_left, take_more, take_all}
use Rattle.std.proofs.Math.Seq.{get_or-append_seam}
use Rattle.core_expr.specs.Tree.{Tree}
use Rattle.core_expr.specs.Nodes.{AreBelow, AreNodes}
use Rattle.seq_calculus.specs.declared.lists.ProofStep.{ProofStep}
use Rattle.seq_calculus.specs.Calculus.{Proof}
use Rattle.seq_calculus.specs.Lists.{Lists, AreLists, node_of, AreSteps, IsStep, IsApart, AreApart, all_premises, step_fits}
use Rattle.seq_calculus.specs.Steps.{table_of, proofs_of, proofs_from, proof_in, proof_of, no_proof}
use Rattle.proof_writer.specs.Written.{Written, IsWritten, backwards, seen_of, count, opens, proofs_on, with_unused, grown, IsHead, IsLast}
use Rattle.proof_writer.specs.Shapes.{first_of, second_of, rest_of}

pub backwards-more : (acc xs : List ℕ) (x : ℕ) → backwards acc (xs ++ x ∷ []) ≡ x ∷ backwards acc xs
backwards-more acc [] x = refl
backwards-more acc (y ∷ xs) x = backwards-more (y ∷ acc) xs x

AreSteps-more : (n i k : ℕ) (ss : List ProofStep) (s : ProofStep) → k ≡ i + length ss → AreSteps n i ss → IsStep n k s → AreSteps n i (ss ++ s ∷ [])
AreSteps-more n i k [] s e h w = (subst (λ j. IsStep n j s) (let z : k ≡ i = omega arith in z) w, tt)
AreSteps-more n i k (t ∷ ss) s e h w = (h.0, AreSteps-more n (suc i) k ss s (omega arith) h.1 w)

premises-more : (ss : List ProofStep) (s : ProofStep) → all_premises (ss ++ s ∷ []) ≡ all_premises ss ++ s.premises
premises-more [] s = end s.premises
  where
    end : (xs : List ℕ) → xs ++ [] ≡ xs
    end [] = refl
    end (x ∷ xs) = ap (λ l. x ∷ l) (end xs)
premises-more (t ∷ ss) s = ap (λ l. t.premises ++ l) (premises-more ss s) ∙ sym (append_assoc t.premises (all_premises ss) s.premises)

AreBelow-more : (n m : ℕ) (is : List ℕ) → n ≤ m → AreBelow n is → AreBelow m is
AreBelow-more n m [] e h = tt
AreBelow-more n m (i ∷ is) e h = (omega (arith, h.0), AreBelow-more n m is e h.1)

AreBelow-split : (n : ℕ) (is js : List ℕ) → AreBelow n (is ++ js) → AreBelow n is × AreBelow n js
AreBelow-split n [] js h = (tt, h)
AreBelow-split n (i ∷ is) js h = let k = AreBelow-split n is js h.1 in ((h.0, k.0), k.1)

AreBelow-append : (n : ℕ) (is js : List ℕ) → AreBelow n is → AreBelow n js → AreBelow n (is ++ js)
AreBelow-append n [] js h k = k
AreBelow-append n (i ∷ is) js h k = (h.0, AreBelow-append n is js h.1 k)

-- all premises of steps are below
premises-below : (n i m : ℕ) (ss : List ProofStep) → i + length ss ≤ m → AreSteps n i ss → AreBelow m (all_premises ss)
premises-below n i m [] e h = tt
premises-below n i m (s ∷ ss) e h = AreBelow-append m s.premises (all_premises ss) (AreBelow-more i m s.premises (omega arith) h.0.premises) (premises-below n (suc i) m ss (omega arith) h.1)

-- a number above all of these
IsApart-above : (n : ℕ) (is : List ℕ) → AreBelow n is → IsApart n is
IsApart-above n [] h = tt
IsApart-above n (i ∷ is) h = (λ e. apart i h.0 e, IsApart-above n is h.1)
  where
    apart : (i : ℕ) → i < n → n ≡ i → ⊥
    apart i h e = omega arith

IsApart-in : (n : ℕ) (xs ys : List ℕ) (m : ℕ) → ¬ (n ≡ m) → IsApart n (xs ++ ys) → IsApart n (xs ++ m ∷ ys)
IsApart-in n [] ys m e h = (e, h)
IsApart-in n (x ∷ xs) ys m e h = (h.0, IsApart-in n xs ys m e h.1)

-- one more that is above all
AreApart-in : (xs ys : List ℕ) (m : ℕ) → AreBelow m (xs ++ ys) → AreApart (xs ++ ys) → AreApart (xs ++ m ∷ ys)
AreApart-in [] ys m b h = (IsApart-above m ys b, h)
AreApart-in (x ∷ xs) ys m b h = (IsApart-in x xs ys m (λ e. apart x b.0 e) h.0, AreApart-in xs ys m b.1 h.1)
  where
    apart : (x : ℕ) → x < m → x ≡ m → ⊥
    apart x h e = omega arith

IsApart-out : (n : ℕ) (xs ys zs : List ℕ) → IsApart n (xs ++ (ys ++ zs)) → IsApart n (xs ++ zs)
IsApart-out n [] [] zs h = h
IsApart-out n [] (y ∷ ys) zs h = IsApart-out n [] ys zs h.1
IsApart-out n (x ∷ xs) ys zs h = (h.0, IsApart-out n xs ys zs h.1)

-- without those in the middle
AreApart-out : (xs ys zs : List ℕ) → AreApart (xs ++ (ys ++ zs)) → AreApart (xs ++ zs)
AreApart-out [] [] zs h = h
AreApart-out [] (y ∷ ys) zs h = AreApart-out [] ys zs h.1
AreApart-out (x ∷ xs) ys zs h = (IsApart-out x xs ys zs h.0, AreApart-out xs ys zs h.1)

-- fewer unused steps
pub fewer : (w : Written) (is : List ℕ) → IsWritten (with_unused w is) → IsWritten w
fewer w is h = record {
  steps = h.steps;
  unused = (AreBelow-split (length w.steps) is w.unused h.unused).1;
  once = AreApart-out (all_premises w.steps) is w.unused h.once;
}

pub put_written : (w : Written) (s : ProofStep) → IsWritten (with_unused w s.premises) → IsTrue (step_fits s) → AreBelow (count w) s.exprs → IsWritten (grown w s)
put_written w s h f b = record {
  steps = AreSteps-more (count w) 0 n w.steps s (omega arith) h.steps (record { form = f; exprs = b; premises = below.0 });
  unused = (more.0, more.1);
  once = subst AreApart (ap (λ l. l ++ n ∷ w.unused) (sym (premises-more w.steps s))) (AreApart-in (all_premises w.steps ++ s.premises) w.unused n all_below (subst AreApart (sym (append_assoc (all_premises w.steps) s.premises w.unused)) h.once));
}
  where
    n : ℕ
    n = length w.steps

    below : AreBelow n s.premises × AreBelow n w.unused
    below = AreBelow-split n s.premises w.unused h.unused

    len : length (w.steps ++ s ∷ []) ≡ suc n
    len = length-append w.steps (s ∷ []) ∙ (let z : n + 1 ≡ suc n = omega arith in z)

    more : (n < length (w.steps ++ s ∷ [])) × AreBelow (length (w.steps ++ s ∷ [])) w.unused
    more = (omega (arith, len), AreBelow-more n (length (w.steps ++ s ∷ [])) w.unused (omega (arith, len)) below.1)

    all_below : AreBelow n ((all_premises w.steps ++ s.premises) ++ w.unused)
    all_below = AreBelow-append n (all_premises w.steps ++ s.premises) w.unused (AreBelow-append n (all_premises w.steps) s.premises (premises-below (count w) 0 n w.steps (omega arith) h.steps) below.0) below.1

pub grown_seen : (ns : List Tree) (ss ss2 : List ProofStep) (os os2 : List ℕ) (n : ℕ) (s : ProofStep) → ss2 ≡ ss ++ s ∷ [] → n ≡ length ss → os2 ≡ os ++ n ∷ [] → seen_of ns ss2 os2 ≡ grown (seen_of ns ss os) s
grown_seen ns ss ss2 os os2 n s e f g =
    (λ i. seen_of ns (e i) (g i)) ∙ ap (λ (o : List ℕ). record { trees = ns; steps = ss ++ s ∷ []; unused = o }) (backwards-more [] os n ∙ ap (λ k. k ∷ backwards [] os) f)

pub put_fewer : (ns : List Tree) (ss ss2 : List ProofStep) (os is : List ℕ) → ss2 ≡ ss → IsWritten (with_unused (seen_of ns ss os) is) → IsWritten (seen_of ns ss2 os)
put_fewer ns ss ss2 os is e h = subst (λ l. IsWritten (seen_of ns l os)) (sym e) (fewer (seen_of ns ss os) is h)

-- a step without its being open
pub put_alone : (ns : List Tree) (ss ss2 : List ProofStep) (os os2 : List ℕ) (s : ProofStep) → ss2 ≡ ss ++ s ∷ [] → os2 ≡ os → IsWritten (with_unused (seen_of ns ss os) s.premises) → IsTrue (step_fits s) → AreBelow (length ns) s.exprs → IsWritten (seen_of ns ss2 os2)
put_alone ns ss ss2 os os2 s e f h fit b =
    subst IsWritten (λ i. seen_of ns (sym e i) (sym f i)) (fewer (record { trees = ns; steps = ss ++ s ∷ []; unused = backwards [] os }) (length ss ∷ []) (put_written (seen_of ns ss os) s h fit b))

pub put_held : (ns : List Tree) (ss ss2 : List ProofStep) (os os2 : List ℕ) (n : ℕ) (s : ProofStep) → ss2 ≡ ss ++ s ∷ [] → n ≡ length ss → os2 ≡ os ++ n ∷ [] → IsWritten (with_unused (seen_of ns ss os) s.premises) → IsTrue (step_fits s) → AreBelow (length ns) s.exprs → IsWritten (seen_of ns ss2 os2)
put_held ns ss ss2 os os2 n s e f g h fit b = subst IsWritten (sym (grown_seen ns ss ss2 os os2 n s e f g)) (put_written (seen_of ns ss os) s h fit b)

-- the latest open step is taken off
pub taken_seen : (ns : List Tree) (ss : List ProofStep) (os os2 : List ℕ) (p : ℕ) → os ≡ os2 ++ p ∷ [] → seen_of ns ss os ≡ with_unused (seen_of ns ss os2) (p ∷ [])
taken_seen ns ss os os2 p e = ap (seen_of ns ss) e ∙ ap (λ (o : List ℕ). record { trees = ns; steps = ss; unused = o }) (backwards-more [] os2 p)

proofs_from-more : (ts : List Tree) (ps : List Proof) (ss : List ProofStep) (s : ProofStep) → proofs_from ts ps (ss ++ s ∷ []) ≡ proofs_from ts ps ss ++ proof_in ts (proofs_from ts ps ss) s ∷ []
proofs_from-more ts ps [] s = refl
proofs_from-more ts ps (t ∷ ss) s = proofs_from-more ts (ps ++ proof_in ts ps t ∷ []) ss s

proofs_from-length : (ts : List Tree) (ps : List Proof) (ss : List ProofStep) (n : ℕ) → n ≡ length ps + length ss → length (proofs_from ts ps ss) ≡ n
proofs_from-length ts ps [] n e = omega arith
proofs_from-length ts ps (s ∷ ss) n e = proofs_from-length ts (ps ++ proof_in ts ps s ∷ []) ss n (omega (arith, length-append ps (proof_in ts ps s ∷ [])))

proofs_on-more : (ps qs : List Proof) (is : List ℕ) → AreBelow (length ps) is → proofs_on (ps ++ qs) is ≡ proofs_on ps is
proofs_on-more ps qs [] h = refl
proofs_on-more ps qs (i ∷ is) h = λ j. get_or_append_left ps qs no_proof i h.0 j ∷ proofs_on-more ps qs is h.1 j

-- the proofs of what is open, where a step comes to the end
pub grown_opens : (w : Written) (s : ProofStep) → AreBelow (length w.steps) w.unused
    → opens (grown w s) ≡ proof_in w.trees (proofs_of w.trees w.steps) s ∷ opens w
unfolding opens
grown_opens w s h =
    let ts : List Tree = w.trees in
    let ss : List ProofStep = w.steps in
    let ps : List Proof = proofs_of ts ss in
    let x : Proof = proof_in ts ps s in
    let len : length ps ≡ length ss = proofs_from-length ts [] ss (length ss) (omega arith) in
    ap (λ (qs : List Proof). get_or qs (length ss) no_proof ∷ proofs_on qs w.unused) (proofs_from-more ts [] ss s)
    ∙ (λ i. (ap (λ n. get_or (ps ++ x ∷ []) n no_proof) (sym len) ∙ get_or-append_seam ps x [] no_proof) i ∷ proofs_on-more ps (x ∷ []) w.unused (subst (λ n. AreBelow n w.unused) (sym len) h) i)

pub opens_length : (w : Written) → length (opens w) ≡ length w.unused
unfolding opens
opens_length w = go w.unused
  where
    go : (is : List ℕ) → length (proofs_on (proofs_of w.trees w.steps) is) ≡ length is
    go [] = refl
    go (i ∷ is) = ap suc (go is)

pub backwards_length : (acc xs : List ℕ) (n : ℕ) → n ≡ length acc + length xs → length (backwards acc xs) ≡ n
backwards_length acc [] n e = omega arith
backwards_length acc (x ∷ xs) n e = backwards_length (x ∷ acc) xs n (omega arith)

-- a list without its last number
pub last_taken : (os os2 : List ℕ) (p n : ℕ) → n ≡ length os → 0 < length os → os2 ≡ take (n - 1) os → p ≡ get_or os (n - 1) p → os ≡ os2 ++ p ∷ []
last_taken os os2 p n e h r g =
    sym (take_all n os (omega arith)) ∙ ap (λ k. take k os) (let z : n ≡ (n - 1) + 1 = omega arith in z) ∙ take_more os (n - 1) p (omega arith) ∙ (λ i. sym r i ++ sym g i ∷ [])

pub some_left : (v : Written) (ns : List Tree) (ss : List ProofStep) (os : List ℕ) (k : ℕ) → seen_of ns ss os ≡ v → k ≤ length (opens v) → k ≤ length os
some_left v ns ss os k e h =
    let a : length (opens v) ≡ length v.unused = opens_length v in
    let b : length v.unused ≡ length os = ap (λ (w : Written). length w.unused) (sym e) ∙ backwards_length [] os (length os) (omega arith) in
    omega (arith, a, b)

IsApart-swap : (n : ℕ) (xs ys : List ℕ) (p q : ℕ) → IsApart n (xs ++ p ∷ q ∷ ys) → IsApart n (xs ++ q ∷ p ∷ ys)
IsApart-swap n [] ys p q h = (h.1.0, (h.0, h.1.1))
IsApart-swap n (x ∷ xs) ys p q h = (h.0, IsApart-swap n xs ys p q h.1)

AreApart-swap : (xs ys : List ℕ) (p q : ℕ) → AreApart (xs ++ p ∷ q ∷ ys) → AreApart (xs ++ q ∷ p ∷ ys)
AreApart-swap [] ys p q h = ((λ e. h.0.0 (sym e), h.1.0), (h.0.1, h.1.1))
AreApart-swap (x ∷ xs) ys p q h = (IsApart-swap x xs ys p q h.0, AreApart-swap xs ys p q h.1)

swapped : (w : Written) (p q : ℕ) → IsWritten (with_unused w (p ∷ q ∷ [])) → IsWritten (with_unused w (q ∷ p ∷ []))
swapped w p q h = record {
  steps = h.steps;
  unused = (h.unused.1.0, (h.unused.0, h.unused.1.1));
  once = AreApart-swap (all_premises w.steps) w.unused p q h.once;
}

both_taken : (v x w : Written) (p q : ℕ) → IsWritten v → v ≡ with_unused x (p ∷ []) → x ≡ with_unused w (q ∷ []) → IsWritten (with_unused w (q ∷ p ∷ []))
both_taken v x w p q h e d = swapped w p q (subst IsWritten (e ∙ ap (λ (y : Written). with_unused y (p ∷ [])) d) h)

pub swap_first : (v x w : Written) (p q : ℕ) → IsWritten v → v ≡ with_unused x (p ∷ []) → x ≡ with_unused w (q ∷ []) → IsWritten (with_unused w (p ∷ []))
swap_first v x w p q h e d = fewer (with_unused w (p ∷ [])) (q ∷ []) (both_taken v x w p q h e d)

pub swap_second : (v x w u : Written) (p q : ℕ) → IsWritten v → v ≡ with_unused x (p ∷ []) → x ≡ with_unused w (q ∷ []) → u ≡ with_unused w (p ∷ []) → IsWritten (with_unused u (q ∷ []))
swap_second v x w u p q h e d f = subst (λ (y : Written). IsWritten (with_unused y (q ∷ []))) (sym f) (both_taken v x w p q h e d)

pub swap_opens : (v x w u z : Written) (p q : ℕ) → v ≡ with_unused x (p ∷ []) → x ≡ with_unused w (q ∷ []) → u ≡ with_unused w (p ∷ []) → z ≡ with_unused u (q ∷ []) → opens z ≡ second_of (opens v) ∷ first_of (opens v) ∷ rest_of (rest_of (opens v))
unfolding opens
swap_opens v x w u z p q e d f g =
    let a : v ≡ with_unused w (p ∷ q ∷ []) = e ∙ ap (λ (y : Written). with_unused y (p ∷ [])) d in
    let b : z ≡ with_unused w (q ∷ p ∷ []) = g ∙ ap (λ (y : Written). with_unused y (q ∷ [])) f in
    let os : Written → List Proof = λ (y : Written). proofs_on (proofs_of y.trees y.steps) y.unused in
    ap os b ∙ sym (ap (λ (y : Written). second_of (proofs_on (proofs_of y.trees y.steps) y.unused) ∷ first_of (proofs_on (proofs_of y.trees y.steps) y.unused) ∷ rest_of (rest_of (proofs_on (proofs_of y.trees y.steps) y.unused))) a)

pub back_seen : (ns : List Tree) (ss : List ProofStep) (os os2 : List ℕ) (p : ℕ) → os2 ≡ os ++ p ∷ [] → seen_of ns ss os2 ≡ with_unused (seen_of ns ss os) (p ∷ [])
back_seen ns ss os os2 p e = taken_seen ns ss os2 os p e

pub unchanged_held : (ns : List Tree) (ss : List ProofStep) (os os2 is : List ℕ) → os2 ≡ os → IsWritten (with_unused (seen_of ns ss os) is) → IsWritten (seen_of ns ss os2)
unchanged_held ns ss os os2 is e h = subst (λ l. IsWritten (seen_of ns ss l)) (sym e) (fewer (seen_of ns ss os) is h)

pub grown_last : (w u : Written) (s : ProofStep) → u ≡ grown w s → IsLast u
grown_last w u s e = subst IsLast (sym e) (length-append w.steps (s ∷ []) ∙ (let z : length w.steps + 1 ≡ suc (length w.steps) = omega arith in z))

head_is : (is : List ℕ) (n : ℕ) → IsHead is n → (i : ℕ) × (js : List ℕ) × (is ≡ i ∷ js) × (n ≡ suc i)
head_is [] n h = absurd h
head_is (i ∷ is) n h = (i, is, refl, h)

pub finished : (w : Written) (l : Lists) → l.steps ≡ w.steps → table_of l ≡ w.trees → IsLast w → proof_of l ≡ first_of (opens w)
unfolding proof_of opens
finished w l e t h =
    let k = head_is w.unused (length w.steps) h in
    let ps : List Proof = proofs_of w.trees w.steps in
    (λ i. get_or (proofs_of (t i) (e i)) (length (e i) - 1) no_proof) ∙ ap (λ n. get_or ps n no_proof) (let z : length w.steps - 1 ≡ k.0 = omega (arith, k.3) in z) ∙ sym (ap (λ (is : List ℕ). first_of (proofs_on ps is)) k.2)

pub last_lists : (w : Written) (l : Lists) → l.steps ≡ w.steps → length l.nodes ≡ count w → AreNodes 0 (map node_of l.nodes) → IsWritten w → IsLast w → AreLists l
last_lists w l e c n h z =
    let k = head_is w.unused (length w.steps) z in
    record {
      nodes = n;
      steps = subst (λ (ss : List ProofStep). AreSteps (length l.nodes) 0 ss) (sym e) (subst (λ m. AreSteps m 0 w.steps) (sym c) h.steps);
      once = subst (λ (ss : List ProofStep). AreApart (all_premises ss)) (sym e) (AreApart-front (all_premises w.steps) w.unused h.once);
      some = subst (λ (ss : List ProofStep). 0 < length ss) (sym e) (omega (arith, k.3));
    }
  where
    IsApart-front : (n : ℕ) (xs ys : List ℕ) → IsApart n (xs ++ ys) → IsApart n xs
    IsApart-front n [] ys h = tt
    IsApart-front n (x ∷ xs) ys h = (h.0, IsApart-front n xs ys h.1)

    AreApart-front : (xs ys : List ℕ) → AreApart (xs ++ ys) → AreApart xs
    AreApart-front [] ys h = tt
    AreApart-front (x ∷ xs) ys h = (IsApart-front x xs ys h.0, AreApart-front xs ys h.1)

pub empty_opens : (w : Written) → w.unused ≡ [] → opens w ≡ []
unfolding opens
empty_opens w e = ap (λ (l : List ℕ). proofs_on (proofs_of w.trees w.steps) l) e

pub discarded : (v w : Written) (p : ℕ) → v ≡ with_unused w (p ∷ []) → opens w ≡ rest_of (opens v)
unfolding opens
discarded v w p e = sym (ap (λ (y : Written). rest_of (proofs_on (proofs_of y.trees y.steps) y.unused)) e)

pub open_count : (v : Written) (ts : List Tree) (ss : List ProofStep) (os : List ℕ) → seen_of ts ss os ≡ v → length os ≡ length (opens v)
open_count v ts ss os e = sym (opens_length v ∙ ap (λ (w : Written). length w.unused) (sym e) ∙ backwards_length [] os (length os) (omega arith))
