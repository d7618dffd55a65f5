-- Known lists that grow, and what is restored of them.
use Rattle.std.proofs.Common.{◌≡◌, ℕ, zero, suc, ◌<◌, ◌≤◌, Bool, true, false, cond, List, [], ◌∷◌, ◌++◌, take, drop, length, map, slice_index_or, slice_set, arith, refl, sym, ap, subst, ◌∙◌}
use Rattle.std.specs.Prelude.{Option}
use Rattle.core_expr.specs.Tree.{Tree}
use Rattle.proof_contexts.specs.Expansion.{has_number}
use Rattle.proof_contexts.specs.Steps.{Fact}
use Rattle.proof_contexts.specs.Steps.Fact.{Cited, Plain}
use Rattle.proof_contexts.specs.Contexts.{Entry, Context, names_of, usable, named, used, aliases, use_facts, hidden}
use Rattle.known_facts.specs.declared.context.Saved.{Saved}
use Rattle.known_facts.specs.declared.known.Known.{Known}
use Rattle.known_facts.specs.Shown.{entry_of, entries_of}
use Rattle.known_facts.specs.Grown.{IsOlder, Grown, states_of, restored_one, restored, IsSaved}

take-whole : (ns : List ℕ) → take (length ns) ns ≡ ns
take-whole [] = refl
take-whole (n ∷ ns) = ap (λ l. n ∷ l) (take-whole ns)

take-more : (ns ms : List ℕ) → take (length ns) (ns ++ ms) ≡ ns
take-more [] ms = refl
take-more (n ∷ ns) ms = ap (λ l. n ∷ l) (take-more ns ms)

older-self : (e : Entry) → IsOlder e e
older-self e = (refl, refl, take-whole e.marks)

pub grown-self : (es : List Entry) → Grown es es
grown-self [] = tt
grown-self (e ∷ es) = (older-self e, grown-self es)

pub grown-more : (es ks more : List Entry) → Grown es ks → Grown es (ks ++ more)
grown-more [] ks more h = tt
grown-more (e ∷ es) [] more h = absurd h
grown-more (e ∷ es) (k ∷ ks) more h = (h.0, grown-more es ks more h.1)

abbrev first-of : List ℕ → ℕ
first-of [] = 0
first-of (x ∷ xs) = x

abbrev rest-of : List ℕ → List ℕ
rest-of [] = []
rest-of (x ∷ xs) = xs

take-twice : (xs ys zs : List ℕ) → take (length xs) ys ≡ xs → take (length ys) zs ≡ ys → take (length xs) zs ≡ xs
take-twice [] ys zs h g = refl
take-twice (x ∷ xs) [] zs h g = cc
take-twice (x ∷ xs) (y ∷ ys) [] h g = cc
take-twice (x ∷ xs) (y ∷ ys) (z ∷ zs) h g =
    λ i. (ap first-of g ∙ ap first-of h) i ∷ take-twice xs ys zs (ap rest-of h) (ap rest-of g) i

older-then : (a b c : Entry) → IsOlder a b → IsOlder b c → IsOlder a c
older-then a b c h g = (h.0 ∙ g.0, h.1 ∙ g.1, take-twice a.marks b.marks c.marks h.2 g.2)

pub grown-then : (es ks ls : List Entry) → Grown es ks → Grown ks ls → Grown es ls
grown-then [] ks ls h g = tt
grown-then (e ∷ es) [] ls h g = absurd h
grown-then (e ∷ es) (k ∷ ks) [] h g = absurd g
grown-then (e ∷ es) (k ∷ ks) (l ∷ ls) h g = (older-then e k l h.0 g.0, grown-then es ks ls h.1 g.1)

older-used : (l : Option ℕ) (x : ℕ) (e : Entry) → IsOlder e (used l x e)
older-used l x e = go (has_number e.marks x)
  where
    go : (b : Bool) → IsOlder e (cond b (record { formula = e.formula; keys = e.keys; marks = e.marks ++ names_of l; usable = true }) e)
    go true = (refl, refl, take-more e.marks (names_of l))
    go false = older-self e

grown-used : (l : Option ℕ) (x : ℕ) (es : List Entry) → Grown es (map (used l x) es)
grown-used l x [] = tt
grown-used l x (e ∷ es) = (older-used l x e, grown-used l x es)

grown-use : (l : Option ℕ) (fs : List Fact) (es : List Entry) → Grown es (use_facts l fs es)
grown-use l [] es = grown-self es
grown-use l (Cited x ∷ fs) es =
    let next = map (used l x) es ++ aliases l (named x es) in
    grown-then es next (use_facts l fs next) (grown-more es (map (used l x) es) (aliases l (named x es)) (grown-used l x es)) (grown-use l fs next)
grown-use l (Plain p e ∷ fs) es =
    let next = es ++ usable l e ∷ [] in grown-then es next (use_facts l fs next) (grown-more es es (usable l e ∷ []) (grown-self es)) (grown-use l fs next)

pub use_grows : (l : Option ℕ) (fs : List Fact) (es ks : List Entry) → ks ≡ use_facts l fs es → Grown es ks
use_grows l fs es ks h = subst (Grown es) (sym h) (grown-use l fs es)

grown-hidden : (xs : List ℕ) (es : List Entry) → Grown es (map (hidden xs) es)
grown-hidden xs [] = tt
grown-hidden xs (e ∷ es) = ((refl, refl, take-whole e.marks), grown-hidden xs es)

pub hide_grows : (xs : List ℕ) (es ks : List Entry) → ks ≡ map (hidden xs) es → Grown es ks
hide_grows xs es ks h = subst (Grown es) (sym h) (grown-hidden xs es)

-- ---- what is restored

restored-older : (es ks : List Entry) → Grown es ks → restored (states_of es) (take (length (states_of es)) ks) ≡ es
restored-older [] ks h = refl
restored-older (e ∷ es) [] h = absurd h
restored-older (e ∷ es) (k ∷ ks) h =
    λ i. record { formula = sym h.0.0 i; keys = sym h.0.1 i; marks = h.0.2 i; usable = e.usable } ∷ restored-older es ks h.1 i

pub restored_is : (s : Saved) (c : Context) (ks ls : List Entry) (defs : List ℕ) (goal : Tree) → IsSaved s c → Grown c.known ks
    → ls ≡ restored s.states.items (take (length s.states.items) ks) → defs ≡ s.defs.items → goal ≡ s.goal
    → c ≡ record { known = ls; defs = defs; goal = goal }
restored_is s c ks ls defs goal h g known d e =
    let k : ls ≡ c.known = known ∙ ap (λ ss. restored ss (take (length ss) ks)) h.states ∙ restored-older c.known ks g in
    λ i. record { known = sym k i; defs = sym (d ∙ h.defs) i; goal = sym (e ∙ h.goal) i }

-- ---- loops over the known facts

entries-take : (n : ℕ) (ks : List Known) → entries_of (take n ks) ≡ take n (entries_of ks)
entries-take zero ks = refl
entries-take (suc n) [] = refl
entries-take (suc n) (k ∷ ks) = ap (λ es. entry_of k ∷ es) (entries-take n ks)

pub taken_are : (n : ℕ) (ks ls : List Known) → ls ≡ take n ks → entries_of ls ≡ take n (entries_of ks)
taken_are n ks ls h = ap entries_of h ∙ entries-take n ks

abbrev tail-of : List Entry → List Entry
tail-of [] = []
tail-of (e ∷ es) = es

abbrev head-of : Entry → List Entry → Entry
head-of d [] = d
head-of d (e ∷ es) = e

changed-at : (f : Entry → Entry) (ks : List Known) (es : List Entry) (i : ℕ) (k new : Known) → i < length ks → k ≡ slice_index_or ks i k → entry_of new ≡ f (entry_of k)
    → entries_of ks ≡ map f (take i es) ++ drop i es → entries_of (slice_set ks i new) ≡ map f (take (suc i) es) ++ drop (suc i) es
changed-at f [] es i k new l s n h = absurd (omega arith)
changed-at f (x ∷ ks) [] zero k new l s n h = cc
changed-at f (x ∷ ks) [] (suc i) k new l s n h = cc
changed-at f (x ∷ ks) (e ∷ es) zero k new l s n h =
    λ i. (n ∙ ap (λ y. f (entry_of y)) s ∙ ap f (ap (head-of e) h)) i ∷ ap tail-of h i
changed-at f (x ∷ ks) (e ∷ es) (suc i) k new l s n h =
    λ j. ap (head-of (f e)) h j ∷ changed-at f ks es i k new (omega arith) s n (ap tail-of h) j

changed-length : (f : Entry → Entry) (es : List Entry) (i : ℕ) → length (map f (take i es) ++ drop i es) ≡ length es
changed-length f es zero = refl
changed-length f [] (suc i) = refl
changed-length f (e ∷ es) (suc i) = ap suc (changed-length f es i)

length-entries : (ks : List Known) → length (entries_of ks) ≡ length ks
length-entries [] = refl
length-entries (k ∷ ks) = ap suc (length-entries ks)

pub change-next : (f : Entry → Entry) (ks old : List Known) (i m n : ℕ) (k new : Known) → m ≡ suc i → i < n → n ≡ length old → k ≡ slice_index_or ks i k → entry_of new ≡ f (entry_of k)
    → entries_of ks ≡ map f (take i (entries_of old)) ++ drop i (entries_of old) → entries_of (slice_set ks i new) ≡ map f (take m (entries_of old)) ++ drop m (entries_of old)
change-next f ks old i m n k new q l z s e h =
    let es = entries_of old in
    let a : length ks ≡ length old = sym (length-entries ks) ∙ ap length h ∙ changed-length f es i ∙ length-entries old in
    changed-at f ks es i k new (omega (arith, l, z, a)) s e h ∙ (λ j. map f (take (sym q j) es) ++ drop (sym q j) es)

restored-at : (ss : List (Bool × ℕ)) (es : List Entry) (ks : List Known) (i : ℕ) (k new : Known) (s : Bool × ℕ) → i < length ks → i < length ss → k ≡ slice_index_or ks i k → s ≡ slice_index_or ss i s
    → entry_of new ≡ restored_one s (entry_of k) → entries_of ks ≡ restored (take i ss) es → entries_of (slice_set ks i new) ≡ restored (take (suc i) ss) es
restored-at ss es [] i k new s l r q p n h = absurd (omega arith)
restored-at [] es (x ∷ ks) i k new s l r q p n h = absurd (omega arith)
restored-at (t ∷ ss) [] (x ∷ ks) zero k new s l r q p n h = cc
restored-at (t ∷ ss) [] (x ∷ ks) (suc i) k new s l r q p n h = cc
restored-at (t ∷ ss) (e ∷ es) (x ∷ ks) zero k new s l r q p n h =
    λ i. (n ∙ (λ j. restored_one (p j) (entry_of (q j))) ∙ ap (restored_one t) (ap (head-of e) h)) i ∷ ap tail-of h i
restored-at (t ∷ ss) (e ∷ es) (x ∷ ks) (suc i) k new s l r q p n h =
    λ j. ap (head-of (restored_one t e)) h j ∷ restored-at ss es ks i k new s (omega arith) (omega arith) q p n (ap tail-of h) j

pub restore-next : (ss : List (Bool × ℕ)) (es : List Entry) (ks : List Known) (i m : ℕ) (k new : Known) (s : Bool × ℕ) → m ≡ suc i → i < length ks → i < length ss → k ≡ slice_index_or ks i k → s ≡ slice_index_or ss i s
    → entry_of new ≡ restored_one s (entry_of k) → entries_of ks ≡ restored (take i ss) es → entries_of (slice_set ks i new) ≡ restored (take m ss) es
restore-next ss es ks i m k new s e l r q p n h = restored-at ss es ks i k new s l r q p n h ∙ ap (λ j. restored (take j ss) es) (sym e)

length-restored : (ss : List (Bool × ℕ)) (es : List Entry) → length (restored ss es) ≡ length es
length-restored [] es = refl
length-restored (s ∷ ss) [] = refl
length-restored (s ∷ ss) (e ∷ es) = ap suc (length-restored ss es)

restored-enough : (ss : List (Bool × ℕ)) (es : List Entry) (n : ℕ) → length es ≤ n → restored (take n ss) es ≡ restored ss es
restored-enough [] es zero h = refl
restored-enough [] es (suc n) h = refl
restored-enough (s ∷ ss) [] zero h = refl
restored-enough (s ∷ ss) [] (suc n) h = refl
restored-enough (s ∷ ss) (e ∷ es) zero h = absurd (omega arith)
restored-enough (s ∷ ss) (e ∷ es) (suc n) h = ap (λ l. restored_one s e ∷ l) (restored-enough ss es n (omega arith))

-- the loop that restores: its beginning and its end
pub restore-begins : (ss : List (Bool × ℕ)) (ks ls : List Known) → ls ≡ take (length ss) ks → entries_of ls ≡ restored (take 0 ss) (take (length ss) (entries_of ks))
restore-begins ss ks ls h = taken_are (length ss) ks ls h

length-take : (n : ℕ) (ks : List Known) → length (take n ks) ≤ n
length-take zero ks = omega arith
length-take (suc n) [] = omega arith
length-take (suc n) (k ∷ ks) = let h = length-take n ks in omega (arith, h)

pub short-take : (n : ℕ) (ks ls : List Known) → ls ≡ take n ks → length ls ≤ n
short-take n ks ls h = let l = length-take n ks in let e = ap length h in omega (arith, l, e)

pub length-change : (ks : List Known) (i : ℕ) (k : Known) → length (slice_set ks i k) ≡ length ks
length-change [] i k = refl
length-change (x ∷ ks) zero k = refl
length-change (x ∷ ks) (suc i) k = ap suc (length-change ks i k)

pub restore-ends : (ss : List (Bool × ℕ)) (es : List Entry) (ks : List Known) (i : ℕ) → length ks ≤ i → entries_of ks ≡ restored (take i ss) es → entries_of ks ≡ restored ss es
restore-ends ss es ks i l h =
    let a : length es ≡ length ks = sym (length-restored (take i ss) es) ∙ ap length (sym h) ∙ length-entries ks in
    h ∙ restored-enough ss es i (omega (arith, a, l))
