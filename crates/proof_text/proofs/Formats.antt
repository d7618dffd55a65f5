-- The readers of numbers and indices read what is written.
use Rattle.std.proofs.Common.{◌≡◌, ℕ, zero, suc, ◌+◌, ◌-◌, ◌<◌, ◌≤◌, Bool, true, false, cond, nat_eq, nat_lt, List, [], ◌∷◌, ◌++◌, length, get_or, take, drop, refl, ap, sym, ◌∙◌, subst, arith, append_assoc, length-append}
use Rattle.std.specs.List.{flat_map}
use Rattle.std.proofs.lemmas.Bool.Decides.{nat_tests}
use Rattle.std.proofs.lemmas.List.{take-append-drop, length-take-le, length-drop}
use Rattle.std.proofs.Math.Seq.{take-append_seam, drop-append_seam}
use Rattle.core_expr.specs.Nodes.{AreBelow}
use Rattle.proof_text.specs.declared.shape.Tail.{Tail}
use Rattle.proof_text.specs.declared.shape.Tail.TheVariants.{Fixed, Counted, Bytes}
use Rattle.proof_text.specs.declared.shape.Shape.{Shape}
use Rattle.proof_text.specs.declared.parts.Operands.{Operands}
use Rattle.proof_text.specs.declared.cursor.Test.TheVariants.{Any, Below}
use Rattle.proof_text.specs.Reading.{number, AllFrom, AreFrom}
use Rattle.proof_text.specs.Readers.{passes, below, keep, has_room, count_test, number_test, fewer, numbers, last_of, byte_count, index_count, with_bytes, made_operands, tail_operands, operands, behind_count, counted, made_weak, weak_operands}
use Rattle.proof_text.proofs.Good.{Good, one, good-number, good-pair, good-many, good-as}

pub less : (x k : ℕ) → nat_lt x k ≡ true → x < k
less x k h = grind (arith, nat_tests)

pub less-true : (x k : ℕ) → x < k → nat_lt x k ≡ true
less-true x k h = grind (arith, nat_tests)

pub flat-one : (xs : List ℕ) → flat_map one xs ≡ xs
flat-one [] = refl
flat-one (x ∷ xs) = ap (λ l. x ∷ l) (flat-one xs)

-- ---- numbers below a bound

pub record Listed (c k : ℕ) (xs : List ℕ) : Type 0 where
  pub count : length xs ≡ c
  pub below : AreBelow k xs

abbrev Passes : ℕ → ℕ → Type 0
Passes k x = passes (Below k) x ≡ true

all-below : (k : ℕ) (xs : List ℕ) → AllFrom Passes keep k xs → AreBelow k xs
all-below k [] h = tt
all-below k (x ∷ xs) h = (less x k h.0, all-below k xs h.1)

below-all : (k : ℕ) (xs : List ℕ) → AreBelow k xs → AllFrom Passes keep k xs
below-all k [] h = tt
below-all k (x ∷ xs) h = (less-true x k h.0, below-all k xs h.1)

abbrev Room : ℕ → ℕ → Type 0
Room c k = 0 < c → 0 < k

abbrev itself : List ℕ → List ℕ
itself xs = xs

pub good-below : (c k : ℕ) → (0 < c → 0 < k) → Good (List ℕ) (Listed c k) (λ xs. xs) (below c k)
unfolding below
good-below c k h =
    good-as (List ℕ) (AreFrom ℕ ℕ Passes keep c k) (Listed c k) (flat_map one) itself (below c k)
    (good-many ℕ ℕ Passes one (λ k. number (passes (Below k))) keep Room (λ c s r. good-number (passes (Below s)) 0 (let p : 0 < s = r (omega arith) in less-true 0 s p)) (λ c s a r v z. less-positive a s v) c k h)
    (λ xs f. (record { count = f.count; below = all-below k xs f.all }, sym (flat-one xs)))
    (λ xs f. (record { count = f.count; all = below-all k xs f.below }, sym (flat-one xs)))
  where
    less-positive : (a s : ℕ) → nat_lt a s ≡ true → 0 < s
    less-positive a s v = let p = less a s v in omega arith

-- ---- numbers

last-more : (x y : ℕ) (ns : List ℕ) → last_of (x ∷ y ∷ ns) ≡ last_of (y ∷ ns)
last-more x y ns =
    let e : suc (suc (length ns)) - 1 ≡ suc (length ns) = omega arith in
    let f : suc (length ns) - 1 ≡ length ns = omega arith in
    ap (λ i. get_or (x ∷ y ∷ ns) i 0) e ∙ ap (λ i. get_or (y ∷ ns) i 0) (sym f)

-- the number that tells how many indices follow may do so
pub Tells : Tail → ℕ → List ℕ → Type 0
Tells Counted k ns = passes (count_test k) (last_of ns) ≡ true
Tells (Fixed n) k ns = Unit {0}
Tells Bytes k ns = Unit {0}

abbrev Told : Tail → ℕ → ℕ → ℕ → Type 0
Told t k left x = passes (number_test t k left) x ≡ true

abbrev IsFront : Tail → ℕ → ℕ → List ℕ → Type 0
IsFront t k c ns = (length ns ≡ c) × Tells t k ns

zero_counts : (k : ℕ) → passes (count_test k) 0 ≡ true
zero_counts k = go (nat_lt 0 k)
  where
    go : (b : Bool) → passes (cond b Any (Below 1)) 0 ≡ true
    go true = refl
    go false = refl

zero_told : (t : Tail) (k left : ℕ) → Told t k left 0
zero_told (Fixed n) k left = refl
zero_told Bytes k left = refl
zero_told Counted k left = go (nat_eq left 1)
  where
    go : (b : Bool) → passes (cond b (count_test k) Any) 0 ≡ true
    go true = zero_counts k
    go false = refl

front-all : (t : Tail) (k c : ℕ) (ns : List ℕ) → length ns ≡ c → AllFrom (Told t k) fewer c ns → Tells t k ns
unfolding Tells
front-all (Fixed n) k c ns e h = tt
front-all Bytes k c ns e h = tt
front-all Counted k c [] e h = zero_counts k
front-all Counted k c (x ∷ []) e h = let f : c ≡ 1 = omega arith in let p : Told Counted k 1 x = subst (λ c. Told Counted k c x) f h.0 in p
front-all Counted k c (x ∷ y ∷ ns) e h = ap (passes (count_test k)) (last-more x y ns) ∙ front-all Counted k (c - 1) (y ∷ ns) (omega arith) h.1

all-front : (t : Tail) (k c : ℕ) (ns : List ℕ) → length ns ≡ c → Tells t k ns → AllFrom (Told t k) fewer c ns
unfolding Tells
all-front (Fixed n) k c [] e h = tt
all-front (Fixed n) k c (x ∷ ns) e h = (refl, all-front (Fixed n) k (c - 1) ns (omega arith) tt)
all-front Bytes k c [] e h = tt
all-front Bytes k c (x ∷ ns) e h = (refl, all-front Bytes k (c - 1) ns (omega arith) tt)
all-front Counted k c [] e h = tt
all-front Counted k c (x ∷ []) e h = let f : 1 ≡ c = omega arith in let p : Told Counted k 1 x = h in (subst (λ c. Told Counted k c x) f p, tt)
all-front Counted k c (x ∷ y ∷ ns) e h =
    let f : nat_eq c 1 ≡ false = grind (arith, nat_tests) in
    (ap (λ b. passes (cond b (count_test k) Any) x) f, all-front Counted k (c - 1) (y ∷ ns) (omega arith) (ap (passes (count_test k)) (sym (last-more x y ns)) ∙ h))

pub good-numbers : (t : Tail) (k c : ℕ) → Good (List ℕ) (IsFront t k c) (λ ns. ns) (numbers t k c)
unfolding numbers
good-numbers t k c =
    good-as (List ℕ) (AreFrom ℕ ℕ (Told t k) fewer c c) (IsFront t k c) (flat_map one) itself (numbers t k c)
    (good-many ℕ ℕ (Told t k) one (λ left. number (passes (number_test t k left))) fewer (λ c s. Unit {0}) (λ d s r. good-number (passes (number_test t k s)) 0 (zero_told t k s)) (λ d s a r v. tt) c c tt)
    (λ ns f. ((f.count, front-all t k c ns f.count f.all), sym (flat-one ns)))
    (λ ns f. (record { count = f.0; all = all-front t k c ns f.0 f.1 }, sym (flat-one ns)))

-- ---- numbers and indices

abbrev pub parts_text : Operands → List ℕ
parts_text o = o.numbers ++ o.indices

pub record AreTail (bytes count k : ℕ) (o : Operands) : Type 0 where
  pub numbers : Listed bytes 256 o.numbers
  pub indices : Listed count k o.indices

good-tail : (bytes count k : ℕ) → (0 < count → 0 < k) → Good Operands (AreTail bytes count k) parts_text (tail_operands bytes count k)
unfolding tail_operands
good-tail bytes count k h =
    good-pair (List ℕ) (List ℕ) Operands made_operands (λ o. o.numbers) (λ o. o.indices) (Listed bytes 256) (λ _. Listed count k) (AreTail bytes count k) itself (λ _. itself) parts_text (below bytes 256) (λ _. below count k) (good-below bytes 256 (λ _. omega arith)) (λ _ _. good-below count k h)
    (λ ns is v w. (record { numbers = v; indices = w }, refl))
    (λ o f. (f.numbers, f.indices, refl, refl))

-- the numbers and indices have this shape behind a table of k nodes
pub record AreOperands (s : Shape) (k : ℕ) (o : Operands) : Type 0 where
  pub front : s.numbers ≤ length o.numbers
  pub bytes : Listed (byte_count s.tail (take s.numbers o.numbers)) 256 (drop s.numbers o.numbers)
  pub indices : Listed (index_count s.tail (take s.numbers o.numbers)) k o.indices

pub positive : (k : ℕ) (xs : List ℕ) → AreBelow k xs → 0 < length xs → 0 < k
positive k [] b h = absurd (omega arith)
positive k (x ∷ xs) b h = let p = b.0 in omega arith

-- as many indices as are told can follow
told-room : (t : Tail) (k : ℕ) (ns : List ℕ) → has_room t k ≡ true → Tells t k ns → 0 < index_count t ns → 0 < k
unfolding Tells
told-room (Fixed n) k ns r h p = grind (arith, nat_tests)
told-room Bytes k ns r h p = absurd (omega arith)
told-room Counted k ns r h p = go (nat_lt 0 k) refl h
  where
    go : (b : Bool) → nat_lt 0 k ≡ b → passes (cond b Any (Below 1)) (last_of ns) ≡ true → 0 < k
    go true e q = less 0 k e
    go false e q = let l : last_of ns < 1 = less (last_of ns) 1 q in absurd (omega arith)

-- what is told is lawful where as many indices follow
counts-told : (k c : ℕ) → (0 < c → 0 < k) → passes (count_test k) c ≡ true
counts-told k c h = go (nat_lt 0 k) refl
  where
    go : (b : Bool) → nat_lt 0 k ≡ b → passes (cond b Any (Below 1)) c ≡ true
    go true e = refl
    go false e = grind (arith, nat_tests)

room-told : (t : Tail) (k : ℕ) (ns is : List ℕ) → Listed (index_count t ns) k is → Tells t k ns
unfolding Tells
room-told (Fixed n) k ns is h = tt
room-told Bytes k ns is h = tt
room-told Counted k ns is h = counts-told k (last_of ns) (λ p. positive k is h.below (omega (arith, h.count)))

take-seam : (n : ℕ) (xs ys : List ℕ) → length xs ≡ n → take n (xs ++ ys) ≡ xs
take-seam n xs ys e = ap (λ n. take n (xs ++ ys)) (sym e) ∙ take-append_seam xs ys

drop-seam : (n : ℕ) (xs ys : List ℕ) → length xs ≡ n → drop n (xs ++ ys) ≡ ys
drop-seam n xs ys e = ap (λ n. drop n (xs ++ ys)) (sym e) ∙ drop-append_seam xs ys

abbrev front_of : Shape → Operands → List ℕ
front_of s o = take s.numbers o.numbers

abbrev tail_of : Shape → Operands → Operands
tail_of s o = record { numbers = drop s.numbers o.numbers; indices = o.indices }

pub good-operands : (s : Shape) (k : ℕ) → has_room s.tail k ≡ true → Good Operands (AreOperands s k) parts_text (operands s k)
unfolding operands
good-operands s k room =
    good-pair (List ℕ) Operands Operands with_bytes (front_of s) (tail_of s) (IsFront s.tail k s.numbers) (λ ns. AreTail (byte_count s.tail ns) (index_count s.tail ns) k) (AreOperands s k) itself (λ _. parts_text) parts_text (numbers s.tail k s.numbers) (λ ns. tail_operands (byte_count s.tail ns) (index_count s.tail ns) k) (good-numbers s.tail k s.numbers) (λ ns v. good-tail (byte_count s.tail ns) (index_count s.tail ns) k (told-room s.tail k ns room v.1)) to from
  where
    to : (ns : List ℕ) (o : Operands) → IsFront s.tail k s.numbers ns → AreTail (byte_count s.tail ns) (index_count s.tail ns) k o → AreOperands s k (with_bytes ns o) × (parts_text (with_bytes ns o) ≡ ns ++ parts_text o)
    to ns o v w =
        let e : ns ≡ take s.numbers (ns ++ o.numbers) = sym (take-seam s.numbers ns o.numbers v.0) in
        let f : o.numbers ≡ drop s.numbers (ns ++ o.numbers) = sym (drop-seam s.numbers ns o.numbers v.0) in (
          record {
            front = omega (arith, length-append ns o.numbers, v.0);
            bytes = subst (λ ms. Listed (byte_count s.tail ms) 256 (drop s.numbers (ns ++ o.numbers))) e (subst (Listed (byte_count s.tail ns) 256) f w.numbers);
            indices = subst (λ ms. Listed (index_count s.tail ms) k o.indices) e w.indices;
          },
          append_assoc ns o.numbers o.indices,
        )

    from : (o : Operands) → AreOperands s k o → IsFront s.tail k s.numbers (front_of s o) × AreTail (byte_count s.tail (front_of s o)) (index_count s.tail (front_of s o)) k (tail_of s o) × (with_bytes (front_of s o) (tail_of s o) ≡ o) × (parts_text o ≡ front_of s o ++ parts_text (tail_of s o))
    from o f =
        let e = take-append-drop s.numbers o.numbers in (
          (length-take-le s.numbers o.numbers f.front, room-told s.tail k (front_of s o) o.indices f.indices),
          record { numbers = f.bytes; indices = f.indices },
          (λ i. record { numbers = e i; indices = o.indices }),
          ap (λ ns. ns ++ o.indices) (sym e) ∙ append_assoc (front_of s o) (drop s.numbers o.numbers) o.indices,
        )

-- ---- indices behind their number, and weakening

abbrev pub counted_text : List ℕ → List ℕ
counted_text is = length is ∷ is

pub good-counted : (k : ℕ) → Good (List ℕ) (AreBelow k) (λ is. length is ∷ is) (counted k)
unfolding counted
good-counted k =
    good-pair ℕ (List ℕ) (List ℕ) behind_count (λ is. length is) itself (λ c. passes (count_test k) c ≡ true) (λ c. Listed c k) (AreBelow k) one (λ _. itself) counted_text (number (passes (count_test k))) (λ c. below c k) (good-number (passes (count_test k)) 0 (zero_counts k)) (λ c v. good-below c k (room c v))
    (λ c is v w. (w.below, λ i. w.count i ∷ is))
    (λ is f. (counts-told k (length is) (positive k is f), record { count = refl; below = f }, refl, refl))
  where
    room : (c : ℕ) → passes (count_test k) c ≡ true → 0 < c → 0 < k
    room c h p = go (nat_lt 0 k) refl h
      where
        go : (b : Bool) → nat_lt 0 k ≡ b → passes (cond b Any (Below 1)) c ≡ true → 0 < k
        go true e q = less 0 k e
        go false e q = let l : c < 1 = less c 1 q in absurd (omega arith)

-- the numbers of weakening are the lengths of its two lists
pub record AreWeak (k : ℕ) (o : Operands) : Type 0 where
  pub numbers : length o.numbers ≡ 2
  pub count : length o.indices ≡ get_or o.numbers 0 0 + get_or o.numbers 1 0
  pub below : AreBelow k o.indices

abbrev pub weak_text : Operands → List ℕ
weak_text o = get_or o.numbers 0 0 ∷ (take (get_or o.numbers 0 0) o.indices ++ get_or o.numbers 1 0 ∷ drop (get_or o.numbers 0 0) o.indices)

below-append : (k : ℕ) (xs ys : List ℕ) → AreBelow k xs → AreBelow k ys → AreBelow k (xs ++ ys)
below-append k [] ys h g = g
below-append k (x ∷ xs) ys h g = (h.0, below-append k xs ys h.1 g)

below-parts : (k n : ℕ) (xs : List ℕ) → AreBelow k xs → AreBelow k (take n xs) × AreBelow k (drop n xs)
below-parts k zero xs h = (tt, h)
below-parts k (suc n) [] h = (tt, tt)
below-parts k (suc n) (x ∷ xs) h = let p = below-parts k n xs h.1 in ((h.0, p.0), p.1)

two_numbers : (ns : List ℕ) → length ns ≡ 2 → get_or ns 0 0 ∷ get_or ns 1 0 ∷ [] ≡ ns
two_numbers [] e = absurd (omega arith)
two_numbers (a ∷ []) e = absurd (omega arith)
two_numbers (a ∷ b ∷ []) e = refl
two_numbers (a ∷ b ∷ c ∷ ns) e = absurd (omega arith)

pub good-weak : (k : ℕ) → Good Operands (AreWeak k) weak_text (weak_operands k)
unfolding weak_operands
good-weak k =
    good-pair (List ℕ) (List ℕ) Operands made_weak (λ o. take (get_or o.numbers 0 0) o.indices) (λ o. drop (get_or o.numbers 0 0) o.indices) (AreBelow k) (λ _. AreBelow k) (AreWeak k) counted_text (λ _. counted_text) weak_text (counted k) (λ _. counted k) (good-counted k) (λ _ _. good-counted k) to from
  where
    to : (ls rs : List ℕ) → AreBelow k ls → AreBelow k rs → AreWeak k (made_weak ls rs) × (weak_text (made_weak ls rs) ≡ counted_text ls ++ counted_text rs)
    to ls rs v w = (
      record { numbers = refl; count = length-append ls rs; below = below-append k ls rs v w },
      (λ i. length ls ∷ (take-append_seam ls rs i ++ length rs ∷ drop-append_seam ls rs i)),
    )

    from : (o : Operands) → AreWeak k o → AreBelow k (take (get_or o.numbers 0 0) o.indices) × AreBelow k (drop (get_or o.numbers 0 0) o.indices) × (made_weak (take (get_or o.numbers 0 0) o.indices) (drop (get_or o.numbers 0 0) o.indices) ≡ o) × (weak_text o ≡ counted_text (take (get_or o.numbers 0 0) o.indices) ++ counted_text (drop (get_or o.numbers 0 0) o.indices))
    from o f =
        let a = get_or o.numbers 0 0 in
        let p = below-parts k a o.indices f.below in
        let l : length (take a o.indices) ≡ a = length-take-le a o.indices (omega (arith, f.count)) in
        let r : length (drop a o.indices) ≡ get_or o.numbers 1 0 = omega (arith, length-drop a o.indices, f.count) in
        let e = two_numbers o.numbers f.numbers in (
          p.0,
          p.1,
          (λ i. record { numbers = ((λ j. l j ∷ r j ∷ []) ∙ e) i; indices = take-append-drop a o.indices i }),
          (λ i. sym l i ∷ (take a o.indices ++ sym r i ∷ drop a o.indices)),
        )
