-- Readers that read exactly what is written, and whose faults are the first numbers that nothing written goes on with.
use Rattle.std.proofs.Common.{◌≡◌, ℕ, zero, suc, Bool, true, false, List, [], ◌∷◌, ◌++◌, refl, ap, sym, ◌∙◌, subst, arith, append_assoc}
use Rattle.std.specs.List.{flat_map}
use Rattle.proof_text.specs.Reading.{Answer, Reader, after, seen, tested, number, pair, many, AreFrom}
use Rattle.proof_text.specs.Reading.Answer.{took, bad}

-- what is read so far is a front of what is written for some value, and of none with the number at the fault
pub record IsFault (A : Type 0) (V : A → Type 0) (w : A → List ℕ) (l m : List ℕ) : Type 0 where
  pub front : List ℕ
  pub is : l ≡ front ++ m
  pub value : A
  pub valid : V value
  pub rest : List ℕ
  pub goes : w value ≡ front ++ rest
  pub stuck : (x : ℕ) (n : List ℕ) → m ≡ x ∷ n → (a : A) (more behind : List ℕ) → V a → w a ++ behind ≡ front ++ x ∷ more → ⊥

pub record Good (A : Type 0) (V : A → Type 0) (w : A → List ℕ) (r : Reader A) : Type 0 where
  pub some : (a : A) × V a
  pub sound : (l : List ℕ) (a : A) (m : List ℕ) → r l ≡ took a m → V a × (l ≡ w a ++ m)
  pub complete : (a : A) (m : List ℕ) → V a → r (w a ++ m) ≡ took a m
  pub fault : (l m : List ℕ) → r l ≡ bad m → IsFault A V w l m

-- a number
abbrev pub one : ℕ → List ℕ
one x = x ∷ []

module _ (p : ℕ → Bool) where
  number-sound : (l : List ℕ) (a : ℕ) (m : List ℕ) → number p l ≡ took a m → (p a ≡ true) × (l ≡ a ∷ m)
  number-sound [] a m h = cc
  number-sound (x ∷ l) a m h = go (p x) refl h
    where
      go : (b : Bool) → p x ≡ b → tested b x l ≡ took a m → (p a ≡ true) × (x ∷ l ≡ a ∷ m)
      go true e h = let f : x ≡ a = cc in (ap p (sym f) ∙ e, (cc))
      go false e h = cc

  number-complete : (a : ℕ) (m : List ℕ) → p a ≡ true → number p (a ∷ m) ≡ took a m
  number-complete a m h = ap (λ b. tested b a m) h

  number-fault : (a : ℕ) → p a ≡ true → (l m : List ℕ) → number p l ≡ bad m → IsFault ℕ (λ x. p x ≡ true) one l m
  number-fault a v [] m h = record { front = []; is = cc; value = a; valid = v; rest = a ∷ []; goes = refl; stuck = λ x n e b more behind z k. cc }
  number-fault a v (y ∷ l) m h = go (p y) refl h
    where
      go : (b : Bool) → p y ≡ b → tested b y l ≡ bad m → IsFault ℕ (λ x. p x ≡ true) one (y ∷ l) m
      go true e h = cc
      go false e h = record {
        front = [];
        is = cc;
        value = a;
        valid = v;
        rest = a ∷ [];
        goes = refl;
        stuck = λ x n q b more behind z k. (let f : b ≡ y = cc in let g : true ≡ false = sym z ∙ ap p f ∙ e in cc);
      }

  pub good-number : (a : ℕ) → p a ≡ true → Good ℕ (λ x. p x ≡ true) one (number p)
  good-number a v = record {
    some = (a, v);
    sound = number-sound;
    complete = number-complete;
    fault = number-fault a v;
  }

-- a value and then one that may depend on it
module _ (A B C : Type 0) (mk : A → B → C) (left : C → A) (right : C → B) (V : A → Type 0) (W : A → B → Type 0) (U : C → Type 0) (v : A → List ℕ) (w : A → B → List ℕ) (u : C → List ℕ) (r : Reader A) (s : A → Reader B) (good : Good A V v r) (goods : (a : A) → V a → Good B (W a) (w a) (s a)) (to : (a : A) (b : B) → V a → W a b → U (mk a b) × (u (mk a b) ≡ v a ++ w a b)) (from : (c : C) → U c → V (left c) × W (left c) (right c) × (mk (left c) (right c) ≡ c) × (u c ≡ v (left c) ++ w (left c) (right c))) where
  pair-sound : (l : List ℕ) (c : C) (m : List ℕ) → pair mk r s l ≡ took c m → U c × (l ≡ u c ++ m)
  pair-sound l c m h = first (r l) refl h
    where
      second : (a : A) (n : List ℕ) → r l ≡ took a n → (y : Answer B) → s a n ≡ y → seen (mk a) y ≡ took c m → U c × (l ≡ u c ++ m)
      second a n e (bad k) f h = cc
      second a n e (took b k) f h =
          let p = good.sound l a n e in
          let q = (goods a p.0).sound n b k f in
          let t = to a b p.0 q.0 in
          let ec : mk a b ≡ c = cc in
          let em : k ≡ m = cc in
          let g : l ≡ u (mk a b) ++ k = p.1 ∙ ap (λ z. v a ++ z) q.1 ∙ sym (append_assoc (v a) (w a b) k) ∙ ap (λ z. z ++ k) (sym t.1) in
          (subst U ec t.0, g ∙ (λ i. u (ec i) ++ em i))

      first : (x : Answer A) → r l ≡ x → after x (λ a n. seen (mk a) (s a n)) ≡ took c m → U c × (l ≡ u c ++ m)
      first (bad n) e h = cc
      first (took a n) e h = second a n e (s a n) refl h

  pair-complete : (c : C) (m : List ℕ) → U c → pair mk r s (u c ++ m) ≡ took c m
  pair-complete c m h =
      let f = from c h in
      let e : u c ++ m ≡ v (left c) ++ (w (left c) (right c) ++ m) = ap (λ z. z ++ m) f.3 ∙ append_assoc (v (left c)) (w (left c) (right c)) m in
      let p : r (u c ++ m) ≡ took (left c) (w (left c) (right c) ++ m) = ap r e ∙ good.complete (left c) (w (left c) (right c) ++ m) f.0 in
      ap (λ z. after z (λ a n. seen (mk a) (s a n))) p
      ∙ ap (λ z. seen (mk (left c)) z) ((goods (left c) f.0).complete (right c) m f.1)
      ∙ ap (λ z. took z m) f.2

  pair-fault : (l m : List ℕ) → pair mk r s l ≡ bad m → IsFault C U u l m
  pair-fault l m h = first (r l) refl h
    where
      second : (a : A) (n : List ℕ) → r l ≡ took a n → (y : Answer B) → s a n ≡ y → seen (mk a) y ≡ bad m → IsFault C U u l m
      second a n e (took b k) g h = cc
      second a n e (bad k) g h =
          let p = good.sound l a n e in
          let f = (goods a p.0).fault n m (let q : k ≡ m = cc in g ∙ ap (λ z. bad z) q) in
          let t = to a f.value p.0 f.valid in
          record {
            front = v a ++ f.front;
            is = p.1 ∙ ap (λ z. v a ++ z) f.is ∙ sym (append_assoc (v a) f.front m);
            value = mk a f.value;
            valid = t.0;
            rest = f.rest;
            goes = t.1 ∙ ap (λ z. v a ++ z) f.goes ∙ sym (append_assoc (v a) f.front f.rest);
            stuck = λ x k q c more behind z e2.
                let o = from c z in
                let same : v (left c) ++ (w (left c) (right c) ++ behind) ≡ v a ++ (f.front ++ x ∷ more) =
                sym (append_assoc (v (left c)) (w (left c) (right c)) behind) ∙ ap (λ y. y ++ behind) (sym o.3) ∙ e2 ∙ append_assoc (v a) f.front (x ∷ more) in
                let both : took (left c) (w (left c) (right c) ++ behind) ≡ took a (f.front ++ x ∷ more) =
                sym (good.complete (left c) (w (left c) (right c) ++ behind) o.0) ∙ ap r same ∙ good.complete a (f.front ++ x ∷ more) p.0 in
                let ea : left c ≡ a = cc in
                let em : w (left c) (right c) ++ behind ≡ f.front ++ x ∷ more = cc in
                f.stuck x k q (right c) more behind (subst (λ y. W y (right c)) ea o.1) (ap (λ y. w y (right c) ++ behind) (sym ea) ∙ em);
          }

      first : (x : Answer A) → r l ≡ x → after x (λ a n. seen (mk a) (s a n)) ≡ bad m → IsFault C U u l m
      first (took a n) e h = second a n e (s a n) refl h
      first (bad n) e h =
          let f = good.fault l m (let q : n ≡ m = cc in e ∙ ap (λ z. bad z) q) in
          let b = (goods f.value f.valid).some in
          let t = to f.value b.0 f.valid b.1 in
          record {
            front = f.front;
            is = f.is;
            value = mk f.value b.0;
            valid = t.0;
            rest = f.rest ++ w f.value b.0;
            goes = t.1 ∙ ap (λ z. z ++ w f.value b.0) f.goes ∙ append_assoc f.front f.rest (w f.value b.0);
            stuck = λ x k q c more behind z e2.
                let o = from c z in
                f.stuck x k q (left c) more (w (left c) (right c) ++ behind) o.0 (sym (append_assoc (v (left c)) (w (left c) (right c)) behind) ∙ ap (λ y. y ++ behind) (sym o.3) ∙ e2);
          }

  pub good-pair : Good C U u (pair mk r s)
  good-pair =
      let a = good.some in
      let b = (goods a.0 a.1).some in
      record {
        some = (mk a.0 b.0, (to a.0 b.0 a.1 b.1).0);
        sound = pair-sound;
        complete = pair-complete;
        fault = pair-fault;
      }

-- so many items, where as many can follow
module _ (S A : Type 0) (V : S → A → Type 0) (w : A → List ℕ) (r : S → Reader A) (next : S → A → S) (Can : ℕ → S → Type 0) (good : (c : ℕ) (s : S) → Can (suc c) s → Good A (V s) w (r s)) (go : (c : ℕ) (s : S) (a : A) → Can (suc c) s → V s a → Can c (next s a)) where
  good-none : (s : S) → Good (List A) (AreFrom S A V next 0 s) (flat_map w) (λ l. took [] l)
  good-none s = record {
    some = ([], record { count = refl; all = tt });
    sound = λ l items m h. (subst (AreFrom S A V next 0 s) (let e : [] ≡ items = cc in e) (record { count = refl; all = tt }), let e : [] ≡ items = cc in let f : l ≡ m = cc in λ i. flat_map w (e i) ++ f i);
    complete = none;
    fault = λ l m h. cc;
  }
    where
      none : (items : List A) (m : List ℕ) → AreFrom S A V next 0 s items → took [] (flat_map w items ++ m) ≡ took items m
      none [] m h = refl
      none (a ∷ rest) m h = absurd (omega (arith, h.count))

  first_or : A → List A → A
  first_or d [] = d
  first_or d (a ∷ rest) = a

  tail : List A → List A
  tail [] = []
  tail (a ∷ rest) = rest

  pub good-many : (c : ℕ) (s : S) → Can c s → Good (List A) (AreFrom S A V next c s) (flat_map w) (many r next c s)
  unfolding first_or tail
  good-many zero s h = good-none s
  good-many (suc c) s h =
      let g = good c s h in
      good-pair A (List A) (List A) (λ a rest. a ∷ rest) (first_or g.some.0) tail (V s) (λ a rest. AreFrom S A V next c (next s a) rest) (AreFrom S A V next (suc c) s) w (λ a. flat_map w) (flat_map w) (r s) (λ a. many r next c (next s a)) g (λ a v. good-many c (next s a) (go c s a h v)) (λ a rest v f. (record { count = ap suc f.count; all = (v, f.all) }, refl)) split
    where
      split : (items : List A) → AreFrom S A V next (suc c) s items → V s (first_or (good c s h).some.0 items) × AreFrom S A V next c (next s (first_or (good c s h).some.0 items)) (tail items) × (first_or (good c s h).some.0 items ∷ tail items ≡ items) × (flat_map w items ≡ w (first_or (good c s h).some.0 items) ++ flat_map w (tail items))
      split [] f = absurd (omega (arith, f.count))
      split (a ∷ rest) f = (f.all.0, record { count = omega (arith, f.count); all = f.all.1 }, refl, refl)

-- the same values, said in other words
pub good-as : (A : Type 0) (V U : A → Type 0) (v u : A → List ℕ) (r : Reader A) → Good A V v r → ((a : A) → V a → U a × (u a ≡ v a)) → ((a : A) → U a → V a × (u a ≡ v a)) → Good A U u r
good-as A V U v u r g to from = record {
  some = (g.some.0, (to g.some.0 g.some.1).0);
  sound = λ l a m h. (let s = g.sound l a m h in let t = to a s.0 in (t.0, s.1 ∙ ap (λ z. z ++ m) (sym t.1)));
  complete = λ a m h. (let f = from a h in ap (λ z. r (z ++ m)) f.1 ∙ g.complete a m f.0);
  fault = λ l m h.
      let f = g.fault l m h in
      let t = to f.value f.valid in
      record {
        front = f.front;
        is = f.is;
        value = f.value;
        valid = t.0;
        rest = f.rest;
        goes = t.1 ∙ f.goes;
        stuck = λ x n e a more behind z k. (let o = from a z in f.stuck x n e a more behind o.0 (ap (λ y. y ++ behind) (sym o.1) ∙ k));
      };
}

-- values that are written alike are the same
pub written-once : (A : Type 0) (V : A → Type 0) (w : A → List ℕ) (r : Reader A) → Good A V w r → (a b : A) → V a → V b → w a ≡ w b → a ≡ b
written-once A V w r g a b h k e =
    let both : took a [] ≡ took b [] = sym (g.complete a [] h) ∙ ap (λ z. r (z ++ [])) e ∙ g.complete b [] k in cc
