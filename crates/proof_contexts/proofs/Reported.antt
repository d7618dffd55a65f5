-- Each theorem that is reported proved has a derivation: the earlier theorems that it cites are cut in.
use Rattle.std.specs.Prelude.{◌≡◌, ℕ, Bool, true, false, ◌||◌, nat_eq, Some, None, List, [], ◌∷◌, map, ◌&&◌, not, cond, if◌then◌else◌, ◌++◌}
use Rattle.std.proofs.Common.{refl, ap, ◌∙◌, arith, inr, sym, subst, inl}
use Rattle.std.proofs.lemmas.Bool.Decides.{nat_tests}
use Rattle.core_expr.specs.declared.head.Sym.{Sym}
use Rattle.core_expr.specs.Tree.{Tree}
use Rattle.core_expr.specs.declared.canon.Canon.{Canon}
use Rattle.seq_calculus.specs.Calculus.{Has, HasAll, IsClosed, AllClosed, Der}
use Rattle.obligation.specs.declared.obligation.Definition.{Definition}
use Rattle.proof_contexts.specs.Contexts.{told, fact_of}
use Rattle.proof_contexts.specs.Leaves.{AreProved, IsProved}
use Rattle.proof_contexts.specs.Theorems.{Known, Theorem, entry_of, assumptions, fact, before_it, start, theorem_leaves, assumes, IsDerivable}
use Rattle.proof_contexts.specs.Theorems.Known.{Assumption, Earlier}
use Rattle.proof_contexts.specs.Right.{level_items, RightKnown, RightTheorem, RightFacts, RightProof, RightSteps, RightStep, AreOrdered, Among, IsOther, Stand, InOrder}
use Rattle.proof_contexts.proofs.Rules.{HasAll-itself, Has-all, left_true, right_true}
use Rattle.proof_contexts.proofs.Putting.{expansion, whole, ExpandsAll, IsFalling, unfolded-whole, map-whole, falls, expands}
use Rattle.proof_contexts.proofs.Joins.{AllBelow, cut_in, widen}
use Rattle.proof_contexts.proofs.Covering.{Reached, reached, Covers}
use Rattle.proof_contexts.proofs.StepLaws.{RightItems-good, full_good, general}
use Rattle.proof_contexts.proofs.Assembly.{raised}
use Rattle.proof_contexts.specs.declared.leaf.Leaf.{Leaf}
use Rattle.proof_contexts.specs.declared.leaf.LeafKind.{LeafKind}
use Rattle.proof_contexts.specs.declared.leaf.LeafKind.TheVariants as kind
use Rattle.proof_contexts.specs.Expansion.{has_number, full}
use Rattle.proof_contexts.specs.Canonical.{obligation_canon}
use Rattle.proof_contexts.specs.Steps.{Fact, Proof, Steps, Step}
use Rattle.proof_contexts.specs.Steps.Fact.{Cited, Plain}
use Rattle.proof_contexts.specs.Steps.Proof.{Missing, Omitted, Obvious, By, Stepped}
use Rattle.proof_contexts.specs.Steps.Steps.{Qed, Next}
use Rattle.proof_contexts.specs.Steps.Step.{Assert, Case, Suffices, Have, Take, TakeIn, Witness, WitnessIn, Pick, Define, Use, Hide}
use Rattle.proof_contexts.specs.Statuses.{cites_facts, cites, cites_steps, cites_step, Verdict as answers, verdict, is_there, worst, by_cited, status, is_proved, may_with, verdicts, is_reported, done_with, IsReported}
use Rattle.proof_contexts.specs.Statuses.Status.{Conditional}
use Rattle.proof_contexts.specs.Laws.{IsSound}

lone : (k x : ℕ) → nat_eq k x || false ≡ true → k ≡ x
lone k x h = go (nat_eq k x) refl h
  where
    go : (b : Bool) → nat_eq k x ≡ b → b || false ≡ true → k ≡ x
    go true e h = grind (arith, nat_tests)
    go false e h = cc

by_test : {A : Type 0} (b : Bool) → (b ≡ true → A) → (b ≡ false → A) → A
by_test true f g = f refl
by_test false f g = g refl

neither : (b : Bool) (A : Type 0) → b ≡ true → b ≡ false → A
neither b A h k = absurd (differ b h k)
  where
    differ : (b : Bool) → b ≡ true → b ≡ false → ⊥
    differ b h k = cc

wide : (g : List Tree) (x : Tree) (ys : List Tree) → HasAll g ys → HasAll (x ∷ g) ys
wide g x [] w = tt
wide g x (y ∷ ys) w = (inr w.0, wide g x ys w.1)

-- the assumptions before a theorem, fully expanded
abbrev pub assumed : List Definition → Theorem → List Tree
assumed table t = map (whole table) (assumptions t.known)

module _ (rank : Sym → ℕ) (table : List Definition) (may : ℕ → Bool) (expands : ExpandsAll (expansion table) table) (falling : IsFalling rank (expansion table)) where
  -- a derivation for each earlier theorem that may be cited
  abbrev pub Sources : List Tree → List Known → Type 0
  Sources a [] = Unit {0}
  Sources a (Assumption l f ∷ ks) = Sources a ks
  Sources a (Earlier k f ∷ ks) = (may k ≡ true → Der a (whole table f ∷ [])) × Sources a ks

  reached_cited : (g : List Tree) (k : ℕ) (f : Tree) → (may k ≡ true → Has g (whole table f)) → Reached table may g (told (Some k) f)
  reached_cited g k f h = record { if_usable = λ u. cc; if_cited = λ x p q. h (let e : k ≡ x = lone k x p in ap may e ∙ q); if_marked = λ x p q. h (let e : k ≡ x = lone k x p in ap may e ∙ q) }

  cut_earlier : (n : ℕ) (a : List Tree) (y : Tree) (ks : List Known) (g : List Tree) → IsClosed y → RightKnown rank table may n ks → Sources a ks → HasAll g a → HasAll g (map (whole table) (assumptions ks)) → AllClosed g → AllBelow rank n g → ((g1 : List Tree) → HasAll g1 g → AllClosed g1 → AllBelow rank n g1 → Covers table may g1 (map entry_of ks) → Der g1 (y ∷ [])) → Der g (y ∷ [])
  cut_earlier n a y [] g cy r s ha hb cg bg h = h g (HasAll-itself g) cg bg tt
  cut_earlier n a y (Assumption l f ∷ ks) g cy r s ha hb cg bg h =
      cut_earlier n a y ks g cy r.1 s ha hb.1 cg bg
      (λ g1 i c1 b1 v. h g1 i c1 b1 (reached table may g1 (told l f) (Has-all g1 g (whole table f) i hb.0), v))
  cut_earlier n a y (Earlier k f ∷ ks) g cy r s ha hb cg bg h =
      by_test (may k)
      (λ (e : may k ≡ true).
      let q = full_good rank table may expands falling n f r.0 in
      let d : Der g (whole table f ∷ []) = widen g a (whole table f) cg ha (s.0 e) in
      cut_in g (whole table f) y cy d
      (cut_earlier n a y ks (whole table f ∷ g) cy r.1 s.1 (wide g (whole table f) a ha) (wide g (whole table f) (map (whole table) (assumptions ks)) hb) (q.closed, cg) (q.below, bg)
      (λ g1 i c1 b1 v. h g1 i.1 c1 b1 (reached_cited g1 k f (λ _. i.0), v))))
      (λ (e : may k ≡ false).
      cut_earlier n a y ks g cy r.1 s.1 ha hb cg bg
      (λ g1 i c1 b1 v. h g1 i c1 b1 (reached_cited g1 k f (λ (p : may k ≡ true). neither (may k) (Has g1 (whole table f)) p e), v)))

  pub good_list : (n : ℕ) (ks : List Known) → RightKnown rank table may n ks → AllClosed (map (whole table) (assumptions ks)) × AllBelow rank n (map (whole table) (assumptions ks))
  good_list n [] r = (tt, tt)
  good_list n (Assumption l f ∷ ks) r =
      let q = full_good rank table may expands falling n f r.0 in
      let w = good_list n ks r.1 in
      ((q.closed, w.0), (q.below, w.1))
  good_list n (Earlier k f ∷ ks) r = good_list n ks r.1

  -- one theorem
  pub assembled : (n : ℕ) (t : Theorem) → RightTheorem rank table may n t → AreProved (theorem_leaves table t) → Sources (assumed table t) t.known → Der (assumed table t) (whole table (fact t) ∷ [])
  assembled n t r p s =
      let q = full_good rank table may expands falling n (fact t) (RightItems-good rank table may fact_of n t.statement.items t.statement.goal r.statement) in
      let w = good_list n t.known r.known in
      cut_earlier n (assumed table t) (whole table (fact t)) t.known (assumed table t) q.closed r.known s (HasAll-itself (assumed table t)) (HasAll-itself (assumed table t)) w.0 w.1
      (λ g1 i c1 b1 v.
      general rank table may expands falling None t.statement.items n t.statement.goal (before_it t) r.statement
      (raised rank table may expands falling t.proof (level_items rank table n t.statement.items) (start t) r.proof p)
      g1 (record { closed = c1; below = b1; covers = v }))

-- every name is one that may be cited
abbrev all_may : (ℕ → Bool) → List ℕ → Bool
all_may may [] = true
all_may may (x ∷ xs) = may x && all_may may xs

may_left : (may : ℕ → Bool) (xs ys : List ℕ) → all_may may (xs ++ ys) ≡ true → all_may may xs ≡ true
may_left may [] ys h = refl
may_left may (x ∷ xs) ys h =
    let a : may x ≡ true = left_true (may x) (all_may may (xs ++ ys)) h in
    rw a (may_left may xs ys (right_true (may x) (all_may may (xs ++ ys)) h))

may_right : (may : ℕ → Bool) (xs ys : List ℕ) → all_may may (xs ++ ys) ≡ true → all_may may ys ≡ true
may_right may [] ys h = h
may_right may (x ∷ xs) ys h = may_right may xs ys (right_true (may x) (all_may may (xs ++ ys)) h)

module _ (rank : Sym → ℕ) (table : List Definition) (may : ℕ → Bool) where
  facts_may : (n : ℕ) (fs : List Fact) → RightFacts rank table (λ _. true) n fs → all_may may (cites_facts fs) ≡ true → RightFacts rank table may n fs
  facts_may n [] r h = tt
  facts_may n (Cited x ∷ fs) r h = (left_true (may x) (all_may may (cites_facts fs)) h, facts_may n fs r.1 (right_true (may x) (all_may may (cites_facts fs)) h))
  facts_may n (Plain p e ∷ fs) r h = (r.0, facts_may n fs r.1 h)

  mutual
    proof_may : (p : Proof) (n : ℕ) → RightProof rank table (λ _. true) p n → all_may may (cites p) ≡ true → RightProof rank table may p n
    proof_may (Missing p) n r h = tt
    proof_may (Omitted p) n r h = tt
    proof_may (Obvious p) n r h = tt
    proof_may (By p only fs u) n r h = facts_may n fs r h
    proof_may (Stepped ss) n r h = steps_may ss n r h

    steps_may : (ss : Steps) (n : ℕ) → RightSteps rank table (λ _. true) ss n → all_may may (cites_steps ss) ≡ true → RightSteps rank table may ss n
    steps_may (Qed p) n r h = (r.0, r.1, proof_may p r.0 r.2 h)
    steps_may (Next p s ss) n r h =
        (r.0, r.1, step_may s r.0 r.2 (may_left may (cites_step s) (cites_steps ss) h), steps_may ss _ r.3 (may_right may (cites_step s) (cites_steps ss) h))

    step_may : (s : Step) (n : ℕ) → RightStep rank table (λ _. true) s n → all_may may (cites_step s) ≡ true → RightStep rank table may s n
    step_may (Assert l s p) n r h = (r.0, (r.1.0, r.1.1, proof_may p r.1.0 r.1.2 h))
    step_may (Case l f p) n r h = (r.0, (r.1.0, r.1.1, proof_may p r.1.0 r.1.2 h))
    step_may (Suffices l s p) n r h = (r.0, (r.1.0, r.1.1, proof_may p r.1.0 r.1.2 h))
    step_may (Have l f) n r h = r
    step_may (Take x) n r h = r
    step_may (TakeIn l x s) n r h = r
    step_may (Witness t) n r h = r
    step_may (WitnessIn l t s) n r h = r
    step_may (Pick l is f p) n r h = (r.0, (r.1.0, r.1.1, proof_may p r.1.0 r.1.2 h))
    step_may (Define u) n r h = tt
    step_may (Use l fs u) n r h = facts_may n fs r h
    step_may (Hide xs u) n r h = tt

-- ---- statuses

cited_proved : (may : ℕ → Bool) (xs : List ℕ) → is_proved (by_cited may xs) ≡ true → all_may may xs ≡ true
cited_proved may [] h = refl
cited_proved may (x ∷ xs) h = go (may x) h (cited_proved may xs)
  where
    go : (b : Bool) → is_proved (if b then by_cited may xs else Conditional x) ≡ true → (is_proved (by_cited may xs) ≡ true → all_may may xs ≡ true) → b && all_may may xs ≡ true
    go true h k = k h
    go false h k = cc

status_proved : (may : ℕ → Bool) (xs : List ℕ) (v : answers) → is_proved (status may xs v) ≡ true → (v ≡ answers.Proved) × (all_may may xs ≡ true)
status_proved may xs answers.Temporal h = (cc, cc)
status_proved may xs answers.Memory h = (cc, cc)
status_proved may xs answers.Unproved h = (cc, cc)
status_proved may xs answers.Missing h = (cc, cc)
status_proved may xs answers.Omitted h = (cc, cc)
status_proved may xs answers.Proved h = (refl, cited_proved may xs h)

abbrev AllProved : List answers → Type 0
AllProved [] = Unit {0}
AllProved (v ∷ vs) = (v ≡ answers.Proved) × AllProved vs

-- none of the other verdicts is there
abbrev NoneElse : List answers → Type 0
NoneElse vs =
    (is_there answers.Temporal vs ≡ false) × (is_there answers.Memory vs ≡ false) × (is_there answers.Unproved vs ≡ false)
    × (is_there answers.Missing vs ≡ false) × (is_there answers.Omitted vs ≡ false)

none_else : (vs : List answers) → worst vs ≡ answers.Proved → NoneElse vs
none_else vs h = go (is_there answers.Temporal vs) (is_there answers.Memory vs) (is_there answers.Unproved vs) (is_there answers.Missing vs) (is_there answers.Omitted vs) h
  where
    go : (a b c d e : Bool)
        → (if a then answers.Temporal else if b then answers.Memory else if c then answers.Unproved else if d then answers.Missing else if e then answers.Omitted else answers.Proved) ≡ answers.Proved
        → (a ≡ false) × (b ≡ false) × (c ≡ false) × (d ≡ false) × (e ≡ false)
    go true b c d e h = (cc, cc, cc, cc, cc)
    go false true c d e h = (cc, cc, cc, cc, cc)
    go false false true d e h = (cc, cc, cc, cc, cc)
    go false false false true e h = (cc, cc, cc, cc, cc)
    go false false false false true h = (cc, cc, cc, cc, cc)
    go false false false false false h = (refl, refl, refl, refl, refl)

all_proved : (vs : List answers) → NoneElse vs → AllProved vs
all_proved [] h = tt
all_proved (answers.Temporal ∷ vs) h = (cc, all_proved vs (cc, h.1, h.2, h.3, h.4))
all_proved (answers.Memory ∷ vs) h = (cc, all_proved vs (h.0, cc, h.2, h.3, h.4))
all_proved (answers.Unproved ∷ vs) h = (cc, all_proved vs (h.0, h.1, cc, h.3, h.4))
all_proved (answers.Missing ∷ vs) h = (cc, all_proved vs (h.0, h.1, h.2, cc, h.4))
all_proved (answers.Omitted ∷ vs) h = (cc, all_proved vs (h.0, h.1, h.2, h.3, cc))
all_proved (answers.Proved ∷ vs) h = (refl, all_proved vs h)

module _ (rank : Sym → ℕ) (table : List Definition) (is_theorem : ℕ → Bool) (answer : Canon → answers) (ordered : AreOrdered rank table) (sound : IsSound answer) where
  kind_proved : (k : LeafKind) → verdict answer k ≡ answers.Proved → IsProved k
  kind_proved (kind.Search o) h = sound (obligation_canon o) h
  kind_proved kind.Missing h = cc
  kind_proved kind.Omitted h = cc
  kind_proved kind.Temporal h = cc
  kind_proved kind.Shape h = cc

  leaves_proved : (ls : List Leaf) → AllProved (map (λ (l : Leaf). verdict answer l.kind) ls) → AreProved ls
  leaves_proved [] h = tt
  leaves_proved (l ∷ ls) h = (kind_proved l.kind h.0, leaves_proved ls h.1)

  -- the fact has a derivation from what is assumed
  abbrev Derived : Theorem → Type 0
  Derived t = Der (assumed table t) (whole table (fact t) ∷ [])

  -- what is reported so far has derivations
  abbrev Reports : List ℕ → List Theorem → Type 0
  Reports done ts = (u : Theorem) → Among ts u → has_number done u.key ≡ true → Derived u

  -- every earlier theorem's name is a theorem's
  abbrev Names : List Theorem → Type 0
  Names ts = (u : Theorem) → Among ts u → is_theorem u.key ≡ true

  reported_name : (done : List ℕ) (k : ℕ) → is_theorem k ≡ true → may_with table is_theorem answer done k ≡ true → has_number done k ≡ true
  reported_name done k h e = go (is_theorem k) (has_number done k) h e
    where
      go : (a b : Bool) → a ≡ true → not a || b ≡ true → b ≡ true
      go true b h e = e
      go false b h e = cc

  sources_of : (done : List ℕ) (ts : List Theorem) (t : Theorem) (ks : List Known) → Reports done ts → Names ts → Stand table ts t ks → (n : ℕ) → RightTheorem rank table (λ _. true) n t → Sources rank table (may_with table is_theorem answer done) (expands rank table ordered) (falls rank table ordered) (assumed table t) ks
  sources_of done ts t [] k m s n r = tt
  sources_of done ts t (Assumption l f ∷ ks) k m s n r = sources_of done ts t ks k m s n r
  sources_of done ts t (Earlier x f ∷ ks) k m ((u, a, e, w, c), s) n r = (
    (λ q.
        let hx : has_number done x ≡ true = reported_name done x (ap is_theorem (sym e) ∙ m u a) q in
        let hu : has_number done u.key ≡ true = ap (has_number done) e ∙ hx in
        let i : HasAll (assumed table t) (assumed table u) = subst (λ (xs : List Tree). HasAll xs (assumed table u)) (map-whole table (assumptions t.known)) (subst (HasAll (assumes table t)) (map-whole table (assumptions u.known)) c) in
        subst (λ (y : Tree). Der (assumed table t) (whole table y ∷ [])) w
        (widen (assumed table t) (assumed table u) (whole table (fact u)) (good_list rank table (may_with table is_theorem answer done) (expands rank table ordered) (falls rank table ordered) n t.known r.known).0 i (k u a hu))),
    sources_of done ts t ks k m s n r,
  )

  this_theorem : (done : List ℕ) (ts us : List Theorem) (t : Theorem) → Reports done ts → Names ts → InOrder rank table is_theorem ts (t ∷ us) → is_reported table is_theorem answer done t ≡ true → Derived t
  this_theorem done ts us t k m r h =
      let may : ℕ → Bool = may_with table is_theorem answer done in
      let w = r.1 in
      let p = status_proved may (cites t.proof) (worst (verdicts table is_theorem answer t)) h in
      assembled rank table may (expands rank table ordered) (falls rank table ordered) w.0 t
      (record { known = w.1.known; statement = w.1.statement; proof = (w.1.proof.0, w.1.proof.1, proof_may rank table may t.proof w.1.proof.0 w.1.proof.2 p.1) })
      (leaves_proved (theorem_leaves table t) (all_proved (verdicts table is_theorem answer t) (none_else (verdicts table is_theorem answer t) p.0)))
      (sources_of done ts t t.known k m r.0 w.0 w.1)

  other : (ts : List Theorem) (x : ℕ) (u : Theorem) → IsOther x ts → Among ts u → nat_eq x u.key ≡ false
  other [] x u o a = absurd a
  other (t ∷ ts) x u o (inl e) = ap (λ (z : Theorem). nat_eq x z.key) (sym e) ∙ o.0
  other (t ∷ ts) x u o (inr a) = other ts x u o.1 a

  known_more : (done : List ℕ) (ts : List Theorem) (t : Theorem) → Reports done ts → IsOther t.key ts → (b : Bool) → (b ≡ true → Derived t) → (has_number done t.key ≡ true → Derived t) → Reports (cond b (t.key ∷ done) done) (t ∷ ts)
  known_more done ts t k o true d f u (inl e) h = subst (λ (z : Theorem). Derived z) e (d refl)
  known_more done ts t k o true d f u (inr a) h =
      let q : nat_eq t.key u.key ≡ false = other ts t.key u o a in
      let h1 : has_number done u.key ≡ true = cc in
      k u a h1
  known_more done ts t k o false d f u (inl e) h = subst (λ (z : Theorem). Derived z) e (f (ap (λ (z : Theorem). has_number done z.key) e ∙ h))
  known_more done ts t k o false d f u (inr a) h = k u a h

  -- only names of earlier theorems are among them
  abbrev Fresh : List ℕ → List Theorem → Type 0
  Fresh done ts = (x : ℕ) → IsOther x ts → has_number done x ≡ false

  fresh_more : (done : List ℕ) (ts : List Theorem) (t : Theorem) (b : Bool) → Fresh done ts → Fresh (cond b (t.key ∷ done) done) (t ∷ ts)
  fresh_more done ts t true f x o = turned t.key x (has_number done x) o.0 (f x o.1)
    where
      turned : (a x : ℕ) (b : Bool) → nat_eq x a ≡ false → b ≡ false → nat_eq a x || b ≡ false
      turned a x b h e = grind (arith, nat_tests)
  fresh_more done ts t false f x o = f x o.1

  clash : (b : Bool) (A : Type 0) → b ≡ false → b ≡ true → A
  clash b A h k = absurd (no b h k)
    where
      no : (b : Bool) → b ≡ false → b ≡ true → ⊥
      no b h k = cc

  names_more : (ts : List Theorem) (t : Theorem) → is_theorem t.key ≡ true → Names ts → Names (t ∷ ts)
  names_more ts t h m u (inl e) = ap (λ (z : Theorem). is_theorem z.key) (sym e) ∙ h
  names_more ts t h m u (inr a) = m u a

  -- all of them, in order
  reported : (done : List ℕ) (ts us : List Theorem) → Reports done ts → Names ts → Fresh done ts → InOrder rank table is_theorem ts us → (t : Theorem) → IsReported table is_theorem answer done us t → Derived t
  reported done ts [] k m f r t h = absurd h
  reported done ts (u ∷ us) k m f r t (inl h) = subst (λ (z : Theorem). Derived z) h.0 (this_theorem done ts us u k m r h.1)
  reported done ts (u ∷ us) k m f r t (inr h) =
      reported (done_with table is_theorem answer done u) (u ∷ ts) us
      (known_more done ts u k r.3 (is_reported table is_theorem answer done u) (this_theorem done ts us u k m r) (λ e. clash (has_number done u.key) (Derived u) (f u.key r.3) e))
      (names_more ts u r.2 m)
      (fresh_more done ts u (is_reported table is_theorem answer done u) f)
      r.4 t h

  -- of a whole list of modules
  pub all_reported : (ts : List Theorem) → InOrder rank table is_theorem [] ts → (t : Theorem) → IsReported table is_theorem answer [] ts t → IsDerivable table t
  all_reported ts r t h =
      subst (λ (xs : List Tree). Der xs (full table (fact t) ∷ [])) (sym (map-whole table (assumptions t.known)))
      (subst (λ (e : Tree). Der (assumed table t) (e ∷ [])) (sym (unfolded-whole table (fact t))) (reported [] [] ts (λ u a. absurd a) (λ u a. absurd a) (λ x o. refl) r t h))
