-- Each theorem of the modules that is reported proved has its derivation: the earlier theorems that it knows are among those before
-- it, and what they assume is assumed.
use Rattle.std.specs.Prelude.{◌≡◌, ℕ, suc, ◌+◌, Bool, true, false, ◌||◌, ◌&&◌, ◌⊎◌, nat_eq, if◌then◌else◌, List, [], ◌∷◌, ◌++◌, length, map, Option, Some, None, ◌<◌, ◌≤◌}
use Rattle.std.proofs.Common.{refl, ap, sym, ◌∙◌, arith, subst, inl, inr, append-nil, append_assoc}
use Rattle.std.proofs.lemmas.List.{length-append}
use Rattle.std_names.specs.Libraries.{is_library}
use Rattle.core_expr.specs.Equal.{nat-refl, nat-same}
use Rattle.core_expr.specs.Tree.{Tree}
use Rattle.tla_ast.specs.declared.place.Place.{Place}
use Rattle.seq_calculus.specs.Calculus.{Has, HasAll}
use Rattle.obligation.specs.declared.obligation.Definition.{Definition}
use Rattle.plain_syntax.specs.Plain.{Text, Unit as unit_, UnitKind as u, Module}
use Rattle.symbol_table.specs.declared.entry.Entry.{Entry}
use Rattle.symbol_table.specs.Scoped.{Table, symbol}
use Rattle.module_scope.specs.Resolution.{library_entries}
use Rattle.prime_expand.specs.Symbols.{is_word}
use Rattle.core_expr.specs.declared.canon.Canon.{Canon}
use Rattle.proof_contexts.specs.Statuses.{Verdict, statuses, done_with, IsReported}
use Rattle.proof_contexts.specs.Theorems.{IsDerivable, Known, Theorem, assumptions, fact}
use Rattle.proof_contexts.specs.Theorems.Known.{Assumption, Earlier}
use Rattle.proof_contexts.specs.Right.{Among, Stand, IsOther, InOrder}
use Rattle.proof_contexts.proofs.Rules.{HasAll-itself, HasAll-cons, HasAll-all, HasAll-map}
use Rattle.proof_contexts.specs.Expansion.{has_number, full}
use Rattle.proof_contexts.proofs.Reported.{all_reported}
use Rattle.usable_facts.specs.Keys.{theorem_key, entry_key, unnamed_key}
use Rattle.usable_facts.specs.Theorems.{unit_adds, unit_theorem, units_adds, units_theorems, number_of, earlier, statement_fact, theorem_of, Done, reached_by, is_done, reaches, is_reached, brought, modules_theorems, joined, all_theorems, keys_of, is_theorem_of}
use Rattle.usable_facts.specs.Definitions.{definitions_of}
use Rattle.name_places.specs.Places.{NotNamed, NamesDiffer}
use Rattle.proof_assembly.specs.Laws.{ReportedDerives, EachDerives, StatusesAreJustified}
use Rattle.proof_assembly.specs.Ranks.{rank}
use Rattle.proof_assembly.proofs.Units.{AllRight, KeyedUnit, KeyedUnits}
use Rattle.proof_assembly.proofs.Modules.{KeyedModules, all_right}

words_same : (xs ys : Text) → is_word xs ys ≡ true → xs ≡ ys
words_same [] [] h = refl
words_same [] (y ∷ ys) h = cc
words_same (x ∷ xs) [] h = cc
words_same (x ∷ xs) (y ∷ ys) h = go (nat_eq x y) refl h (words_same xs ys)
  where
    go : (c : Bool) → nat_eq x y ≡ c → c && is_word xs ys ≡ true → (is_word xs ys ≡ true → xs ≡ ys) → x ∷ xs ≡ y ∷ ys
    go true e k f = λ i. nat-same x y e i ∷ f k i
    go false e k f = cc

-- ---- formulas that are there
has_left : (xs ys zs : List Tree) → HasAll xs zs → HasAll (xs ++ ys) zs
has_left xs ys [] h = tt
has_left xs ys (z ∷ zs) h = (one xs h.0, has_left xs ys zs h.1)
  where
    one : (xs : List Tree) → Has xs z → Has (xs ++ ys) z
    one [] h = absurd h
    one (x ∷ xs) (inl e) = inl e
    one (x ∷ xs) (inr k) = inr (one xs k)

has_right : (xs ys zs : List Tree) → HasAll ys zs → HasAll (xs ++ ys) zs
has_right [] ys zs h = h
has_right (x ∷ xs) ys zs h = HasAll-cons x (xs ++ ys) zs (has_right xs ys zs h)

has_both : (g xs ys : List Tree) → HasAll g xs → HasAll g ys → HasAll g (xs ++ ys)
has_both g [] ys h k = k
has_both g (x ∷ xs) ys h k = (h.0, has_both g xs ys h.1 k)

assumed_append : (xs ys : List Known) → assumptions (xs ++ ys) ≡ assumptions xs ++ assumptions ys
assumed_append [] ys = refl
assumed_append (Assumption l f ∷ xs) ys = ap (λ r. f ∷ r) (assumed_append xs ys)
assumed_append (Earlier k f ∷ xs) ys = assumed_append xs ys

-- xs assume all that ys do
abbrev pub Assume : List Known → List Known → Type 0
Assume xs ys = HasAll (assumptions xs) (assumptions ys)

assume_left : (xs ys zs : List Known) → Assume xs zs → Assume (xs ++ ys) zs
assume_left xs ys zs h = subst (λ (l : List Tree). HasAll l (assumptions zs)) (sym (assumed_append xs ys)) (has_left (assumptions xs) (assumptions ys) (assumptions zs) h)

assume_right : (xs ys zs : List Known) → Assume ys zs → Assume (xs ++ ys) zs
assume_right xs ys zs h = subst (λ (l : List Tree). HasAll l (assumptions zs)) (sym (assumed_append xs ys)) (has_right (assumptions xs) (assumptions ys) (assumptions zs) h)

assume_both : (xs ys zs : List Known) → Assume xs ys → Assume xs zs → Assume xs (ys ++ zs)
assume_both xs ys zs h k = subst (HasAll (assumptions xs)) (sym (assumed_append ys zs)) (has_both (assumptions xs) (assumptions ys) (assumptions zs) h k)

assume_self : (xs : List Known) → Assume xs xs
assume_self xs = HasAll-itself (assumptions xs)

assume_over : (xs ys zs : List Known) → Assume xs ys → Assume ys zs → Assume xs zs
assume_over xs ys zs h k = HasAll-all (assumptions xs) (assumptions ys) (assumptions zs) h k

-- ---- sources: cs is what is known where bs are
abbrev pub SourceIn : List Theorem → List Known → List Known → Type 0
SourceIn ts cs [] = Unit {0}
SourceIn ts cs (Assumption l f ∷ bs) = SourceIn ts cs bs
SourceIn ts cs (Earlier k f ∷ bs) = ((t : Theorem) × Among ts t × (t.key ≡ k) × (fact t ≡ f) × Assume cs t.known) × SourceIn ts cs bs

source_more : (ts : List Theorem) (cs ds bs : List Known) → Assume ds cs → SourceIn ts cs bs → SourceIn ts ds bs
source_more ts cs ds [] h s = tt
source_more ts cs ds (Assumption l f ∷ bs) h s = source_more ts cs ds bs h s
source_more ts cs ds (Earlier k f ∷ bs) h ((t, a, e, w, c), s) = ((t, a, e, w, assume_over ds cs t.known h c), source_more ts cs ds bs h s)

source_after : (ts : List Theorem) (t : Theorem) (cs bs : List Known) → SourceIn ts cs bs → SourceIn (t ∷ ts) cs bs
source_after ts t cs [] s = tt
source_after ts t cs (Assumption l f ∷ bs) s = source_after ts t cs bs s
source_after ts t cs (Earlier k f ∷ bs) ((x, a, e, w, c), s) = ((x, inr a, e, w, c), source_after ts t cs bs s)

source_append : (ts : List Theorem) (cs xs ys : List Known) → SourceIn ts cs xs → SourceIn ts cs ys → SourceIn ts cs (xs ++ ys)
source_append ts cs [] ys h k = k
source_append ts cs (Assumption l f ∷ xs) ys h k = source_append ts cs xs ys h k
source_append ts cs (Earlier n f ∷ xs) ys h k = (h.0, source_append ts cs xs ys h.1 k)

source_right : (ts : List Theorem) (cs xs ys : List Known) → SourceIn ts cs (xs ++ ys) → SourceIn ts cs ys
source_right ts cs [] ys h = h
source_right ts cs (Assumption l f ∷ xs) ys h = source_right ts cs xs ys h
source_right ts cs (Earlier n f ∷ xs) ys h = source_right ts cs xs ys h.1

abbrev pub after_all : List Theorem → List Theorem → List Theorem
after_all ts [] = ts
after_all ts (t ∷ us) = after_all (t ∷ ts) us

source_later : (ts us : List Theorem) (cs bs : List Known) → SourceIn ts cs bs → SourceIn (after_all ts us) cs bs
source_later ts [] cs bs s = s
source_later ts (t ∷ us) cs bs s = source_later (t ∷ ts) us cs bs (source_after ts t cs bs s)

pub after_append : (ts us vs : List Theorem) → after_all ts (us ++ vs) ≡ after_all (after_all ts us) vs
after_append ts [] vs = refl
after_append ts (t ∷ us) vs = after_append (t ∷ ts) us vs

-- each theorem, after others
abbrev pub Sourced : List Theorem → List Theorem → Type 0
Sourced ts [] = Unit {0}
Sourced ts (t ∷ us) = SourceIn ts t.known t.known × Sourced (t ∷ ts) us

pub sourced_append : (ts us vs : List Theorem) → Sourced ts us → Sourced (after_all ts us) vs → Sourced ts (us ++ vs)
sourced_append ts [] vs h k = k
sourced_append ts (t ∷ us) vs h k = (h.0, sourced_append (t ∷ ts) us vs h.1 k)

module _ (E : List Entry) (meant : Place → Option ℕ) where
  -- one unit
  unit_sourced : (x : u) (p : Place) (i : ℕ) (known : List Known) (ts : List Theorem) → SourceIn ts known known → Sourced ts (unit_theorem E meant i known p x) × SourceIn (after_all ts (unit_theorem E meant i known p x)) (known ++ unit_adds E meant x) (known ++ unit_adds E meant x)
  unit_sourced (u.constants ds) p i known ts s = (tt, source_append ts (known ++ []) known [] (source_more ts known (known ++ []) known (assume_left known [] known (assume_self known)) s) tt)
  unit_sourced (u.variables ds) p i known ts s = (tt, source_append ts (known ++ []) known [] (source_more ts known (known ++ []) known (assume_left known [] known (assume_self known)) s) tt)
  unit_sourced (u.definition ds) p i known ts s = (tt, source_append ts (known ++ []) known [] (source_more ts known (known ++ []) known (assume_left known [] known (assume_self known)) s) tt)
  unit_sourced (u.assume w t) p i known ts s =
      let bs : List Known = unit_adds E meant (u.assume w t) in
      (tt, source_append ts (known ++ bs) known bs (source_more ts known (known ++ bs) known (assume_left known bs known (assume_self known)) s) tt)
  unit_sourced (u.theorem w st own) p i known ts s = ((s, tt), named (number_of meant w) refl)
    where
      t : Theorem
      t = theorem_of E meant i known p w st own

      named : (o : Option ℕ) → number_of meant w ≡ o → SourceIn (theorem_of E meant i known p w st own ∷ ts) (known ++ earlier o (statement_fact E meant st)) (known ++ earlier o (statement_fact E meant st))
      named None e = source_append (theorem_of E meant i known p w st own ∷ ts) (known ++ []) known [] (source_more (theorem_of E meant i known p w st own ∷ ts) known (known ++ []) known (assume_left known [] known (assume_self known)) (source_after ts (theorem_of E meant i known p w st own) known known s)) tt
      named (Some n) e =
          let bs : List Known = earlier (Some n) (statement_fact E meant st) in
          let x : Theorem = theorem_of E meant i known p w st own in
          source_append (x ∷ ts) (known ++ bs) known bs (source_more (x ∷ ts) known (known ++ bs) known (assume_left known bs known (assume_self known)) (source_after ts x known known s))
          ((x, inl refl, ap (λ (o : Option ℕ). theorem_key i o) e, refl, assume_left known bs known (assume_self known)), tt)

  pub units_sourced : (xs : List unit_) (i : ℕ) (known : List Known) (ts : List Theorem) → SourceIn ts known known → Sourced ts (units_theorems E meant i known xs) × SourceIn (after_all ts (units_theorems E meant i known xs)) (known ++ units_adds E meant xs) (known ++ units_adds E meant xs)
  units_sourced [] i known ts s = (tt, subst (λ (l : List Known). SourceIn ts l l) (sym (append-nil known)) s)
  units_sourced (x ∷ xs) i known ts s =
      let us : List Theorem = unit_theorem E meant i known x.place x.kind in
      let bs : List Known = unit_adds E meant x.kind in
      let vs : List Theorem = units_theorems E meant (i + length us) (known ++ bs) xs in
      let r = unit_sourced x.kind x.place i known ts s in
      let q = units_sourced xs (i + length us) (known ++ bs) (after_all ts us) r.1 in (
        sourced_append ts us vs r.0 q.0,
        subst (λ (l : List Theorem). SourceIn l (known ++ (bs ++ units_adds E meant xs)) (known ++ (bs ++ units_adds E meant xs))) (sym (after_append ts us vs))
            (subst (λ (l : List Known). SourceIn (after_all (after_all ts us) vs) l l) (append_assoc known bs (units_adds E meant xs)) q.1),
      )

-- ---- modules
abbrev pub HasDone : List Done → Done → Type 0
HasDone [] d = ⊥
HasDone (x ∷ ds) d = (x ≡ d) ⊎ HasDone ds d

abbrev pub Subset : List Text → List Text → Type 0
Subset vs ws = (w : Text) → is_reached vs w ≡ true → is_reached ws w ≡ true

or_left : (a b : Bool) → a ≡ true → a || b ≡ true
or_left a b h = cc

or_right : (a b : Bool) → b ≡ true → a || b ≡ true
or_right true b h = refl
or_right false b h = h

or_case : (a b : Bool) → a || b ≡ true → (a ≡ true) ⊎ (b ≡ true)
or_case true b h = inl refl
or_case false b h = inr h

reached_left : (xs ys : List Text) (w : Text) → is_reached xs w ≡ true → is_reached (xs ++ ys) w ≡ true
reached_left [] ys w h = cc
reached_left (x ∷ xs) ys w h = go (or_case (is_word x w) (is_reached xs w) h) (reached_left xs ys w)
  where
    go : ((is_word x w ≡ true) ⊎ (is_reached xs w ≡ true)) → (is_reached xs w ≡ true → is_reached (xs ++ ys) w ≡ true) → is_word x w || is_reached (xs ++ ys) w ≡ true
    go (inl e) f = or_left (is_word x w) (is_reached (xs ++ ys) w) e
    go (inr e) f = or_right (is_word x w) (is_reached (xs ++ ys) w) (f e)

reached_right : (xs ys : List Text) (w : Text) → is_reached ys w ≡ true → is_reached (xs ++ ys) w ≡ true
reached_right [] ys w h = h
reached_right (x ∷ xs) ys w h = or_right (is_word x w) (is_reached (xs ++ ys) w) (reached_right xs ys w h)

reached_case : (xs ys : List Text) (w : Text) → is_reached (xs ++ ys) w ≡ true → (is_reached xs w ≡ true) ⊎ (is_reached ys w ≡ true)
reached_case [] ys w h = inr h
reached_case (x ∷ xs) ys w h = go (or_case (is_word x w) (is_reached (xs ++ ys) w) h) (reached_case xs ys w)
  where
    second : ((is_reached xs w ≡ true) ⊎ (is_reached ys w ≡ true)) → (is_word x w || is_reached xs w ≡ true) ⊎ (is_reached ys w ≡ true)
    second (inl e) = inl (or_right (is_word x w) (is_reached xs w) e)
    second (inr e) = inr e

    go : ((is_word x w ≡ true) ⊎ (is_reached (xs ++ ys) w ≡ true)) → (is_reached (xs ++ ys) w ≡ true → (is_reached xs w ≡ true) ⊎ (is_reached ys w ≡ true)) → (is_word x w || is_reached xs w ≡ true) ⊎ (is_reached ys w ≡ true)
    go (inl e) f = inl (or_left (is_word x w) (is_reached xs w) e)
    go (inr e) f = second (f e)

-- what is known of the modules so far
pub record World (ts : List Theorem) (ds : List Done) : Type 0 where
  pub sources : (d : Done) → HasDone ds d → SourceIn ts (brought ds d.reaches ++ d.adds) d.adds
  pub closed : (d e : Done) → HasDone ds d → HasDone ds e → is_reached d.reaches e.name ≡ true → Subset e.reaches d.reaches
  pub within : (d : Done) → HasDone ds d → (w : Text) → is_reached d.reaches w ≡ true → is_done ds w ≡ true
  pub distinct : (d e : Done) → HasDone ds d → HasDone ds e → is_word d.name e.name ≡ true → d ≡ e

found_done : (ds : List Done) (w : Text) → is_done ds w ≡ true → (d : Done) × HasDone ds d × (is_word d.name w ≡ true) × (reached_by ds w ≡ d.reaches)
found_done [] w h = cc
found_done (x ∷ ds) w h = go (is_word x.name w) refl h (found_done ds w)
  where
    go : (b : Bool) → is_word x.name w ≡ b → b || is_done ds w ≡ true → (is_done ds w ≡ true → (d : Done) × HasDone ds d × (is_word d.name w ≡ true) × (reached_by ds w ≡ d.reaches)) → (d : Done) × HasDone (x ∷ ds) d × (is_word d.name w ≡ true) × ((if b then x.reaches else reached_by ds w) ≡ d.reaches)
    go true e h f = (x, inl refl, e, refl)
    go false e h f = let r = f h in (r.0, inr r.1, r.2, r.3)

module _ (ts : List Theorem) (ds : List Done) (k : World ts ds) where
  reaches_within : (es : List (Text × Place)) (w : Text) → is_reached (reaches ds es) w ≡ true → is_done ds w ≡ true
  reaches_within [] w h = cc
  reaches_within (e ∷ es) w h = go (is_library e.0) (is_done ds e.0) refl h (reaches_within es w)
    where
      third : (d : Done) × HasDone ds d × (is_word d.name e.0 ≡ true) × (reached_by ds e.0 ≡ d.reaches) → (is_reached (reaches ds es) w ≡ true → is_done ds w ≡ true) → ((is_reached (reached_by ds e.0) w ≡ true) ⊎ (is_reached (reaches ds es) w ≡ true)) → is_done ds w ≡ true
      third (d, m, n, r) f (inl h) = k.within d m w (ap (λ (l : List Text). is_reached l w) (sym r) ∙ h)
      third (d, m, n, r) f (inr h) = f h

      second : is_done ds e.0 ≡ true → (is_reached (reaches ds es) w ≡ true → is_done ds w ≡ true) → ((is_word e.0 w ≡ true) ⊎ (is_reached (reached_by ds e.0 ++ reaches ds es) w ≡ true)) → is_done ds w ≡ true
      second q f (inl h) = ap (is_done ds) (sym (words_same e.0 w h)) ∙ q
      second q f (inr h) = third (found_done ds e.0 q) f (reached_case (reached_by ds e.0) (reaches ds es) w h)

      go : (a b : Bool) → is_done ds e.0 ≡ b → is_reached (if a then reaches ds es else (if b then e.0 ∷ (reached_by ds e.0 ++ reaches ds es) else reaches ds es)) w ≡ true → (is_reached (reaches ds es) w ≡ true → is_done ds w ≡ true) → is_done ds w ≡ true
      go true b q h f = f h
      go false false q h f = f h
      go false true q h f = second q f (or_case (is_word e.0 w) (is_reached (reached_by ds e.0 ++ reaches ds es) w) h)

  reaches_closed : (es : List (Text × Place)) (d : Done) → HasDone ds d → is_reached (reaches ds es) d.name ≡ true → Subset d.reaches (reaches ds es)
  reaches_closed [] d m h = cc
  reaches_closed (e ∷ es) d m h = go (is_library e.0) (is_done ds e.0) refl h (reaches_closed es d m)
    where
      put : (w : Text) → is_reached (reached_by ds e.0 ++ reaches ds es) w ≡ true → is_word e.0 w || is_reached (reached_by ds e.0 ++ reaches ds es) w ≡ true
      put w h = or_right (is_word e.0 w) (is_reached (reached_by ds e.0 ++ reaches ds es) w) h

      from : (x : Done) → reached_by ds e.0 ≡ x.reaches → Subset d.reaches x.reaches → Subset d.reaches (e.0 ∷ (reached_by ds e.0 ++ reaches ds es))
      from x r s w h = put w (reached_left (reached_by ds e.0) (reaches ds es) w (ap (λ (l : List Text). is_reached l w) r ∙ s w h))

      third : (x : Done) → HasDone ds x → reached_by ds e.0 ≡ x.reaches → (is_reached (reaches ds es) d.name ≡ true → Subset d.reaches (reaches ds es)) → ((is_reached (reached_by ds e.0) d.name ≡ true) ⊎ (is_reached (reaches ds es) d.name ≡ true)) → Subset d.reaches (e.0 ∷ (reached_by ds e.0 ++ reaches ds es))
      third x n r f (inl h) = from x r (k.closed x d n m (ap (λ (l : List Text). is_reached l d.name) (sym r) ∙ h))
      third x n r f (inr h) = λ w q. put w (reached_right (reached_by ds e.0) (reaches ds es) w (f h w q))

      second : (x : Done) × HasDone ds x × (is_word x.name e.0 ≡ true) × (reached_by ds e.0 ≡ x.reaches) → (is_reached (reaches ds es) d.name ≡ true → Subset d.reaches (reaches ds es)) → ((is_word e.0 d.name ≡ true) ⊎ (is_reached (reached_by ds e.0 ++ reaches ds es) d.name ≡ true)) → Subset d.reaches (e.0 ∷ (reached_by ds e.0 ++ reaches ds es))
      second (x, n, o, r) f (inl h) =
          let same : x ≡ d = k.distinct x d n m (ap (is_word x.name) (sym (words_same e.0 d.name h)) ∙ o) in
          from x r (λ w q. ap (λ (y : Done). is_reached y.reaches w) same ∙ q)
      second (x, n, o, r) f (inr h) = third x n r f (reached_case (reached_by ds e.0) (reaches ds es) d.name h)

      go : (a b : Bool) → is_done ds e.0 ≡ b → is_reached (if a then reaches ds es else (if b then e.0 ∷ (reached_by ds e.0 ++ reaches ds es) else reaches ds es)) d.name ≡ true → (is_reached (reaches ds es) d.name ≡ true → Subset d.reaches (reaches ds es)) → Subset d.reaches (if a then reaches ds es else (if b then e.0 ∷ (reached_by ds e.0 ++ reaches ds es) else reaches ds es))
      go true b q h f = f h
      go false false q h f = f h
      go false true q h f = second (found_done ds e.0 q) f (or_case (is_word e.0 d.name) (is_reached (reached_by ds e.0 ++ reaches ds es) d.name) h)

brought_subset : (ds : List Done) (vs ws : List Text) → Subset vs ws → Assume (brought ds ws) (brought ds vs)
brought_subset [] vs ws s = tt
brought_subset (d ∷ ds) vs ws s = go (is_reached vs d.name) refl (is_reached ws d.name) refl (brought_subset ds vs ws s)
  where
    differ : (b : Bool) → b ≡ true → b ≡ false → ⊥
    differ b h k = cc

    go : (a : Bool) → is_reached vs d.name ≡ a → (b : Bool) → is_reached ws d.name ≡ b → Assume (brought ds ws) (brought ds vs) → Assume (if b then d.adds ++ brought ds ws else brought ds ws) (if a then d.adds ++ brought ds vs else brought ds vs)
    go true p true q i = assume_both (d.adds ++ brought ds ws) d.adds (brought ds vs) (assume_left d.adds (brought ds ws) d.adds (assume_self d.adds)) (assume_right d.adds (brought ds ws) (brought ds vs) i)
    go true p false q i = absurd (differ (is_reached ws d.name) (s d.name p) q)
    go false p true q i = assume_right d.adds (brought ds ws) (brought ds vs) i
    go false p false q i = i

brought_has : (ds : List Done) (ws : List Text) (d : Done) → HasDone ds d → is_reached ws d.name ≡ true → Assume (brought ds ws) d.adds
brought_has [] ws d m h = absurd m
brought_has (x ∷ ds) ws d m h = go (is_reached ws x.name) refl m (brought_has ds ws d)
  where
    differ : (b : Bool) → b ≡ true → b ≡ false → ⊥
    differ b h k = cc

    go : (b : Bool) → is_reached ws x.name ≡ b → ((x ≡ d) ⊎ HasDone ds d) → (HasDone ds d → is_reached ws d.name ≡ true → Assume (brought ds ws) d.adds) → Assume (if b then x.adds ++ brought ds ws else brought ds ws) d.adds
    go true e (inl q) f = subst (λ (y : Done). Assume (x.adds ++ brought ds ws) y.adds) q (assume_left x.adds (brought ds ws) x.adds (assume_self x.adds))
    go true e (inr n) f = assume_right x.adds (brought ds ws) d.adds (f n h)
    go false e (inl q) f = absurd (differ (is_reached ws x.name) (ap (λ (y : Done). is_reached ws y.name) q ∙ h) e)
    go false e (inr n) f = f n h

brought_sourced : (ts : List Theorem) (cs : List Known) (ds : List Done) (ws : List Text) → ((d : Done) → HasDone ds d → is_reached ws d.name ≡ true → SourceIn ts cs d.adds) → SourceIn ts cs (brought ds ws)
brought_sourced ts cs [] ws h = tt
brought_sourced ts cs (d ∷ ds) ws h = go (is_reached ws d.name) refl (brought_sourced ts cs ds ws (λ x m q. h x (inr m) q))
  where
    go : (b : Bool) → is_reached ws d.name ≡ b → SourceIn ts cs (brought ds ws) → SourceIn ts cs (if b then d.adds ++ brought ds ws else brought ds ws)
    go true e i = source_append ts cs d.adds (brought ds ws) (h d (inl refl) e) i
    go false e i = i

-- what is known to a module has its sources
pub known_sourced : (ts : List Theorem) (ds : List Done) (es : List (Text × Place)) → World ts ds → SourceIn ts (brought ds (reaches ds es)) (brought ds (reaches ds es))
known_sourced ts ds es k =
    let ws : List Text = reaches ds es in
    brought_sourced ts (brought ds ws) ds ws (λ d m h.
    source_more ts (brought ds d.reaches ++ d.adds) (brought ds ws) d.adds
    (assume_both (brought ds ws) (brought ds d.reaches) d.adds (brought_subset ds d.reaches ws (reaches_closed ts ds k es d m h)) (brought_has ds ws d m h))
    (k.sources d m))

done_case : (ds : List Done) (x d : Done) → HasDone (ds ++ x ∷ []) d → HasDone ds d ⊎ (x ≡ d)
done_case [] x d (inl e) = inr e
done_case [] x d (inr h) = absurd h
done_case (y ∷ ds) x d (inl e) = inl (inl e)
done_case (y ∷ ds) x d (inr h) = go (done_case ds x d h)
  where
    go : (HasDone ds d ⊎ (x ≡ d)) → HasDone (y ∷ ds) d ⊎ (x ≡ d)
    go (inl m) = inl (inr m)
    go (inr e) = inr e

done_grow : (ds : List Done) (x : Done) (w : Text) → is_done ds w ≡ true → is_done (ds ++ x ∷ []) w ≡ true
done_grow [] x w h = cc
done_grow (d ∷ ds) x w h = go (or_case (is_word d.name w) (is_done ds w) h) (done_grow ds x w)
  where
    go : ((is_word d.name w ≡ true) ⊎ (is_done ds w ≡ true)) → (is_done ds w ≡ true → is_done (ds ++ x ∷ []) w ≡ true) → is_word d.name w || is_done (ds ++ x ∷ []) w ≡ true
    go (inl e) f = or_left (is_word d.name w) (is_done (ds ++ x ∷ []) w) e
    go (inr e) f = or_right (is_word d.name w) (is_done (ds ++ x ∷ []) w) (f e)

done_last : (ds : List Done) (x : Done) (w : Text) → is_done ds w ≡ false → is_word x.name w ≡ false → is_done (ds ++ x ∷ []) w ≡ false
done_last [] x w h k = rw k refl
done_last (d ∷ ds) x w h k = go (is_word d.name w) (is_done ds w) h (done_last ds x w)
  where
    go : (a b : Bool) → a || b ≡ false → (is_done ds w ≡ false → is_word x.name w ≡ false → is_done (ds ++ x ∷ []) w ≡ false) → is_word d.name w || is_done (ds ++ x ∷ []) w ≡ false
    go a b e f = both (is_word d.name w) (is_done ds w) (is_done (ds ++ x ∷ []) w) h (λ q. f q k)
      where
        both : (a b c : Bool) → a || b ≡ false → (b ≡ false → c ≡ false) → a || c ≡ false
        both true b c h f = h
        both false b c h f = f h

done_of : (ds : List Done) (d : Done) (w : Text) → HasDone ds d → is_word d.name w ≡ true → is_done ds w ≡ true
done_of [] d w m h = absurd m
done_of (x ∷ ds) d w (inl e) h = or_left (is_word x.name w) (is_done ds w) (ap (λ (y : Done). is_word y.name w) e ∙ h)
done_of (x ∷ ds) d w (inr m) h = or_right (is_word x.name w) (is_done ds w) (done_of ds d w m h)

brought_grow : (ds : List Done) (x : Done) (ws : List Text) → Assume (brought (ds ++ x ∷ []) ws) (brought ds ws)
brought_grow [] x ws = tt
brought_grow (d ∷ ds) x ws = go (is_reached ws d.name) (brought_grow ds x ws)
  where
    go : (b : Bool) → Assume (brought (ds ++ x ∷ []) ws) (brought ds ws) → Assume (if b then d.adds ++ brought (ds ++ x ∷ []) ws else brought (ds ++ x ∷ []) ws) (if b then d.adds ++ brought ds ws else brought ds ws)
    go true i = assume_both (d.adds ++ brought (ds ++ x ∷ []) ws) d.adds (brought ds ws) (assume_left d.adds (brought (ds ++ x ∷ []) ws) d.adds (assume_self d.adds)) (assume_right d.adds (brought (ds ++ x ∷ []) ws) (brought ds ws) i)
    go false i = i

add_grow : (ds : List Done) (x : Done) (ws : List Text) (as_ : List Known) → Assume (brought (ds ++ x ∷ []) ws ++ as_) (brought ds ws ++ as_)
add_grow ds x ws as_ = assume_both (brought (ds ++ x ∷ []) ws ++ as_) (brought ds ws) as_ (assume_left (brought (ds ++ x ∷ []) ws) as_ (brought ds ws) (brought_grow ds x ws)) (assume_right (brought (ds ++ x ∷ []) ws) as_ as_ (assume_self as_))

clash : (b : Bool) (A : Type 0) → b ≡ true → b ≡ false → A
clash b A h k = absurd (no b h k)
  where
    no : (b : Bool) → b ≡ true → b ≡ false → ⊥
    no b h k = cc

word_back : (v w : Text) → is_word v w ≡ true → is_word w v ≡ true
word_back v w h = let e : v ≡ w = words_same v w h in ap (λ (x : Text). is_word x v) (sym e) ∙ ap (is_word v) e ∙ h

-- one more module
world_next : (ts us : List Theorem) (ds : List Done) (m : Module) (adds_ : List Known) → World ts ds → is_done ds m.name ≡ false → SourceIn (after_all ts us) (brought ds (reaches ds m.extends) ++ adds_) (brought ds (reaches ds m.extends) ++ adds_) → World (after_all ts us) (ds ++ record { name = m.name; reaches = reaches ds m.extends; adds = adds_ } ∷ [])
world_next ts us ds m adds_ k fresh_ s = record {
  sources = λ d h. go_sources d (done_case ds x d h);
  closed = λ d e h g. go_closed d e (done_case ds x d h) (done_case ds x e g);
  within = λ d h w q. done_grow ds x w (go_within d (done_case ds x d h) w q);
  distinct = λ d e h g. go_distinct d e (done_case ds x d h) (done_case ds x e g);
}
  where
    x : Done
    x = record { name = m.name; reaches = reaches ds m.extends; adds = adds_ }

    y : Done
    y = record { name = m.name; reaches = reaches ds m.extends; adds = adds_ }

    go_sources : (d : Done) → (HasDone ds d ⊎ (record { name = m.name; reaches = reaches ds m.extends; adds = adds_ } ≡ d)) → SourceIn (after_all ts us) (brought (ds ++ record { name = m.name; reaches = reaches ds m.extends; adds = adds_ } ∷ []) d.reaches ++ d.adds) d.adds
    go_sources d (inl h) = source_more (after_all ts us) (brought ds d.reaches ++ d.adds) (brought (ds ++ y ∷ []) d.reaches ++ d.adds) d.adds (add_grow ds y d.reaches d.adds) (source_later ts us (brought ds d.reaches ++ d.adds) d.adds (k.sources d h))
    go_sources d (inr e) = subst (λ (z : Done). SourceIn (after_all ts us) (brought (ds ++ y ∷ []) z.reaches ++ z.adds) z.adds) e
        (source_more (after_all ts us) (brought ds (reaches ds m.extends) ++ adds_) (brought (ds ++ y ∷ []) (reaches ds m.extends) ++ adds_) adds_ (add_grow ds y (reaches ds m.extends) adds_) (source_right (after_all ts us) (brought ds (reaches ds m.extends) ++ adds_) (brought ds (reaches ds m.extends)) adds_ s))

    go_within : (d : Done) → (HasDone ds d ⊎ (record { name = m.name; reaches = reaches ds m.extends; adds = adds_ } ≡ d)) → (w : Text) → is_reached d.reaches w ≡ true → is_done ds w ≡ true
    go_within d (inl h) w q = k.within d h w q
    go_within d (inr e) w q = reaches_within ts ds k m.extends w (ap (λ (z : Done). is_reached z.reaches w) e ∙ q)

    go_closed : (d e : Done) → (HasDone ds d ⊎ (record { name = m.name; reaches = reaches ds m.extends; adds = adds_ } ≡ d)) → (HasDone ds e ⊎ (record { name = m.name; reaches = reaches ds m.extends; adds = adds_ } ≡ e)) → is_reached d.reaches e.name ≡ true → Subset e.reaches d.reaches
    go_closed d e (inl h) (inl g) q = k.closed d e h g q
    go_closed d e (inl h) (inr g) q = λ w r. clash (is_done ds m.name) (is_reached d.reaches w ≡ true) (k.within d h m.name (ap (λ (z : Done). is_reached d.reaches z.name) g ∙ q)) fresh_
    go_closed d e (inr h) (inl g) q = λ w r. sym (ap (λ (z : Done). is_reached z.reaches w) h) ∙ reaches_closed ts ds k m.extends e g (ap (λ (z : Done). is_reached z.reaches e.name) h ∙ q) w r
    go_closed d e (inr h) (inr g) q = λ w r. sym (ap (λ (z : Done). is_reached z.reaches w) h) ∙ ap (λ (z : Done). is_reached z.reaches w) g ∙ r

    go_distinct : (d e : Done) → (HasDone ds d ⊎ (record { name = m.name; reaches = reaches ds m.extends; adds = adds_ } ≡ d)) → (HasDone ds e ⊎ (record { name = m.name; reaches = reaches ds m.extends; adds = adds_ } ≡ e)) → is_word d.name e.name ≡ true → d ≡ e
    go_distinct d e (inl h) (inl g) q = k.distinct d e h g q
    go_distinct d e (inl h) (inr g) q = absurd (clash (is_done ds m.name) ⊥ (done_of ds d m.name h (ap (λ (z : Done). is_word d.name z.name) g ∙ q)) fresh_)
    go_distinct d e (inr h) (inl g) q = absurd (clash (is_done ds m.name) ⊥ (done_of ds e m.name g (word_back m.name e.name (ap (λ (z : Done). is_word z.name e.name) h ∙ q))) fresh_)
    go_distinct d e (inr h) (inr g) q = sym h ∙ g

abbrev pub FreshAll : List Done → List Module → Type 0
FreshAll ds [] = Unit {0}
FreshAll ds (m ∷ ms) = (is_done ds m.name ≡ false) × FreshAll ds ms

fresh_next : (ds : List Done) (x : Done) (ms : List Module) → FreshAll ds ms → NotNamed x.name ms → FreshAll (ds ++ x ∷ []) ms
fresh_next ds x [] h k = tt
fresh_next ds x (m ∷ ms) h k = (done_last ds x m.name h.0 k.0, fresh_next ds x ms h.1 k.1)

module _ (t : Table) where
  pub modules_sourced : (m i : ℕ) (ds : List Done) (ms : List Module) (ts : List Theorem) → World ts ds → FreshAll ds ms → NamesDiffer ms → Sourced ts (joined (modules_theorems t m i ds ms))
  modules_sourced m i ds [] ts k f n = tt
  modules_sourced m i ds (x ∷ xs) ts k f n =
      let ws : List Text = reaches ds x.extends in
      let known : List Known = brought ds ws in
      let us : List Theorem = units_theorems t.entries (symbol t m) i known x.units in
      let adds_ : List Known = units_adds t.entries (symbol t m) x.units in
      let d : Done = record { name = x.name; reaches = ws; adds = adds_ } in
      let r = units_sourced t.entries (symbol t m) x.units i known ts (known_sourced ts ds x.extends k) in
      sourced_append ts us (joined (modules_theorems t (suc m) (i + length us) (ds ++ d ∷ []) xs)) r.0
      (modules_sourced (suc m) (i + length us) (ds ++ d ∷ []) xs (after_all ts us) (world_next ts us ds x adds_ k f.0 r.1) (fresh_next ds d xs f.1 n.0) n.1)

pub empty_world : World [] []
empty_world = record { sources = λ d h. absurd h; closed = λ d e h g. absurd h; within = λ d h w q. absurd h; distinct = λ d e h g. absurd h }

unequal : (a b : ℕ) → (a ≡ b → ⊥) → nat_eq a b ≡ false
unequal a b h = go (nat_eq a b) refl
  where
    go : (c : Bool) → nat_eq a b ≡ c → c ≡ false
    go true e = absurd (h (nat-same a b e))
    go false e = refl

-- names of theorems so far: entries below l, and unnamed ones below i
abbrev pub KeysBelow : ℕ → ℕ → List Theorem → Type 0
KeysBelow l i [] = Unit {0}
KeysBelow l i (t ∷ ts) = (((n : ℕ) × (t.key ≡ entry_key n) × (n < l)) ⊎ ((j : ℕ) × (t.key ≡ unnamed_key j) × (j < i))) × KeysBelow l i ts

keys_more : (l m i j : ℕ) (ts : List Theorem) → l ≤ m → i ≤ j → KeysBelow l i ts → KeysBelow m j ts
keys_more l m i j [] p q h = tt
keys_more l m i j (t ∷ ts) p q (inl (n, e, r), h) = (inl (n, e, over n l m r p), keys_more l m i j ts p q h)
  where
    over : (n a b : ℕ) → n < a → a ≤ b → n < b
    over n a b h k = omega arith
keys_more l m i j (t ∷ ts) p q (inr (n, e, r), h) = (inr (n, e, over n i j r q), keys_more l m i j ts p q h)
  where
    over : (n a b : ℕ) → n < a → a ≤ b → n < b
    over n a b h k = omega arith

entry_other : (l i n : ℕ) (ts : List Theorem) → l ≤ n → KeysBelow l i ts → IsOther (entry_key n) ts
entry_other l i n [] q h = tt
entry_other l i n (t ∷ ts) q (inl (k, e, r), h) = (ap (nat_eq (entry_key n)) e ∙ unequal (entry_key n) (entry_key k) (apart n k l q r), entry_other l i n ts q h)
  where
    apart : (n k l : ℕ) → l ≤ n → k < l → entry_key n ≡ entry_key k → ⊥
    apart n k l q r e = omega arith
entry_other l i n (t ∷ ts) q (inr (k, e, r), h) = (ap (nat_eq (entry_key n)) e ∙ unequal (entry_key n) (unnamed_key k) (apart n k), entry_other l i n ts q h)
  where
    apart : (n k : ℕ) → entry_key n ≡ unnamed_key k → ⊥
    apart n k e = omega arith

unnamed_other : (l i : ℕ) (ts : List Theorem) → KeysBelow l i ts → IsOther (unnamed_key i) ts
unnamed_other l i [] h = tt
unnamed_other l i (t ∷ ts) (inl (k, e, r), h) = (ap (nat_eq (unnamed_key i)) e ∙ unequal (unnamed_key i) (entry_key k) (apart i k), unnamed_other l i ts h)
  where
    apart : (i k : ℕ) → unnamed_key i ≡ entry_key k → ⊥
    apart i k e = omega arith
unnamed_other l i (t ∷ ts) (inr (k, e, r), h) = (ap (nat_eq (unnamed_key i)) e ∙ unequal (unnamed_key i) (unnamed_key k) (apart i k r), unnamed_other l i ts h)
  where
    apart : (i k : ℕ) → k < i → unnamed_key i ≡ unnamed_key k → ⊥
    apart i k r e = omega arith

abbrev pub Others : List Theorem → List Theorem → Type 0
Others ts [] = Unit {0}
Others ts (t ∷ us) = IsOther t.key ts × Others (t ∷ ts) us

others_append : (ts us vs : List Theorem) → Others ts us → Others (after_all ts us) vs → Others ts (us ++ vs)
others_append ts [] vs h k = k
others_append ts (t ∷ us) vs h k = (h.0, others_append (t ∷ ts) us vs h.1 k)

module _ (E : List Entry) where
  unit_keys : (meant : Place → Option ℕ) (x : u) (p : Place) (i l k : ℕ) (known : List Known) (ts : List Theorem) → l ≤ k → KeyedUnit meant l k x → KeysBelow l i ts → Others ts (unit_theorem E meant i known p x) × KeysBelow k (i + length (unit_theorem E meant i known p x)) (after_all ts (unit_theorem E meant i known p x))
  unit_keys meant (u.constants ds) p i l k known ts q h b = (tt, keys_more l k i (i + 0) ts q (omega arith) b)
  unit_keys meant (u.variables ds) p i l k known ts q h b = (tt, keys_more l k i (i + 0) ts q (omega arith) b)
  unit_keys meant (u.definition ds) p i l k known ts q h b = (tt, keys_more l k i (i + 0) ts q (omega arith) b)
  unit_keys meant (u.assume w t) p i l k known ts q h b = (tt, keys_more l k i (i + 0) ts q (omega arith) b)
  unit_keys meant (u.theorem None s own) p i l k known ts q h b = ((unnamed_other l i ts b, tt), (inr (i, refl, omega arith), keys_more l k i (i + 1) ts q (omega arith) b))
  unit_keys meant (u.theorem (Some d) s own) p i l k known ts q (n, e, r, z) b =
      let key : theorem_key i (meant d.place) ≡ entry_key n = ap (theorem_key i) e in
      ((subst (λ (x : ℕ). IsOther x ts) (sym key) (entry_other l i n ts r b), tt), (inl (n, key, z), keys_more l k i (i + 1) ts q (omega arith) b))

  units_keys : (meant : Place → Option ℕ) (xs : List unit_) (i l k : ℕ) (known : List Known) (ts : List Theorem) → KeyedUnits meant l k xs → KeysBelow l i ts → Others ts (units_theorems E meant i known xs) × KeysBelow k (i + length (units_theorems E meant i known xs)) (after_all ts (units_theorems E meant i known xs))
  units_keys meant [] i l k known ts h b = (tt, keys_more l k i (i + 0) ts h (omega arith) b)
  units_keys meant (x ∷ xs) i l k known ts (j, q, h, hs) b =
      let us : List Theorem = unit_theorem E meant i known x.place x.kind in
      let vs : List Theorem = units_theorems E meant (i + length us) (known ++ unit_adds E meant x.kind) xs in
      let r = unit_keys meant x.kind x.place i l j known ts q h b in
      let w = units_keys meant xs (i + length us) j k (known ++ unit_adds E meant x.kind) (after_all ts us) hs r.1 in
      (others_append ts us vs r.0 w.0, subst (λ (y : List Theorem). KeysBelow k (i + length (us ++ vs)) y) (sym (after_append ts us vs)) (subst (λ (n : ℕ). KeysBelow k n (after_all (after_all ts us) vs)) (sums i us vs) w.1))
    where
      sums : (i : ℕ) (us vs : List Theorem) → (i + length us) + length vs ≡ i + length (us ++ vs)
      sums i us vs = let e = length-append us vs in omega (arith, e)

module _ (t : Table) where
  modules_keys : (m i l : ℕ) (ds : List Done) (ms : List Module) (ts : List Theorem) → KeyedModules t m l ms → KeysBelow l i ts → Others ts (joined (modules_theorems t m i ds ms))
  modules_keys m i l ds [] ts h b = tt
  modules_keys m i l ds (x ∷ xs) ts (k, h, hs) b =
      let ws : List Text = reaches ds x.extends in
      let known : List Known = brought ds ws in
      let us : List Theorem = units_theorems t.entries (symbol t m) i known x.units in
      let r = units_keys t.entries (symbol t m) x.units i l k known ts h b in
      let ds1 : List Done = ds ++ record { name = x.name; reaches = ws; adds = units_adds t.entries (symbol t m) x.units } ∷ [] in
      others_append ts us (joined (modules_theorems t (suc m) (i + length us) ds1 xs)) r.0 (modules_keys (suc m) (i + length us) k ds1 xs (after_all ts us) hs r.1)

-- what is assumed, fully expanded
full_all : (table : List Definition) (xs ys : List Known) → Assume xs ys → HasAll (map (full table) (assumptions xs)) (map (full table) (assumptions ys))
full_all table xs ys h = HasAll-map (full table) (assumptions xs) (assumptions ys) h

stands_there : (table : List Definition) (ts : List Theorem) (t : Theorem) (bs : List Known) → SourceIn ts t.known bs → Stand table ts t bs
stands_there table ts t [] s = tt
stands_there table ts t (Assumption l f ∷ bs) s = stands_there table ts t bs s
stands_there table ts t (Earlier k f ∷ bs) ((x, a, e, w, c), s) = ((x, a, e, w, full_all table t.known x.known c), stands_there table ts t bs s)

abbrev Keyed : (ℕ → Bool) → List Theorem → Type 0
Keyed is_theorem [] = Unit {0}
Keyed is_theorem (t ∷ ts) = (is_theorem t.key ≡ true) × Keyed is_theorem ts

in_order : (table : List Definition) (is_theorem : ℕ → Bool) (ts us : List Theorem) → AllRight table us → Sourced ts us → Others ts us → Keyed is_theorem us → InOrder rank table is_theorem ts us
in_order table is_theorem ts [] r s o k = tt
in_order table is_theorem ts (t ∷ us) r s o k = (stands_there table ts t t.known s.0, r.0, k.0, o.0, in_order table is_theorem (t ∷ ts) us r.1 s.1 o.1 k.1)

keyed_by : (ks : List ℕ) (ts : List Theorem) → ((k : ℕ) → has_number (keys_of ts) k ≡ true → has_number ks k ≡ true) → Keyed (has_number ks) ts
keyed_by ks [] h = tt
keyed_by ks (t ∷ ts) h = (
  h t.key (ap (λ b. b || has_number (keys_of ts) t.key) (nat-refl t.key)),
  keyed_by ks ts (λ k q. h k (or_right (nat_eq t.key k) (has_number (keys_of ts) k) q)),
)

fresh_all : (ms : List Module) → FreshAll [] ms
fresh_all [] = tt
fresh_all (m ∷ ms) = (refl, fresh_all ms)

pub headline : ReportedDerives
headline ms t answer h n d sound x q =
    let table : List Definition = definitions_of ms t in
    let r = all_right ms t h d in
    let ts : List Theorem = all_theorems ms t in
    all_reported rank table (is_theorem_of ms t) answer r.ordered sound ts
    (in_order table (is_theorem_of ms t) [] ts r.right (modules_sourced t 0 0 [] ms [] empty_world (fresh_all ms) n) (modules_keys t 0 0 (length library_entries) [] ms [] r.keyed tt) (keyed_by (keys_of ts) ts (λ k e. e))) x q

each_derives : (table : List Definition) (is_theorem : ℕ → Bool) (answer : Canon → Verdict) (done : List ℕ) (ts : List Theorem) → ((x : Theorem) → IsReported table is_theorem answer done ts x → IsDerivable table x) → EachDerives table ts (statuses table is_theorem answer done ts)
each_derives table is_theorem answer done [] f = tt
each_derives table is_theorem answer done (t ∷ ts) f = (
  (λ h. f t (inl (refl, h))),
  each_derives table is_theorem answer (done_with table is_theorem answer done t) ts (λ x r. f x (inr r)),
)

pub justified : StatusesAreJustified
justified ms t answer h n d sound = each_derives (definitions_of ms t) (is_theorem_of ms t) answer [] (all_theorems ms t) (headline ms t answer h n d sound)
