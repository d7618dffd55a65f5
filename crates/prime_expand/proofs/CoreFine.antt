-- What the making of nodes keeps holds of the core of an expression whose names are fine; the laws of cores from that.
use Rattle.std.specs.Prelude.{◌≡◌, ℕ, zero, suc, ◌+◌, ◌-◌, ◌≤◌, Bool, true, false, ◌||◌, nat_eq, if◌then◌else◌, List, [], ◌∷◌, length, drop, map, fold, Option, Some, None, codes, ◌<◌, ◌++◌, take}
use Rattle.std.proofs.lemmas.List.{length-append, length-map}
use Rattle.std.proofs.Common.{refl, ap, sym, ◌∙◌, arith, subst}
use Rattle.tla_ast.specs.declared.place.Place.{Place}
use Rattle.tla_ast.specs.declared.tree.Decl.{Decl}
use Rattle.core_expr.specs.declared.head.Head.{Head}
use Rattle.core_expr.specs.declared.head.Head.TheVariants.{True, False, And, Or, Enum, Tuple, Apply}
use Rattle.core_expr.specs.declared.head.Binder.{Binder}
use Rattle.core_expr.specs.declared.head.Binder.TheVariants.{Filter, Image, Fun, Choose}
use Rattle.core_expr.specs.Tree.{Tree, str_, enum_, Parts as parts, Parts, true_}
use Rattle.core_expr.specs.Tree.Tree.{bound, node, bind, app}
use Rattle.core_expr.specs.Heads.{parts_of}
use Rattle.symbol_table.specs.declared.entry.Entry.{Entry}
use Rattle.symbol_table.specs.Scoped.{entry_of}
use Rattle.plain_syntax.specs.Plain.{Text, Term, Terms, Updates, Keys, Groups, Defs}
use Rattle.plain_syntax.specs.Plain.Term.{term}
use Rattle.plain_syntax.specs.Plain.Terms.{none, part}
use Rattle.plain_syntax.specs.Plain.Shape.{name, call, number, text, prefixed, infixed, prime, index, field, enum, filter, image, tuple, function, functions, except, fields, field_sets, box, angle, junction, quantifier, choice, conditional, cases, local, at, fair}
use Rattle.plain_syntax.specs.Plain.Updates.{end_updates, update}
use Rattle.plain_syntax.specs.Plain.Keys.{end_keys, key, field_key}
use Rattle.plain_syntax.specs.Plain.Groups.{end_groups, free, within}
use Rattle.plain_syntax.specs.Plain.Defs.{end_defs, def}
use Rattle.prime_expand.specs.declared.both.Both.{Both}
use Rattle.prime_expand.specs.Both.{same, plains, primeds, binary, quantified, bounded, lifted, part_at, joined, seconds}
use Rattle.prime_expand.specs.Forms.{unchanged, string, along, updated, field_value, field_conditions, field_names, record_of, records_of, guards, arm, arms, otherwise, case_of}
use Rattle.prime_expand.specs.Symbols.{is_word, is_listed, head_in, values, by_sort, constant, prefix_heads, infix_heads, denied_heads, library_signs, of_library, by_prefix_head, by_prefix, by_denied_head, by_infix_head, by_infix, applied, flagged, second_kind}
use Rattle.prime_expand.specs.Core.{Standing, Meaning, Env, lookup, known, known_as, at_depth, variable, names_in, quantifier_of, over_names, over_set, by_name, by_value, with_names, with_groups, with_arguments, with_definitions, core, cores, over, wrapped, updates, keys, core_of, bodies, loose, flags_in, nothing}
use Rattle.prime_expand.specs.Core.Meaning.{fixed, given}
use Rattle.prime_expand.specs.Fine.{has_number, listed, count, NameFine, SignFine, Fine, AllFine, OverFine, ValuesFine, SetsFine, UpdatesFine, KeysFine, DefsFine, with_decls, with_bounds, with_locals}
use Rattle.core_expr.specs.declared.head.Sym.{Sym}
use Rattle.core_expr.specs.declared.head.SymKind.{SymKind}
use Rattle.core_expr.specs.Put.{shift, shifts, IsScoped, AreScoped}
use Rattle.core_expr.proofs.BuildLaws.{size-parts_of}
use Rattle.core_expr.proofs.Laws.{size-shifts, IsScoped-shift}
use Rattle.symbol_table.specs.declared.entry.EntrySort.{EntrySort}
use Rattle.prime_expand.specs.Laws.{Only, AllOnly, OfKind, OfSort, OfEntry, SymbolsFine, IsOver, Holds, CoreIsClosed, BodiesAreScoped, HasConstantSort, IsConstant, ConstantIsItsPrime}
use Rattle.core_expr.specs.declared.head.SymKind.TheVariants as kinds
use Rattle.symbol_table.specs.declared.entry.EntrySort.TheVariants as sorts

abbrev pub node_of : Head → List ℕ → List Both → Both
node_of h ns bs = record { plain = node h ns (parts_of (plains bs)); primed = node h ns (parts_of (primeds bs)) }

abbrev pub binder_of : Binder → List Both → Both → Both
binder_of b ss e = record { plain = bind b (parts_of (plains ss)) e.plain; primed = bind b (parts_of (primeds ss)) e.primed }

abbrev pub AllR : (ℕ → Both → Type 0) → ℕ → List Both → Type 0
AllR R d [] = Unit {0}
AllR R d (b ∷ bs) = R d b × AllR R d bs

-- the making of nodes, each at a depth of binders, keeps R
pub record Keeps (entries : List Entry) (Asked Sign : ℕ → ℕ → Type 0) (R : ℕ → Both → Type 0) : Type 0 where
  pub variables : (d : ℕ) → R (suc d) (same (bound 0))
  pub nodes : (d : ℕ) (h : Head) (ns : List ℕ) (bs : List Both) → AllR R d bs → R d (node_of h ns bs)
  pub binders : (d : ℕ) (b : Binder) (ss : List Both) (e : Both) → AllR R d ss → R (suc d) e → R d (binder_of b ss e)
  pub lifts : (d e : ℕ) (b : Both) → e ≤ d → R e b → R d (lifted d e b)
  pub primes : (d : ℕ) (b : Both) → R d b → R d (same b.primed)
  pub names : (d n : ℕ) (bs : List Both) → Asked n (length bs) → AllR R d bs → R d (by_sort (entry_of entries n).sort (entry_of entries n) n bs)
  pub signs : (d n : ℕ) (bs : List Both) → Sign n (length bs) → AllR R d bs → R d (constant n bs)

zero_right : (d : ℕ) → d + 0 ≡ d
zero_right d = omega arith

suc_right : (d k : ℕ) → d + suc k ≡ suc (d + k)
suc_right d k = omega arith

sum_right : (a b c : ℕ) → a + (b + c) ≡ (a + b) + c
sum_right a b c = omega arith

module _ (means : Place → Option ℕ) (entries : List Entry) (Asked Sign : ℕ → ℕ → Type 0) (R : ℕ → Both → Type 0) (kept : Keeps entries Asked Sign R) where
  abbrev All_ : ℕ → List Both → Type 0
  All_ = AllR R

  leaf_kept : {h : Head} {ns : List ℕ} {d : ℕ} → R d (same (node h ns (parts_of [])))
  leaf_kept {h = h} {ns = ns} {d = d} = kept.nodes d h ns [] tt

  one_kept : {h : Head} {a : Both} {d : ℕ} → R d a → R d (node_of h [] (a ∷ []))
  one_kept {h = h} {a = a} {d = d} p = kept.nodes d h [] (a ∷ []) (p, tt)

  two_kept : {h : Head} {a b : Both} {d : ℕ} → R d a → R d b → R d (binary h a b)
  two_kept {h = h} {a = a} {b = b} {d = d} p q = kept.nodes d h [] (a ∷ b ∷ []) (p, (q, tt))

  three_kept : {h : Head} {a b c : Both} {d : ℕ} → R d a → R d b → R d c → R d (node_of h [] (a ∷ b ∷ c ∷ []))
  three_kept {h = h} {a = a} {b = b} {c = c} {d = d} p q r = kept.nodes d h [] (a ∷ b ∷ c ∷ []) (p, (q, (r, tt)))

  bind_kept : {o : Binder} {e : Both} {d : ℕ} → R (suc d) e → R d (quantified o e)
  bind_kept {o = o} {e = e} {d = d} p = kept.binders d o [] e tt p

  over_kept : {o : Binder} {s e : Both} {d : ℕ} → R d s → R (suc d) e → R d (binder_of o (s ∷ []) e)
  over_kept {o = o} {s = s} {e = e} {d = d} p q = kept.binders d o (s ∷ []) e (p, tt) q

  if_kept : {d : ℕ} (c : Bool) {x y : Both} → (c ≡ true → R d x) → R d y → R d (if c then x else y)
  if_kept true p q = p refl
  if_kept false p q = q

  at_kept : (d i : ℕ) (bs : List Both) → All_ d bs → R d (part_at i bs)
  at_kept d zero [] h = leaf_kept
  at_kept d (suc i) [] h = leaf_kept
  at_kept d zero (b ∷ bs) h = h.0
  at_kept d (suc i) (b ∷ bs) h = at_kept d i bs h.1

  fold_kept : (d : ℕ) (h : Head) (z : Both) (bs : List Both) → R d z → All_ d bs → R d (fold (binary h) z bs)
  fold_kept d h z [] p q = p
  fold_kept d h z (b ∷ bs) p q = fold_kept d h (binary h z b) bs (two_kept p q.0) q.1

  joined_kept : (d : ℕ) (h o : Head) (bs : List Both) → All_ d bs → R d (joined h o bs)
  joined_kept d h o [] q = leaf_kept
  joined_kept d h o (b ∷ bs) q = fold_kept d h b bs q.0 q.1

  unchanged_kept : (d : ℕ) (v : Both) → R d v → R d (unchanged v)
  unchanged_kept d v h = two_kept (kept.primes d v h) h

  -- ---- forms

  updated_kept : (d : ℕ) (r : Both) (ks : List Both) (v : Both) → R d r → All_ d ks → R d v → R d (updated r ks v)
  updated_kept d r [] v h q w = w
  updated_kept d r (k ∷ ks) v h q w = three_kept h q.0 (updated_kept d (binary Apply r k) ks v (two_kept h q.0) q.1 w)

  value_kept : (d : ℕ) (hs : List Text) (vs : List Both) → All_ (suc d) vs → R (suc d) (field_value hs vs)
  value_kept d hs [] h = leaf_kept
  value_kept d hs (v ∷ []) h = h.0
  value_kept d [] (v ∷ w ∷ vs) h = h.0
  value_kept d (s ∷ hs) (v ∷ w ∷ vs) h = three_kept (two_kept (kept.variables d) leaf_kept) h.0 (value_kept d hs (w ∷ vs) h.1)

  conditions_kept : (d : ℕ) (hs : List Text) (ss : List Both) → All_ (suc d) ss → All_ (suc d) (field_conditions hs ss)
  conditions_kept d [] ss h = tt
  conditions_kept d (f ∷ hs) [] h = tt
  conditions_kept d (f ∷ hs) (s ∷ ss) h = (two_kept (two_kept (kept.variables d) leaf_kept) h.0, conditions_kept d hs ss h.1)

  strings_kept : (d : ℕ) (hs : List Text) → All_ d (map string hs)
  strings_kept d [] = tt
  strings_kept d (h ∷ hs) = (leaf_kept, strings_kept d hs)

  names_kept : (d : ℕ) (hs : List Text) → R d (same (field_names hs))
  names_kept d hs = subst (R d) (λ i. record { plain = enum_ (plain_strings hs i); primed = enum_ (primed_strings hs i) }) (kept.nodes d Enum [] (map string hs) (strings_kept d hs))
    where
      plain_strings : (hs : List Text) → parts_of (plains (map string hs)) ≡ parts_of (map (λ h. str_ h) hs)
      plain_strings [] = refl
      plain_strings (h ∷ hs) = λ i. parts.part (str_ h) (plain_strings hs i)

      primed_strings : (hs : List Text) → parts_of (primeds (map string hs)) ≡ parts_of (map (λ h. str_ h) hs)
      primed_strings [] = refl
      primed_strings (h ∷ hs) = λ i. parts.part (str_ h) (primed_strings hs i)

  guards_kept : (d : ℕ) (bs : List Both) → All_ d bs → All_ d (guards bs)
  guards_kept d [] h = tt
  guards_kept d (p ∷ []) h = tt
  guards_kept d (p ∷ e ∷ bs) h = (h.0, guards_kept d bs h.1.1)

  arm_kept : (d : ℕ) (p e : Both) → R (suc d) p → R (suc d) e → R (suc d) (arm p e)
  arm_kept d p e h q = two_kept h (two_kept (kept.variables d) q)

  arms_kept : (d : ℕ) (other : Both) (bs : List Both) → R (suc d) other → All_ (suc d) bs → All_ (suc d) (arms other bs)
  arms_kept d other [] o h = tt
  arms_kept d other (e ∷ []) o h = (arm_kept d other e o h.0, tt)
  arms_kept d other (p ∷ e ∷ bs) o h = (arm_kept d p e h.0 h.1.0, arms_kept d other bs o h.1.1)

  case_kept : (d : ℕ) (bs : List Both) → All_ (suc d) bs → R d (case_of bs)
  case_kept d bs h =
      let o = one_kept (joined_kept (suc d) Or False (guards bs) (guards_kept (suc d) bs h)) in
      bind_kept (joined_kept (suc d) Or False (arms (otherwise bs) bs) (arms_kept d (otherwise bs) bs o h))

  record_kept : (d : ℕ) (hs : List Text) (vs : List Both) → All_ (suc d) vs → R d (record_of hs vs)
  record_kept d hs vs h = over_kept (names_kept d hs) (value_kept d hs vs h)

  records_kept : (d : ℕ) (hs : List Text) (us ss : List Both) → All_ d us → All_ (suc d) ss → R d (records_of hs us ss)
  records_kept d hs us ss g h =
      over_kept (two_kept (names_kept d hs) (one_kept (kept.nodes d Enum [] us g)))
      (joined_kept (suc d) And True (field_conditions hs ss) (conditions_kept d hs ss h))

  -- ---- operators

  library_kept : (d : ℕ) (n : Option ℕ) (bs : List Both) → SignFine means Asked Sign n (length bs) → All_ d bs → R d (of_library n bs)
  library_kept d None bs p h = leaf_kept
  library_kept d (Some n) bs p h = kept.signs d n bs p h

  prefix_kept : (d : ℕ) (o : Text) (n : Option ℕ) (bs : List Both) → (is_word o (codes "-") ≡ true → SignFine means Asked Sign n (length bs)) → All_ d bs → R d (by_prefix o n bs)
  prefix_kept d o n bs p h = go (head_in prefix_heads o)
    where
      go : (g : Option Head) → R d (by_prefix_head g o n bs)
      go (Some g) = one_kept (at_kept d 0 bs h)
      go None =
          if_kept (is_word o (codes "UNCHANGED")) (λ _. unchanged_kept d (part_at 0 bs) (at_kept d 0 bs h))
          (if_kept (is_word o (codes "-")) (λ e. library_kept d n bs (p e) h) leaf_kept)

  infix_kept : (d : ℕ) (o : Text) (n : Option ℕ) (bs : List Both) → (is_listed o library_signs ≡ true → SignFine means Asked Sign n (length bs)) → All_ d bs → R d (by_infix o n bs)
  infix_kept d o n bs p h = go (head_in infix_heads o)
    where
      denied : (g : Option Head) → R d (by_denied_head g o n bs)
      denied (Some g) = one_kept (two_kept (at_kept d 0 bs h) (at_kept d 1 bs h))
      denied None = if_kept (is_listed o library_signs) (λ e. library_kept d n bs (p e) h) leaf_kept

      go : (g : Option Head) → R d (by_infix_head g o n bs)
      go (Some g) = two_kept (at_kept d 0 bs h) (at_kept d 1 bs h)
      go None = denied (head_in denied_heads o)

  -- ---- binders

  over_names_kept : (b : Binder) (d k : ℕ) (p : Both) → R (d + k) p → R d (over_names b k p)
  over_names_kept b d zero p h = subst (λ (n : ℕ). R n p) (zero_right d) h
  over_names_kept b d (suc k) p h = over_names_kept b d k (quantified b p) (bind_kept (subst (λ (n : ℕ). R n p) (suc_right d k) h))

  bounded_kept : (b : Binder) (d : ℕ) (s p : Both) → R (suc d) s → R (suc d) p → R d (bounded b s p)
  bounded_kept b d s p h k = bind_kept (two_kept (two_kept (kept.variables d) h) k)

  over_set_kept : (b : Binder) (s : ℕ → Both) (d k : ℕ) (p : Both) → ((e : ℕ) → d ≤ e → R e (s e)) → R (d + k) p → R d (over_set b s d k p)
  over_set_kept b s d zero p f h = subst (λ (n : ℕ). R n p) (zero_right d) h
  over_set_kept b s d (suc k) p f h =
      over_set_kept b s d k (bounded b (s (d + suc k)) p) f
      (bounded_kept b (d + k) (s (d + suc k)) p (subst (λ (n : ℕ). R n (s (d + suc k))) (suc_right d k) (f (d + suc k) (omega arith))) (subst (λ (n : ℕ). R n p) (suc_right d k) h))

  -- ---- what names mean

  abbrev pub GoodStanding : ℕ → Standing → Type 0
  GoodStanding d s = (s.0 ≤ d) × R s.0 s.1

  -- what a number means at a depth; without a meaning it is not bound
  abbrev GoodAt : ℕ → Bool → Option Meaning → Type 0
  GoodAt d is_bound None = is_bound ≡ false
  GoodAt d is_bound (Some (fixed s)) = GoodStanding d s
  GoodAt d is_bound (Some (given f)) = (e : ℕ) (bs : List Both) → d ≤ e → All_ e bs → R e (f e bs)

  -- an environment at a depth, where these numbers are bound
  abbrev pub Good : ℕ → Env → List ℕ → Type 0
  Good d env ns = (n : ℕ) → GoodAt d (has_number ns n) (lookup env n)

  depth_kept : (d : ℕ) (s : Standing) → GoodStanding d s → R d (at_depth d s)
  depth_kept d s h = kept.lifts d s.0 s.1 h.0 h.1

  standing_more : (d e : ℕ) (s : Standing) → d ≤ e → GoodStanding d s → GoodStanding e s
  standing_more d e s q h = let p : s.0 ≤ d = h.0 in (omega (arith, p, q), h.1)

  more : (d e : ℕ) (env : Env) (ns : List ℕ) → d ≤ e → Good d env ns → Good e env ns
  more d e env ns q g n = go (has_number ns n) (lookup env n) (g n)
    where
      go : (b : Bool) (o : Option Meaning) → GoodAt d b o → GoodAt e b o
      go b None h = h
      go b (Some (fixed s)) h = standing_more d e s q h
      go b (Some (given f)) h = λ c bs w k. h c bs (omega (arith, q, w)) k

  added : (d : ℕ) (o : Option ℕ) (m : Meaning) (env : Env) (ns : List ℕ) → ((b : Bool) → GoodAt d b (Some m)) → Good d env ns → Good d (known_as o m env) (listed o ns)
  added d None m env ns k g n = g n
  added d (Some j) m env ns k g n = go (nat_eq j n)
    where
      go : (b : Bool) → GoodAt d (b || has_number ns n) (if b then Some m else lookup env n)
      go true = k true
      go false = g n

  with_variable : (d : ℕ) (o : Option ℕ) (env : Env) (ns : List ℕ) → Good d env ns → Good (suc d) (known_as o (variable d) env) (listed o ns)
  with_variable d o env ns g = added (suc d) o (variable d) env ns (λ b. (omega arith, kept.variables d)) (more d (suc d) env ns (omega arith) g)

  pub arguments_good : (d : ℕ) (ps : List Decl) (args : List Both) (env : Env) (ns : List ℕ) → All_ d args → Good d env ns → Good d (with_arguments means entries d ps args env) (with_decls means ns ps)
  arguments_good d [] args env ns h g = g
  arguments_good d (x ∷ xs) args env ns h g =
      arguments_good d xs (drop 1 args) (known_as (means x.place) (fixed (d, part_at 0 args)) env) (listed (means x.place) ns) (rest args h)
      (added d (means x.place) (fixed (d, part_at 0 args)) env ns (λ b. (omega arith, at_kept d 0 args h)) g)
    where
      rest : (args : List Both) → All_ d args → All_ d (drop 1 args)
      rest [] h = tt
      rest (b ∷ args) h = h.1

  names_good : (d e : ℕ) (ds : List Decl) (env : Env) (ns : List ℕ) → e ≡ d + length ds → Good d env ns → Good e (with_names means entries d ds env) (with_decls means ns ds)
  names_good d e [] env ns q g = more d e env ns (omega (arith, q)) g
  names_good d e (x ∷ ds) env ns q g = names_good (suc d) e ds (known_as (means x.place) (variable d) env) (listed (means x.place) ns) (omega (arith, q)) (with_variable d (means x.place) env ns g)

  groups_good : (d e : ℕ) (gs : Groups) (env : Env) (ns : List ℕ) → e ≡ d + names_in gs → Good d env ns → Good e (with_groups means entries d gs env) (with_bounds means ns gs)
  groups_good d e end_groups env ns q g = more d e env ns (omega (arith, q)) g
  groups_good d e (free ds gs) env ns q g = groups_good (d + length ds) e gs (with_names means entries d ds env) (with_decls means ns ds) (omega (arith, q)) (names_good d (d + length ds) ds env ns refl g)
  groups_good d e (within ds t gs) env ns q g = groups_good (d + length ds) e gs (with_names means entries d ds env) (with_decls means ns ds) (omega (arith, q)) (names_good d (d + length ds) ds env ns refl g)

  abbrev here : Env → Standing → ℕ → Terms → List Both
  here = cores means entries

  length-cores : (env : Env) (a : Standing) (d : ℕ) (ts : Terms) → length (here env a d ts) ≡ count ts
  length-cores env a d none = refl
  length-cores env a d (part t ts) = ap suc (length-cores env a d ts)

  name_kept : (w : Text) (env : Env) (ns : List ℕ) (p : Place) (d k : ℕ) (args : List Both) → Good d env ns → (head_in values w ≡ None → NameFine means Asked Sign ns (means p) k) → length args ≡ k → All_ d args
      → R d (by_value means entries (head_in values w) env p d args)
  name_kept w env ns p d k args g f l h = value (head_in values w) f
    where
      meant : (n : ℕ) (o : Option Meaning) → GoodAt d (has_number ns n) o → (has_number ns n ≡ false → Asked n k) → R d (by_name means entries (Some n) o d args)
      meant n None q f = kept.names d n args (subst (Asked n) (sym l) (f q)) h
      meant n (Some (fixed s)) q f = depth_kept d s q
      meant n (Some (given m)) q f = q d args (omega arith) h

      named : (n : Option ℕ) → NameFine means Asked Sign ns n k → R d (by_name means entries n (known env n) d args)
      named None f = leaf_kept
      named (Some n) f = meant n (lookup env n) (g n) f

      value : (v : Option Head) → (v ≡ None → NameFine means Asked Sign ns (means p) k) → R d (by_value means entries v env p d args)
      value (Some v) f = leaf_kept
      value None f = named (means p) (f refl)

  mutual
    pub core_kept : (env : Env) (a : Standing) (d : ℕ) (ns : List ℕ) (t : Term) → Good d env ns → GoodStanding d a → Fine means Asked Sign ns t → R d (core means entries env a d t)
    core_kept env a d ns (term (name w) ts p) g m f = name_kept w env ns p d (count ts) (here env a d ts) g f.0 (length-cores env a d ts) (cores_kept env a d ns ts g m f.1)
    core_kept env a d ns (term (call w) ts p) g m f = name_kept w env ns p d (count ts) (here env a d ts) g f.0 (length-cores env a d ts) (cores_kept env a d ns ts g m f.1)
    core_kept env a d ns (term (number n) ts p) g m f = leaf_kept
    core_kept env a d ns (term (text s) ts p) g m f = leaf_kept
    core_kept env a d ns (term (prefixed o) ts p) g m f =
        prefix_kept d o (means p) (here env a d ts) (λ e. subst (SignFine means Asked Sign (means p)) (sym (length-cores env a d ts)) (f.0 e)) (cores_kept env a d ns ts g m f.1)
    core_kept env a d ns (term (infixed o) ts p) g m f =
        infix_kept d o (means p) (here env a d ts) (λ e. subst (SignFine means Asked Sign (means p)) (sym (length-cores env a d ts)) (f.0 e)) (cores_kept env a d ns ts g m f.1)
    core_kept env a d ns (term prime ts p) g m f = kept.primes d (part_at 0 (here env a d ts)) (at_kept d 0 (here env a d ts) (cores_kept env a d ns ts g m f))
    core_kept env a d ns (term index ts p) g m f = two_kept (at_kept d 0 (here env a d ts) (cores_kept env a d ns ts g m f)) (at_kept d 1 (here env a d ts) (cores_kept env a d ns ts g m f))
    core_kept env a d ns (term (field h) ts p) g m f = two_kept (at_kept d 0 (here env a d ts) (cores_kept env a d ns ts g m f)) leaf_kept
    core_kept env a d ns (term enum ts p) g m f = kept.nodes d Enum [] (here env a d ts) (cores_kept env a d ns ts g m f)
    core_kept env a d ns (term tuple ts p) g m f = kept.nodes d Tuple [] (here env a d ts) (cores_kept env a d ns ts g m f)
    core_kept env a d ns (term (filter x) ts p) g m f = ranged_kept Filter env a d ns p ts g m f
    core_kept env a d ns (term (image x) ts p) g m f = ranged_kept Image env a d ns p ts g m f
    core_kept env a d ns (term (function x) ts p) g m f = ranged_kept Fun env a d ns p ts g m f
    core_kept env a d ns (term functions ts p) g m f = two_kept (at_kept d 0 (here env a d ts) (cores_kept env a d ns ts g m f)) (at_kept d 1 (here env a d ts) (cores_kept env a d ns ts g m f))
    core_kept env a d ns (term (except us) ts p) g m f = updates_kept env a d ns (part_at 0 (here env a d ts)) us g m (at_kept d 0 (here env a d ts) (cores_kept env a d ns ts g m f.0)) f.1
    core_kept env a d ns (term (fields hs) ts p) g m f =
        record_kept d hs (seconds (here env a (suc d) ts)) (seconds_kept env a (suc d) ns ts (more d (suc d) env ns (omega arith) g) (standing_more d (suc d) a (omega arith) m) f)
    core_kept env a d ns (term (field_sets hs) ts p) g m f =
        records_kept d hs (seconds (here env a d ts)) (seconds (here env a (suc d) ts)) (seconds_kept env a d ns ts g m f)
        (seconds_kept env a (suc d) ns ts (more d (suc d) env ns (omega arith) g) (standing_more d (suc d) a (omega arith) m) f)
    core_kept env a d ns (term box ts p) g m f = two_kept (at_kept d 0 (here env a d ts) (cores_kept env a d ns ts g m f)) (unchanged_kept d (part_at 1 (here env a d ts)) (at_kept d 1 (here env a d ts) (cores_kept env a d ns ts g m f)))
    core_kept env a d ns (term angle ts p) g m f = two_kept (at_kept d 0 (here env a d ts) (cores_kept env a d ns ts g m f)) (one_kept (unchanged_kept d (part_at 1 (here env a d ts)) (at_kept d 1 (here env a d ts) (cores_kept env a d ns ts g m f))))
    core_kept env a d ns (term (junction all) ts p) g m f = joined_kept d (if all then And else Or) True (here env a d ts) (cores_kept env a d ns ts g m f)
    core_kept env a d ns (term (quantifier all gs) ts p) g m f =
        wrapped_kept (quantifier_of all) env a d ns gs (part_at 0 (here (with_groups means entries d gs env) a (d + names_in gs) ts)) g m f.0
        (at_kept (d + names_in gs) 0 (here (with_groups means entries d gs env) a (d + names_in gs) ts)
        (cores_kept (with_groups means entries d gs env) a (d + names_in gs) (with_bounds means ns gs) ts (groups_good d (d + names_in gs) gs env ns refl g) (standing_more d (d + names_in gs) a (omega arith) m) f.1))
    core_kept env a d ns (term (choice gs) ts p) g m f =
        wrapped_kept Choose env a d ns gs (part_at 0 (here (with_groups means entries d gs env) a (d + names_in gs) ts)) g m f.0
        (at_kept (d + names_in gs) 0 (here (with_groups means entries d gs env) a (d + names_in gs) ts)
        (cores_kept (with_groups means entries d gs env) a (d + names_in gs) (with_bounds means ns gs) ts (groups_good d (d + names_in gs) gs env ns refl g) (standing_more d (d + names_in gs) a (omega arith) m) f.1))
    core_kept env a d ns (term conditional ts p) g m f = three_kept (at_kept d 0 (here env a d ts) (cores_kept env a d ns ts g m f)) (at_kept d 1 (here env a d ts) (cores_kept env a d ns ts g m f)) (at_kept d 2 (here env a d ts) (cores_kept env a d ns ts g m f))
    core_kept env a d ns (term (cases other) ts p) g m f =
        case_kept d (here env a (suc d) ts) (cores_kept env a (suc d) ns ts (more d (suc d) env ns (omega arith) g) (standing_more d (suc d) a (omega arith) m) f)
    core_kept env a d ns (term (local ds) ts p) g m f =
        at_kept d 0 (here (with_definitions means entries a ds env) a d ts)
        (cores_kept (with_definitions means entries a ds env) a d (with_locals means ns ds) ts (definitions_good env a d ns ds g m f.0) m f.1)
    core_kept env a d ns (term at ts p) g m f = depth_kept d a m
    core_kept env a d ns (term fair ts p) g m f = leaf_kept

    cores_kept : (env : Env) (a : Standing) (d : ℕ) (ns : List ℕ) (ts : Terms) → Good d env ns → GoodStanding d a → AllFine means Asked Sign ns ts → All_ d (here env a d ts)
    cores_kept env a d ns none g m f = tt
    cores_kept env a d ns (part t ts) g m f = (core_kept env a d ns t g m f.0, cores_kept env a d ns ts g m f.1)

    seconds_kept : (env : Env) (a : Standing) (d : ℕ) (ns : List ℕ) (ts : Terms) → Good d env ns → GoodStanding d a → ValuesFine means Asked Sign ns ts → All_ d (seconds (here env a d ts))
    seconds_kept env a d ns none g m f = tt
    seconds_kept env a d ns (part h none) g m f = tt
    seconds_kept env a d ns (part h (part t ts)) g m f = (core_kept env a d ns t g m f.0, seconds_kept env a d ns ts g m f.1)

    ranged_kept : (b : Binder) (env : Env) (a : Standing) (d : ℕ) (ns : List ℕ) (p : Place) (ts : Terms) → Good d env ns → GoodStanding d a → OverFine means Asked Sign ns (means p) ts → R d (over means entries b env a d p ts)
    ranged_kept b env a d ns p none g m f = leaf_kept
    ranged_kept b env a d ns p (part s ts) g m f =
        over_kept (core_kept env a d ns s g m f.0)
        (at_kept (suc d) 0 (here (known_as (means p) (variable d) env) a (suc d) ts)
        (cores_kept (known_as (means p) (variable d) env) a (suc d) (listed (means p) ns) ts (with_variable d (means p) env ns g) (standing_more d (suc d) a (omega arith) m) f.1))

    wrapped_kept : (b : Binder) (env : Env) (a : Standing) (d : ℕ) (ns : List ℕ) (gs : Groups) (p : Both) → Good d env ns → GoodStanding d a → SetsFine means Asked Sign ns gs → R (d + names_in gs) p → R d (wrapped means entries env a d b gs p)
    wrapped_kept b env a d ns end_groups p g m f h = subst (λ (n : ℕ). R n p) (zero_right d) h
    wrapped_kept b env a d ns (free ds gs) p g m f h =
        over_names_kept b d (length ds) (wrapped means entries env a (d + length ds) b gs p)
        (wrapped_kept b env a (d + length ds) ns gs p (more d (d + length ds) env ns (omega arith) g) (standing_more d (d + length ds) a (omega arith) m) f (subst (λ (n : ℕ). R n p) (sum_right d (length ds) (names_in gs)) h))
    wrapped_kept b env a d ns (within ds t gs) p g m f h =
        over_set_kept b (λ e. core means entries env a e t) d (length ds) (wrapped means entries env a (d + length ds) b gs p)
        (λ e le. core_kept env a e ns t (more d e env ns le g) (standing_more d e a le m) f.0)
        (wrapped_kept b env a (d + length ds) ns gs p (more d (d + length ds) env ns (omega arith) g) (standing_more d (d + length ds) a (omega arith) m) f.1 (subst (λ (n : ℕ). R n p) (sum_right d (length ds) (names_in gs)) h))

    updates_kept : (env : Env) (a : Standing) (d : ℕ) (ns : List ℕ) (r : Both) (us : Updates) → Good d env ns → GoodStanding d a → R d r → UpdatesFine means Asked Sign ns us → R d (updates means entries env a d r us)
    updates_kept env a d ns r end_updates g m h f = h
    updates_kept env a d ns r (update ks t us) g m h f =
        let k = keys_kept env a d ns ks g m f.0 in
        let w : Both = along r (keys means entries env a d ks) in
        let v = core_kept env (d, w) d ns t g (omega arith, fold_kept d Apply r (keys means entries env a d ks) h k) f.1 in
        updates_kept env a d ns (updated r (keys means entries env a d ks) (core means entries env (d, w) d t)) us g m (updated_kept d r (keys means entries env a d ks) (core means entries env (d, w) d t) h k v) f.2

    keys_kept : (env : Env) (a : Standing) (d : ℕ) (ns : List ℕ) (ks : Keys) → Good d env ns → GoodStanding d a → KeysFine means Asked Sign ns ks → All_ d (keys means entries env a d ks)
    keys_kept env a d ns end_keys g m f = tt
    keys_kept env a d ns (key t ks) g m f = (core_kept env a d ns t g m f.0, keys_kept env a d ns ks g m f.1)
    keys_kept env a d ns (field_key h ks) g m f = (leaf_kept, keys_kept env a d ns ks g m f)

    definitions_good : (env : Env) (a : Standing) (d : ℕ) (ns : List ℕ) (ds : Defs) → Good d env ns → GoodStanding d a → DefsFine means Asked Sign ns ds → Good d (with_definitions means entries a ds env) (with_locals means ns ds)
    definitions_good env a d ns end_defs g m f = g
    definitions_good env a d ns (def w ps t p ds) g m f =
        let body : Meaning = given (λ e args. core means entries (with_arguments means entries e ps args env) a e t) in
        let h : GoodAt d false (Some body) = λ e args le h. core_kept (with_arguments means entries e ps args env) a e (with_decls means ns ps) t (arguments_good e ps args env ns h (more d e env ns le g)) (standing_more d e a le m) f.0 in
        definitions_good (known_as (means p) body env) a d (listed (means p) ns) ds (added d (means p) body env ns (λ b. h) g) m f.1

-- ---- scopes and symbols

module _ (P : Sym → ℕ → Type 0) where
  mutual
    Only-shift : (c k : ℕ) (e : Tree) → Only P e → Only P (shift c k e)
    Only-shift c k (bound i) h = tt
    Only-shift c k (app f ps) h = (subst (P f) (sym (size-shifts c k ps)) h.0, AllOnly-shifts c k ps h.1)
    Only-shift c k (node f ns ps) h = AllOnly-shifts c k ps h
    Only-shift c k (bind b ps e) h = (AllOnly-shifts c k ps h.0, Only-shift (suc c) k e h.1)

    AllOnly-shifts : (c k : ℕ) (ps : Parts) → AllOnly P ps → AllOnly P (shifts c k ps)
    AllOnly-shifts c k parts.end h = tt
    AllOnly-shifts c k (parts.part e ps) h = (Only-shift c k e h.0, AllOnly-shifts c k ps h.1)

  -- ---- n: the loose variables outside
  module _ (means : Place → Option ℕ) (entries : List Entry) (n : ℕ) where
    abbrev IsTree : ℕ → Tree → Type 0
    IsTree d t = IsScoped (n + d) t × Only P t

    record IsBoth (d : ℕ) (b : Both) : Type 0 where
      pub plain : IsTree d b.plain
      pub primed : IsTree d b.primed

    abbrev AreTrees : ℕ → List Tree → Type 0
    AreTrees d [] = Unit {0}
    AreTrees d (t ∷ ts) = IsTree d t × AreTrees d ts

    all_plain : (d : ℕ) (bs : List Both) → AllR IsBoth d bs → AreTrees d (plains bs)
    all_plain d [] h = tt
    all_plain d (b ∷ bs) h = (h.0.plain, all_plain d bs h.1)

    all_primed : (d : ℕ) (bs : List Both) → AllR IsBoth d bs → AreTrees d (primeds bs)
    all_primed d [] h = tt
    all_primed d (b ∷ bs) h = (h.0.primed, all_primed d bs h.1)

    all_flagged : (d : ℕ) (fs : List Bool) (bs : List Both) → AllR IsBoth d bs → AreTrees d (flagged fs bs)
    all_flagged d [] bs h = tt
    all_flagged d (f ∷ fs) [] h = tt
    all_flagged d (true ∷ fs) (b ∷ bs) h = (h.0.primed, all_flagged d fs bs h.1)
    all_flagged d (false ∷ fs) (b ∷ bs) h = all_flagged d fs bs h.1

    all_append : (d : ℕ) (xs ys : List Tree) → AreTrees d xs → AreTrees d ys → AreTrees d (xs ++ ys)
    all_append d [] ys h k = k
    all_append d (x ∷ xs) ys h k = (h.0, all_append d xs ys h.1 k)

    length-flagged : (fs : List Bool) (bs : List Both) → length (flagged fs bs) ≡ flags_in means entries (take (length bs) fs)
    length-flagged [] [] = refl
    length-flagged [] (b ∷ bs) = refl
    length-flagged (f ∷ fs) [] = refl
    length-flagged (true ∷ fs) (b ∷ bs) = ap suc (length-flagged fs bs)
    length-flagged (false ∷ fs) (b ∷ bs) = length-flagged fs bs

    parts_tree : (d : ℕ) (ts : List Tree) → AreTrees d ts → AreScoped (n + d) (parts_of ts) × AllOnly P (parts_of ts)
    parts_tree d [] h = (tt, tt)
    parts_tree d (t ∷ ts) h = let r = parts_tree d ts h.1 in ((h.0.0, r.0), (h.0.1, r.1))

    applied_tree : (d : ℕ) (k : SymKind) (m j : ℕ) (ts : List Tree) → length ts ≡ j → OfKind P k m j → AreTrees d ts → IsTree d (applied k m ts)
    applied_tree d k m j ts e p h =
        let r = parts_tree d ts h in
        (r.0, (subst (P (record { kind = k; number = m; arity = length ts })) (sym (size-parts_of ts)) (subst (λ (i : ℕ). OfKind P k m i) (sym e) p), r.1))

    bind_tree : (d : ℕ) (b : Binder) (ts : List Tree) (e : Tree) → AreTrees d ts → IsTree (suc d) e → IsTree d (bind b (parts_of ts) e)
    bind_tree d b ts e g h =
        let r = parts_tree d ts g in
        let q : n + suc d ≡ suc (n + d) = omega arith in
        ((r.0, subst (λ (i : ℕ). IsScoped i e) q h.0), (r.1, h.1))

    lift_tree : (d c : ℕ) (t : Tree) → c ≤ d → IsTree c t → IsTree d (shift 0 (d - c) t)
    lift_tree d c t q h = (IsScoped-shift (n + c) 0 (d - c) (n + d) t (omega arith) h.0, Only-shift 0 (d - c) t h.1)

    constant_both : (d m : ℕ) (bs : List Both) → OfKind P kinds.Constant m (length bs) → AllR IsBoth d bs → IsBoth d (constant m bs)
    constant_both d m bs p h = record {
      plain = applied_tree d kinds.Constant m (length bs) (plains bs) (length-map bs (λ (a : Both). a.plain)) p (all_plain d bs h);
      primed = applied_tree d kinds.Constant m (length bs) (primeds bs) (length-map bs (λ (a : Both). a.primed)) p (all_primed d bs h);
    }

    sort_both : (d : ℕ) (s : EntrySort) (e : Entry) (m : ℕ) (bs : List Both) → OfSort P means entries s e m (length bs) → AllR IsBoth d bs → IsBoth d (by_sort s e m bs)
    sort_both d sorts.State e m bs p h = record {
      plain = applied_tree d kinds.State m (length bs) (plains bs) (length-map bs (λ (a : Both). a.plain)) p.0 (all_plain d bs h);
      primed = applied_tree d kinds.Primed m (length bs) (primeds bs) (length-map bs (λ (a : Both). a.primed)) p.1 (all_primed d bs h);
    }
    sort_both d sorts.Definition e m bs p h =
        let more : List Tree = flagged e.primed bs in
        let j : ℕ = length bs + flags_in means entries (take (length bs) e.primed) in
        let known = all_flagged d e.primed bs h in
        record {
          plain = applied_tree d kinds.Defined m j (plains bs ++ more) (length-append (plains bs) more ∙ (λ i. length-map bs (λ (a : Both). a.plain) i + length-flagged e.primed bs i)) p.0 (all_append d (plains bs) more (all_plain d bs h) known);
          primed = applied_tree d (second_kind e.level) m j (primeds bs ++ more) (length-append (primeds bs) more ∙ (λ i. length-map bs (λ (a : Both). a.primed) i + length-flagged e.primed bs i)) p.1 (all_append d (primeds bs) more (all_primed d bs h) known);
        }
    sort_both d s e m bs p h = constant_both d m bs p h

    keeps : Keeps entries (OfEntry P means entries) (OfKind P kinds.Constant) IsBoth
    keeps = record {
      variables = λ d. record { plain = (omega arith, tt); primed = (omega arith, tt) };
      nodes = λ d h ns bs g. record { plain = parts_tree d (plains bs) (all_plain d bs g); primed = parts_tree d (primeds bs) (all_primed d bs g) };
      binders = λ d b ss e g h. record { plain = bind_tree d b (plains ss) e.plain (all_plain d ss g) h.plain; primed = bind_tree d b (primeds ss) e.primed (all_primed d ss g) h.primed };
      lifts = λ d c b q h. record { plain = lift_tree d c b.plain q h.plain; primed = lift_tree d c b.primed q h.primed };
      primes = λ d b h. record { plain = h.primed; primed = h.primed };
      names = λ d m bs p h. sort_both d (entry_of entries m).sort (entry_of entries m) m bs p h;
      signs = constant_both;
    }

    true_both : (d : ℕ) → IsBoth d (same true_)
    true_both d = record { plain = (tt, tt); primed = (tt, tt) }

    is_over : (b : Both) → IsBoth 0 b → IsOver P n b
    is_over b h =
        let e : n + 0 ≡ n = omega arith in
        record {
          plain_scoped = subst (λ (i : ℕ). IsScoped i b.plain) e h.plain.0;
          plain_only = h.plain.1;
          primed_scoped = subst (λ (i : ℕ). IsScoped i b.primed) e h.primed.0;
          primed_only = h.primed.1;
        }

    variable_both : (i j : ℕ) → i < n → j < n → IsBoth 0 (record { plain = bound i; primed = bound j })
    variable_both i j p q = record { plain = (omega arith, tt); primed = (omega arith, tt) }

    loose_both : (left more : ℕ) (fs : List Bool) → left ≤ n → more ≤ n → length fs ≤ left → flags_in means entries fs ≤ more → AllR IsBoth 0 (loose means entries left more fs)
    loose_both left more [] p q r s = tt
    loose_both left more (true ∷ fs) p q r s =
        (variable_both (left - 1) (more - 1) (omega arith) (omega arith), loose_both (left - 1) (more - 1) fs (omega arith) (omega arith) (omega arith) (omega arith))
    loose_both left more (false ∷ fs) p q r s =
        (variable_both (left - 1) (left - 1) (omega arith) (omega arith), loose_both (left - 1) more fs (omega arith) q (omega arith) s)

-- for any P, decided or not
pub core_over : (P : Sym → ℕ → Type 0) (means : Place → Option ℕ) (entries : List Entry) (t : Term) → SymbolsFine P means entries [] t → IsOver P 0 (core_of means entries t)
unfolding core_of
core_over P means entries t f =
    let asked : ℕ → ℕ → Type 0 = OfEntry P means entries in
    let k = keeps P means entries 0 in
    is_over P means entries 0 (core_of means entries t)
    (core_kept means entries asked (OfKind P kinds.Constant) (IsBoth P means entries 0) k [] (nothing means entries) 0 [] t
    (λ n. refl) (omega arith, true_both P means entries 0 0) f)

pub bodies_over : (P : Sym → ℕ → Type 0) (means : Place → Option ℕ) (entries : List Entry) (e : Entry) (ds : List Decl) (t : Term) → length e.primed ≡ length ds
    → SymbolsFine P means entries (with_decls means [] ds) t → IsOver P (length ds + flags_in means entries e.primed) (bodies means entries e ds t)
unfolding bodies
bodies_over P means entries e ds t l f =
    let asked : ℕ → ℕ → Type 0 = OfEntry P means entries in
    let sign : ℕ → ℕ → Type 0 = OfKind P kinds.Constant in
    let more : ℕ = flags_in means entries e.primed in
    let n : ℕ = length ds + more in
    let k = keeps P means entries n in
    let as_ : List Both = loose means entries n more e.primed in
    let h : AllR (IsBoth P means entries n) 0 as_ = loose_both P means entries n n more e.primed (omega arith) (omega arith) (omega arith) (omega arith) in
    is_over P means entries n (bodies means entries e ds t)
    (core_kept means entries asked sign (IsBoth P means entries n) k (with_arguments means entries 0 ds as_ []) (nothing means entries) 0 (with_decls means [] ds) t
    (arguments_good means entries asked sign (IsBoth P means entries n) k 0 ds as_ [] [] h (λ i. refl))
    (omega arith, true_both P means entries n 0) f)

pub core_is_closed : CoreIsClosed
core_is_closed test = core_over (Holds test)

pub bodies_are_scoped : BodiesAreScoped
bodies_are_scoped test = bodies_over (Holds test)

-- ---- primes

abbrev IsOwn : ℕ → Both → Type 0
IsOwn d b = b.plain ≡ b.primed

own_parts : (d : ℕ) (bs : List Both) → AllR IsOwn d bs → plains bs ≡ primeds bs
own_parts d [] h = refl
own_parts d (b ∷ bs) h = λ i. h.0 i ∷ own_parts d bs h.1 i

own_sort : (d : ℕ) (s : EntrySort) (e : Entry) (m : ℕ) (bs : List Both) → HasConstantSort s e → plains bs ≡ primeds bs → IsOwn d (by_sort s e m bs)
own_sort d sorts.State e m bs p h = absurd p
own_sort d sorts.Definition e m bs p h = λ i. applied (second_kind (sym p i)) m (h i ++ flagged e.primed bs)
own_sort d s e m bs p h = ap (applied kinds.Constant m) h

own_keeps : (entries : List Entry) → Keeps entries (IsConstant entries) (λ n k. Unit {0}) IsOwn
own_keeps entries = record {
  variables = λ d. refl;
  nodes = λ d h ns bs g. ap (λ ts. node h ns (parts_of ts)) (own_parts d bs g);
  binders = λ d b ss e g h. (λ i. bind b (parts_of (own_parts d ss g i)) (h i));
  lifts = λ d c b q h. ap (shift 0 (d - c)) h;
  primes = λ d b h. refl;
  names = λ d m bs p h. own_sort d (entry_of entries m).sort (entry_of entries m) m bs p (own_parts d bs h);
  signs = λ d m bs p h. ap (applied kinds.Constant m) (own_parts d bs h);
}

pub constant_is_its_prime : ConstantIsItsPrime
unfolding core_of
constant_is_its_prime means entries t f =
    core_kept means entries (IsConstant entries) (λ n k. Unit {0}) IsOwn (own_keeps entries) [] (nothing means entries) 0 [] t
    (λ n. refl) (omega arith, refl) f
