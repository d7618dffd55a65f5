-- A walk over an expression that ends without faults leaves every name bound or in scope.
use Rattle.std.specs.Prelude.{◌≡◌, ℕ, ◌<◌, ◌≤◌, Bool, true, false, ◌&&◌, ◌||◌, ◌⊎◌, nat_eq, if◌then◌else◌, List, [], ◌∷◌, ◌++◌, length, take, Option, Some, None, codes}
use Rattle.std.proofs.Common.{refl, ap, sym, ◌∙◌, arith, subst, inl, inr}
use Rattle.std.proofs.Math.Seq.{get_or-append_seam}
use Rattle.core_expr.specs.Equal.{nat-same, nat-refl}
use Rattle.std.proofs.lemmas.Cmp.{nat_eq_equiv}
use Rattle.tla_ast.specs.declared.place.Place.{Place}
use Rattle.tla_ast.specs.declared.fault.Kind.{Kind}
use Rattle.tla_ast.specs.declared.fault.Kind.TheVariants as kind
use Rattle.tla_ast.specs.declared.tree.Decl.{Decl}
use Rattle.core_expr.specs.declared.head.Head.TheVariants.{True, False, Boolean}
use Rattle.plain_syntax.specs.Plain.{Text, Term, Terms, Updates, Keys, Groups, Defs}
use Rattle.plain_syntax.specs.Plain.Term.{term}
use Rattle.plain_syntax.specs.Plain.Terms.{none, part}
use Rattle.plain_syntax.specs.Plain.Shape.{name, call, prefixed, infixed, filter, image, function, except, fields, field_sets, quantifier, choice, local}
use Rattle.plain_syntax.specs.Plain.Updates.{end_updates, update}
use Rattle.plain_syntax.specs.Plain.Keys.{end_keys, key, field_key}
use Rattle.plain_syntax.specs.Plain.Groups.{end_groups, free, within}
use Rattle.plain_syntax.specs.Plain.Defs.{end_defs, def}
use Rattle.symbol_table.specs.declared.entry.Entry.{Entry}
use Rattle.symbol_table.specs.declared.entry.EntrySort.TheVariants as sorts
use Rattle.symbol_table.specs.Symbols.{symbol_at, noted}
use Rattle.symbol_table.specs.Scoped.{entry_of, unlisted}
use Rattle.expression_level.specs.Levels.{is_word, Applied, declared_level, definition_level}
use Rattle.expression_level.specs.Primed.{primed_parameters}
use Rattle.expression_level.specs.Store.{flags_of}
use Rattle.module_scope.specs.Scope.{found}
use Rattle.module_scope.specs.Names.{Book, Walk, scope_of, entries_of, levels_of, symbols_of, faults_of, left, inside, each, entry, means, refused, stands, fresh, fresh_as, entered, declare_name, is_fact, is_library_sort, used, used_as, is_value, named, of_sort, operator, bind_names, bound, defined, has_field, with_head, head_names, names, all_names, bound_names, set_names, update_names, key_names, field_names, definitions, ◌>>◌}
use Rattle.module_scope.specs.Names.Book.{book}
use Rattle.prime_expand.specs.Symbols.{head_in, values, is_listed, library_signs}
use Rattle.prime_expand.specs.Fine.{has_number, listed, count, with_decls, with_bounds, with_locals, NameFine, SignFine, Fine, AllFine, OverFine, ValuesFine, SetsFine, UpdatesFine, KeysFine, DefsFine}
use Rattle.name_places.specs.Places.{Apart, decl_places, bound_places, places, all_places, over_places, value_places, set_places, update_places, key_places, definition_places}
use Rattle.proof_assembly.specs.States.{IsPrefix, Each, Free}
use Rattle.proof_assembly.proofs.Walks.{has_left, has_right, prefix_self, prefix_over, prefix_take, get_prefix, length_last, not_empty, each_found, each_map, each_append, symbol_prefix, noted_here, noted_apart, noted_prefix, free_left, free_right}

pub clash : {A : Type 0} (b : Bool) → b ≡ true → b ≡ false → A
clash b h k = absurd (no b h k)
  where
    no : (b : Bool) → b ≡ true → b ≡ false → ⊥
    no b h k = cc

below : (n a b : ℕ) → n < a → a ≤ b → n < b
below n a b h k = omega arith

-- E: what is declared at the end; Y: what the names of the module mean at its end; Outer: the numbers in scope outside
module _ (E : List Entry) (Y : List (Place × ℕ)) (Outer : ℕ → Type 0) where
  abbrev pub meant : Place → Option ℕ
  meant = symbol_at Y

  pub record Reaches (b : Book) : Type 0 where
    pub entries : IsPrefix (entries_of b) E
    pub symbols : IsPrefix (symbols_of b) Y
    pub no_fault : faults_of b ≡ []

  -- a number in scope is bound here, or declared outside
  abbrev pub IsHere : ℕ → List ℕ → ℕ → Type 0
  IsHere l ns n = (n < l) × (((has_number ns n ≡ true) × (is_library_sort (entry_of E n).sort ≡ false)) ⊎ Outer n)

  abbrev pub Inv : Book → List ℕ → Type 0
  Inv b ns = Each (IsHere (length (entries_of b)) ns) (scope_of b)

  -- from b to c, where the names stand at these places; F: what is said of them where these numbers are bound; add: what is bound after
  pub record Result (b c : Book) (ps : List Place) (F : List ℕ → Type 0) (add : List ℕ → List ℕ) : Type 0 where
    pub back : Reaches b
    pub scope : IsPrefix (scope_of b) (scope_of c)
    pub longer : length (entries_of b) ≤ length (entries_of c)
    pub keeps : (q : Place) → Apart q ps → symbol_at (symbols_of c) q ≡ symbol_at (symbols_of b) q
    pub inv : (ns : List ℕ) → Free (symbols_of b) ps → Inv b ns → Inv c (add ns)
    pub fine : (ns : List ℕ) → Free (symbols_of b) ps → Inv b ns → F ns

  abbrev pub same : List ℕ → List ℕ
  same ns = ns

  abbrev pub Nothing : List ℕ → Type 0
  Nothing ns = Unit {0}

  pub refused_never : {A : Type 0} (k : Kind) (p : Place) (b : Book) → Reaches (refused k p b) → A
  refused_never {A = A} k p (book ss es ls ys fs) h = not_empty fs (p, k) A h.no_fault

  pub longer_inv : (b c : Book) (ns : List ℕ) → scope_of c ≡ scope_of b → length (entries_of b) ≤ length (entries_of c) → Inv b ns → Inv c ns
  longer_inv b c ns e l i =
      subst (Each (IsHere (length (entries_of c)) ns)) (sym e)
      (each_map (IsHere (length (entries_of b)) ns) (IsHere (length (entries_of c)) ns) (scope_of b) (λ n h. (below n (length (entries_of b)) (length (entries_of c)) h.0 l, h.1)) i)

  pub then_ : {b c d : Book} {ps qs : List Place} {F G : List ℕ → Type 0} {add more : List ℕ → List ℕ}
      → Result b c ps F add → Result c d qs G more → Result b d (ps ++ qs) (λ ns. F ns × G (add ns)) (λ ns. more (add ns))
  then_ {b = b} {c = c} {d = d} {ps = ps} {qs = qs} {add = add} p q = record {
    back = p.back;
    scope = prefix_over (scope_of b) (scope_of c) (scope_of d) p.scope q.scope;
    longer = over (length (entries_of b)) (length (entries_of c)) (length (entries_of d)) p.longer q.longer;
    keeps = λ r h. q.keeps r (λ x k. h x (has_right ps qs x k)) ∙ p.keeps r (λ x k. h x (has_left ps qs x k));
    inv = λ ns f i. q.inv (add ns) (free_right (symbols_of b) (symbols_of c) ps qs p.keeps f) (p.inv ns (free_left (symbols_of b) ps qs f) i);
    fine = λ ns f i. (p.fine ns (free_left (symbols_of b) ps qs f) i, q.fine (add ns) (free_right (symbols_of b) (symbols_of c) ps qs p.keeps f) (p.inv ns (free_left (symbols_of b) ps qs f) i));
  }
    where
      over : (a b c : ℕ) → a ≤ b → b ≤ c → a ≤ c
      over a b c p q = omega arith

  pub as_ : {b c : Book} {ps : List Place} {F G : List ℕ → Type 0} {add : List ℕ → List ℕ} → Result b c ps F add → ((ns : List ℕ) → F ns → G ns) → Result b c ps G add
  as_ p f = record { back = p.back; scope = p.scope; longer = p.longer; keeps = p.keeps; inv = p.inv; fine = λ ns u i. f ns (p.fine ns u i) }

  pub stay : (b : Book) (ps : List Place) (F : List ℕ → Type 0) → Reaches b → ((ns : List ℕ) → F ns) → Result b b ps F same
  stay b ps F h f = record { back = h; scope = prefix_self (scope_of b); longer = omega arith; keeps = λ q k. refl; inv = λ ns u i. i; fine = λ ns u i. f ns }

  pub left_back : (n : ℕ) (b : Book) → Reaches (left n b) → Reaches b
  left_back n (book ss es ls ys fs) h = record { entries = h.entries; symbols = h.symbols; no_fault = h.no_fault }

  pub inside_walk : (f : Walk) (b : Book) {ps : List Place} {F : List ℕ → Type 0} {add : List ℕ → List ℕ} → Result b (f b) ps F add → Result b (inside f b) ps F same
  inside_walk f b {ps = ps} {F = F} {add = add} = go (f b)
    where
      go : (c : Book) → Result b c ps F add → Result b (left (length (scope_of b)) c) ps F same
      go (book ss es ls ys fs) p =
          let e = prefix_take (scope_of b) ss p.scope in
          record {
            back = p.back;
            scope = subst (IsPrefix (scope_of b)) (sym e) (prefix_self (scope_of b));
            longer = p.longer;
            keeps = p.keeps;
            inv = λ ns u i. longer_inv b (book (take (length (scope_of b)) ss) es ls ys fs) ns e p.longer i;
            fine = p.fine;
          }

  -- where a test decides whether a name is refused
  refused_where : (t : Bool) (k : Kind) (p : Place) (b c : Book) (R : Book → Type 0) → Reaches (if t then refused k p b else c) → (t ≡ false → Reaches c → R c) → R (if t then refused k p b else c)
  refused_where true k p b c R h f = refused_never k p b h
  refused_where false k p b c R h f = f refl h

  refused_unless : (t : Bool) (k : Kind) (p : Place) (b c : Book) (R : Book → Type 0) → Reaches (if t then c else refused k p b) → (t ≡ true → Reaches c → R c) → R (if t then c else refused k p b)
  refused_unless true k p b c R h f = f refl h
  refused_unless false k p b c R h f = refused_never k p b h

  pub stands_walk : (n : ℕ) (p : Place) (b : Book) (F : List ℕ → Type 0) → Reaches (stands n p b) → ((ns : List ℕ) → Reaches b → Inv b ns → meant p ≡ Some n → F ns) → Result b (stands n p b) (p ∷ []) F same
  stands_walk n p (book ss es ls ys fs) F h f =
      let back : Reaches (book ss es ls ys fs) = record { entries = h.entries; symbols = noted_prefix p n ys Y h.symbols; no_fault = h.no_fault } in
      record {
        back = back;
        scope = prefix_self ss;
        longer = omega arith;
        keeps = λ q k. noted_apart p q n ys (k p (inl refl));
        inv = λ ns u i. i;
        fine = λ ns u i. f ns back i (symbol_prefix (noted p n ys) Y p n h.symbols (noted_here p n ys (u.unnoted p (inl refl))));
      }

  -- what the book says of a number in scope holds at the end
  at_end : (b : Book) (n : ℕ) → Reaches b → n < length (entries_of b) → entry_of E n ≡ entry b n
  at_end b n h l = get_prefix unlisted (entries_of b) E n h.entries l

  -- ---- declarations

  -- after the test that the name is free
  freed : (w : Text) (p : Place) (b : Book) (R : Book → Type 0) → Reaches (fresh w p b) → R b → R (fresh w p b)
  freed w p b R h r = go (found w (scope_of b)) h
    where
      go : (o : Option ℕ) → Reaches (fresh_as o w p b) → R (fresh_as o w p b)
      go None h = r
      go (Some n) h = refused_never (kind.Redeclared w) p b h

  fresh_is : (w : Text) (p : Place) (b : Book) → Reaches (fresh w p b) → fresh w p b ≡ b
  fresh_is w p b h = freed w p b (λ c. c ≡ b) h refl

  -- a declaration is bound from then on, or is one that stands outside of expressions
  pub entered_walk : (e : Entry) (f : Applied) (p : Place) (b : Book) (add : List ℕ → List ℕ) → is_library_sort e.sort ≡ false
      → ((ns : List ℕ) (k : ℕ) → has_number ns k ≡ true → has_number (add ns) k ≡ true) → ((ns : List ℕ) (n : ℕ) → meant p ≡ Some n → (has_number (add ns) n ≡ true) ⊎ Outer n)
      → Reaches (entered e f p b) → Result b (entered e f p b) (p ∷ []) Nothing add
  entered_walk e f p (book ss es ls ys fs) add s more new h = record {
    back = record { entries = prefix_over es (es ++ e ∷ []) E (e ∷ [], refl) h.entries; symbols = noted_prefix p (length es) ys Y h.symbols; no_fault = h.no_fault };
    scope = ((e.name, length es) ∷ [], refl);
    longer = subst (λ (n : ℕ). length es ≤ n) (sym (length_last es e)) (omega arith);
    keeps = λ q k. noted_apart p q (length es) ys (k p (inl refl));
    inv = λ ns u i. each_append (IsHere (length (es ++ e ∷ [])) (add ns)) ss ((e.name, length es) ∷ [])
        (each_map (IsHere (length es) ns) (IsHere (length (es ++ e ∷ [])) (add ns)) ss (λ k x. before ns k x) i)
        (here ns (new ns (length es) (symbol_prefix (noted p (length es) ys) Y p (length es) h.symbols (noted_here p (length es) ys (u.unnoted p (inl refl))))), tt);
    fine = λ ns u i. tt;
  }
    where
      is : entry_of E (length es) ≡ e
      is = get_prefix unlisted (es ++ e ∷ []) E (length es) h.entries (subst (λ (n : ℕ). length es < n) (sym (length_last es e)) (omega arith)) ∙ get_or-append_seam es e [] unlisted

      before : (ns : List ℕ) (k : ℕ) → IsHere (length es) ns k → IsHere (length (es ++ e ∷ [])) (add ns) k
      before ns k (l, inl x) = (subst (λ (n : ℕ). k < n) (sym (length_last es e)) (omega arith), inl (more ns k x.0, x.1))
      before ns k (l, inr x) = (subst (λ (n : ℕ). k < n) (sym (length_last es e)) (omega arith), inr x)

      here : (ns : List ℕ) → (has_number (add ns) (length es) ≡ true) ⊎ Outer (length es) → IsHere (length (es ++ e ∷ [])) (add ns) (length es)
      here ns (inl x) = (subst (λ (n : ℕ). length es < n) (sym (length_last es e)) (omega arith), inl (x, ap (λ (y : Entry). is_library_sort y.sort) is ∙ s))
      here ns (inr x) = (subst (λ (n : ℕ). length es < n) (sym (length_last es e)) (omega arith), inr x)

  listed_more : (o : Option ℕ) (ns : List ℕ) (k : ℕ) → has_number ns k ≡ true → has_number (listed o ns) k ≡ true
  listed_more None ns k h = h
  listed_more (Some n) ns k h = or_true (nat_eq n k) (has_number ns k) h
    where
      or_true : (a b : Bool) → b ≡ true → a || b ≡ true
      or_true true b h = refl
      or_true false b h = h

  listed_here : (o : Option ℕ) (ns : List ℕ) (n : ℕ) → o ≡ Some n → has_number (listed o ns) n ≡ true
  listed_here o ns n e = subst (λ (q : Option ℕ). has_number (listed q ns) n ≡ true) (sym e) (ap (λ b. b || has_number ns n) (nat-refl n))

  -- a declaration inside of an expression
  local_walk : (e : Entry) (f : Applied) (p : Place) (b : Book) → is_library_sort e.sort ≡ false → Reaches (entered e f p b) → Result b (entered e f p b) (p ∷ []) Nothing (listed (meant p))
  local_walk e f p b s h = entered_walk e f p b (listed (meant p)) s (listed_more (meant p)) (λ ns n m. inl (listed_here (meant p) ns n m)) h

  bound_walk : (w : Text) (p : Place) (b : Book) → Reaches (bound w p b) → Result b (bound w p b) (p ∷ []) Nothing (listed (meant p))
  bound_walk w p b h =
      let r = local_walk (record { name = w; sort = sorts.Bound; arity = 0; level = 0; primed = [] }) (declared_level 0 false) p (fresh w p b) refl h in
      subst (λ (x : Book). Result x (bound w p b) (p ∷ []) Nothing (listed (meant p))) (fresh_is w p b r.back) r

  decls_walk : (ds : List Decl) (b : Book) → Reaches (each (declare_name sorts.Bound 0) ds b) → Result b (each (declare_name sorts.Bound 0) ds b) (decl_places ds) Nothing (λ ns. with_decls meant ns ds)
  decls_walk [] b h = stay b [] Nothing h (λ ns. tt)
  decls_walk (d ∷ ds) b h = let q = decls_walk ds (declare_name sorts.Bound 0 d b) h in as_ (then_ (bound_walk d.name d.place b q.back) q) (λ ns x. tt)

  groups_walk : (gs : Groups) (b : Book) → Reaches (bind_names sorts.Bound gs b) → Result b (bind_names sorts.Bound gs b) (bound_places gs) Nothing (λ ns. with_bounds meant ns gs)
  groups_walk end_groups b h = stay b [] Nothing h (λ ns. tt)
  groups_walk (free ds gs) b h = let q = groups_walk gs (each (declare_name sorts.Bound 0) ds b) h in as_ (then_ (decls_walk ds b q.back) q) (λ ns x. tt)
  groups_walk (within ds t gs) b h = let q = groups_walk gs (each (declare_name sorts.Bound 0) ds b) h in as_ (then_ (decls_walk ds b q.back) q) (λ ns x. tt)

  definition_entry : Text → List Decl → Term → Book → Entry
  definition_entry w ds t b = record { name = w; sort = sorts.Definition; arity = length ds; level = (definition_level (means b) (levels_of b) ds t []).0; primed = primed_parameters (means b) (flags_of (entries_of b)) ds t }

  defined_walk : (w : Text) (ds : List Decl) (t : Term) (p : Place) (b : Book) → Reaches (defined w ds t p b) → Result b (defined w ds t p b) (p ∷ []) Nothing (listed (meant p))
  unfolding definition_entry
  defined_walk w ds t p b h = local_walk (definition_entry w ds t b) (definition_level (means b) (levels_of b) ds t) p b refl h

  -- ---- names that are used

  module _ (Asked Sign : ℕ → ℕ → Type 0)
      (plain : (n k : ℕ) → Outer n → is_fact (entry_of E n).sort ≡ false → (entry_of E n).arity ≡ k → Asked n k)
      (sign : (n k : ℕ) → Outer n → is_library_sort (entry_of E n).sort ≡ true → Sign n k)
      (string : (k : ℕ) → Asked 0 k) where
    used_walk : (w : Text) (k : ℕ) (p : Place) (b : Book) → Reaches (used w k p b) → Result b (used w k p b) (p ∷ []) (λ ns. NameFine meant Asked Sign ns (meant p) k) same
    used_walk w k p b = go (found w (scope_of b)) refl
      where
        R : Book → Type 0
        R c = Result b c (p ∷ []) (λ ns. NameFine meant Asked Sign ns (meant p) k) same

        outer : (ns : List ℕ) (n : ℕ) → Reaches b → IsHere (length (entries_of b)) ns n → has_number ns n ≡ false → is_fact (entry b n).sort ≡ false → nat_eq (entry b n).arity k ≡ true → Asked n k
        outer ns n r (l, inl x) u f a = clash (has_number ns n) x.0 u
        outer ns n r (l, inr x) u f a =
            let q = at_end b n r l in
            plain n k x (ap (λ (y : Entry). is_fact y.sort) q ∙ f) (ap (λ (y : Entry). y.arity) q ∙ nat-same (entry b n).arity k a)

        go : (o : Option ℕ) → found w (scope_of b) ≡ o → Reaches (used_as o w k p b) → R (used_as o w k p b)
        go None e h = refused_never (kind.Unknown w) p b h
        go (Some n) e h =
            refused_where (is_fact (entry b n).sort) (kind.Unknown w) p b (if nat_eq (entry b n).arity k then stands n p b else refused (kind.Arity w) p b) R h (λ f g.
            refused_unless (nat_eq (entry b n).arity k) (kind.Arity w) p b (stands n p b) R g (λ a j.
            stands_walk n p b (λ ns. NameFine meant Asked Sign ns (meant p) k) j (λ ns r i m.
            subst (λ (q : Option ℕ). NameFine meant Asked Sign ns q k) (sym m) (λ u. outer ns n r (each_found (IsHere (length (entries_of b)) ns) w n (scope_of b) i e) u f a))))

    -- the words for values are those that the other table has
    is_no_value : (w : Text) → head_in values w ≡ None → is_value w ≡ false
    is_no_value w = go (is_word (codes "TRUE") w) (is_word w (codes "TRUE")) (is_word (codes "FALSE") w) (is_word w (codes "FALSE")) (is_word (codes "BOOLEAN") w) (is_word w (codes "BOOLEAN")) (turned (codes "TRUE") w) (turned (codes "FALSE") w) (turned (codes "BOOLEAN") w)
      where
        turned : (v w : Text) → is_word v w ≡ is_word w v
        turned [] [] = refl
        turned [] (x ∷ w) = refl
        turned (x ∷ v) [] = refl
        turned (x ∷ v) (y ∷ w) = both (nat_eq x y) (nat_eq y x) (is_word v w) (is_word w v) (nat_eq_equiv.symm x y) (turned v w)
          where
            both : (a b c d : Bool) → a ≡ b → c ≡ d → a && c ≡ (b && d)
            both a b c d p q = λ i. p i && q i

        go : (a b c d e f : Bool) → a ≡ b → c ≡ d → e ≡ f → (if a then Some True else (if c then Some False else (if e then Some Boolean else None))) ≡ None → b || d || f ≡ false
        go true b c d e f p q r h = cc
        go false b true d e f p q r h = cc
        go false b false d true f p q r h = cc
        go false b false d false f p q r h = cc

    named_walk : (w : Text) (k : ℕ) (p : Place) (b : Book) → Reaches (named w k p b) → Result b (named w k p b) (p ∷ []) (λ ns. head_in values w ≡ None → NameFine meant Asked Sign ns (meant p) k) same
    named_walk w k p b h = go (is_value w) refl h
      where
        second : (c : Bool) → Reaches (if c then stands 0 p b else used w k p b) → Result b (if c then stands 0 p b else used w k p b) (p ∷ []) (λ ns. NameFine meant Asked Sign ns (meant p) k) same
        second true h = stands_walk 0 p b (λ ns. NameFine meant Asked Sign ns (meant p) k) h (λ ns r i m. subst (λ (o : Option ℕ). NameFine meant Asked Sign ns o k) (sym m) (λ u. string k))
        second false h = used_walk w k p b h

        go : (c : Bool) → is_value w ≡ c → Reaches (if c then b else (if is_word w (codes "STRING") then stands 0 p b else used w k p b)) → Result b (if c then b else (if is_word w (codes "STRING") then stands 0 p b else used w k p b)) (p ∷ []) (λ ns. head_in values w ≡ None → NameFine meant Asked Sign ns (meant p) k) same
        go true e h = stay b (p ∷ []) (λ ns. head_in values w ≡ None → NameFine meant Asked Sign ns (meant p) k) h (λ ns u. clash (is_value w) e (is_no_value w u))
        go false e h = as_ (second (is_word w (codes "STRING")) h) (λ ns x u. x)

    operator_walk : (w shown : Text) (k : ℕ) (p : Place) (b : Book) → Reaches (operator w shown p b) → Result b (operator w shown p b) (p ∷ []) (λ ns. SignFine meant Asked Sign (meant p) k) same
    operator_walk w shown k p b = go (found w (scope_of b)) refl
      where
        outer : (ns : List ℕ) (n : ℕ) → Reaches b → IsHere (length (entries_of b)) ns n → is_library_sort (entry b n).sort ≡ true → Sign n k
        outer ns n r (l, inl x) f = clash (is_library_sort (entry_of E n).sort) (ap (λ (y : Entry). is_library_sort y.sort) (at_end b n r l) ∙ f) x.1
        outer ns n r (l, inr x) f = sign n k x (ap (λ (y : Entry). is_library_sort y.sort) (at_end b n r l) ∙ f)

        go : (o : Option ℕ) → found w (scope_of b) ≡ o → Reaches (of_sort is_library_sort o shown p b) → Result b (of_sort is_library_sort o shown p b) (p ∷ []) (λ ns. SignFine meant Asked Sign (meant p) k) same
        go None e h = refused_never (kind.Unknown shown) p b h
        go (Some n) e h =
            refused_unless (is_library_sort (entry b n).sort) (kind.Unknown shown) p b (stands n p b) (λ c. Result b c (p ∷ []) (λ ns. SignFine meant Asked Sign (meant p) k) same) h (λ f j.
            stands_walk n p b (λ ns. SignFine meant Asked Sign (meant p) k) j (λ ns r i m.
            subst (λ (q : Option ℕ). SignFine meant Asked Sign q k) (sym m) (outer ns n r (each_found (IsHere (length (entries_of b)) ns) w n (scope_of b) i e) f)))

    -- where a test decides whether the operator is looked up
    tested_walk : (c : Bool) (w shown : Text) (k : ℕ) (p : Place) (b : Book) → Reaches (if c then operator w shown p b else b) → Result b (if c then operator w shown p b else b) (p ∷ []) (λ ns. c ≡ true → SignFine meant Asked Sign (meant p) k) same
    tested_walk true w shown k p b h = as_ (operator_walk w shown k p b h) (λ ns x u. x)
    tested_walk false w shown k p b h = stay b (p ∷ []) (λ ns. false ≡ true → SignFine meant Asked Sign (meant p) k) h (λ ns u. clash false u refl)

    -- a field that is named twice is refused
    head_is : (seen : List Text) (t : Term) (b : Book) → Reaches (head_names seen t b) → head_names seen t b ≡ b
    head_is seen (term (name w) ts p) b h = refused_where (has_field seen w) (kind.Redeclared w) p b b (λ c. c ≡ b) h (λ e r. refl)
    head_is seen t b h = refl

    mutual
      pub names_walk : (t : Term) (b : Book) → Reaches (names t b) → Result b (names t b) (places t) (λ ns. Fine meant Asked Sign ns t) same
      names_walk (term (name w) ts p) b h = let q = named_walk w (count ts) p (all_names ts b) h in as_ (then_ (all_walk ts b q.back) q) (λ ns x. (x.1, x.0))
      names_walk (term (call w) ts p) b h = let q = named_walk w (count ts) p (all_names ts b) h in as_ (then_ (all_walk ts b q.back) q) (λ ns x. (x.1, x.0))
      names_walk (term (prefixed o) ts p) b h = let q = tested_walk (is_word o (codes "-")) (codes "-.") o (count ts) p (all_names ts b) h in as_ (then_ (all_walk ts b q.back) q) (λ ns x. (x.1, x.0))
      names_walk (term (infixed o) ts p) b h = let q = tested_walk (is_listed o library_signs) o o (count ts) p (all_names ts b) h in as_ (then_ (all_walk ts b q.back) q) (λ ns x. (x.1, x.0))
      names_walk (term (filter x) ts p) b h = over_walk x p ts b h
      names_walk (term (image x) ts p) b h = over_walk x p ts b h
      names_walk (term (function x) ts p) b h = over_walk x p ts b h
      names_walk (term (fields hs) ts p) b h = fields_walk [] ts b h
      names_walk (term (field_sets hs) ts p) b h = fields_walk [] ts b h
      names_walk (term (except us) ts p) b h = let q = updates_walk us (all_names ts b) h in then_ (all_walk ts b q.back) q
      names_walk (term (quantifier all gs) ts p) b h =
          let c : Book = set_names gs b in
          let q = all_walk ts (bind_names sorts.Bound gs c) (left_back (length (scope_of c)) (all_names ts (bind_names sorts.Bound gs c)) h) in
          let r = groups_walk gs c q.back in
          as_ (then_ (sets_walk gs b r.back) (inside_walk (bind_names sorts.Bound gs >> all_names ts) c (then_ r q))) (λ ns x. (x.0, x.1.1))
      names_walk (term (choice gs) ts p) b h =
          let c : Book = set_names gs b in
          let q = all_walk ts (bind_names sorts.Bound gs c) (left_back (length (scope_of c)) (all_names ts (bind_names sorts.Bound gs c)) h) in
          let r = groups_walk gs c q.back in
          as_ (then_ (sets_walk gs b r.back) (inside_walk (bind_names sorts.Bound gs >> all_names ts) c (then_ r q))) (λ ns x. (x.0, x.1.1))
      names_walk (term (local ds) ts p) b h =
          let q = all_walk ts (definitions ds b) (left_back (length (scope_of b)) (all_names ts (definitions ds b)) h) in
          inside_walk (definitions ds >> all_names ts) b (then_ (definitions_walk ds b q.back) q)
      names_walk (term s ts p) b h = all_walk ts b h

      all_walk : (ts : Terms) (b : Book) → Reaches (all_names ts b) → Result b (all_names ts b) (all_places ts) (λ ns. AllFine meant Asked Sign ns ts) same
      all_walk none b h = stay b [] (λ ns. Unit {0}) h (λ ns. tt)
      all_walk (part t ts) b h = let q = all_walk ts (names t b) h in then_ (names_walk t b q.back) q

      over_walk : (x : Text) (p : Place) (ts : Terms) (b : Book) → Reaches (bound_names x p ts b) → Result b (bound_names x p ts b) (over_places p ts) (λ ns. OverFine meant Asked Sign ns (meant p) ts) same
      over_walk x p none b h = stay b [] (λ ns. Unit {0}) h (λ ns. tt)
      over_walk x p (part s ts) b h =
          let c : Book = names s b in
          let q = all_walk ts (bound x p c) (left_back (length (scope_of c)) (all_names ts (bound x p c)) h) in
          let r = bound_walk x p c q.back in
          as_ (then_ (names_walk s b r.back) (inside_walk (bound x p >> all_names ts) c (then_ r q))) (λ ns x. (x.0, x.1.1))

      sets_walk : (gs : Groups) (b : Book) → Reaches (set_names gs b) → Result b (set_names gs b) (set_places gs) (λ ns. SetsFine meant Asked Sign ns gs) same
      sets_walk end_groups b h = stay b [] (λ ns. Unit {0}) h (λ ns. tt)
      sets_walk (free ds gs) b h = sets_walk gs b h
      sets_walk (within ds t gs) b h = let q = sets_walk gs (names t b) h in then_ (names_walk t b q.back) q

      updates_walk : (us : Updates) (b : Book) → Reaches (update_names us b) → Result b (update_names us b) (update_places us) (λ ns. UpdatesFine meant Asked Sign ns us) same
      updates_walk end_updates b h = stay b [] (λ ns. Unit {0}) h (λ ns. tt)
      updates_walk (update ks t us) b h =
          let q = updates_walk us (names t (key_names ks b)) h in
          let r = names_walk t (key_names ks b) q.back in
          as_ (then_ (keys_walk ks b r.back) (then_ r q)) (λ ns x. (x.0, x.1.0, x.1.1))

      keys_walk : (ks : Keys) (b : Book) → Reaches (key_names ks b) → Result b (key_names ks b) (key_places ks) (λ ns. KeysFine meant Asked Sign ns ks) same
      keys_walk end_keys b h = stay b [] (λ ns. Unit {0}) h (λ ns. tt)
      keys_walk (key t ks) b h = let q = keys_walk ks (names t b) h in then_ (names_walk t b q.back) q
      keys_walk (field_key f ks) b h = keys_walk ks b h

      fields_walk : (seen : List Text) (ts : Terms) (b : Book) → Reaches (field_names seen ts b) → Result b (field_names seen ts b) (value_places ts) (λ ns. ValuesFine meant Asked Sign ns ts) same
      fields_walk seen none b h = stay b [] (λ ns. Unit {0}) h (λ ns. tt)
      fields_walk seen (part g none) b h = stay b [] (λ ns. Unit {0}) h (λ ns. tt)
      fields_walk seen (part g (part t ts)) b h =
          let c : Book = head_names seen g b in
          let q = fields_walk (with_head seen g) ts (names t c) h in
          let r = names_walk t c q.back in
          subst (λ (x : Book). Result x (field_names (with_head seen g) ts (names t c)) (places t ++ value_places ts) (λ ns. Fine meant Asked Sign ns t × ValuesFine meant Asked Sign ns ts) same) (head_is seen g b r.back) (then_ r q)

      definitions_walk : (ds : Defs) (b : Book) → Reaches (definitions ds b) → Result b (definitions ds b) (definition_places ds) (λ ns. DefsFine meant Asked Sign ns ds) (λ ns. with_locals meant ns ds)
      definitions_walk end_defs b h = stay b [] (λ ns. Unit {0}) h (λ ns. tt)
      definitions_walk (def w ps t p ds) b h =
          let a : Book = fresh w p b in
          let c : Book = inside (each (declare_name sorts.Bound 0) ps >> names t) a in
          let q = definitions_walk ds (defined w ps t p c) h in
          let r = defined_walk w ps t p c q.back in
          let n = names_walk t (each (declare_name sorts.Bound 0) ps a) (left_back (length (scope_of a)) (names t (each (declare_name sorts.Bound 0) ps a)) r.back) in
          let d = decls_walk ps a n.back in
          subst (λ (x : Book). Result x (definitions ds (defined w ps t p c)) (definition_places (def w ps t p ds)) (λ ns. DefsFine meant Asked Sign ns (def w ps t p ds)) (λ ns. with_locals meant ns (def w ps t p ds))) (fresh_is w p b d.back)
          (as_ (then_ (inside_walk (each (declare_name sorts.Bound 0) ps >> names t) a (then_ d n)) (then_ r q)) (λ ns x. (x.0.1, x.1.1)))

    -- a text with parameters
    pub body_walk : (ps : List Decl) (t : Term) (b : Book) → Reaches (inside (each (declare_name sorts.Bound 0) ps >> names t) b)
        → Result b (inside (each (declare_name sorts.Bound 0) ps >> names t) b) (decl_places ps ++ places t) (λ ns. Fine meant Asked Sign (with_decls meant ns ps) t) same
    body_walk ps t b h =
        let n = names_walk t (each (declare_name sorts.Bound 0) ps b) (left_back (length (scope_of b)) (names t (each (declare_name sorts.Bound 0) ps b)) h) in
        as_ (inside_walk (each (declare_name sorts.Bound 0) ps >> names t) b (then_ (decls_walk ps b n.back) n)) (λ ns x. x.1)
