-- All modules, one after another: their definitions stand in order, and their theorems are right.
use Rattle.std.specs.Prelude.{◌≡◌, ℕ, suc, ◌+◌, ◌*◌, ◌<◌, ◌≤◌, Bool, true, false, ◌||◌, fold, if◌then◌else◌, List, [], ◌∷◌, ◌++◌, length, map, Option, Some, None, Ok, codes}
use Rattle.std.specs.Option.{is_some}
use Rattle.std.proofs.Common.{refl, ap, sym, ◌∙◌, arith, subst, get_or, append_assoc, append-nil}
use Rattle.std.proofs.lemmas.List.{length-append}
use Rattle.std.proofs.Math.Seq.{get_or-append_seam}
use Rattle.std_names.specs.Libraries as libraries
use Rattle.core_expr.specs.declared.head.Sym.{Sym}
use Rattle.core_expr.specs.Terms.{same_sym}
use Rattle.core_expr.proofs.Equal.{sym-same}
use Rattle.tla_ast.specs.declared.place.Place.{Place}
use Rattle.tla_ast.specs.declared.fault.Kind.{Kind}
use Rattle.tla_ast.specs.declared.fault.Kind.TheVariants as kind
use Rattle.obligation.specs.declared.obligation.Definition.{Definition}
use Rattle.obligation.specs.Unfolding.{is_defined}
use Rattle.plain_syntax.specs.Plain.{Text, Module}
use Rattle.symbol_table.specs.declared.entry.Entry.{Entry}
use Rattle.symbol_table.specs.declared.entry.EntrySort.TheVariants as sorts
use Rattle.symbol_table.specs.Scoped.{Table, entry_of, unlisted, symbol}
use Rattle.expression_level.specs.Levels.{is_word}
use Rattle.module_scope.specs.Scope.{Scope, found}
use Rattle.module_scope.specs.Names.{Book, scope_of, entries_of, symbols_of, faults_of, each, unit}
use Rattle.module_scope.specs.Names.Book.{book}
use Rattle.module_scope.specs.Resolution.{library_entry, distinct, library_entries, given, library_scope, Exports, exported, brought as names_of, first_clash, told, unknown, extend, comes_before, sooner, least, emptied, module_names, start, after_module, resolved, resolution}
use Rattle.name_places.specs.Places.{AllApart}
use Rattle.proof_assembly.specs.States.{IsPrefix, Each, Free, is_bound}
use Rattle.proof_assembly.proofs.Walks.{prefix_self, get_prefix, each_map, each_append}
use Rattle.proof_contexts.specs.Theorems.{Theorem}
use Rattle.proof_contexts.specs.Right.{AreOrdered, RightKnown}
use Rattle.usable_facts.specs.Definitions.{in_units, in_modules, definitions_of}
use Rattle.usable_facts.specs.Theorems.{units_theorems, units_adds, Done, reaches, is_reached, brought, modules_theorems, joined, all_theorems}
use Rattle.name_places.specs.Places.{module_places}
use Rattle.name_places.specs.Places.{PlacesDiffer}
use Rattle.proof_assembly.specs.Ranks.{rank, is_defined_kind}
use Rattle.proof_assembly.proofs.Going.{Numbers, over, under, Back, refused_not, Gives, Scoped}
use Rattle.proof_assembly.proofs.Declared.{Between, Defines, defines_none, defines_append}
use Rattle.proof_assembly.proofs.Units.{wide8, AllRight, rights_append, known_more, known_append, KeyedUnits, UnitsRight, units_goes}

-- ---- libraries

-- the number is an entry's that is declared outside of expressions
abbrev Outside : List Entry → ℕ → Type 0
Outside es n = (n < length es) × (is_bound (entry_of es n).sort ≡ false)

abbrev AllOutside : List Entry → Type 0
AllOutside [] = Unit {0}
AllOutside (e ∷ es) = (is_bound e.sort ≡ false) × AllOutside es

rows_outside : (rs : List libraries.Row) → AllOutside (map library_entry rs)
rows_outside [] = tt
rows_outside (r ∷ rs) = (go (is_word r.0 (codes "TLAPS")), rows_outside rs)
  where
    go : (b : Bool) → is_bound (if b then sorts.Pragma else sorts.Library) ≡ false
    go true = refl
    go false = refl

entries_outside : AllOutside library_entries
unfolding library_entries
entries_outside = (refl, rows_outside (distinct [] libraries.names))

first_string : (entry_of library_entries 0).sort ≡ sorts.Library
unfolding library_entries
first_string = refl

some_entries : 0 < length library_entries
unfolding library_entries
some_entries = omega arith

given_outside : (w : Text) (pre es all : List Entry) → pre ++ es ≡ all → AllOutside es → Each (Outside all) (given (length pre) w es)
given_outside w pre [] all e o = tt
given_outside w pre (x ∷ es) all e o = go (is_some (libraries.library w x.name)) (subst (λ (n : ℕ). Each (Outside all) (given n w es)) last (given_outside w (pre ++ x ∷ []) es all (append_assoc pre (x ∷ []) es ∙ e) o.1))
  where
    last : length (pre ++ x ∷ []) ≡ suc (length pre)
    last = let l = length-append pre (x ∷ []) in omega (arith, l)

    here : Outside all (length pre)
    here = (
      subst (λ (l : List Entry). length pre < length l) e (let l = length-append pre (x ∷ es) in omega (arith, l)),
      ap (λ (l : List Entry). is_bound (entry_of l (length pre)).sort) (sym e) ∙ ap (λ (y : Entry). is_bound y.sort) (get_or-append_seam pre x es unlisted) ∙ o.0,
    )

    go : (b : Bool) → Each (Outside all) (given (suc (length pre)) w es) → Each (Outside all) (elim b [ true ↦ (x.name, length pre) ∷ given (suc (length pre)) w es | false ↦ given (suc (length pre)) w es ])
    go true k = (here, k)
    go false k = k

library_outside : (w : Text) → Each (Outside library_entries) (library_scope w)
unfolding library_scope
library_outside w = given_outside w [] library_entries library_entries refl entries_outside

-- ---- the modules in order, each without a fault

-- each module ends without faults, with these names
abbrev Chain : Exports → List Module → Book → List (List (Place × ℕ)) → List Entry → Type 0
Chain es [] b [] E = entries_of b ≡ E
Chain es [] b (y ∷ ys) E = ⊥
Chain es (m ∷ ms) b [] E = ⊥
Chain es (m ∷ ms) b (y ∷ ys) E =
    (faults_of (module_names es m b) ≡ []) × (symbols_of (module_names es m b) ≡ y) × Chain (es ++ (m.name, scope_of (module_names es m b)) ∷ []) ms (module_names es m b) ys E

some_stays : {A : Type 0} (f : Place × Kind) (fs : List (Place × Kind)) → fold sooner (Some f) fs ≡ None → A
some_stays {A = A} f [] h = absurd (differ h)
  where
    differ : Some f ≡ None → ⊥
    differ h = cc
some_stays {A = A} f (g ∷ fs) h = go (comes_before g f) h (some_stays g fs) (some_stays f fs)
  where
    go : (b : Bool) → fold sooner (if b then Some g else Some f) fs ≡ None → (fold sooner (Some g) fs ≡ None → A) → (fold sooner (Some f) fs ≡ None → A) → A
    go true h p q = p h
    go false h p q = q h

no_least : (fs : List (Place × Kind)) → least fs ≡ None → fs ≡ []
no_least [] h = refl
no_least (f ∷ fs) h = some_stays f fs h

-- what is resolved is such a chain
chain_of : (es : Exports) (ss : List (List (Place × ℕ))) (ms : List Module) (b : Book) (t : Table) → resolved es ss ms b ≡ Ok t → (ys : List (List (Place × ℕ))) × (t.symbols ≡ ss ++ ys) × Chain es ms b ys t.entries
chain_of es ss [] b t h = let e : record { entries = entries_of b; symbols = ss } ≡ t = cc in ([], sym (ap (λ (x : Table). x.symbols) e) ∙ sym (append-nil ss), ap (λ (x : Table). x.entries) e)
chain_of es ss (m ∷ ms) b t h = go (least (faults_of (module_names es m b))) refl h (λ k. chain_of (es ++ (m.name, scope_of (module_names es m b)) ∷ []) (ss ++ symbols_of (module_names es m b) ∷ []) ms (module_names es m b) t k)
  where
    go : (o : Option (Place × Kind)) → least (faults_of (module_names es m b)) ≡ o → after_module m.name (module_names es m b) o (resolved (es ++ (m.name, scope_of (module_names es m b)) ∷ []) (ss ++ symbols_of (module_names es m b) ∷ []) ms) ≡ Ok t
        → (resolved (es ++ (m.name, scope_of (module_names es m b)) ∷ []) (ss ++ symbols_of (module_names es m b) ∷ []) ms (module_names es m b) ≡ Ok t
        → (ys : List (List (Place × ℕ))) × (t.symbols ≡ (ss ++ symbols_of (module_names es m b) ∷ []) ++ ys) × Chain (es ++ (m.name, scope_of (module_names es m b)) ∷ []) ms (module_names es m b) ys t.entries)
        → (ys : List (List (Place × ℕ))) × (t.symbols ≡ ss ++ ys) × Chain es (m ∷ ms) b ys t.entries
    go (Some f) e h k = cc
    go None e h k =
        let r = k h in
        (symbols_of (module_names es m b) ∷ r.0, r.1 ∙ append_assoc ss (symbols_of (module_names es m b) ∷ []) r.0, (no_least (faults_of (module_names es m b)) e, refl, r.2))

-- ---- EXTENDS

unknown_each : (Q : ℕ → Type 0) (ss es : Scope) → Each Q es → Each Q (unknown ss es)
unknown_each Q ss [] h = tt
unknown_each Q ss (e ∷ es) h = go (is_some (found e.0 ss)) (unknown_each Q ss es h.1)
  where
    go : (b : Bool) → Each Q (unknown ss es) → Each Q (elim b [ true ↦ unknown ss es | false ↦ e ∷ unknown ss es ])
    go true k = k
    go false k = (h.0, k)

-- the names that earlier modules give
abbrev AllExports : (ℕ → Type 0) → Exports → Type 0
AllExports Q [] = Unit {0}
AllExports Q (e ∷ es) = Each Q e.1 × AllExports Q es

exports_more : (Q R : ℕ → Type 0) (es : Exports) → ((n : ℕ) → Q n → R n) → AllExports Q es → AllExports R es
exports_more Q R [] i h = tt
exports_more Q R (e ∷ es) i h = (each_map Q R e.1 i h.0, exports_more Q R es i h.1)

exports_last : (Q : ℕ → Type 0) (es : Exports) (e : Text × Scope) → AllExports Q es → Each Q e.1 → AllExports Q (es ++ e ∷ [])
exports_last Q [] e h k = (k, tt)
exports_last Q (x ∷ es) e h k = (h.0, exports_last Q es e h.1 k)

exported_each : (Q : ℕ → Type 0) (es : Exports) (w : Text) → AllExports Q es → Each Q (exported es w)
exported_each Q [] w h = tt
exported_each Q (e ∷ es) w h = go (is_word e.0 w) (exported_each Q es w h.1)
  where
    go : (b : Bool) → Each Q (exported es w) → Each Q (if b then e.1 else exported es w)
    go true k = h.0
    go false k = k

names_each : (Q : ℕ → Type 0) (es : Exports) (w : Text) → ((v : Text) → Each Q (library_scope v)) → AllExports Q es → Each Q (names_of es w)
names_each Q es w l h = go (libraries.is_library w)
  where
    go : (b : Bool) → Each Q (if b then library_scope w else exported es w)
    go true = l w
    go false = exported_each Q es w h

module _ (E : List Entry) where
  -- a walk over EXTENDS notes nothing and declares nothing
  record Extends (Y : List (Place × ℕ)) (es : Exports) (b c : Book) : Type 1 where
    pub back : Back E Y b
    pub entries : entries_of c ≡ entries_of b
    pub symbols : symbols_of c ≡ symbols_of b
    pub scope : (Q : ℕ → Type 0) → ((v : Text) → Each Q (library_scope v)) → AllExports Q es → Each Q (scope_of b) → Each Q (scope_of c)

  told_is : (Y : List (Place × ℕ)) (o : Option Text) (p : Place) (b : Book) → Back E Y (told o p b) → told o p b ≡ b
  told_is Y None p b h = refl
  told_is Y (Some w) p b h = absurd (refused_not E Y (kind.Redeclared w) p b h)

  bring_is : (Y : List (Place × ℕ)) (es : Exports) (e : Text × Place) (b : Book) → Back E Y (extend es e b) → Extends Y es b (extend es e b)
  unfolding extend
  bring_is Y es e (book ss ns ls ys fs) h =
      let more : Scope = names_of es e.0 in
      let z : Book = book (ss ++ unknown ss more) ns ls ys fs in
      let q = told_is Y (first_clash ss more) e.1 z h in
      subst (Extends Y es (book ss ns ls ys fs)) (sym q)
      (let r : Back E Y z = subst (Back E Y) q h in
      record {
        back = record { entries = r.entries; symbols = r.symbols; no_fault = r.no_fault };
        entries = refl;
        symbols = refl;
        scope = λ Q l x k. each_append Q ss (unknown ss more) k (unknown_each Q ss more (names_each Q es e.0 l x));
      })

  extends_is : (Y : List (Place × ℕ)) (es : Exports) (xs : List (Text × Place)) (b : Book) → Back E Y (each (extend es) xs b) → Extends Y es b (each (extend es) xs b)
  extends_is Y es [] b h = record { back = h; entries = refl; symbols = refl; scope = λ Q l x k. k }
  extends_is Y es (e ∷ xs) b h =
      let q = extends_is Y es xs (extend es e b) h in
      let r = bring_is Y es e b q.back in
      record { back = r.back; entries = q.entries ∙ r.entries; symbols = q.symbols ∙ r.symbols; scope = λ Q l x k. q.scope Q l x (r.scope Q l x k) }

  -- in scope are numbers of what was declared outside of expressions
  abbrev Sane : ℕ → ℕ → Type 0
  Sane l n = (n < l) × (is_bound (entry_of E n).sort ≡ false)

  sane_more : (l m : ℕ) → l ≤ m → (n : ℕ) → Sane l n → Sane m n
  sane_more l m q n h = (under n l m h.0 q, h.1)

  -- the libraries' entries stand before all others
  library_sane : (l : ℕ) → IsPrefix library_entries E → length library_entries ≤ l → (w : Text) → Each (Sane l) (library_scope w)
  library_sane l p q w = each_map (Outside library_entries) (Sane l) (library_scope w) (λ n x. (under n (length library_entries) l x.0 q, ap (λ (e : Entry). is_bound e.sort) (get_prefix unlisted library_entries E n p x.0) ∙ x.1)) (library_outside w)

  -- at the start of a module's units
  sane_scoped : (Y : List (Place × ℕ)) (b : Book) → IsPrefix library_entries E → length library_entries ≤ length (entries_of b) → Each (Sane (length (entries_of b))) (scope_of b) → Scoped E Y b (Numbers (length (entries_of b)))
  sane_scoped Y b p q s =
      let zero_is : entry_of E 0 ≡ entry_of library_entries 0 = get_prefix unlisted library_entries E 0 p some_entries in
      let some : 0 < length (entries_of b) = under 0 (length library_entries) (length (entries_of b)) some_entries q in
      record {
        string = record { outside = ap (λ (e : Entry). is_bound e.sort) zero_is ∙ ap is_bound first_string; symbols = λ k j e. some };
        library = (some, ap (λ (e : Entry). e.sort) zero_is ∙ first_string);
        scope = each_map (Sane (length (entries_of b))) (λ n. (n < length (entries_of b)) × Gives E Y (Numbers (length (entries_of b))) n) (scope_of b) (λ n x. (x.0, record { outside = x.1; symbols = λ k j e. x.0 })) s;
        low = λ f k h. h;
      }

  scoped_sane : (Y : List (Place × ℕ)) (b : Book) → Scoped E Y b (Numbers (length (entries_of b))) → Each (Sane (length (entries_of b))) (scope_of b)
  scoped_sane Y b s = each_map (λ n. (n < length (entries_of b)) × Gives E Y (Numbers (length (entries_of b))) n) (Sane (length (entries_of b))) (scope_of b) (λ n x. (x.0, x.1.outside)) s.scope

  emptied_entries : (b : Book) → entries_of (emptied b) ≡ entries_of b
  emptied_entries (book ss es ls ys fs) = refl

  emptied_symbols : (b : Book) → symbols_of (emptied b) ≡ []
  emptied_symbols (book ss es ls ys fs) = refl

  emptied_scope : (b : Book) → scope_of (emptied b) ≡ []
  emptied_scope (book ss es ls ys fs) = refl

  module _ (table : List Definition) (undefined : (f : Sym) → is_defined_kind f.kind ≡ false → is_defined table f ≡ false) where
    -- what is said of one module
    record ModuleRight (es : Exports) (m : Module) (b : Book) (y : List (Place × ℕ)) : Type 0 where
      pub prefix : IsPrefix (entries_of b) E
      pub longer : length (entries_of b) ≤ length (entries_of (module_names es m b))
      pub says : IsPrefix library_entries E → length library_entries ≤ length (entries_of b) → AllExports (Sane (length (entries_of b))) es → AllApart (module_places m)
          → Each (Sane (length (entries_of (module_names es m b)))) (scope_of (module_names es m b)) × UnitsRight E y table undefined m.units (length (entries_of b)) (length (entries_of (module_names es m b)))

    module_right : (es : Exports) (m : Module) (b : Book) (y : List (Place × ℕ)) → faults_of (module_names es m b) ≡ [] → symbols_of (module_names es m b) ≡ y → IsPrefix (entries_of (module_names es m b)) E → ModuleRight es m b y
    unfolding module_names
    module_right es m b y f s p =
        let a : Book = each (extend es) m.extends (emptied b) in
        let c : Book = each unit m.units a in
        let h : Back E y c = record { entries = p; symbols = subst (IsPrefix (symbols_of c)) s (prefix_self (symbols_of c)); no_fault = f } in
        let u = units_goes E y table undefined m.units a h in
        let x = extends_is y es m.extends (emptied b) u.stays.back in
        let e : entries_of a ≡ entries_of b = x.entries ∙ emptied_entries b in
        let l : length (entries_of a) ≡ length (entries_of b) = ap length e in
        record {
          prefix = subst (λ (z : List Entry). IsPrefix z E) e u.stays.back.entries;
          longer = subst (λ (n : ℕ). n ≤ length (entries_of c)) l u.stays.longer;
          says = λ q k ex ap_.
              let n : ℕ = length (entries_of b) in
              let sane : Each (Sane n) (scope_of a) = x.scope (Sane n) (library_sane n q k) ex (subst (Each (Sane n)) (sym (emptied_scope b)) tt) in
              let sc = sane_scoped y a q (subst (λ (i : ℕ). length library_entries ≤ i) (sym l) k) (subst (λ (i : ℕ). Each (Sane i) (scope_of a)) (sym l) sane) in
              let free : Free (symbols_of a) (module_places m) = subst (λ (z : List (Place × ℕ)). Free z (module_places m)) (sym (x.symbols ∙ emptied_symbols b)) (record { apart = ap_; unnoted = λ v w. refl }) in
              let r = u.says (Numbers (length (entries_of a))) free sc in
              (scoped_sane y c (u.keeps (Numbers (length (entries_of a))) free sc), subst (λ (i : ℕ). UnitsRight E y table undefined m.units i (length (entries_of c))) l r);
        }

-- ---- modules from one on

module _ (t : Table) where
  -- these are the names of the modules from number m on
  abbrev Agrees : ℕ → List (List (Place × ℕ)) → Type 0
  Agrees m ys = (j : ℕ) → get_or t.symbols (m + j) [] ≡ get_or ys j []

  agrees_first : (m : ℕ) (y : List (Place × ℕ)) (ys : List (List (Place × ℕ))) → Agrees m (y ∷ ys) → get_or t.symbols m [] ≡ y
  agrees_first m y ys a = let e : m + 0 ≡ m = omega arith in sym (ap (λ n. get_or t.symbols n []) e) ∙ a 0

  agrees_next : (m : ℕ) (y : List (Place × ℕ)) (ys : List (List (Place × ℕ))) → Agrees m (y ∷ ys) → Agrees (suc m) ys
  agrees_next m y ys a j = let e : suc m + j ≡ m + suc j = omega arith in ap (λ n. get_or t.symbols n []) e ∙ a (suc j)

  -- the numbers of named theorems rise
  abbrev pub KeyedModules : ℕ → ℕ → List Module → Type 0
  KeyedModules m l [] = Unit {0}
  KeyedModules m l (x ∷ xs) = (k : ℕ) × KeyedUnits (symbol t m) l k x.units × KeyedModules (suc m) k xs

  module _ (table : List Definition) where
    -- what earlier modules add
    abbrev DonesRight : ℕ → List Done → Type 0
    DonesRight n [] = Unit {0}
    DonesRight n (d ∷ ds) = RightKnown rank table (λ _. true) (8 * n) d.adds × DonesRight n ds

    dones_more : (n m : ℕ) (ds : List Done) → n ≤ m → DonesRight n ds → DonesRight m ds
    dones_more n m [] q h = tt
    dones_more n m (d ∷ ds) q h = (known_more table (8 * n) (8 * m) d.adds (wide8 n m q) h.0, dones_more n m ds q h.1)

    dones_last : (n : ℕ) (ds : List Done) (d : Done) → DonesRight n ds → RightKnown rank table (λ _. true) (8 * n) d.adds → DonesRight n (ds ++ d ∷ [])
    dones_last n [] d h k = (k, tt)
    dones_last n (x ∷ ds) d h k = (h.0, dones_last n ds d h.1 k)

    brought_right : (n : ℕ) (ds : List Done) (ws : List Text) → DonesRight n ds → RightKnown rank table (λ _. true) (8 * n) (brought ds ws)
    brought_right n [] ws h = tt
    brought_right n (d ∷ ds) ws h = go (is_reached ws d.name) (brought_right n ds ws h.1)
      where
        go : (b : Bool) → RightKnown rank table (λ _. true) (8 * n) (brought ds ws) → RightKnown rank table (λ _. true) (8 * n) (if b then d.adds ++ brought ds ws else brought ds ws)
        go true k = known_append table (8 * n) d.adds (brought ds ws) h.0 k
        go false k = k

    module _ (undefined : (f : Sym) → is_defined_kind f.kind ≡ false → is_defined table f ≡ false) where
      -- what is said of modules
      record ModulesRight (m l : ℕ) (ms : List Module) : Type 0 where
        pub defines : Defines l (length t.entries) (in_modules t m ms)
        pub keyed : KeyedModules m l ms
        pub right : (i : ℕ) (ds : List Done) → DonesRight l ds → AllRight table (joined (modules_theorems t m i ds ms))

      record ChainRight (es : Exports) (ms : List Module) (b : Book) (ys : List (List (Place × ℕ))) (m : ℕ) : Type 0 where
        pub prefix : IsPrefix (entries_of b) t.entries
        pub longer : length (entries_of b) ≤ length t.entries
        pub says : IsPrefix library_entries t.entries → length library_entries ≤ length (entries_of b) → AllExports (Sane t.entries (length (entries_of b))) es → PlacesDiffer ms → Agrees m ys → ModulesRight m (length (entries_of b)) ms

      chain_right : (es : Exports) (ms : List Module) (b : Book) (ys : List (List (Place × ℕ))) (m : ℕ) → Chain es ms b ys t.entries → ChainRight es ms b ys m
      chain_right es [] b [] m h = record {
        prefix = ([], append-nil (entries_of b) ∙ h);
        longer = subst (λ (l : List Entry). length (entries_of b) ≤ length l) h (omega arith);
        says = λ p q x d a. record { defines = defines_none _ _; keyed = tt; right = λ i ds g. tt };
      }
      chain_right es [] b (y ∷ ys) m h = absurd h
      chain_right es (x ∷ xs) b [] m h = absurd h
      chain_right es (x ∷ xs) b (y ∷ ys) m h =
          let c : Book = module_names es x b in
          let more : Exports = es ++ (x.name, scope_of c) ∷ [] in
          let q = chain_right more xs c ys (suc m) h.2 in
          let r = module_right t.entries table undefined es x b y h.0 h.1 q.prefix in
          let n : ℕ = length (entries_of b) in
          let k : ℕ = length (entries_of c) in
          record {
            prefix = r.prefix;
            longer = over n k (length t.entries) r.longer q.longer;
            says = λ p z ex d a.
                let v = r.says p z ex d.0 in
                let w = q.says p (over (length library_entries) n k z r.longer) (exports_last (Sane t.entries k) es (x.name, scope_of c) (exports_more (Sane t.entries n) (Sane t.entries k) es (sane_more t.entries n k r.longer) ex) v.0) d.1 (agrees_next m y ys a) in
                let u : UnitsRight t.entries (get_or t.symbols m []) table undefined x.units n k = subst (λ (s : List (Place × ℕ)). UnitsRight t.entries s table undefined x.units n k) (sym (agrees_first m y ys a)) v.1 in
                record {
                  defines = defines_append n k (length t.entries) (in_units t.entries (symbol t m) x.units) (in_modules t (suc m) xs) r.longer q.longer u.defines w.defines;
                  keyed = (k, u.keyed, w.keyed);
                  right = λ i ds g.
                      let ws : List Text = reaches ds x.extends in
                      let ts : List Theorem = units_theorems t.entries (symbol t m) i (brought ds ws) x.units in
                      let last : Done = record { name = x.name; reaches = ws; adds = units_adds t.entries (symbol t m) x.units } in
                      rights_append table ts (joined (modules_theorems t (suc m) (i + length ts) (ds ++ last ∷ []) xs)) (u.theorems i (brought ds ws) (brought_right n ds ws g))
                      (w.right (i + length ts) (ds ++ last ∷ []) (dones_last k ds last (dones_more n k ds r.longer g) u.adds));
                };
          }

-- symbols of other kinds are no definition's
none_defined : (l k : ℕ) (ds : List Definition) → Between l k ds → (f : Sym) → is_defined_kind f.kind ≡ false → is_defined ds f ≡ false
none_defined l k [] h f z = refl
none_defined l k (d ∷ ds) h f z = go (same_sym d.symbol f) refl (none_defined l k ds h.1 f z)
  where
    go : (b : Bool) → same_sym d.symbol f ≡ b → is_defined ds f ≡ false → b || is_defined ds f ≡ false
    go true e i = absurd (differ (sym h.0.2 ∙ ap (λ (x : Sym). is_defined_kind x.kind) (sym-same d.symbol f e) ∙ z))
      where
        differ : true ≡ false → ⊥
        differ h = cc
    go false e i = i

-- of modules whose names are resolved, of which none has two names at one place
pub record Resolved (ms : List Module) (t : Table) : Type 0 where
  pub ordered : AreOrdered rank (definitions_of ms t)
  pub right : AllRight (definitions_of ms t) (all_theorems ms t)
  pub keyed : KeyedModules t 0 (length library_entries) ms

pub all_right : (ms : List Module) (t : Table) → resolution ms ≡ Ok t → PlacesDiffer ms → Resolved ms t
unfolding resolution
all_right ms t h d =
    let q = chain_of [] [] ms start t h in
    let ys : List (List (Place × ℕ)) = q.0 in
    let a : Agrees t 0 ys = λ j. zero_plus j ∙ ap (λ (l : List (List (Place × ℕ))). get_or l j []) q.1 in
    let none : (f : Sym) → is_defined_kind f.kind ≡ false → is_defined [] f ≡ false = λ f k. refl in
    let o = chain_right t [] none [] ms start ys 0 q.2 in
    let first = o.says o.prefix (omega arith) tt d a in
    let table : List Definition = definitions_of ms t in
    let r = (chain_right t table (none_defined (length library_entries) (length t.entries) table first.defines.between) [] ms start ys 0 q.2).says o.prefix (omega arith) tt d a in
    record { ordered = first.defines.ordered; right = r.right 0 [] tt; keyed = first.keyed }
  where
    zero_plus : (j : ℕ) → get_or t.symbols (0 + j) [] ≡ get_or t.symbols j []
    zero_plus j = let e : 0 + j ≡ j = omega arith in ap (λ n. get_or t.symbols n []) e
