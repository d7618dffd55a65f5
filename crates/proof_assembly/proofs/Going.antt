-- What a walk over a part of a module says of it, and of what is in scope behind it, where the walk over the module meets no fault.
use Rattle.std.specs.Prelude.{◌≡◌, ℕ, zero, suc, ◌+◌, ◌*◌, ◌<◌, ◌≤◌, Bool, true, false, ◌||◌, ◌&&◌, nat_eq, IsTrue, List, [], ◌∷◌, ◌++◌, length, drop, Option, Some, None}
use Rattle.std.proofs.Common.{refl, ap, sym, ◌∙◌, arith, subst, inl, inr}
use Rattle.std.proofs.Math.Seq.{get_or-append_seam}
use Rattle.core_expr.specs.Equal.{nat-same, nat-refl}
use Rattle.core_expr.specs.declared.head.Sym.{Sym}
use Rattle.core_expr.specs.declared.head.SymKind.{SymKind}
use Rattle.tla_ast.specs.declared.place.Place.{Place}
use Rattle.tla_ast.specs.declared.fault.Kind.{Kind}
use Rattle.tla_ast.specs.declared.fault.Kind.TheVariants as kind
use Rattle.plain_syntax.specs.Plain.{Text, Term}
use Rattle.symbol_table.specs.declared.entry.Entry.{Entry}
use Rattle.symbol_table.specs.declared.entry.EntrySort.TheVariants as sorts
use Rattle.symbol_table.specs.Symbols.{symbol_at, noted}
use Rattle.symbol_table.specs.Scoped.{entry_of, unlisted}
use Rattle.expression_level.specs.Levels.{Applied, undeclared, level}
use Rattle.module_scope.specs.Scope.{Scope, found}
use Rattle.module_scope.specs.Names.{Book, Walk, scope_of, entries_of, levels_of, symbols_of, means, left, with_more, inside, unseen_in, each, refused, stands, fresh, fresh_as, entered, names, judged, alone}
use Rattle.module_scope.specs.Names.Book.{book}
use Rattle.prime_expand.specs.Fine.{Fine}
use Rattle.prime_expand.specs.Laws.{Holds, SymbolsFine}
use Rattle.prime_expand.proofs.CoreFine.{core_over}
use Rattle.name_places.specs.Places.{Apart, places}
use Rattle.proof_assembly.specs.States.{IsPrefix, Each, Free, Known, Later, is_bound, gives, is_allowed}
use Rattle.proof_assembly.proofs.Walks.{prefix_self, prefix_over, prefix_take, get_prefix, length_last, each_map, each_append, symbol_prefix, noted_here, noted_apart, noted_prefix, has_left, has_right, free_left, free_right}
use Rattle.proof_assembly.proofs.Named.{Reaches, Result, IsHere, clash, refused_never, names_walk}
use Rattle.proof_assembly.proofs.Fitting.{names_are_fine}
use Rattle.usable_facts.specs.Proofs.{core}
use Rattle.proof_assembly.specs.Scopes.{InScope, IsClosedOver}
use Rattle.proof_assembly.proofs.Items.{Only-more}

-- the symbols of numbers below l
abbrev pub Numbers : ℕ → InScope
Numbers l f k = f.number < l

pub over : (a b c : ℕ) → a ≤ b → b ≤ c → a ≤ c
over a b c p q = omega arith

-- room for ranks is kept
pub room_later : (m a b : ℕ) → m ≤ 8 * a → a ≤ b → m ≤ 8 * b
room_later m a b h k = omega arith

pub under : (n a b : ℕ) → n < a → a ≤ b → n < b
under n a b h k = omega arith

abbrev pub sy : SymKind → ℕ → ℕ → Sym
sy k n a = record { kind = k; number = n; arity = a }

-- the numbers in scope, and that of STRING
abbrev pub in_scope : Scope → ℕ → Bool
in_scope [] n = nat_eq 0 n
in_scope (s ∷ ss) n = nat_eq s.1 n || in_scope ss n

each_drop : (Q : ℕ → Type 0) (n : ℕ) (ss : Scope) → Each Q ss → Each Q (drop n ss)
each_drop Q zero ss h = h
each_drop Q (suc n) [] h = tt
each_drop Q (suc n) (s ∷ ss) h = each_drop Q n ss h.1

abbrev pub Any : ℕ → Type 0
Any n = Unit {0}

abbrev pub any : ℕ → ℕ → Type 0
any n k = Unit {0}

-- E: what is declared at the end; Y: what the names of the module mean at its end
module _ (E : List Entry) (Y : List (Place × ℕ)) where
  abbrev pub meant : Place → Option ℕ
  meant = symbol_at Y

  -- the end comes behind it, and no fault was met
  abbrev pub Back : Book → Type 0
  Back b = Reaches E Y Any b

  -- the names at these places were walked from b to c
  pub record Stays (b c : Book) (ps : List Place) : Type 0 where
    pub back : Back b
    pub scope : IsPrefix (scope_of b) (scope_of c)
    pub longer : length (entries_of b) ≤ length (entries_of c)
    pub keeps : (q : Place) → Apart q ps → symbol_at (symbols_of c) q ≡ symbol_at (symbols_of b) q

  pub stays_self : (b : Book) → Back b → Stays b b []
  stays_self b h = record { back = h; scope = prefix_self (scope_of b); longer = omega arith; keeps = λ q k. refl }

  pub stays_then : {b c d : Book} {ps qs : List Place} → Stays b c ps → Stays c d qs → Stays b d (ps ++ qs)
  stays_then {b = b} {c = c} {d = d} {ps = ps} {qs = qs} p q = record {
    back = p.back;
    scope = prefix_over (scope_of b) (scope_of c) (scope_of d) p.scope q.scope;
    longer = over (length (entries_of b)) (length (entries_of c)) (length (entries_of d)) p.longer q.longer;
    keeps = λ r h. q.keeps r (λ x k. h x (has_right ps qs x k)) ∙ p.keeps r (λ x k. h x (has_left ps qs x k));
  }

  pub of_result : {Outer : ℕ → Type 0} {b c : Book} {ps : List Place} {F : List ℕ → Type 0} {add : List ℕ → List ℕ} → Result E Y Outer b c ps F add → Stays b c ps
  of_result r = record { back = record { entries = r.back.entries; symbols = r.back.symbols; no_fault = r.back.no_fault }; scope = r.scope; longer = r.longer; keeps = r.keeps }

  -- the places that come next are still free
  pub free_next : {b c : Book} {ps : List Place} (qs : List Place) → Stays b c ps → Free (symbols_of b) (ps ++ qs) → Free (symbols_of c) qs
  free_next {b = b} {c = c} {ps = ps} qs p f = free_right (symbols_of b) (symbols_of c) ps qs p.keeps f

  pub stays_inside : (f : Walk) (b : Book) {ps : List Place} → Stays b (f b) ps → Stays b (inside f b) ps
  stays_inside f b {ps = ps} = go (f b)
    where
      go : (c : Book) → Stays b c ps → Stays b (left (length (scope_of b)) c) ps
      go (book ss es ls ys fs) p = record {
        back = p.back;
        scope = subst (IsPrefix (scope_of b)) (sym (prefix_take (scope_of b) ss p.scope)) (prefix_self (scope_of b));
        longer = p.longer;
        keeps = p.keeps;
      }

  inside_scope : (f : Walk) (b : Book) {ps : List Place} → Stays b (f b) ps → scope_of (inside f b) ≡ scope_of b
  inside_scope f b {ps = ps} = go (f b)
    where
      go : (c : Book) → Stays b c ps → scope_of (left (length (scope_of b)) c) ≡ scope_of b
      go (book ss es ls ys fs) p = prefix_take (scope_of b) ss p.scope

  pub left_back : (n : ℕ) (b : Book) → Back (left n b) → Back b
  left_back n (book ss es ls ys fs) h = record { entries = h.entries; symbols = h.symbols; no_fault = h.no_fault }

  -- ---- what is in scope

  -- the symbols that the entry n gives are as P says; it is not bound inside of an expression
  pub record Gives (P : InScope) (n : ℕ) : Type 0 where
    pub outside : is_bound (entry_of E n).sort ≡ false
    pub symbols : (k : SymKind) (j : ℕ) → gives (entry_of E n).sort (entry_of E n) k j ≡ true → P (sy k n j) j

  -- all that is in scope is as P says, and P says nothing of later numbers
  pub record Scoped (b : Book) (P : InScope) : Type 0 where
    pub string : Gives P 0
    pub library : (0 < length (entries_of b)) × ((entry_of E 0).sort ≡ sorts.Library)
    pub scope : Each (λ n. (n < length (entries_of b)) × Gives P n) (scope_of b)
    pub low : (f : Sym) (k : ℕ) → P f k → f.number < length (entries_of b)

  gives_more : (P Q : InScope) → ((f : Sym) (k : ℕ) → P f k → Q f k) → (n : ℕ) → Gives P n → Gives Q n
  gives_more P Q i n g = record { outside = g.outside; symbols = λ k j e. i (sy k n j) j (g.symbols k j e) }

  each_more : (P Q : InScope) (l m : ℕ) → l ≤ m → ((f : Sym) (k : ℕ) → P f k → Q f k) → (ss : Scope) → Each (λ n. (n < l) × Gives P n) ss → Each (λ n. (n < m) × Gives Q n) ss
  each_more P Q l m q i ss h = each_map (λ n. (n < l) × Gives P n) (λ n. (n < m) × Gives Q n) ss (λ n x. (under n l m x.0 q, gives_more P Q i n x.1)) h

  -- with the same scope, later
  pub scoped_later : (b c : Book) (P : InScope) → scope_of c ≡ scope_of b → length (entries_of b) ≤ length (entries_of c) → Scoped b P → Scoped c P
  scoped_later b c P e l s = record {
    string = s.string;
    library = (under 0 (length (entries_of b)) (length (entries_of c)) s.library.0 l, s.library.1);
    scope = subst (Each (λ n. (n < length (entries_of c)) × Gives P n)) (sym e) (each_more P P (length (entries_of b)) (length (entries_of c)) l (λ f k x. x) (scope_of b) s.scope);
    low = λ f k p. under f.number (length (entries_of b)) (length (entries_of c)) (s.low f k p) l;
  }

  -- all numbers so far may be in scope
  pub scoped_numbers : (b : Book) (P : InScope) → Scoped b P → Scoped b (Numbers (length (entries_of b)))
  scoped_numbers b P s = record {
    string = record { outside = s.string.outside; symbols = λ k j e. s.library.0 };
    library = s.library;
    scope = each_map (λ n. (n < length (entries_of b)) × Gives P n) (λ n. (n < length (entries_of b)) × Gives (Numbers (length (entries_of b))) n) (scope_of b)
        (λ n x. (x.0, record { outside = x.1.outside; symbols = λ k j e. x.0 })) s.scope;
    low = λ f k p. p;
  }

  -- ---- walks

  -- from b to c over names at these places: what is in scope next, by what was, and what is said
  pub record Goes (b c : Book) (ps : List Place) (next : InScope → InScope) (F : InScope → Type 0) : Type 1 where
    pub stays : Stays b c ps
    pub keeps : (P : InScope) → Free (symbols_of b) ps → Scoped b P → Scoped c (next P)
    pub says : (P : InScope) → Free (symbols_of b) ps → Scoped b P → F P

  abbrev pub same : InScope → InScope
  same P = P

  abbrev pub Nothing : InScope → Type 0
  Nothing P = Unit {0}

  pub goes_self : (b : Book) (F : InScope → Type 0) → Back b → ((P : InScope) → Scoped b P → F P) → Goes b b [] same F
  goes_self b F h f = record { stays = stays_self b h; keeps = λ P u s. s; says = λ P u s. f P s }

  pub goes_then : {b c d : Book} {ps qs : List Place} {next more : InScope → InScope} {F G : InScope → Type 0}
      → Goes b c ps next F → Goes c d qs more G → Goes b d (ps ++ qs) (λ P. more (next P)) (λ P. F P × G (next P))
  goes_then {b = b} {ps = ps} {qs = qs} {next = next} p q = record {
    stays = stays_then p.stays q.stays;
    keeps = λ P u s. q.keeps (next P) (free_next qs p.stays u) (p.keeps P (free_left (symbols_of b) ps qs u) s);
    says = λ P u s. (p.says P (free_left (symbols_of b) ps qs u) s, q.says (next P) (free_next qs p.stays u) (p.keeps P (free_left (symbols_of b) ps qs u) s));
  }

  pub goes_as : {b c : Book} {ps : List Place} {next : InScope → InScope} {F G : InScope → Type 0} → Goes b c ps next F → ((P : InScope) → Scoped b P → F P → G P) → Goes b c ps next G
  goes_as p f = record { stays = p.stays; keeps = p.keeps; says = λ P u s. f P s (p.says P u s) }

  pub goes_inside : (f : Walk) (b : Book) {ps : List Place} {next : InScope → InScope} {F : InScope → Type 0} → Goes b (f b) ps next F → Goes b (inside f b) ps same F
  goes_inside f b p =
      let q = stays_inside f b p.stays in
      record { stays = q; keeps = λ P u s. scoped_later b (inside f b) P (inside_scope f b p.stays) q.longer s; says = p.says }

  -- whatever is in scope next has numbers so far
  pub goes_numbers : {b c : Book} {ps : List Place} {next : InScope → InScope} {F : InScope → Type 0} → Goes b c ps next F → Goes b c ps (λ P. Numbers (length (entries_of c))) F
  goes_numbers {c = c} {next = next} p = record { stays = p.stays; keeps = λ P u s. scoped_numbers c (next P) (p.keeps P u s); says = p.says }

  pub more_back : (more : Scope) (b : Book) → Back (with_more more b) → Back b
  more_back more (book ss es ls ys fs) h = record { entries = h.entries; symbols = h.symbols; no_fault = h.no_fault }

  -- what the first walk declares is not seen on the second
  pub goes_unseen : (f g : Walk) (b : Book) {ps qs : List Place} {next : InScope → InScope} {F G : InScope → Type 0}
      → ((P : InScope) → Scoped b P → (s : Sym) (k : ℕ) → P s k → next P s k)
      → Goes b (f b) ps next F → Goes (left (length (scope_of b)) (f b)) (g (left (length (scope_of b)) (f b))) qs same G → Goes b (unseen_in f g b) (ps ++ qs) next (λ P. F P × G P)
  goes_unseen f g b {ps = ps} {qs = qs} {next = next} {F = F} {G = G} grows p q = last (g (left (length (scope_of b)) (f b))) q
    where
      c : Book
      c = f b

      hidden : Stays b (left (length (scope_of b)) (f b)) ps
      hidden = stays_inside f b p.stays

      last : (d : Book) → Goes (left (length (scope_of b)) (f b)) d qs same G → Goes b (with_more (drop (length (scope_of b)) (scope_of (f b))) d) (ps ++ qs) next (λ P. F P × G P)
      last (book ss es ls ys fs) q =
          let all = stays_then hidden q.stays in
          let more : Scope = drop (length (scope_of b)) (scope_of (f b)) in
          record {
            stays = record {
              back = all.back;
              scope = prefix_over (scope_of b) ss (ss ++ more) all.scope (more, refl);
              longer = all.longer;
              keeps = all.keeps;
            };
            keeps = λ P u s.
                let one = p.keeps P (free_left (symbols_of b) ps qs u) s in
                let two = q.keeps P (free_next qs hidden u) (scoped_later b (left (length (scope_of b)) (f b)) P (inside_scope f b p.stays) hidden.longer s) in
                let l = same_length (f b) q.stays.longer in
                record {
                  string = one.string;
                  library = two.library;
                  scope = each_append (λ n. (n < length es) × Gives (next P) n) ss more
                      (each_more P (next P) (length es) (length es) (omega arith) (grows P s) ss two.scope)
                      (each_drop (λ n. (n < length es) × Gives (next P) n) (length (scope_of b)) (scope_of (f b))
                      (each_more (next P) (next P) (length (entries_of (f b))) (length es) l (λ s k x. x) (scope_of (f b)) one.scope));
                  low = λ s k x. under s.number (length (entries_of (f b))) (length es) (one.low s k x) l;
                };
            says = λ P u s. (p.says P (free_left (symbols_of b) ps qs u) s, q.says P (free_next qs hidden u) (scoped_later b (left (length (scope_of b)) (f b)) P (inside_scope f b p.stays) hidden.longer s));
          }
        where
          same_length : (x : Book) → length (entries_of (left (length (scope_of b)) x)) ≤ length es → length (entries_of x) ≤ length es
          same_length (book s2 e2 l2 y2 f2) h = h

  -- ---- expressions

  in_scope_gives : (P : InScope) (ss : Scope) (n : ℕ) → Gives P 0 → Each (Gives P) ss → in_scope ss n ≡ true → Gives P n
  in_scope_gives P [] n z h e = subst (Gives P) (nat-same 0 n e) z
  in_scope_gives P (s ∷ ss) n z h e = go (nat_eq s.1 n) refl e (in_scope_gives P ss n z h.1)
    where
      go : (a : Bool) → nat_eq s.1 n ≡ a → a || in_scope ss n ≡ true → (in_scope ss n ≡ true → Gives P n) → Gives P n
      go true q k f = subst (Gives P) (nat-same s.1 n q) h.0
      go false q k f = f k

  pub allowed_is : (P : InScope) (ss : Scope) (f : Sym) (k : ℕ) → Gives P 0 → Each (Gives P) ss → IsTrue (is_allowed E (in_scope ss) f k) → P f k
  allowed_is P ss f k z h t = go (in_scope ss f.number) refl (nat_eq f.arity k) refl (gives (entry_of E f.number).sort (entry_of E f.number) f.kind k) refl t
    where
      go : (a : Bool) → in_scope ss f.number ≡ a → (b : Bool) → nat_eq f.arity k ≡ b → (c : Bool) → gives (entry_of E f.number).sort (entry_of E f.number) f.kind k ≡ c → IsTrue (a && b && c) → P f k
      go true p true q true r t = subst (λ (j : ℕ). P (sy f.kind f.number j) k) (sym (nat-same f.arity k q)) ((in_scope_gives P ss f.number z h p).symbols f.kind k r)
      go true p true q false r t = clash false t refl
      go true p false q c r t = clash false t refl
      go false p b q c r t = clash false t refl

  pub known : (P : InScope) (b : Book) → Back b → Scoped b P → Known (in_scope (scope_of b)) b
  known P b h s = record {
    string = (zero_in (scope_of b), s.library.0, ap (λ (e : Entry). e.sort) (sym (here 0 s.library.0)) ∙ s.library.1);
    scope = all (in_scope (scope_of b)) (scope_of b) (λ n q. q) s.scope;
  }
    where
      here : (n : ℕ) → n < length (entries_of b) → entry_of E n ≡ entry_of (entries_of b) n
      here n l = get_prefix unlisted (entries_of b) E n h.entries l

      zero_in : (ss : Scope) → in_scope ss 0 ≡ true
      zero_in [] = refl
      zero_in (x ∷ ss) = ap (λ c. nat_eq x.1 0 || c) (zero_in ss) ∙ or_true (nat_eq x.1 0)
        where
          or_true : (a : Bool) → a || true ≡ true
          or_true true = refl
          or_true false = refl

      all : (allowed : ℕ → Bool) (ss : Scope) → ((n : ℕ) → in_scope ss n ≡ true → allowed n ≡ true) → Each (λ n. (n < length (entries_of b)) × Gives P n) ss
          → Each (λ n. (n < length (entries_of b)) × (allowed n ≡ true) × (is_bound (entry_of (entries_of b) n).sort ≡ false)) ss
      all allowed [] i x = tt
      all allowed (y ∷ ss) i x = (
        (x.0.0, i y.1 (ap (λ c. c || in_scope ss y.1) (nat-refl y.1)), ap (λ (e : Entry). is_bound e.sort) (sym (here y.1 x.0.0)) ∙ x.0.1.outside),
        all allowed ss (λ n q. i n (or_right (nat_eq y.1 n) (in_scope ss n) q)) x.1,
      )
        where
          or_right : (a b : Bool) → b ≡ true → a || b ≡ true
          or_right true b e = refl
          or_right false b e = e

  abbrev pub final : Book
  final = book [] E undeclared Y []

  pub later : (b : Book) → Back b → Later b final
  later b h = record { entries = h.entries; symbols = h.symbols; no_fault = h.no_fault }

  -- each name of an expression is bound there, or gives symbols that are as P says
  pub record Fits (P : InScope) (t : Term) : Type 0 where
    pub allowed : ℕ → Bool
    pub within : (f : Sym) (k : ℕ) → Holds (is_allowed E allowed) f k → P f k
    pub fine : SymbolsFine (Holds (is_allowed E allowed)) meant E [] t

  -- so its core is closed, over such symbols
  pub fits_over : (P : InScope) (t : Term) → Fits P t → IsClosedOver P (core meant E t)
  fits_over P t h =
      let x = core_over (Holds (is_allowed E h.allowed)) meant E t h.fine in
      (Only-more (Holds (is_allowed E h.allowed)) P (core meant E t) h.within x.plain_only, x.plain_scoped)

  term_fits : (P : InScope) (t : Term) (b : Book) → Back b → Back (names t b) → Free (symbols_of b) (places t) → Scoped b P → Fits P t
  term_fits P t b r h u s = record {
    allowed = in_scope (scope_of b);
    within = λ f k y. allowed_is P (scope_of b) f k s.string (each_map (λ n. (n < length (entries_of b)) × Gives P n) (Gives P) (scope_of b) (λ n y. y.1) s.scope) y;
    fine = names_are_fine (in_scope (scope_of b)) t b final (known P b r s) u (later (names t b) h);
  }

  -- a walk inside of which names are bound leaves in scope what was
  pub scoped_after : {b c : Book} {ps : List Place} {F : List ℕ → Type 0} (P : InScope) → Result E Y (Gives P) b c ps F (λ ns. ns) → Free (symbols_of b) ps → Scoped b P → Scoped c P
  scoped_after {b = b} {c = c} P r u s = record {
    string = s.string;
    library = (under 0 (length (entries_of b)) (length (entries_of c)) s.library.0 r.longer, s.library.1);
    scope = each_map (IsHere E Y (Gives P) (length (entries_of c)) []) (λ n. (n < length (entries_of c)) × Gives P n) (scope_of c) (λ n x. outer n (length (entries_of c)) x)
        (r.inv [] u (each_map (λ n. (n < length (entries_of b)) × Gives P n) (IsHere E Y (Gives P) (length (entries_of b)) []) (scope_of b) (λ n x. (x.0, inr x.1)) s.scope));
    low = λ f k p. under f.number (length (entries_of b)) (length (entries_of c)) (s.low f k p) r.longer;
  }
    where
      outer : (n l : ℕ) → IsHere E Y (Gives P) l [] n → (n < l) × Gives P n
      outer n l (q, inl x) = clash false x.0 refl
      outer n l (q, inr x) = (q, x)

  -- the walk over an expression
  names_goes : (t : Term) (b : Book) → Back (names t b) → Goes b (names t b) (places t) same (λ P. Fits P t)
  names_goes t b h = record {
    stays = of_result (walk Any);
    keeps = λ P u s. scoped_after P (walk (Gives P)) u s;
    says = λ P u s. term_fits P t b (of_result (walk Any)).back h u s;
  }
    where
      walk : (Outer : ℕ → Type 0) → Result E Y Outer b (names t b) (places t) (λ ns. Fine (symbol_at Y) any any ns t) (λ ns. ns)
      walk Outer = names_walk E Y Outer any any (λ n k o f a. tt) (λ n k o f. tt) (λ k. tt) t b (record { entries = h.entries; symbols = h.symbols; no_fault = h.no_fault })

  -- what is refused does not come before the end
  pub refused_not : (k : Kind) (p : Place) (b : Book) → Back (refused k p b) → ⊥
  refused_not k p b h = refused_never E Y Any k p b h

  refused_all : (ps : List Place) (b : Book) → Back (each (refused kind.Level) ps b) → each (refused kind.Level) ps b ≡ b
  refused_all [] b h = refl
  refused_all (p ∷ ps) b h = refused_never E Y Any kind.Level p b (subst Back (refused_all ps (refused kind.Level p b) h) h)

  pub judged_is : (t : Term) (b : Book) → Back (judged t b) → judged t b ≡ b
  unfolding judged
  judged_is t b h = refused_all (level (means b) (levels_of b) 0 t).1 b h

  -- an expression by itself
  pub alone_fits : (t : Term) (b : Book) → Back (alone t b) → Goes b (alone t b) (places t) same (λ P. Fits P t)
  unfolding alone
  alone_fits t b h =
      let e = judged_is t (names t b) h in
      subst (λ (c : Book). Goes b c (places t) same (λ P. Fits P t)) (sym e) (names_goes t b (subst Back e h))

  pub alone_goes : (t : Term) (b : Book) → Back (alone t b) → Goes b (alone t b) (places t) same (λ P. IsClosedOver P (core meant E t))
  alone_goes t b h = goes_as (alone_fits t b h) (λ P s f. fits_over P t f)

  -- ---- names noted, and names declared

  pub stands_goes : (n : ℕ) (p : Place) (b : Book) → Back (stands n p b) → Goes b (stands n p b) (p ∷ []) same (λ P. meant p ≡ Some n)
  stands_goes n p (book ss es ls ys fs) h = record {
    stays = record {
      back = record { entries = h.entries; symbols = noted_prefix p n ys Y h.symbols; no_fault = h.no_fault };
      scope = prefix_self ss;
      longer = omega arith;
      keeps = λ q k. noted_apart p q n ys (k p (inl refl));
    };
    keeps = λ P u s. scoped_later (book ss es ls ys fs) (stands n p (book ss es ls ys fs)) P refl (omega arith) s;
    says = λ P u s. symbol_prefix (noted p n ys) Y p n h.symbols (noted_here p n ys (u.unnoted p (inl refl)));
  }

  pub fresh_is : (w : Text) (p : Place) (b : Book) → Back (fresh w p b) → fresh w p b ≡ b
  fresh_is w p b h = go (found w (scope_of b)) h
    where
      go : (o : Option ℕ) → Back (fresh_as o w p b) → fresh_as o w p b ≡ b
      go None h = refl
      go (Some n) h = refused_never E Y Any (kind.Redeclared w) p b h

  -- what is declared has the next number
  pub record Enters (e : Entry) (p : Place) (b c : Book) : Type 0 where
    pub number : meant p ≡ Some (length (entries_of b))
    pub entry : entry_of E (length (entries_of b)) ≡ e
    pub longer : length (entries_of c) ≡ suc (length (entries_of b))

  pub entered_goes : (e : Entry) (f : Applied) (p : Place) (b : Book) (next : InScope → InScope) → is_bound e.sort ≡ false
      → ((P : InScope) (s : Sym) (k : ℕ) → P s k → next P s k)
      → ((P : InScope) (k : SymKind) (j : ℕ) → gives e.sort e k j ≡ true → next P (sy k (length (entries_of b)) j) j)
      → ((P : InScope) → ((s : Sym) (k : ℕ) → P s k → s.number < length (entries_of b)) → (s : Sym) (k : ℕ) → next P s k → s.number < suc (length (entries_of b)))
      → Back (entered e f p b) → Goes b (entered e f p b) (p ∷ []) next (λ P. Enters e p b (entered e f p b))
  entered_goes e f p (book ss es ls ys fs) next o grows new low h = record {
    stays = record {
      back = record { entries = prefix_over es (es ++ e ∷ []) E (e ∷ [], refl) h.entries; symbols = noted_prefix p (length es) ys Y h.symbols; no_fault = h.no_fault };
      scope = ((e.name, length es) ∷ [], refl);
      longer = subst (λ (n : ℕ). length es ≤ n) (sym l) (omega arith);
      keeps = λ q k. noted_apart p q (length es) ys (k p (inl refl));
    };
    keeps = λ P u s. record {
      string = gives_more P (next P) (grows P) 0 s.string;
      library = (subst (λ (n : ℕ). 0 < n) (sym l) (omega arith), s.library.1);
      scope = each_append (λ n. (n < length (es ++ e ∷ [])) × Gives (next P) n) ss ((e.name, length es) ∷ [])
          (each_more P (next P) (length es) (length (es ++ e ∷ [])) (subst (λ (n : ℕ). length es ≤ n) (sym l) (omega arith)) (grows P) ss s.scope)
          ((subst (λ (n : ℕ). length es < n) (sym l) (omega arith), given P), tt);
      low = λ x k q. subst (λ (n : ℕ). x.number < n) (sym l) (low P s.low x k q);
    };
    says = λ P u s. record { number = symbol_prefix (noted p (length es) ys) Y p (length es) h.symbols (noted_here p (length es) ys (u.unnoted p (inl refl))); entry = is; longer = l };
  }
    where
      l : length (es ++ e ∷ []) ≡ suc (length es)
      l = length_last es e

      is : entry_of E (length es) ≡ e
      is = get_prefix unlisted (es ++ e ∷ []) E (length es) h.entries (subst (λ (n : ℕ). length es < n) (sym (length_last es e)) (omega arith)) ∙ get_or-append_seam es e [] unlisted

      given : (P : InScope) → Gives (next P) (length es)
      given P = record {
        outside = ap (λ (x : Entry). is_bound x.sort) is ∙ o;
        symbols = λ k j q. new P k j (sym (ap (λ (x : Entry). gives x.sort x k j) is) ∙ q);
      }
