-- Statements, names that are chosen, and definitions: their symbols are in scope where they stand, NEW ones are new, and definitions
-- stand in order.
use Rattle.std.specs.Prelude.{◌≡◌, ℕ, zero, suc, ◌+◌, ◌*◌, ◌<◌, ◌≤◌, Bool, true, false, ◌⊎◌, nat_eq, List, [], ◌∷◌, ◌++◌, length, map, Option, Some, None}
use Rattle.std.proofs.Common.{refl, ap, sym, ◌∙◌, arith, subst, inl, inr}
use Rattle.std.proofs.lemmas.Bool.Decides.{nat_tests}
use Rattle.core_expr.specs.Equal.{nat-same}
use Rattle.core_expr.specs.declared.head.Sym.{Sym}
use Rattle.core_expr.specs.declared.head.SymKind.{SymKind}
use Rattle.core_expr.specs.declared.head.SymKind.TheVariants as kinds
use Rattle.core_expr.specs.Tree.{Tree}
use Rattle.core_expr.specs.Terms.{kind_code, same_sym}
use Rattle.tla_ast.specs.declared.place.Place.{Place}
use Rattle.tla_ast.specs.declared.tree.Decl.{Decl}
use Rattle.tla_ast.specs.declared.unit.Sort.TheVariants as sort
use Rattle.obligation.specs.declared.obligation.Definition.{Definition}
use Rattle.obligation.specs.Unfolding.{is_defined}
use Rattle.plain_syntax.specs.Plain.{Term, Groups, Item, Statement, Text, Defs}
use Rattle.plain_syntax.specs.Plain.Groups.{end_groups, free, within}
use Rattle.plain_syntax.specs.Plain.Item.{new, given}
use Rattle.plain_syntax.specs.Plain.Defs.{end_defs, def}
use Rattle.symbol_table.specs.declared.entry.Entry.{Entry}
use Rattle.symbol_table.specs.declared.entry.EntrySort.{EntrySort}
use Rattle.symbol_table.specs.declared.entry.EntrySort.TheVariants as sorts
use Rattle.symbol_table.specs.Symbols.{symbol_at}
use Rattle.symbol_table.specs.Scoped.{entry_of}
use Rattle.expression_level.specs.Levels.{declared_level, definition_level}
use Rattle.expression_level.specs.Primed.{primed_parameters}
use Rattle.expression_level.specs.Store.{flags_of}
use Rattle.module_scope.specs.Names.{Book, entries_of, each, fresh, has_any, declare_name, alone, item_names, stated, group_sets, bind_names, chosen as choose, scope_of, levels_of, means, names, judged, defined, definitions, judged_bodies, define}
use Rattle.prime_expand.specs.declared.both.Both.{Both}
use Rattle.prime_expand.specs.Core.{bodies, flags_in}
use Rattle.prime_expand.specs.Fine.{Fine, with_decls}
use Rattle.prime_expand.specs.Laws.{Holds}
use Rattle.name_places.specs.Places.{places, set_places, decl_places, definition_places}
use Rattle.proof_assembly.specs.States.{is_bound, gives, is_allowed}
use Rattle.proof_assembly.proofs.Named.{clash, Result, body_walk}
use Rattle.proof_assembly.specs.ScopeLaws.{body_names}
use Rattle.proof_assembly.proofs.Walks.{each_map}
use Rattle.proof_assembly.proofs.Fitting.{bodies_are_in_scope}
use Rattle.proof_contexts.specs.Steps.{Item as item}
use Rattle.proof_contexts.specs.Right.{level_items, IsFirst, AreOrdered}
use Rattle.proof_contexts.specs.Expansion.{IsBelow}
use Rattle.proof_contexts.proofs.Putting.{Below-more}
use Rattle.usable_facts.specs.Proofs.{symbol, core, items, chosen}
use Rattle.usable_facts.specs.Definitions.{of_level, numbered, each_definition}
use Rattle.name_places.specs.Places.{items_places, statement_places, named_places, group_places, chosen_places}
use Rattle.proof_assembly.specs.Scopes.{InScope, With, IsClosedOver, AreOver, AreNew}
use Rattle.proof_assembly.specs.Ranks.{rank, is_defined_kind}
use Rattle.proof_assembly.proofs.Items.{Only-more, Only-below}
use Rattle.proof_assembly.proofs.Going.{Numbers, over, room_later, under, sy, Back, meant, Goes, same, Enters, goes_self, goes_then, goes_as, goes_numbers, fresh_is, entered_goes, alone_goes, in_scope, Any, any, Gives, of_result, known, allowed_is, final, later, scoped_after, judged_is}

-- one more number
abbrev pub Plus : InScope → ℕ → InScope
Plus P n s k = P s k ⊎ (s.number ≡ n)

pub plus_low : (P : InScope) (n : ℕ) → ((x : Sym) (k : ℕ) → P x k → x.number < n) → (x : Sym) (k : ℕ) → Plus P n x k → x.number < suc n
plus_low P n l x k (inl q) = let v : x.number < n = l x k q in omega arith
plus_low P n l x k (inr q) = omega arith

pub over_more : (P Q : InScope) → ((f : Sym) (k : ℕ) → P f k → Q f k) → (e : Tree) → IsClosedOver P e → IsClosedOver Q e
over_more P Q i e h = (Only-more P Q e i h.0, h.1)

abbrev pub name_entry : EntrySort → ℕ → Decl → Entry
name_entry s l d = record { name = d.name; sort = s; arity = 0; level = l; primed = [] }

module _ (E : List Entry) (Y : List (Place × ℕ)) where
  -- a declaration of a name without parameters
  pub declare_goes : (s : EntrySort) (l : ℕ) (d : Decl) (b : Book) (next : ℕ → InScope → InScope) → is_bound s ≡ false
      → ((n : ℕ) (P : InScope) (x : Sym) (k : ℕ) → P x k → next n P x k)
      → ((n : ℕ) (P : InScope) (k : SymKind) (j : ℕ) → gives s (name_entry s l d) k j ≡ true → next n P (sy k n j) j)
      → ((n : ℕ) (P : InScope) → ((x : Sym) (k : ℕ) → P x k → x.number < n) → (x : Sym) (k : ℕ) → next n P x k → x.number < suc n)
      → Back E Y (declare_name s l d b) → Goes E Y b (declare_name s l d b) (d.place ∷ []) (next (length (entries_of b))) (λ P. Enters E Y (name_entry s l d) d.place b (declare_name s l d b))
  declare_goes s l d b next o grows gives_new low h =
      let a : Book = fresh d.name d.place b in
      let r = entered_goes E Y (name_entry s l d) (declared_level l (has_any 0)) d.place a (next (length (entries_of a))) o (grows (length (entries_of a))) (gives_new (length (entries_of a))) (low (length (entries_of a))) h in
      subst (λ (x : Book). Goes E Y x (declare_name s l d b) (d.place ∷ []) (next (length (entries_of x))) (λ P. Enters E Y (name_entry s l d) d.place x (declare_name s l d b))) (fresh_is E Y d.name d.place b r.stays.back) r

  with_low : (n : ℕ) (k : SymKind) (P : InScope) → ((x : Sym) (k : ℕ) → P x k → x.number < suc n) → (x : Sym) (j : ℕ) → With P (sy k n 0) x j → x.number < suc n
  with_low n k P l x j (inl p) = l x j p
  with_low n k P l x j (inr p) = let e : x.number ≡ n = ap (λ (y : Sym). y.number) p.0 in omega arith

  old : (n : ℕ) (P : InScope) → ((x : Sym) (k : ℕ) → P x k → x.number < n) → (x : Sym) (k : ℕ) → P x k → x.number < suc n
  old n P l x k p = let q : x.number < n = l x k p in omega arith

  none_left : (k : ℕ) → nat_eq 0 k ≡ true → k ≡ 0
  none_left k h = sym (nat-same 0 k h)

  -- NEW of a constant
  pub new_constant : (d : Decl) (b : Book) → Back E Y (declare_name sorts.Constant 0 d b)
      → Goes E Y b (declare_name sorts.Constant 0 d b) (d.place ∷ []) (λ P. With P (sy kinds.Constant (length (entries_of b)) 0)) (λ P. Enters E Y (name_entry sorts.Constant 0 d) d.place b (declare_name sorts.Constant 0 d b))
  new_constant d b h = declare_goes sorts.Constant 0 d b (λ n P. With P (sy kinds.Constant n 0)) refl (λ n P x k p. inl p) fits (λ n P l. with_low n kinds.Constant P (old n P l)) h
    where
      fits : (n : ℕ) (P : InScope) (k : SymKind) (j : ℕ) → gives sorts.Constant (name_entry sorts.Constant 0 d) k j ≡ true → With P (sy kinds.Constant n 0) (sy k n j) j
      fits n P kinds.Constant j e = let z = none_left j e in inr (ap (sy kinds.Constant n) z, z)
      fits n P kinds.State j e = clash false e refl
      fits n P kinds.Primed j e = clash false e refl
      fits n P kinds.Defined j e = clash false e refl
      fits n P kinds.DefinedPrimed j e = clash false e refl
      fits n P kinds.Canon j e = clash false e refl

  -- NEW of a variable
  pub new_state : (d : Decl) (b : Book) → Back E Y (declare_name sorts.State 1 d b)
      → Goes E Y b (declare_name sorts.State 1 d b) (d.place ∷ []) (λ P. With (With P (sy kinds.State (length (entries_of b)) 0)) (sy kinds.Primed (length (entries_of b)) 0))
      (λ P. Enters E Y (name_entry sorts.State 1 d) d.place b (declare_name sorts.State 1 d b))
  new_state d b h =
      declare_goes sorts.State 1 d b (λ n P. With (With P (sy kinds.State n 0)) (sy kinds.Primed n 0)) refl (λ n P x k p. inl (inl p)) fits
      (λ n P l. with_low n kinds.Primed (With P (sy kinds.State n 0)) (with_low n kinds.State P (old n P l))) h
    where
      fits : (n : ℕ) (P : InScope) (k : SymKind) (j : ℕ) → gives sorts.State (name_entry sorts.State 1 d) k j ≡ true → With (With P (sy kinds.State n 0)) (sy kinds.Primed n 0) (sy k n j) j
      fits n P kinds.State j e = let z = none_left j e in inl (inr (ap (sy kinds.State n) z, z))
      fits n P kinds.Primed j e = let z = none_left j e in inr (ap (sy kinds.Primed n) z, z)
      fits n P kinds.Constant j e = clash false e refl
      fits n P kinds.Defined j e = clash false e refl
      fits n P kinds.DefinedPrimed j e = clash false e refl
      fits n P kinds.Canon j e = clash false e refl

  module _ (table : List Definition) (undefined : (f : Sym) → is_defined_kind f.kind ≡ false → is_defined table f ≡ false) where
    -- what is asked of items and a formula, from b to c: that they are in scope, and new
    abbrev pub Stated : Book → List item → Tree → Book → InScope → Type 0
    Stated c is g b P = (m : ℕ) → m ≤ 8 * length (entries_of b) → AreNew rank table m is × AreOver P is g × (level_items rank table m is ≤ 8 * length (entries_of c))

    above : (m n k : ℕ) → m ≤ 8 * n → m ≤ 8 * n + k
    above m n k h = omega arith

    pub stated_none : (c b : Book) (g : Tree) (P : InScope) → length (entries_of b) ≤ length (entries_of c) → IsClosedOver P g → Stated c [] g b P
    stated_none c b g P l h m q = (tt, h, room_later m (length (entries_of b)) (length (entries_of c)) q l)

    stated_new : (k : SymKind) (e : Entry) (p : Place) (a b c : Book) (is : List item) (g : Tree) (P : InScope) → is_defined_kind k ≡ false → kind_code k ≤ 5 → Enters E Y e p b a
        → Stated c is g a (With P (sy k (length (entries_of b)) 0)) → Stated c (item.New (symbol k (meant E Y p)) ∷ is) g b P
    stated_new k e p a b c is g P z five i h = subst (λ (o : Option ℕ). Stated c (item.New (symbol k o) ∷ is) g b P) (sym i.number) (λ m q.
        let r = h (suc (8 * length (entries_of b) + kind_code k)) (room (length (entries_of a)) (length (entries_of b)) (kind_code k) i.longer five) in
        ((record { above = above m (length (entries_of b)) (kind_code k) q; undefined = undefined (sy k (length (entries_of b)) 0) z }, r.0), r.1, r.2))
      where
        room : (x y k : ℕ) → x ≡ suc y → k ≤ 5 → suc (8 * y + k) ≤ 8 * x
        room x y k e f = omega arith

    stated_in : (e : Entry) (p : Place) (a b c : Book) (s : Tree) (is : List item) (g : Tree) (P : InScope) → IsClosedOver P s → Enters E Y e p b a
        → Stated c is g a (With P (sy kinds.Constant (length (entries_of b)) 0)) → Stated c (item.NewIn (symbol kinds.Constant (meant E Y p)) s ∷ is) g b P
    stated_in e p a b c s is g P o i h = subst (λ (x : Option ℕ). Stated c (item.NewIn (symbol kinds.Constant x) s ∷ is) g b P) (sym i.number) (λ m q.
        let r = h (suc (8 * length (entries_of b) + 0)) (room (length (entries_of a)) (length (entries_of b)) i.longer) in
        ((record { above = above m (length (entries_of b)) 0 q; undefined = undefined (sy kinds.Constant (length (entries_of b)) 0) refl }, r.0), (o, r.1), r.2))
      where
        room : (x y : ℕ) → x ≡ suc y → suc (8 * y + 0) ≤ 8 * x
        room x y e = omega arith

    -- both symbols of a variable
    stated_state : (e : Entry) (p : Place) (a b c : Book) (is : List item) (g : Tree) (P : InScope) → Enters E Y e p b a
        → Stated c is g a (With (With P (sy kinds.State (length (entries_of b)) 0)) (sy kinds.Primed (length (entries_of b)) 0))
        → Stated c (item.New (symbol kinds.State (meant E Y p)) ∷ item.New (symbol kinds.Primed (meant E Y p)) ∷ is) g b P
    stated_state e p a b c is g P i h = subst (λ (o : Option ℕ). Stated c (item.New (symbol kinds.State o) ∷ item.New (symbol kinds.Primed o) ∷ is) g b P) (sym i.number) (λ m q.
        let n : ℕ = length (entries_of b) in
        let r = h (suc (8 * n + 2)) (room (length (entries_of a)) n i.longer) in
        ((record { above = above m n 1 q; undefined = undefined (sy kinds.State n 0) refl }, (record { above = next n; undefined = undefined (sy kinds.Primed n 0) refl }, r.0)), r.1, r.2))
      where
        room : (x y : ℕ) → x ≡ suc y → suc (8 * y + 2) ≤ 8 * x
        room x y e = omega arith

        next : (n : ℕ) → suc (8 * n + 1) ≤ 8 * n + 2
        next n = omega arith

    -- what is behind items, if they have these places
    abbrev Rest : List Item → Term → Book → Type 1
    Rest xs t b = Goes E Y b (alone t (each item_names xs b)) (items_places xs (places t)) (λ P. Numbers (length (entries_of (alone t (each item_names xs b))))) (Stated (alone t (each item_names xs b)) (items (meant E Y) E xs) (core (meant E Y) E t) b)

    given_goes : (e : Term) (xs : List Item) (t : Term) (b : Book) → Rest xs t (alone e b) → Rest (given e ∷ xs) t b
    given_goes e xs t b q =
        let r = alone_goes E Y e b q.stays.back in
        goes_as E Y (goes_then E Y r q) (λ P s f m k.
        let v = f.1 m (room_later m (length (entries_of b)) (length (entries_of (alone e b))) k r.stays.longer) in
        (v.0, (f.0, v.1), v.2))

    constant_goes : (d : Decl) (xs : List Item) (t : Term) (b : Book) → Rest xs t (declare_name sorts.Constant 0 d b) → Rest (new sort.Constant d None ∷ xs) t b
    constant_goes d xs t b q =
        let c : Book = declare_name sorts.Constant 0 d b in
        goes_as E Y (goes_then E Y (new_constant d b q.stays.back) q) (λ P s f.
        stated_new kinds.Constant (name_entry sorts.Constant 0 d) d.place c b (alone t (each item_names xs c)) (items (meant E Y) E xs) (core (meant E Y) E t) P refl (omega arith) f.0 f.1)

    constant_in_goes : (d : Decl) (e : Term) (xs : List Item) (t : Term) (b : Book) → Rest xs t (declare_name sorts.Constant 0 d (alone e b)) → Rest (new sort.Constant d (Some e) ∷ xs) t b
    constant_in_goes d e xs t b q =
        let a : Book = alone e b in
        let c : Book = declare_name sorts.Constant 0 d a in
        let n = new_constant d a q.stays.back in
        let r = alone_goes E Y e b n.stays.back in
        goes_as E Y (goes_then E Y (goes_then E Y r n) q) (λ P s f m k.
        stated_in (name_entry sorts.Constant 0 d) d.place c a (alone t (each item_names xs c)) (core (meant E Y) E e) (items (meant E Y) E xs) (core (meant E Y) E t) P f.0.0 f.0.1 f.1 m (room_later m (length (entries_of b)) (length (entries_of a)) k r.stays.longer))

    state_goes : (d : Decl) (xs : List Item) (t : Term) (b : Book) → Rest xs t (declare_name sorts.State 1 d b) → Goes E Y b (alone t (each item_names xs (declare_name sorts.State 1 d b))) (d.place ∷ items_places xs (places t)) (λ P. Numbers (length (entries_of (alone t (each item_names xs (declare_name sorts.State 1 d b))))))
        (Stated (alone t (each item_names xs (declare_name sorts.State 1 d b))) (item.New (symbol kinds.State (meant E Y d.place)) ∷ item.New (symbol kinds.Primed (meant E Y d.place)) ∷ items (meant E Y) E xs) (core (meant E Y) E t) b)
    state_goes d xs t b q =
        let c : Book = declare_name sorts.State 1 d b in
        goes_as E Y (goes_then E Y (new_state d b q.stays.back) q) (λ P s f.
        stated_state (name_entry sorts.State 1 d) d.place c b (alone t (each item_names xs c)) (items (meant E Y) E xs) (core (meant E Y) E t) P f.0 f.1)

    state_in_goes : (d : Decl) (e : Term) (xs : List Item) (t : Term) (b : Book) → Rest xs t (declare_name sorts.State 1 d (alone e b)) → Goes E Y b (alone t (each item_names xs (declare_name sorts.State 1 d (alone e b)))) ((places e ++ d.place ∷ []) ++ items_places xs (places t)) (λ P. Numbers (length (entries_of (alone t (each item_names xs (declare_name sorts.State 1 d (alone e b)))))))
        (Stated (alone t (each item_names xs (declare_name sorts.State 1 d (alone e b)))) (item.New (symbol kinds.State (meant E Y d.place)) ∷ item.New (symbol kinds.Primed (meant E Y d.place)) ∷ items (meant E Y) E xs) (core (meant E Y) E t) b)
    state_in_goes d e xs t b q =
        let a : Book = alone e b in
        let c : Book = declare_name sorts.State 1 d a in
        let n = new_state d a q.stays.back in
        let r = alone_goes E Y e b n.stays.back in
        goes_as E Y (goes_then E Y (goes_then E Y r n) q) (λ P s f m k.
        stated_state (name_entry sorts.State 1 d) d.place c a (alone t (each item_names xs c)) (items (meant E Y) E xs) (core (meant E Y) E t) P f.0.1 f.1 m (room_later m (length (entries_of b)) (length (entries_of a)) k r.stays.longer))

    -- items, and then a formula
    items_goes : (xs : List Item) (t : Term) (b : Book) → Back E Y (alone t (each item_names xs b)) → Rest xs t b
    items_goes [] t b h =
        let r = alone_goes E Y t b h in
        goes_as E Y (goes_numbers E Y r) (λ P s f. stated_none (alone t b) b (core (meant E Y) E t) P r.stays.longer f)
    items_goes (given e ∷ xs) t b h = given_goes e xs t b (items_goes xs t (alone e b) h)
    items_goes (new sort.Constant d None ∷ xs) t b h = constant_goes d xs t b (items_goes xs t (declare_name sorts.Constant 0 d b) h)
    items_goes (new sort.Constant d (Some e) ∷ xs) t b h = constant_in_goes d e xs t b (items_goes xs t (declare_name sorts.Constant 0 d (alone e b)) h)
    items_goes (new sort.Variable d None ∷ xs) t b h = state_goes d xs t b (items_goes xs t (declare_name sorts.State 1 d b) h)
    items_goes (new sort.State d None ∷ xs) t b h = state_goes d xs t b (items_goes xs t (declare_name sorts.State 1 d b) h)
    items_goes (new sort.Variable d (Some e) ∷ xs) t b h = state_in_goes d e xs t b (items_goes xs t (declare_name sorts.State 1 d (alone e b)) h)
    items_goes (new sort.State d (Some e) ∷ xs) t b h = state_in_goes d e xs t b (items_goes xs t (declare_name sorts.State 1 d (alone e b)) h)

    -- a statement
    pub stated_goes : (s : Statement) (b : Book) → Back E Y (stated s b) → Goes E Y b (stated s b) (statement_places s) (λ P. Numbers (length (entries_of (stated s b)))) (Stated (stated s b) (items (meant E Y) E s.items) (core (meant E Y) E s.goal) b)
    unfolding stated
    stated_goes s b h = items_goes s.items s.goal b h

    -- ---- names that TAKE and PICK choose

    -- the sets are over what is in scope
    abbrev SetsOver : InScope → Groups → Type 0
    SetsOver P end_groups = Unit {0}
    SetsOver P (free ds gs) = SetsOver P gs
    SetsOver P (within ds t gs) = IsClosedOver P (core (meant E Y) E t) × SetsOver P gs

    sets_more : (P Q : InScope) → ((f : Sym) (k : ℕ) → P f k → Q f k) → (gs : Groups) → SetsOver P gs → SetsOver Q gs
    sets_more P Q i end_groups h = tt
    sets_more P Q i (free ds gs) h = sets_more P Q i gs h
    sets_more P Q i (within ds t gs) h = (over_more P Q i (core (meant E Y) E t) h.0, sets_more P Q i gs h.1)

    sets_goes : (gs : Groups) (b : Book) → Back E Y (group_sets gs b) → Goes E Y b (group_sets gs b) (set_places gs) (same E Y) (λ P. SetsOver P gs)
    sets_goes end_groups b h = goes_self E Y b (λ P. Unit {0}) h (λ P s. tt)
    sets_goes (free ds gs) b h = sets_goes gs b h
    sets_goes (within ds t gs) b h = let q = sets_goes gs (alone t b) h in goes_then E Y (alone_goes E Y t b q.stays.back) q

    -- what is known once more names are declared, where these sets are over what is in scope
    module _ (end : Book) (g : Tree) (qs : List Place) where
      abbrev Names : Book → List Place → (InScope → Type 0) → List item → Type 1
      Names b ps Sets is = Goes E Y b end ps (λ P. Numbers (length (entries_of end))) (λ P. Sets P → Stated end is g b P)

      free_names : (ds : List Decl) (is : List item) (ps : List Place) (Sets : InScope → Type 0) → ((P Q : InScope) → ((f : Sym) (k : ℕ) → P f k → Q f k) → Sets P → Sets Q)
          → (b : Book) → Names (each (declare_name sorts.Constant 0) ds b) ps Sets is → Names b (named_places ds ps) Sets (map (λ (d : Decl). item.New (symbol kinds.Constant (meant E Y d.place))) ds ++ is)
      free_names [] is ps Sets more b q = q
      free_names (d ∷ ds) is ps Sets more b q =
          let c : Book = declare_name sorts.Constant 0 d b in
          let r = free_names ds is ps Sets more c q in
          goes_as E Y (goes_then E Y (new_constant d b r.stays.back) r) (λ P s f u.
          stated_new kinds.Constant (name_entry sorts.Constant 0 d) d.place c b end (map (λ (d : Decl). item.New (symbol kinds.Constant (meant E Y d.place))) ds ++ is) g P refl (omega arith) f.0
          (f.1 (more P (With P (sy kinds.Constant (length (entries_of b)) 0)) (λ x k p. inl p) u)))

      set_names : (s : Tree) (ds : List Decl) (is : List item) (ps : List Place) (Sets : InScope → Type 0) → ((P Q : InScope) → ((f : Sym) (k : ℕ) → P f k → Q f k) → Sets P → Sets Q)
          → (b : Book) → Names (each (declare_name sorts.Constant 0) ds b) ps Sets is
          → Names b (named_places ds ps) (λ P. IsClosedOver P s × Sets P) (map (λ (d : Decl). item.NewIn (symbol kinds.Constant (meant E Y d.place)) s) ds ++ is)
      set_names s [] is ps Sets more b q = goes_as E Y q (λ P x f u. f u.1)
      set_names s (d ∷ ds) is ps Sets more b q =
          let c : Book = declare_name sorts.Constant 0 d b in
          let r = set_names s ds is ps Sets more c q in
          goes_as E Y (goes_then E Y (new_constant d b r.stays.back) r) (λ P x f u.
          let Q : InScope = With P (sy kinds.Constant (length (entries_of b)) 0) in
          stated_in (name_entry sorts.Constant 0 d) d.place c b end s (map (λ (d : Decl). item.NewIn (symbol kinds.Constant (meant E Y d.place)) s) ds ++ is) g P u.0 f.0
          (f.1 (over_more P Q (λ x k p. inl p) s u.0, more P Q (λ x k p. inl p) u.1)))

      group_goes : (cite : Place → Option ℕ) (gs : Groups) (b : Book) → Goes E Y (bind_names sorts.Constant gs b) end qs (λ P. Numbers (length (entries_of end))) (Stated end [] g (bind_names sorts.Constant gs b))
          → Names b (group_places gs qs) (λ P. SetsOver P gs) (chosen (meant E Y) cite E gs)
      group_goes cite end_groups b q = goes_as E Y q (λ P s f u. f)
      group_goes cite (free ds gs) b q = free_names ds (chosen (meant E Y) cite E gs) (group_places gs qs) (λ P. SetsOver P gs) (λ P Q i u. sets_more P Q i gs u) b (group_goes cite gs (each (declare_name sorts.Constant 0) ds b) q)
      group_goes cite (within ds t gs) b q = set_names (core (meant E Y) E t) ds (chosen (meant E Y) cite E gs) (group_places gs qs) (λ P. SetsOver P gs) (λ P Q i u. sets_more P Q i gs u) b (group_goes cite gs (each (declare_name sorts.Constant 0) ds b) q)

      -- what is chosen, and then what is behind it
      pub chosen_goes : (cite : Place → Option ℕ) (gs : Groups) (b : Book) → Goes E Y (choose gs b) end qs (λ P. Numbers (length (entries_of end))) (Stated end [] g (choose gs b))
          → Goes E Y b end (chosen_places gs qs) (λ P. Numbers (length (entries_of end))) (Stated end (chosen (meant E Y) cite E gs) g b)
      unfolding choose
      chosen_goes cite gs b q =
          let r = group_goes cite gs (group_sets gs b) q in
          let k = sets_goes gs b r.stays.back in
          goes_as E Y (goes_then E Y k r) (λ P s f m l. f.1 f.0 m (room_later m (length (entries_of b)) (length (entries_of (group_sets gs b))) l k.stays.longer))

-- ---- definitions in order

pub few_kinds : (k : SymKind) → kind_code k ≤ 5
few_kinds kinds.Constant = omega arith
few_kinds kinds.State = omega arith
few_kinds kinds.Primed = omega arith
few_kinds kinds.Defined = omega arith
few_kinds kinds.DefinedPrimed = omega arith
few_kinds kinds.Canon = omega arith

-- symbols of numbers below l have ranks below 8 * l
pub numbers_low : (l : ℕ) (f : Sym) (k : ℕ) → Numbers l f k → rank f < 8 * l
numbers_low l f k h = over f.number (kind_code f.kind) h (few_kinds f.kind)
  where
    over : (n k : ℕ) → n < l → k ≤ 5 → 8 * n + k < 8 * l
    over n k h q = omega arith

-- their numbers are from l on and below k
abbrev pub Between : ℕ → ℕ → List Definition → Type 0
Between l k [] = Unit {0}
Between l k (d ∷ ds) = ((l ≤ d.symbol.number) × (d.symbol.number < k) × (is_defined_kind d.symbol.kind ≡ true)) × Between l k ds

-- definitions in order, of such numbers
pub record Defines (l k : ℕ) (ds : List Definition) : Type 0 where
  pub ordered : AreOrdered rank ds
  pub between : Between l k ds

pub defines_none : (l k : ℕ) → Defines l k []
defines_none l k = record { ordered = tt; between = tt }

between_more : (l k i j : ℕ) (ds : List Definition) → i ≤ l → k ≤ j → Between l k ds → Between i j ds
between_more l k i j [] p q h = tt
between_more l k i j (d ∷ ds) p q h = ((below i l d.symbol.number p h.0.0, under d.symbol.number k j h.0.1 q, h.0.2), between_more l k i j ds p q h.1)
  where
    below : (i l n : ℕ) → i ≤ l → l ≤ n → i ≤ n
    below i l n p q = omega arith

pub defines_more : (l k i j : ℕ) (ds : List Definition) → i ≤ l → k ≤ j → Defines l k ds → Defines i j ds
defines_more l k i j ds p q h = record { ordered = h.ordered; between = between_more l k i j ds p q h.between }

other_number : (f g : Sym) → f.number < g.number → same_sym f g ≡ false
other_number f g h = go (nat_eq f.number g.number) (test f.number g.number h)
  where
    test : (a b : ℕ) → a < b → nat_eq a b ≡ false
    test a b h = grind (arith, nat_tests)

    go : (b : Bool) → b ≡ false → elim b [ true ↦ elim (nat_eq (kind_code f.kind) (kind_code g.kind)) [ true ↦ nat_eq f.arity g.arity | false ↦ false ] | false ↦ false ] ≡ false
    go true e = cc
    go false e = refl

first_of : (d : Definition) (k j : ℕ) (es : List Definition) → d.symbol.number < k → Between k j es → IsFirst rank d es
first_of d k j [] p h = tt
first_of d k j (e ∷ es) p h =
    let l : d.symbol.number < e.symbol.number = under d.symbol.number k e.symbol.number p h.0.0 in
    (other_number d.symbol e.symbol l, lower d.symbol.number e.symbol.number (kind_code d.symbol.kind) (kind_code e.symbol.kind) l (few_kinds d.symbol.kind), first_of d k j es p h.1)
  where
    lower : (m n a b : ℕ) → m < n → a ≤ 5 → 8 * m + a ≤ 8 * n + b
    lower m n a b h q = omega arith

first_append : (d : Definition) (ds es : List Definition) → IsFirst rank d ds → IsFirst rank d es → IsFirst rank d (ds ++ es)
first_append d [] es h k = k
first_append d (x ∷ ds) es h k = (h.0, h.1, first_append d ds es h.2 k)

pub defines_append : (l k j : ℕ) (ds es : List Definition) → l ≤ k → k ≤ j → Defines l k ds → Defines k j es → Defines l j (ds ++ es)
defines_append l k j ds es p q h i = record { ordered = ordered ds h.ordered h.between; between = both ds (between_more l k l j ds (omega arith) q h.between) }
  where
    ordered : (ds : List Definition) → AreOrdered rank ds → Between l k ds → AreOrdered rank (ds ++ es)
    ordered [] o b = i.ordered
    ordered (d ∷ ds) o b = (o.0, first_append d ds es o.1 (first_of d k j es b.0.1 i.between), ordered ds o.2 b.1)

    both : (ds : List Definition) → Between l j ds → Between l j (ds ++ es)
    both [] b = between_more k j l j es p (omega arith) i.between
    both (d ∷ ds) b = (b.0, both ds b.1)

-- the definitions of one number
of_level_defines : (level n a : ℕ) (x : Both) → IsBelow rank (8 * n + 3) x.plain → IsBelow rank (8 * n + 4) x.primed → Defines n (suc n) (of_level level n a x)
of_level_defines zero n a x p q = record { ordered = (p, tt, tt); between = ((omega arith, omega arith, refl), tt) }
of_level_defines (suc zero) n a x p q = record {
  ordered = (p, (either (nat_eq n n), omega arith, tt), (q, tt, tt));
  between = ((omega arith, omega arith, refl), ((omega arith, omega arith, refl), tt));
}
  where
    either : (b : Bool) → elim b [ true ↦ false | false ↦ false ] ≡ false
    either true = refl
    either false = refl
of_level_defines (suc (suc l)) n a x p q = record { ordered = (p, tt, tt); between = ((omega arith, omega arith, refl), tt) }

flags_length : (means : Place → Option ℕ) (flags : Option ℕ → List Bool) (ds : List Decl) (t : Term) → length (primed_parameters means flags ds t) ≡ length ds
flags_length means flags [] t = refl
flags_length means flags (d ∷ ds) t = ap suc (flags_length means flags ds t)

module _ (E : List Entry) (Y : List (Place × ℕ)) where
  -- the bodies of a definition have symbols of ranks below what is declared before it
  abbrev BodiesBelow : ℕ → List Decl → Term → Type 0
  BodiesBelow l ps t = (e : Entry) → length e.primed ≡ length ps → IsBelow rank (8 * l) (bodies (meant E Y) E e ps t).plain × IsBelow rank (8 * l) (bodies (meant E Y) E e ps t).primed

  body_goes : (ps : List Decl) (t : Term) (b : Book) → Back E Y (body_names ps t b) → Goes E Y b (body_names ps t b) (decl_places ps ++ places t) (same E Y) (λ P. BodiesBelow (length (entries_of b)) ps t)
  body_goes ps t b h = record {
    stays = of_result E Y (walk Any);
    keeps = λ P u s. scoped_after E Y P (walk (Gives E Y P)) u s;
    says = λ P u s e n.
        let allowed : ℕ → Bool = in_scope (scope_of b) in
        let x = bodies_are_in_scope allowed e ps t b (final E Y) (known E Y P b (of_result E Y (walk Any)).back s) u (later E Y (body_names ps t b) h) n in
        let g = each_map (λ n. (n < length (entries_of b)) × Gives E Y P n) (Gives E Y P) (scope_of b) (λ n y. y.1) s.scope in
        let low : (f : Sym) (k : ℕ) → Holds (is_allowed E allowed) f k → rank f < 8 * length (entries_of b) = λ f k y. numbers_low (length (entries_of b)) f k (s.low f k (allowed_is E Y P (scope_of b) f k s.string g y)) in (
          Only-below rank [] (Holds (is_allowed E allowed)) (8 * length (entries_of b)) (bodies (meant E Y) E e ps t).plain low x.plain_only,
          Only-below rank [] (Holds (is_allowed E allowed)) (8 * length (entries_of b)) (bodies (meant E Y) E e ps t).primed low x.primed_only,
        );
  }
    where
      walk : (Outer : ℕ → Type 0) → Result E Y Outer b (body_names ps t b) (decl_places ps ++ places t) (λ ns. Fine (symbol_at Y) any any (with_decls (symbol_at Y) ns ps) t) (λ ns. ns)
      walk Outer = body_walk E Y Outer any any (λ n k o f a. tt) (λ n k o f. tt) (λ k. tt) ps t b (record { entries = h.entries; symbols = h.symbols; no_fault = h.no_fault })

  definition_entry : Text → List Decl → Term → Book → Entry
  definition_entry w ds t b = record { name = w; sort = sorts.Definition; arity = length ds; level = (definition_level (means b) (levels_of b) ds t []).0; primed = primed_parameters (means b) (flags_of (entries_of b)) ds t }

  -- the name of a definition, behind its parameters and text
  named_goes : (w : Text) (ps : List Decl) (t : Term) (p : Place) (b : Book) → Back E Y (defined w ps t p b)
      → Goes E Y b (defined w ps t p b) (p ∷ []) (λ P. Plus P (length (entries_of b))) (λ P. Enters E Y (definition_entry w ps t b) p b (defined w ps t p b))
  unfolding definition_entry
  named_goes w ps t p b h =
      entered_goes E Y (definition_entry w ps t b) (definition_level (means b) (levels_of b) ps t) p b (λ P. Plus P (length (entries_of b))) refl (λ P s k q. inl q) (λ P k j q. inr refl) (λ P. plus_low P (length (entries_of b))) h

  one_defines : (w : Text) (ps : List Decl) (t : Term) (p : Place) (a b c : Book) → length (entries_of a) ≤ length (entries_of b) → BodiesBelow (length (entries_of a)) ps t → Enters E Y (definition_entry w ps t b) p b c
      → Defines (length (entries_of a)) (length (entries_of c)) (numbered E (meant E Y) (meant E Y p) ps t)
  unfolding definition_entry
  one_defines w ps t p a b c l f i = subst (λ (o : Option ℕ). Defines (length (entries_of a)) (length (entries_of c)) (numbered E (meant E Y) o ps t)) (sym i.number)
      (subst (λ (k : ℕ). Defines (length (entries_of a)) k (numbered E (meant E Y) (Some n) ps t)) (sym i.longer)
      (defines_more n (suc n) (length (entries_of a)) (suc n) (of_level e.level n (length ps + flags_in (meant E Y) E e.primed) (bodies (meant E Y) E e ps t)) l (omega arith)
      (of_level_defines e.level n (length ps + flags_in (meant E Y) E e.primed) (bodies (meant E Y) E e ps t) (Below-more rank (8 * length (entries_of a)) (8 * n + 3) (bodies (meant E Y) E e ps t).plain (wide (length (entries_of a)) n 3 l) g.0)
      (Below-more rank (8 * length (entries_of a)) (8 * n + 4) (bodies (meant E Y) E e ps t).primed (wide (length (entries_of a)) n 4 l) g.1))))
    where
      n : ℕ
      n = length (entries_of b)

      e : Entry
      e = entry_of E (length (entries_of b))

      g : IsBelow rank (8 * length (entries_of a)) (bodies (meant E Y) E (entry_of E (length (entries_of b))) ps t).plain × IsBelow rank (8 * length (entries_of a)) (bodies (meant E Y) E (entry_of E (length (entries_of b))) ps t).primed
      g = f (entry_of E (length (entries_of b))) (ap (λ (x : Entry). length x.primed) i.entry ∙ flags_length (means b) (flags_of (entries_of b)) ps t)

      wide : (a n k : ℕ) → a ≤ n → 8 * a ≤ 8 * n + k
      wide a n k h = omega arith

  -- definitions, each seen by those after it
  pub definitions_goes : (ds : Defs) (b : Book) → Back E Y (definitions ds b)
      → Goes E Y b (definitions ds b) (definition_places ds) (λ P. Numbers (length (entries_of (definitions ds b)))) (λ P. Defines (length (entries_of b)) (length (entries_of (definitions ds b))) (each_definition E (meant E Y) ds))
  definitions_goes end_defs b h = goes_numbers E Y (goes_self E Y b (λ P. Defines (length (entries_of b)) (length (entries_of b)) []) h (λ P s. defines_none (length (entries_of b)) (length (entries_of b))))
  definitions_goes (def w ps t p ds) b h =
      let a : Book = fresh w p b in
      let c1 : Book = body_names ps t a in
      let c2 : Book = defined w ps t p c1 in
      let c3 : Book = definitions ds c2 in
      let q = definitions_goes ds c2 h in
      let r = named_goes w ps t p c1 q.stays.back in
      let k = body_goes ps t a r.stays.back in
      subst (λ (x : Book). Goes E Y x c3 (definition_places (def w ps t p ds)) (λ P. Numbers (length (entries_of c3))) (λ P. Defines (length (entries_of x)) (length (entries_of c3)) (each_definition E (meant E Y) (def w ps t p ds)))) (fresh_is E Y w p b k.stays.back)
      (goes_as E Y (goes_then E Y k (goes_then E Y r q)) (λ P s f.
      defines_append (length (entries_of a)) (length (entries_of c2)) (length (entries_of c3)) (numbered E (meant E Y) (meant E Y p) ps t) (each_definition E (meant E Y) ds) (over (length (entries_of a)) (length (entries_of c1)) (length (entries_of c2)) k.stays.longer r.stays.longer) q.stays.longer
      (one_defines w ps t p a c1 c2 k.stays.longer f.0 f.1.0) f.1.1))

  bodies_judged : (ds : Defs) (b : Book) → Back E Y (judged_bodies ds b) → judged_bodies ds b ≡ b
  bodies_judged end_defs b h = refl
  bodies_judged (def w ps t p ds) b h = let e = bodies_judged ds (judged t b) h in e ∙ judged_is E Y t b (subst (Back E Y) e h)

  -- the definitions of a module or a proof
  pub define_goes : (ds : Defs) (b : Book) → Back E Y (define ds b)
      → Goes E Y b (define ds b) (definition_places ds) (λ P. Numbers (length (entries_of (define ds b)))) (λ P. Defines (length (entries_of b)) (length (entries_of (define ds b))) (each_definition E (meant E Y) ds))
  unfolding define
  define_goes ds b h =
      let e = bodies_judged ds (definitions ds b) h in
      subst (λ (c : Book). Goes E Y b c (definition_places ds) (λ P. Numbers (length (entries_of c))) (λ P. Defines (length (entries_of b)) (length (entries_of c)) (each_definition E (meant E Y) ds))) (sym e)
      (definitions_goes ds b (subst (Back E Y) e h))
