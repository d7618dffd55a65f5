-- Names in scope give symbols of entries before a number.
use Rattle.std.specs.Prelude.{◌≡◌, ℕ, zero, suc, ◌+◌, ◌<◌, ◌≤◌, Bool, true, false, ◌&&◌, nat_eq, List, [], ◌++◌, length, take, Option}
use Rattle.std.proofs.Common.{refl, ap, sym, ◌∙◌, subst, inr}
use Rattle.tla_ast.specs.declared.place.Place.{Place}
use Rattle.core_expr.specs.Equal.{nat-refl}
use Rattle.core_expr.specs.declared.head.SymKind.{SymKind}
use Rattle.core_expr.specs.declared.head.SymKind.TheVariants as kinds
use Rattle.symbol_table.specs.declared.entry.Entry.{Entry}
use Rattle.symbol_table.specs.declared.entry.EntrySort.{EntrySort}
use Rattle.symbol_table.specs.declared.entry.EntrySort.TheVariants as sorts
use Rattle.symbol_table.specs.Scoped.{entry_of, unlisted}
use Rattle.module_scope.specs.Names.{Book, entries_of, symbols_of, scope_of, names, means, is_fact, is_library_sort, has_any}
use Rattle.prime_expand.specs.Symbols.{second_kind}
use Rattle.prime_expand.specs.Core.{flags_in}
use Rattle.prime_expand.specs.Fine.{Fine, with_decls}
use Rattle.prime_expand.specs.Laws.{Holds, OfKind, OfSort, OfEntry}
use Rattle.prime_expand.proofs.CoreFine.{core_over, bodies_over}
use Rattle.name_places.specs.Places.{places, decl_places}
use Rattle.proof_assembly.specs.States.{Free, Known, Later, is_bound, gives, is_allowed}
use Rattle.proof_assembly.specs.ScopeLaws.{body_names, NumbersGrow, NamesAreFine, BodiesAreFine, CoresAreInScope, BodiesAreInScope}
use Rattle.proof_assembly.proofs.Walks.{get_prefix, each_map}
use Rattle.proof_assembly.proofs.Named.{Reaches, Result, IsHere, clash, names_walk, body_walk}

module _ (E : List Entry) (allowed : ℕ → Bool) (meant : Place → Option ℕ) where
  given_by : (s : SymKind) (n j : ℕ) → allowed n ≡ true → gives (entry_of E n).sort (entry_of E n) s j ≡ true → OfKind (Holds (is_allowed E allowed)) s n j
  given_by s n j l g = all (allowed n) (nat_eq j j) (gives (entry_of E n).sort (entry_of E n) s j) l (nat-refl j) g
    where
      all : (a b c : Bool) → a ≡ true → b ≡ true → c ≡ true → (a && b && c) ≡ true
      all a b c p q r = cc

  pub plain : (n k : ℕ) → allowed n ≡ true → is_bound (entry_of E n).sort ≡ false → is_fact (entry_of E n).sort ≡ false → (entry_of E n).arity ≡ k → OfEntry (Holds (is_allowed E allowed)) meant E n k
  plain n k l b f a = go (entry_of E n).sort refl b f
    where
      eq : (i j : ℕ) → i ≡ j → nat_eq i j ≡ true
      eq i j e = subst (λ (m : ℕ). nat_eq i m ≡ true) e (nat-refl i)

      full : ℕ → ℕ
      full j = j + flags_in meant E (take j (entry_of E n).primed)

      folded : (entry_of E n).sort ≡ sorts.Definition → nat_eq (full (entry_of E n).arity) (full k) ≡ true → OfKind (Holds (is_allowed E allowed)) kinds.Defined n (full k)
      folded q e = given_by kinds.Defined n (full k) l (ap (λ s. gives s (entry_of E n) kinds.Defined (full k)) q ∙ e)

      second : (m : ℕ) → (entry_of E n).level ≡ m → (entry_of E n).sort ≡ sorts.Definition → nat_eq (full (entry_of E n).arity) (full k) ≡ true
          → OfKind (Holds (is_allowed E allowed)) (second_kind m) n (full k)
      second zero v q e = folded q e
      second (suc m) v q e = given_by kinds.DefinedPrimed n (full k) l (ap (λ s. gives s (entry_of E n) kinds.DefinedPrimed (full k)) q ∙ (λ i. has_any (v i) && e i))

      go : (s : EntrySort) → (entry_of E n).sort ≡ s → is_bound s ≡ false → is_fact s ≡ false → OfSort (Holds (is_allowed E allowed)) meant E s (entry_of E n) n k
      go sorts.Constant q b f = given_by kinds.Constant n k l (ap (λ s. gives s (entry_of E n) kinds.Constant k) q ∙ eq (entry_of E n).arity k a)
      go sorts.Library q b f = given_by kinds.Constant n k l (ap (λ s. gives s (entry_of E n) kinds.Constant k) q)
      go sorts.State q b f = (
        given_by kinds.State n k l (ap (λ s. gives s (entry_of E n) kinds.State k) q ∙ eq (entry_of E n).arity k a),
        given_by kinds.Primed n k l (ap (λ s. gives s (entry_of E n) kinds.Primed k) q ∙ eq (entry_of E n).arity k a),
      )
      go sorts.Definition q b f = let e = eq (full (entry_of E n).arity) (full k) (ap full a) in (folded q e, second (entry_of E n).level refl q e)
      go sorts.Bound q b f = clash true refl b
      go s q b f = clash true refl f

  pub sign : (n k : ℕ) → allowed n ≡ true → is_library_sort (entry_of E n).sort ≡ true → OfKind (Holds (is_allowed E allowed)) kinds.Constant n k
  sign n k l h = given_by kinds.Constant n k l (go (entry_of E n).sort h)
    where
      go : (s : EntrySort) → is_library_sort s ≡ true → gives s (entry_of E n) kinds.Constant k ≡ true
      go sorts.Library h = refl
      go s h = clash false h refl

  pub string : (k : ℕ) → allowed 0 ≡ true → (entry_of E 0).sort ≡ sorts.Library → OfEntry (Holds (is_allowed E allowed)) meant E 0 k
  string k l q = subst (λ s. OfSort (Holds (is_allowed E allowed)) meant E s (entry_of E 0) 0 k) (sym q) (sign 0 k l (ap is_library_sort q))

-- what is said of an expression where these are asked, and where they are the symbols in scope
module _ (allowed : ℕ → Bool) (b c : Book) where
  abbrev Outer : ℕ → Type 0
  Outer n = (allowed n ≡ true) × (is_bound (entry_of (entries_of c) n).sort ≡ false)

  abbrev Walked : Book → List Place → ((ℕ → ℕ → Type 0) → (ℕ → ℕ → Type 0) → List ℕ → Type 0) → (ℕ → ℕ → Type 0) → (ℕ → ℕ → Type 0) → Type 0
  Walked d ps F asked sign = Result (entries_of c) (symbols_of c) Outer b d ps (F asked sign) (λ ns. ns)

  -- a walk for whatever is asked, if what is in scope has it, says it of the symbols in scope
  walked : (d : Book) (ps : List Place) (F : (ℕ → ℕ → Type 0) → (ℕ → ℕ → Type 0) → List ℕ → Type 0)
      → ((asked sign : ℕ → ℕ → Type 0)
      → ((n k : ℕ) → Outer n → is_fact (entry_of (entries_of c) n).sort ≡ false → (entry_of (entries_of c) n).arity ≡ k → asked n k)
      → ((n k : ℕ) → Outer n → is_library_sort (entry_of (entries_of c) n).sort ≡ true → sign n k) → ((k : ℕ) → asked 0 k) → Walked d ps F asked sign)
      → Known allowed b → Free (symbols_of b) ps → F (OfEntry (Holds (is_allowed (entries_of c) allowed)) (means c) (entries_of c)) (OfKind (Holds (is_allowed (entries_of c) allowed)) kinds.Constant) []
  walked d ps F walk k f =
      let E : List Entry = entries_of c in
      let any : ℕ → ℕ → Type 0 = λ n j. Unit {0} in
      let back = (walk any any (λ n j o f a. tt) (λ n j o h. tt) (λ j. tt)).back in
      let here : (n : ℕ) → n < length (entries_of b) → entry_of E n ≡ entry_of (entries_of b) n = λ n l. get_prefix unlisted (entries_of b) E n back.entries l in
      (walk (OfEntry (Holds (is_allowed E allowed)) (means c) E) (OfKind (Holds (is_allowed E allowed)) kinds.Constant)
      (λ n j o f a. plain E allowed (means c) n j o.0 o.1 f a) (λ n j o h. sign E allowed (means c) n j o.0 h)
      (λ j. string E allowed (means c) j k.string.0 (ap (λ (e : Entry). e.sort) (here 0 k.string.1) ∙ k.string.2))).fine [] f
      (each_map (λ n. (n < length (entries_of b)) × (allowed n ≡ true) × (is_bound (entry_of (entries_of b) n).sort ≡ false)) (IsHere E (symbols_of c) Outer (length (entries_of b)) []) (scope_of b)
      (λ n h. (h.0, inr (h.1, ap (λ (e : Entry). is_bound e.sort) (here n h.0) ∙ h.2))) k.scope)

at_end : (Outer : ℕ → Type 0) (b c : Book) → Later b c → Reaches (entries_of c) (symbols_of c) Outer b
at_end Outer b c l = record { entries = l.entries; symbols = l.symbols; no_fault = l.no_fault }

pub names_are_fine : NamesAreFine
names_are_fine allowed t b c k f l =
    walked allowed b c (names t b) (places t) (λ asked sign ns. Fine (means c) asked sign ns t)
    (λ asked sign p q r. names_walk (entries_of c) (symbols_of c) (Outer allowed b c) asked sign p q r t b (at_end (Outer allowed b c) (names t b) c l)) k f

pub bodies_are_fine : BodiesAreFine
bodies_are_fine allowed ps t b c k f l =
    walked allowed b c (body_names ps t b) (decl_places ps ++ places t) (λ asked sign ns. Fine (means c) asked sign (with_decls (means c) ns ps) t)
    (λ asked sign p q r. body_walk (entries_of c) (symbols_of c) (Outer allowed b c) asked sign p q r ps t b (at_end (Outer allowed b c) (body_names ps t b) c l)) k f

pub cores_are_in_scope : CoresAreInScope
cores_are_in_scope allowed t b c k f l = core_over (Holds (is_allowed (entries_of c) allowed)) (means c) (entries_of c) t (names_are_fine allowed t b c k f l)

pub bodies_are_in_scope : BodiesAreInScope
bodies_are_in_scope allowed e ps t b c k f l n = bodies_over (Holds (is_allowed (entries_of c) allowed)) (means c) (entries_of c) e ps t n (bodies_are_fine allowed ps t b c k f l)

pub numbers_grow : NumbersGrow
numbers_grow =
    let any : ℕ → ℕ → Type 0 = λ n j. Unit {0} in
    let none : ℕ → Type 0 = λ n. ⊥ in (
      (λ t b c l. grown b (names t b) c (places t) (λ ns. Fine (means c) any any ns t) (names_walk (entries_of c) (symbols_of c) none any any (λ n j o f a. tt) (λ n j o h. tt) (λ j. tt) t b (at_end none (names t b) c l))),
      λ ps t b c l. grown b (body_names ps t b) c (decl_places ps ++ places t) (λ ns. Fine (means c) any any (with_decls (means c) ns ps) t)
          (body_walk (entries_of c) (symbols_of c) none any any (λ n j o f a. tt) (λ n j o h. tt) (λ j. tt) ps t b (at_end none (body_names ps t b) c l)),
    )
  where
    grown : (b d c : Book) (ps : List Place) (F : List ℕ → Type 0) → Result (entries_of c) (symbols_of c) (λ n. ⊥) b d ps F (λ ns. ns) → Later b c × (length (entries_of b) ≤ length (entries_of d))
    grown b d c ps F r = (record { entries = r.back.entries; symbols = r.back.symbols; no_fault = r.back.no_fault }, r.longer)
