-- What is asked of the names of an expression: each is bound there, or means an entry of which more is asked.
use Rattle.std.specs.Prelude.{◌≡◌, ℕ, suc, Bool, true, false, ◌||◌, nat_eq, List, [], ◌∷◌, Option, Some, None, codes}
use Rattle.tla_ast.specs.declared.place.Place.{Place}
use Rattle.tla_ast.specs.declared.tree.Decl.{Decl}
use Rattle.plain_syntax.specs.Plain.{Term, Terms, Updates, Keys, Groups, Defs}
use Rattle.plain_syntax.specs.Plain.Term.{term}
use Rattle.plain_syntax.specs.Plain.Terms.{none, part}
use Rattle.plain_syntax.specs.Plain.Shape.{name, call, prefixed, infixed, filter, image, function, except, fields, field_sets, quantifier, choice, local}
use Rattle.plain_syntax.specs.Plain.Updates.{end_updates, update}
use Rattle.plain_syntax.specs.Plain.Keys.{end_keys, key, field_key}
use Rattle.plain_syntax.specs.Plain.Groups.{end_groups, free, within}
use Rattle.plain_syntax.specs.Plain.Defs.{end_defs, def}
use Rattle.prime_expand.specs.Symbols.{is_word, is_listed, head_in, values, library_signs}

abbrev pub has_number : List ℕ → ℕ → Bool
has_number [] n = false
has_number (m ∷ ms) n = nat_eq m n || has_number ms n

-- the number of a name that is bound, before those that are
abbrev pub listed : Option ℕ → List ℕ → List ℕ
listed None ms = ms
listed (Some n) ms = n ∷ ms

abbrev pub count : Terms → ℕ
count none = 0
count (part t ts) = suc (count ts)

module _ (means : Place → Option ℕ) where
  abbrev pub with_decls : List ℕ → List Decl → List ℕ
  with_decls bound [] = bound
  with_decls bound (x ∷ xs) = with_decls (listed (means x.place) bound) xs

  abbrev pub with_bounds : List ℕ → Groups → List ℕ
  with_bounds bound end_groups = bound
  with_bounds bound (free ds gs) = with_bounds (with_decls bound ds) gs
  with_bounds bound (within ds t gs) = with_bounds (with_decls bound ds) gs

  abbrev pub with_locals : List ℕ → Defs → List ℕ
  with_locals bound end_defs = bound
  with_locals bound (def w ps t p ds) = with_locals (listed (means p) bound) ds

-- Asked: of the number of a name that is not bound, with its number of arguments; Sign: of that of an operator that a library
-- declares, with its number of operands.
module _ (means : Place → Option ℕ) (Asked Sign : ℕ → ℕ → Type 0) where
  -- a name with k arguments, where these numbers are bound
  abbrev pub NameFine : List ℕ → Option ℕ → ℕ → Type 0
  NameFine bound None k = Unit {0}
  NameFine bound (Some n) k = has_number bound n ≡ false → Asked n k

  abbrev pub SignFine : Option ℕ → ℕ → Type 0
  SignFine None k = Unit {0}
  SignFine (Some n) k = Sign n k

  -- each name of an expression, where these numbers are bound round it
  abbrev mutual
    pub Fine : List ℕ → Term → Type 0
    Fine bound (term (name w) ts p) = (head_in values w ≡ None → NameFine bound (means p) (count ts)) × AllFine bound ts
    Fine bound (term (call w) ts p) = (head_in values w ≡ None → NameFine bound (means p) (count ts)) × AllFine bound ts
    Fine bound (term (prefixed o) ts p) = (is_word o (codes "-") ≡ true → SignFine (means p) (count ts)) × AllFine bound ts
    Fine bound (term (infixed o) ts p) = (is_listed o library_signs ≡ true → SignFine (means p) (count ts)) × AllFine bound ts
    Fine bound (term (filter x) ts p) = OverFine bound (means p) ts
    Fine bound (term (image x) ts p) = OverFine bound (means p) ts
    Fine bound (term (function x) ts p) = OverFine bound (means p) ts
    Fine bound (term (except us) ts p) = AllFine bound ts × UpdatesFine bound us
    Fine bound (term (fields hs) ts p) = ValuesFine bound ts
    Fine bound (term (field_sets hs) ts p) = ValuesFine bound ts
    Fine bound (term (quantifier all gs) ts p) = SetsFine bound gs × AllFine (with_bounds means bound gs) ts
    Fine bound (term (choice gs) ts p) = SetsFine bound gs × AllFine (with_bounds means bound gs) ts
    Fine bound (term (local ds) ts p) = DefsFine bound ds × AllFine (with_locals means bound ds) ts
    Fine bound (term s ts p) = AllFine bound ts

    pub AllFine : List ℕ → Terms → Type 0
    AllFine bound none = Unit {0}
    AllFine bound (part t ts) = Fine bound t × AllFine bound ts

    -- a set, and what sees the name that is bound over it
    pub OverFine : List ℕ → Option ℕ → Terms → Type 0
    OverFine bound n none = Unit {0}
    OverFine bound n (part s ts) = Fine bound s × AllFine (listed n bound) ts

    -- the values of fields, which stand behind their fields
    pub ValuesFine : List ℕ → Terms → Type 0
    ValuesFine bound none = Unit {0}
    ValuesFine bound (part h none) = Unit {0}
    ValuesFine bound (part h (part t ts)) = Fine bound t × ValuesFine bound ts

    pub SetsFine : List ℕ → Groups → Type 0
    SetsFine bound end_groups = Unit {0}
    SetsFine bound (free ds gs) = SetsFine bound gs
    SetsFine bound (within ds t gs) = Fine bound t × SetsFine bound gs

    pub UpdatesFine : List ℕ → Updates → Type 0
    UpdatesFine bound end_updates = Unit {0}
    UpdatesFine bound (update ks t us) = KeysFine bound ks × Fine bound t × UpdatesFine bound us

    pub KeysFine : List ℕ → Keys → Type 0
    KeysFine bound end_keys = Unit {0}
    KeysFine bound (key t ks) = Fine bound t × KeysFine bound ks
    KeysFine bound (field_key h ks) = KeysFine bound ks

    pub DefsFine : List ℕ → Defs → Type 0
    DefsFine bound end_defs = Unit {0}
    DefsFine bound (def w ps t p ds) = Fine (with_decls means bound ps) t × DefsFine (listed (means p) bound) ds
