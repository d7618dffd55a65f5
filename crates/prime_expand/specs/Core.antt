-- The core of an expression, and its primed form.
use Rattle.std.specs.Prelude.{ℕ, zero, suc, ◌+◌, ◌-◌, Bool, true, false, nat_eq, if◌then◌else◌, List, [], ◌∷◌, length, drop, Option, Some, None}
use Rattle.tla_ast.specs.declared.place.Place.{Place}
use Rattle.tla_ast.specs.declared.tree.Decl.{Decl}
use Rattle.core_expr.specs.declared.head.SymKind.{SymKind}
use Rattle.core_expr.specs.declared.head.SymKind.TheVariants as sym
use Rattle.core_expr.specs.declared.head.Binder.{Binder}
use Rattle.core_expr.specs.declared.head.Binder.TheVariants.{All, Ex, Filter, Image, Fun, Choose}
use Rattle.core_expr.specs.declared.head.Head.{Head}
use Rattle.core_expr.specs.declared.head.Head.TheVariants.{True, And, Or, Apply, Enum, Tuple, FunSet, If}
use Rattle.core_expr.specs.Tree.{Tree, true_}
use Rattle.core_expr.specs.Tree.Tree.{bound}
use Rattle.core_expr.specs.Terms.{numeral_of}
use Rattle.symbol_table.specs.declared.entry.Entry.{Entry}
use Rattle.symbol_table.specs.Scoped.{Table, entry_of, symbol}
use Rattle.plain_syntax.specs.Plain.{Text, Term, Terms, Updates, Keys, Groups, Defs}
use Rattle.plain_syntax.specs.Plain.Term.{term}
use Rattle.plain_syntax.specs.Plain.Terms.{none, part}
use Rattle.plain_syntax.specs.Plain.Shape.{name, call, number, text, prefixed, infixed, prime, index, field, enum, filter, image, tuple, function, functions, except, fields, field_sets, box, angle, junction, quantifier, choice, conditional, cases, local, at, fair}
use Rattle.plain_syntax.specs.Plain.Updates.{end_updates, update}
use Rattle.plain_syntax.specs.Plain.Keys.{end_keys, key, field_key}
use Rattle.plain_syntax.specs.Plain.Groups.{end_groups, free, within}
use Rattle.plain_syntax.specs.Plain.Defs.{end_defs, def}
use Rattle.prime_expand.specs.declared.both.Both.{Both}
use Rattle.prime_expand.specs.Both.{same, leaf, two, three, binary, many, quantified, ranged, bounded, temporal_, lifted, part_at, joined, seconds}
use Rattle.prime_expand.specs.Forms.{boxed, angled, string, along, updated, record_of, records_of, case_of}
use Rattle.prime_expand.specs.Symbols.{by_sort, second_kind, values, head_in, by_prefix, by_infix}

-- ---- what names mean where an expression stands

-- a core and the depth of binders at which it stands
abbrev pub Standing : Type 0
Standing = ℕ × Both

-- a core, or a definition of a LET, by the depth of its use and its arguments
pub data Meaning : Type 0 where
  fixed : Standing → Meaning
  given : (ℕ → List Both → Both) → Meaning

abbrev pub Env : Type 0
Env = List (ℕ × Meaning)

abbrev pub lookup : Env → ℕ → Option Meaning
lookup [] n = None
lookup (e ∷ es) n = if nat_eq e.0 n then Some e.1 else lookup es n

abbrev pub known : Env → Option ℕ → Option Meaning
known env None = None
known env (Some n) = lookup env n

abbrev pub known_as : Option ℕ → Meaning → Env → Env
known_as None m env = env
known_as (Some n) m env = (n, m) ∷ env

-- the core at the depth d
abbrev pub at_depth : ℕ → Standing → Both
at_depth d s = lifted d s.0 s.1

-- the variable of the binder that comes at this depth
abbrev pub variable : ℕ → Meaning
variable d = fixed (suc d, same (bound 0))

abbrev pub names_in : Groups → ℕ
names_in end_groups = 0
names_in (free ds gs) = length ds + names_in gs
names_in (within ds t gs) = length ds + names_in gs

-- ---- binders

abbrev pub quantifier_of : Bool → Binder
quantifier_of true = All
quantifier_of false = Ex

-- k names without a set
abbrev pub over_names : Binder → ℕ → Both → Both
over_names b zero p = p
over_names b (suc k) p = over_names b k (quantified b p)

-- k names of a set: the set of each stands under the binders of the names before it, and under its own
abbrev pub over_set : Binder → (ℕ → Both) → ℕ → ℕ → Both → Both
over_set b s d zero p = p
over_set b s d (suc k) p = over_set b s d k (bounded b (s (d + suc k)) p)

module _ (means : Place → Option ℕ) (entries : List Entry) where
  -- a name by what it means: bound here, declared, or nothing where the text was not resolved
  abbrev pub by_name : Option ℕ → Option Meaning → ℕ → List Both → Both
  by_name n (Some (fixed s)) d args = at_depth d s
  by_name n (Some (given f)) d args = f d args
  by_name None None d args = same true_
  by_name (Some n) None d args = by_sort (entry_of entries n).sort (entry_of entries n) n args

  abbrev pub by_value : Option Head → Env → Place → ℕ → List Both → Both
  by_value (Some h) env p d args = leaf h
  by_value None env p d args = by_name (means p) (known env (means p)) d args

  -- a name or a call
  abbrev pub used : Text → Env → Place → ℕ → List Both → Both
  used w = by_value (head_in values w)

  abbrev pub with_names : ℕ → List Decl → Env → Env
  with_names d [] env = env
  with_names d (x ∷ xs) env = with_names (suc d) xs (known_as (means x.place) (variable d) env)

  abbrev pub with_groups : ℕ → Groups → Env → Env
  with_groups d end_groups env = env
  with_groups d (free ds gs) env = with_groups (d + length ds) gs (with_names d ds env)
  with_groups d (within ds t gs) env = with_groups (d + length ds) gs (with_names d ds env)

  -- the parameters of a definition by its arguments
  abbrev pub with_arguments : ℕ → List Decl → List Both → Env → Env
  with_arguments d [] args env = env
  with_arguments d (x ∷ xs) args env = with_arguments d xs (drop 1 args) (known_as (means x.place) (fixed (d, part_at 0 args)) env)

  -- The core of an expression, where names mean this, `@` means that, d binders deep.
  abbrev mutual
    pub core : Env → Standing → ℕ → Term → Both
    core env a d (term (name w) ts p) = used w env p d (cores env a d ts)
    core env a d (term (call w) ts p) = used w env p d (cores env a d ts)
    core env a d (term (number n) ts p) = same (numeral_of n)
    core env a d (term (text s) ts p) = string s
    core env a d (term (prefixed o) ts p) = by_prefix o (means p) (cores env a d ts)
    core env a d (term (infixed o) ts p) = by_infix o (means p) (cores env a d ts)
    core env a d (term prime ts p) = same (part_at 0 (cores env a d ts)).primed
    core env a d (term index ts p) = two Apply (cores env a d ts)
    core env a d (term (field h) ts p) = binary Apply (part_at 0 (cores env a d ts)) (string h)
    core env a d (term enum ts p) = many Enum (cores env a d ts)
    core env a d (term tuple ts p) = many Tuple (cores env a d ts)
    core env a d (term (filter x) ts p) = over Filter env a d p ts
    core env a d (term (image x) ts p) = over Image env a d p ts
    core env a d (term (function x) ts p) = over Fun env a d p ts
    core env a d (term functions ts p) = two FunSet (cores env a d ts)
    core env a d (term (except us) ts p) = updates env a d (part_at 0 (cores env a d ts)) us
    core env a d (term (fields hs) ts p) = record_of hs (seconds (cores env a (suc d) ts))
    core env a d (term (field_sets hs) ts p) = records_of hs (seconds (cores env a d ts)) (seconds (cores env a (suc d) ts))
    core env a d (term box ts p) = boxed (part_at 0 (cores env a d ts)) (part_at 1 (cores env a d ts))
    core env a d (term angle ts p) = angled (part_at 0 (cores env a d ts)) (part_at 1 (cores env a d ts))
    core env a d (term (junction all) ts p) = joined (if all then And else Or) True (cores env a d ts)
    core env a d (term (quantifier all gs) ts p) =
        wrapped env a d (quantifier_of all) gs (part_at 0 (cores (with_groups d gs env) a (d + names_in gs) ts))
    core env a d (term (choice gs) ts p) = wrapped env a d Choose gs (part_at 0 (cores (with_groups d gs env) a (d + names_in gs) ts))
    core env a d (term conditional ts p) = three If (cores env a d ts)
    core env a d (term (cases other) ts p) = case_of (cores env a (suc d) ts)
    core env a d (term (local ds) ts p) = part_at 0 (cores (with_definitions a ds env) a d ts)
    core env a d (term at ts p) = at_depth d a
    core env a d (term fair ts p) = temporal_

    pub cores : Env → Standing → ℕ → Terms → List Both
    cores env a d none = []
    cores env a d (part t ts) = core env a d t ∷ cores env a d ts

    -- a set, and what stands under the binder of a name of that set
    pub over : Binder → Env → Standing → ℕ → Place → Terms → Both
    over b env a d p none = same true_
    over b env a d p (part s ts) = ranged b (core env a d s) (part_at 0 (cores (known_as (means p) (variable d) env) a (suc d) ts))

    pub wrapped : Env → Standing → ℕ → Binder → Groups → Both → Both
    wrapped env a d b end_groups p = p
    wrapped env a d b (free ds gs) p = over_names b (length ds) (wrapped env a (d + length ds) b gs p)
    wrapped env a d b (within ds t gs) p = over_set b (λ e. core env a e t) d (length ds) (wrapped env a (d + length ds) b gs p)

    -- the updates one after another; in a new value `@` is the result so far at the path
    pub updates : Env → Standing → ℕ → Both → Updates → Both
    updates env a d r end_updates = r
    updates env a d r (update ks t us) = updates env a d (updated r (keys env a d ks) (core env (d, along r (keys env a d ks)) d t)) us

    pub keys : Env → Standing → ℕ → Keys → List Both
    keys env a d end_keys = []
    keys env a d (key t ks) = core env a d t ∷ keys env a d ks
    keys env a d (field_key h ks) = string h ∷ keys env a d ks

    -- a definition sees those before it; `@` in its body is that where the LET stands
    pub with_definitions : Standing → Defs → Env → Env
    with_definitions a end_defs env = env
    with_definitions a (def w ps t p ds) env =
        with_definitions a ds (known_as (means p) (given (λ d args. core (with_arguments d ps args env) a d t)) env)

  -- `@` stands in no expression by itself
  abbrev pub nothing : Standing
  nothing = (0, same true_)

  -- the core of an expression that stands by itself
  unfoldable pub core_of : Term → Both
  core_of t = core [] nothing 0 t

  -- ---- bodies of definitions

  abbrev pub flags_in : List Bool → ℕ
  flags_in [] = 0
  flags_in (true ∷ fs) = suc (flags_in fs)
  flags_in (false ∷ fs) = flags_in fs

  -- The parameters as loose variables: the first is the outermost, and after them come those that are primed. `left` counts the
  -- variables from this parameter on, `more` those of the primed ones from this one on.
  abbrev pub loose : ℕ → ℕ → List Bool → List Both
  loose left more [] = []
  loose left more (true ∷ fs) = record { plain = bound (left - 1); primed = bound (more - 1) } ∷ loose (left - 1) (more - 1) fs
  loose left more (false ∷ fs) = same (bound (left - 1)) ∷ loose (left - 1) more fs

  -- the bodies of a definition's two symbols
  unfoldable pub bodies : Entry → List Decl → Term → Both
  bodies e ds t = core (with_arguments 0 ds (loose (length ds + flags_in e.primed) (flags_in e.primed) e.primed) []) nothing 0 t

  -- the symbol of a definition, the second where primed
  abbrev pub kind_of : Entry → Bool → SymKind
  kind_of e true = second_kind e.level
  kind_of e false = sym.Defined

abbrev pub half : Bool → Both → Tree
half true b = b.primed
half false b = b.plain

-- ---- of a table of names

-- the core of an expression of a module, primed or not
abbrev pub core_in : Table → ℕ → Bool → Term → Tree
core_in table m primed t = half primed (core_of (symbol table m) table.entries t)
