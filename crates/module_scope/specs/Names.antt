-- What names mean: a walk over a module in the order of the text, which keeps what is in scope.
use Rattle.std.specs.Prelude.{ℕ, zero, suc, Bool, true, false, ◌||◌, nat_eq, if◌then◌else◌, List, [], ◌∷◌, ◌++◌, length, take, drop, Option, Some, None, codes}
use Rattle.std.specs.List.{list_any}
use Rattle.tla_ast.specs.declared.place.Place.{Place}
use Rattle.tla_ast.specs.declared.fault.Kind.{Kind}
use Rattle.tla_ast.specs.declared.fault.Kind.TheVariants as kind
use Rattle.tla_ast.specs.declared.tree.Decl.{Decl}
use Rattle.tla_ast.specs.declared.unit.Sort.{Sort}
use Rattle.tla_ast.specs.declared.unit.Sort.TheVariants as sort
use Rattle.plain_syntax.specs.Plain.{Text, Term, Terms, Updates, Keys, Groups, Defs, Item, Statement, Fact, Move, Proof, Steps, UnitKind, Unit}
use Rattle.plain_syntax.specs.Plain.Term.{term}
use Rattle.plain_syntax.specs.Plain.Terms.{none, part}
use Rattle.plain_syntax.specs.Plain.Shape.{name, call, prefixed, infixed, filter, image, function, fields, field_sets, except, quantifier, choice, local}
use Rattle.plain_syntax.specs.Plain.Updates.{end_updates, update}
use Rattle.plain_syntax.specs.Plain.Keys.{end_keys, key, field_key}
use Rattle.plain_syntax.specs.Plain.Groups.{end_groups, free, within}
use Rattle.plain_syntax.specs.Plain.Defs.{end_defs, def}
use Rattle.plain_syntax.specs.Plain.Item.{new, given}
use Rattle.plain_syntax.specs.Plain.Fact.{step_name, whole}
use Rattle.plain_syntax.specs.Plain.{Move as move}
use Rattle.plain_syntax.specs.Plain.Proof.{by_facts, steps}
use Rattle.plain_syntax.specs.Plain.{UnitKind as u}
use Rattle.plain_syntax.specs.Plain.Steps.{end_steps, step}
use Rattle.symbol_table.specs.declared.entry.Entry.{Entry}
use Rattle.symbol_table.specs.declared.entry.EntrySort.{EntrySort}
use Rattle.symbol_table.specs.declared.entry.EntrySort.TheVariants as sorts
use Rattle.symbol_table.specs.Symbols.{symbol_at, noted}
use Rattle.symbol_table.specs.Scoped.{entry_of}
use Rattle.expression_level.specs.Levels as levels
use Rattle.expression_level.specs.Levels.{is_word, Levels, Applied, declared_level, definition_level, level}
use Rattle.expression_level.specs.Primed.{primed_parameters}
use Rattle.expression_level.specs.Store.{flags_of}
use Rattle.module_scope.specs.Scope.{Scope, found}

-- What is known at a place of a module: the scope; all that was declared, by number, and its levels; what the names of this module
-- mean so far; the faults of this module. A data type and not a record, so that a state is computed once and not for each field.
pub data Book : Type 0 where
  book : Scope → List Entry → Levels → List (Place × ℕ) → List (Place × Kind) → Book

abbrev pub scope_of : Book → Scope
scope_of (book ss es ls ys fs) = ss

abbrev pub entries_of : Book → List Entry
entries_of (book ss es ls ys fs) = es

abbrev pub levels_of : Book → Levels
levels_of (book ss es ls ys fs) = ls

abbrev pub symbols_of : Book → List (Place × ℕ)
symbols_of (book ss es ls ys fs) = ys

abbrev pub faults_of : Book → List (Place × Kind)
faults_of (book ss es ls ys fs) = fs

abbrev pub Walk : Type 0
Walk = Book → Book

infixl 10 ◌>>◌
abbrev pub ◌>>◌ : Walk → Walk → Walk
f >> g = λ b. g (f b)

-- the oldest names alone
abbrev pub left : ℕ → Walk
left n (book ss es ls ys fs) = book (take n ss) es ls ys fs

abbrev pub with_more : Scope → Walk
with_more more (book ss es ls ys fs) = book (ss ++ more) es ls ys fs

-- names declared on the way are seen there alone: the scope is cut back to what it was
abbrev pub inside : Walk → Walk
inside f b = left (length (scope_of b)) (f b)

-- what the first walk declares is not seen on the second, but after both
abbrev pub unseen_in : Walk → Walk → Walk
unseen_in f g b =
    let n = length (scope_of b) in
    let c = f b in
    with_more (drop n (scope_of c)) (g (left n c))

abbrev pub each : {A : Type 0} → (A → Walk) → List A → Walk
each f [] b = b
each f (x ∷ xs) b = each f xs (f x b)

-- ---- single names

abbrev pub entry : Book → ℕ → Entry
entry b n = entry_of (entries_of b) n

-- the number that the name at a place means
abbrev pub means : Book → Place → Option ℕ
means b = symbol_at (symbols_of b)

abbrev pub refused : Kind → Place → Walk
refused f p (book ss es ls ys fs) = book ss es ls ys (fs ++ (p, f) ∷ [])

-- the name at a place means this number
abbrev pub stands : ℕ → Place → Walk
stands n p (book ss es ls ys fs) = book ss es ls (noted p n ys) fs

-- a name that is in scope is not declared again
abbrev pub fresh_as : Option ℕ → Text → Place → Walk
fresh_as None w p b = b
fresh_as (Some n) w p b = refused (kind.Redeclared w) p b

abbrev pub fresh : Text → Place → Walk
fresh w p b = fresh_as (found w (scope_of b)) w p b

-- a declaration, and its name from then on
abbrev pub entered : Entry → Applied → Place → Walk
entered e f p (book ss es ls ys fs) =
    let n = length es in
    book (ss ++ (e.name, n) ∷ []) (es ++ e ∷ []) (levels.bound n f ls) (noted p n ys) fs

abbrev pub has_any : ℕ → Bool
has_any zero = false
has_any (suc n) = true

abbrev pub declared : EntrySort → ℕ → ℕ → Text → Place → Walk
declared s l n w p = entered (record { name = w; sort = s; arity = n; level = l; primed = [] }) (declared_level l (has_any n)) p

abbrev pub declare : EntrySort → ℕ → Decl → Walk
declare s l d = fresh d.name d.place >> declared s l d.arity d.name d.place

-- a name without parameters
abbrev pub declare_name : EntrySort → ℕ → Decl → Walk
declare_name s l d = fresh d.name d.place >> declared s l 0 d.name d.place

abbrev pub is_fact : EntrySort → Bool
is_fact sorts.Assume = true
is_fact sorts.Theorem = true
is_fact sorts.Pragma = true
is_fact _ = false

abbrev pub is_library_sort : EntrySort → Bool
is_library_sort sorts.Library = true
is_library_sort _ = false

abbrev pub is_definition : EntrySort → Bool
is_definition sorts.Definition = true
is_definition _ = false

-- a name with so many arguments; the name of a fact is no expression
abbrev pub used_as : Option ℕ → Text → ℕ → Place → Walk
used_as None w n p b = refused (kind.Unknown w) p b
used_as (Some k) w n p b =
    if is_fact (entry b k).sort then refused (kind.Unknown w) p b
    else (if nat_eq (entry b k).arity n then stands k p b else refused (kind.Arity w) p b)

abbrev pub used : Text → ℕ → Place → Walk
used w n p b = used_as (found w (scope_of b)) w n p b

abbrev pub is_value : Text → Bool
is_value w = is_word w (codes "TRUE") || is_word w (codes "FALSE") || is_word w (codes "BOOLEAN")

-- STRING is the entry 0
abbrev pub named : Text → ℕ → Place → Walk
named w n p b =
    if is_value w then b
    else (if is_word w (codes "STRING") then stands 0 p b else used w n p b)

-- a name that means an entry of a sort, or else is unknown and shown so
abbrev pub of_sort : (EntrySort → Bool) → Option ℕ → Text → Place → Walk
of_sort test None shown p b = refused (kind.Unknown shown) p b
of_sort test (Some k) shown p b = if test (entry b k).sort then stands k p b else refused (kind.Unknown shown) p b

-- the name of a library's operator; the fault carries the sign
abbrev pub operator : Text → Text → Place → Walk
operator w shown p b = of_sort is_library_sort (found w (scope_of b)) shown p b

-- the operators that a library gives
abbrev pub library_signs : List Text
library_signs = codes "+" ∷ codes "-" ∷ codes "*" ∷ codes "<" ∷ codes ">" ∷ codes "<=" ∷ codes ">=" ∷ codes ".." ∷ []

abbrev pub is_listed : Text → List Text → Bool
is_listed w [] = false
is_listed w (v ∷ vs) = is_word v w || is_listed w vs

-- the prefix `-` is named `-.`
abbrev pub prefix_name : Text → Place → Walk
prefix_name o p b = if is_word o (codes "-") then operator (codes "-.") o p b else b

abbrev pub infix_name : Text → Place → Walk
infix_name o p b = if is_listed o library_signs then operator o o p b else b

abbrev pub count : Terms → ℕ
count none = 0
count (part t ts) = suc (count ts)

-- ---- expressions

abbrev pub bind_names : EntrySort → Groups → Walk
bind_names s end_groups b = b
bind_names s (free ds gs) b = bind_names s gs (each (declare_name s 0) ds b)
bind_names s (within ds t gs) b = bind_names s gs (each (declare_name s 0) ds b)

abbrev pub bound : Text → Place → Walk
bound w p = fresh w p >> declared sorts.Bound 0 0 w p

-- the definition of a name whose parameters and body are walked
abbrev pub defined : Text → List Decl → Term → Place → Walk
defined w ds t p b =
    let has = definition_level (means b) (levels_of b) ds t in
    entered
    (record {
      name = w;
      sort = sorts.Definition;
      arity = length ds;
      level = (has []).0;
      primed = primed_parameters (means b) (flags_of (entries_of b)) ds t;
    })
    has p b

abbrev pub has_field : List Text → Text → Bool
has_field seen h = list_any (is_word h) seen

-- the fields that were named, each once
abbrev pub with_field : List Text → Text → List Text
with_field seen h = if has_field seen h then seen else seen ++ h ∷ []

-- the fields that were named, with this one
abbrev pub with_head : List Text → Term → List Text
with_head seen (term (name h) ts p) = with_field seen h
with_head seen t = seen

-- the name of a field, which may not be named for the second time
abbrev pub head_names : List Text → Term → Walk
head_names seen (term (name h) ts p) b = if has_field seen h then refused (kind.Redeclared h) p b else b
head_names seen t b = b

abbrev mutual
  pub names : Term → Walk
  names (term (name w) ts p) b = named w (count ts) p (all_names ts b)
  names (term (call w) ts p) b = named w (count ts) p (all_names ts b)
  names (term (prefixed o) ts p) b = prefix_name o p (all_names ts b)
  names (term (infixed o) ts p) b = infix_name o p (all_names ts b)
  names (term (filter x) ts p) b = bound_names x p ts b
  names (term (image x) ts p) b = bound_names x p ts b
  names (term (function x) ts p) b = bound_names x p ts b
  names (term (fields hs) ts p) b = field_names [] ts b
  names (term (field_sets hs) ts p) b = field_names [] ts b
  names (term (except us) ts p) b = update_names us (all_names ts b)
  names (term (quantifier all gs) ts p) b = inside (bind_names sorts.Bound gs >> all_names ts) (set_names gs b)
  names (term (choice gs) ts p) b = inside (bind_names sorts.Bound gs >> all_names ts) (set_names gs b)
  names (term (local ds) ts p) b = inside (definitions ds >> all_names ts) b
  names (term s ts p) b = all_names ts b

  pub all_names : Terms → Walk
  all_names none b = b
  all_names (part t ts) b = all_names ts (names t b)

  -- the set, and then what sees the bound name
  pub bound_names : Text → Place → Terms → Walk
  bound_names x p none b = b
  bound_names x p (part s ts) b = inside (bound x p >> all_names ts) (names s b)

  pub set_names : Groups → Walk
  set_names end_groups b = b
  set_names (free ds gs) b = set_names gs b
  set_names (within ds t gs) b = set_names gs (names t b)

  pub update_names : Updates → Walk
  update_names end_updates b = b
  update_names (update ks t us) b = update_names us (names t (key_names ks b))

  pub key_names : Keys → Walk
  key_names end_keys b = b
  key_names (key t ks) b = key_names ks (names t b)
  key_names (field_key h ks) b = key_names ks b

  -- fields and their expressions in turn; a field is not named twice
  pub field_names : List Text → Terms → Walk
  field_names seen none b = b
  field_names seen (part h none) b = b
  field_names seen (part h (part t ts)) b = field_names (with_head seen h) ts (names t (head_names seen h b))

  -- definitions, each seen by those after it
  pub definitions : Defs → Walk
  definitions end_defs b = b
  definitions (def w ps t p ds) b = definitions ds (defined w ps t p (inside (each (declare_name sorts.Bound 0) ps >> names t) (fresh w p b)))

-- ---- statements and proofs

-- the faults of levels in an expression
unfoldable pub judged : Term → Walk
judged t b = each (refused kind.Level) (level (means b) (levels_of b) 0 t).1 b

-- an expression by itself
unfoldable pub alone : Term → Walk
alone t = names t >> judged t

abbrev pub each_alone : Terms → Walk
each_alone none b = b
each_alone (part t ts) b = each_alone ts (alone t b)

abbrev pub judged_bodies : Defs → Walk
judged_bodies end_defs b = b
judged_bodies (def w ps t p ds) b = judged_bodies ds (judged t b)

-- definitions of a module or a proof
unfoldable pub define : Defs → Walk
define ds = definitions ds >> judged_bodies ds

abbrev pub domain : Option Term → Walk
domain None b = b
domain (Some t) b = alone t b

abbrev pub new_sort : Sort → EntrySort
new_sort sort.Constant = sorts.Constant
new_sort _ = sorts.State

abbrev pub new_level : Sort → ℕ
new_level sort.Constant = 0
new_level _ = 1

abbrev pub item_names : Item → Walk
item_names (new s d t) = domain t >> declare_name (new_sort s) (new_level s) d
item_names (given t) = alone t

unfoldable pub stated : Statement → Walk
stated s = each item_names s.items >> alone s.goal

-- the sets of the names that TAKE and PICK choose
abbrev pub group_sets : Groups → Walk
group_sets end_groups b = b
group_sets (free ds gs) b = group_sets gs b
group_sets (within ds t gs) b = group_sets gs (alone t b)

unfoldable pub chosen : Groups → Walk
chosen gs = group_sets gs >> bind_names sorts.Constant gs

-- the number, where it is a fact's
abbrev pub fact_of : Book → Option ℕ → Option ℕ
fact_of b None = None
fact_of b (Some n) = if is_fact (entry b n).sort then Some n else None

-- the number of the fact that an expression names, where it is the name of a fact
abbrev pub named_fact : Book → Term → Option ℕ
named_fact b (term (name w) none p) = fact_of b (found w (scope_of b))
named_fact b t = None

abbrev pub place_of : Term → Place
place_of (term s ts p) = p

-- a name alone that is a fact's is cited; anything else is an expression
abbrev pub cited_as : Option ℕ → Term → Walk
cited_as None t b = alone t b
cited_as (Some x) t b = stands x (place_of t) b

unfoldable pub cited : Term → Walk
cited t b = cited_as (named_fact b t) t b

abbrev pub fact_names : Fact → Walk
fact_names (step_name l w p) b = b
fact_names (whole p t) b = cited t b

-- a name after DEF
abbrev pub unfolded : Decl → Walk
unfolded d b = of_sort is_definition (found d.name (scope_of b)) d.name d.place b

unfoldable pub facts : List Fact → List Decl → Walk
facts fs ds = each fact_names fs >> each unfolded ds

-- a step, with the walk over its own proof
abbrev pub move_names : Move → Walk → Walk
move_names (move.assert s) sub = inside (stated s >> sub)
move_names (move.case t) sub = alone t >> sub
move_names (move.suffices s) sub = unseen_in (stated s) sub
move_names (move.have t) sub = alone t >> sub
move_names (move.take gs) sub = chosen gs >> sub
move_names (move.witness ts) sub = each_alone ts >> sub
move_names (move.pick gs t) sub = unseen_in (chosen gs >> alone t) sub
move_names (move.define ds) sub = define ds >> sub
move_names (move.add fs ds) sub = facts fs ds >> sub
move_names (move.hide fs ds) sub = facts fs ds >> sub
move_names move.qed sub = sub

abbrev mutual
  pub proof_names : Proof → Walk
  proof_names (by_facts p only fs ds) b = facts fs ds b
  proof_names (steps ss) b = inside (steps_names ss) b
  proof_names s b = b

  pub steps_names : Steps → Walk
  steps_names end_steps b = b
  steps_names (step p l w m proof ss) b = steps_names ss (move_names m (proof_names proof) b)

-- ---- units

abbrev pub fresh_name : Option Decl → Walk
fresh_name None b = b
fresh_name (Some d) b = fresh d.name d.place b

abbrev pub fact_name : EntrySort → Option Decl → Walk
fact_name s None b = b
fact_name s (Some d) b = declared s 0 0 d.name d.place b

-- an assumption is on level 0
abbrev pub assumed_at : ℕ → Place → Walk
assumed_at zero p b = b
assumed_at (suc l) p b = refused kind.AssumeLevel p b

unfoldable pub assumed : Place → Term → Walk
assumed p t b = assumed_at (level (means b) (levels_of b) 0 t).0 p b

unfoldable pub assumption : Place → Option Decl → Term → Walk
assumption p w t = fresh_name w >> alone t >> assumed p t >> fact_name sorts.Assume w

-- what the statement and the proof declare is not seen after them
unfoldable pub theorem : Option Decl → Statement → Proof → Walk
theorem w s proof = fresh_name w >> inside (stated s >> proof_names proof) >> fact_name sorts.Theorem w

abbrev pub unit_names : Place → UnitKind → Walk
unit_names p (u.constants ds) = each (declare sorts.Constant 0) ds
unit_names p (u.variables ds) = each (declare sorts.State 1) ds
unit_names p (u.assume w t) = assumption p w t
unit_names p (u.definition ds) = define ds
unit_names p (u.theorem w s proof) = theorem w s proof

unfoldable pub unit : Unit → Walk
unit x = unit_names x.place x.kind
