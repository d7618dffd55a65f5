-- The environments of the code as lists of what names mean.
use Rattle.std.specs.Prelude.{ℕ, Bool, true, false, if◌then◌else◌, nat_eq, List, [], ◌∷◌, map, fold, Option, Some, None}
use Rattle.tla_ast.specs.declared.place.Place.{Place}
use Rattle.tla_ast.specs.declared.tree.Def.{Def, out-Def}
use Rattle.symbol_table.specs.declared.entry.Entry.{Entry}
use Rattle.symbol_table.specs.Scoped.{symbol}
use Rattle.tla_ast.specs.declared.tree.Decl.{Decl}
use Rattle.plain_syntax.specs.Plain.{Term, Terms, Groups, Defs}
use Rattle.plain_syntax.specs.Syntax.{term_of, each_def}
use Rattle.prime_expand.specs.declared.both.Both.{Both}
use Rattle.prime_expand.specs.declared.env.Names.{Names}
use Rattle.prime_expand.specs.declared.env.Standing as code
use Rattle.prime_expand.specs.declared.env.Known.{Known}
use Rattle.prime_expand.specs.declared.env.Frame.{Frame}
use Rattle.prime_expand.specs.declared.env.Env as env
use Rattle.prime_expand.specs.declared.env.Env.TheOpen.{Env-F}
use Rattle.prime_expand.specs.declared.env.Found.{Found}
use Rattle.prime_expand.specs.declared.env.Found.TheVariants as found
use Rattle.tla_ast.specs.declared.tree.Form.{Form, out-Form}
use Rattle.tla_ast.specs.declared.tree.Form.TheOpen.{Form-F}
use Rattle.core_expr.specs.declared.head.Binder.{Binder}
use Rattle.core_expr.specs.declared.head.Head.TheVariants.{True, And, Or, Apply, Enum, Tuple, FunSet, If}
use Rattle.core_expr.specs.Terms.{numeral_of}
use Rattle.plain_syntax.specs.Plain.{Text}
use Rattle.prime_expand.specs.Both.{same, part_at, binary, two, three, many, joined, temporal_}
use Rattle.prime_expand.specs.Forms.{string, boxed, angled}
use Rattle.prime_expand.specs.Symbols.{by_prefix, by_infix}
use Rattle.prime_expand.specs.Core.{Meaning, Env, Standing, used, over, core, cores, with_names, with_groups, with_arguments, with_definitions}
use Rattle.prime_expand.specs.Core.Meaning.{fixed, given}

abbrev pub means : Names → Place → Option ℕ
means c = symbol c.scoped.now c.home

abbrev pub standing_of : code.Standing → Standing
standing_of s = (s.depth, s.value)

abbrev pub entry_of : Known → ℕ × Meaning
entry_of k = (k.number, fixed (standing_of k.value))

-- entries that come after others, one by one
abbrev pub pushed : List (ℕ × Meaning) → Env → Env
pushed es env = fold (λ (l : Env) (e : ℕ × Meaning). e ∷ l) env es

-- what is known of a number, once an entry came
abbrev pub pick : ℕ → Option Meaning → ℕ × Meaning → Option Meaning
pick n m e = if nat_eq e.0 n then Some e.1 else m

module _ (c : Names) where
  abbrev pub entries : List Entry
  entries = c.scoped.now.entries

  abbrev pub naming : ℕ → List Decl → Env → Env
  naming = with_names (means c) entries

  abbrev pub grouping : ℕ → Groups → Env → Env
  grouping = with_groups (means c) entries

  abbrev pub arguing : ℕ → List Decl → List Both → Env → Env
  arguing = with_arguments (means c) entries

  abbrev pub defining : Standing → Defs → Env → Env
  defining = with_definitions (means c) entries

  abbrev pub core_at : Env → Standing → ℕ → Term → Both
  core_at = core (means c) entries

  abbrev pub cores_at : Env → Standing → ℕ → Terms → List Both
  cores_at = cores (means c) entries

  abbrev pub env_step : Env-F Env → Env
  env_step Env-F.Empty = []
  env_step (Env-F.Known ks outer) = pushed (map entry_of ks.items) outer.value
  env_step (Env-F.Definitions ds a outer) = defining (standing_of a.value) (each_def ds.now) outer.value

  unfoldable pub env_of : env.Env → Env
  env_of = env.fold-Env Env env_step

  abbrev pub frame_env : Frame → Env
  frame_env f = pushed (map entry_of f.known.items) (env_of f.outer.value)

  -- a definition of a LET by the depth of its use and its arguments
  abbrev pub applied_def : Def → List Def → Standing → Env → ℕ → List Both → Both
  applied_def d before a round e args = core_at (arguing e (out-Def d).params args (defining a (each_def before) round)) a e (term_of (out-Def d).body)

  abbrev pub meaning : Found → Option Meaning
  meaning found.Nothing = None
  meaning (found.Fixed s) = Some (fixed (standing_of s.now))
  meaning (found.Definition d before a outer) = Some (given (applied_def d.now before.now (standing_of a.now.value) (env_of outer.now.value)))

-- ---- nodes over the cores of their parts

abbrev pub numeral : ℕ → Both
numeral n = same (numeral_of n)

abbrev pub field_of : Text → List Both → Both
field_of h bs = binary Apply (part_at 0 bs) (string h)

abbrev pub primed_of : List Both → Both
primed_of bs = same (part_at 0 bs).primed

abbrev pub action : Bool → List Both → Both
action true bs = angled (part_at 0 bs) (part_at 1 bs)
action false bs = boxed (part_at 0 bs) (part_at 1 bs)

abbrev pub junction : Bool → List Both → Both
junction all bs = joined (if all then And else Or) True bs

abbrev pub flat_by : {A B C D E F : Type 0} → Form-F A B C D E F → List Both → Both
flat_by (Form-F.Number n) bs = numeral n
flat_by (Form-F.Str s) bs = string s
flat_by Form-F.Enum bs = many Enum bs
flat_by Form-F.Tuple bs = many Tuple bs
flat_by Form-F.FunctionSet bs = two FunSet bs
flat_by Form-F.BoxAct bs = action false bs
flat_by Form-F.AngleAct bs = action true bs
flat_by (Form-F.Junction all) bs = junction all bs
flat_by Form-F.If bs = three If bs
flat_by f bs = temporal_

-- a node that binds nothing
abbrev pub flat : Form → List Both → Both
flat f = flat_by (out-Form f)

abbrev pub operator_by : {A B C D E F : Type 0} → Names → Form-F A B C D E F → Place → List Both → Both
operator_by c (Form-F.Prefix o) p bs = by_prefix o (means c p) bs
operator_by c (Form-F.Infix o) p bs = by_infix o (means c p) bs
operator_by c Form-F.Prime p bs = primed_of bs
operator_by c Form-F.Index p bs = two Apply bs
operator_by c (Form-F.Form::Field h) p bs = field_of h bs
operator_by c f p bs = temporal_

abbrev pub operator : Names → Form → Place → List Both → Both
operator c f = operator_by c (out-Form f)

-- ---- names

abbrev pub used_at : Names → Text → Env → Place → ℕ → List Both → Both
used_at c = used (means c) (entries c)

abbrev pub over_at : Names → Binder → Env → Standing → ℕ → Place → Terms → Both
over_at c = over (means c) (entries c)
