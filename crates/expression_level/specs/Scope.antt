-- The names that are known at a place of an expression, what is declared and before it the parameters and definitions round the place;
-- and the weights of expressions among them.
use Rattle.std.specs.Prelude.{◌≡◌, ℕ, suc, ◌+◌, ◌-◌, Bool, true, false, List, [], ◌∷◌, ◌++◌, map, take, drop, length, Option, Some, None, get_or, nat_eq, if◌then◌else◌}
use Rattle.std.specs.Borrow.{Bor}
use Rattle.tla_ast.specs.declared.place.Place.{Place}
use Rattle.tla_ast.specs.declared.tree.Decl.{Decl}
use Rattle.tla_ast.specs.declared.tree.Node.{Node, out-Node}
use Rattle.tla_ast.specs.declared.tree.Form.TheVariants as form
use Rattle.tla_ast.specs.declared.tree.Form.{Form, out-Form}
use Rattle.tla_ast.specs.declared.tree.Form.TheOpen.{Form-F}
use Rattle.tla_ast.specs.declared.tree.Path.{Path}
use Rattle.plain_syntax.specs.Plain.{Term, Terms, Updates, Groups, Keys, Defs}
use Rattle.plain_syntax.specs.Plain.Term.{term}
use Rattle.plain_syntax.specs.Plain.Terms.{none, part}
use Rattle.plain_syntax.specs.Plain.Shape.{name, call, except, box, angle, quantifier, choice, local, at}
use Rattle.plain_syntax.specs.Plain.Updates.{end_updates, update}
use Rattle.plain_syntax.specs.Plain.Keys.{end_keys, key, field_key}
use Rattle.plain_syntax.specs.Plain.Groups.{end_groups, free, within}
use Rattle.plain_syntax.specs.Plain.Defs.{end_defs, def}
use Rattle.plain_syntax.specs.Order.{is_operator}
use Rattle.plain_syntax.specs.Syntax.{term_of, keys_of, updates_of}
use Rattle.symbol_table.specs.Symbols.{symbol_at}
use Rattle.symbol_table.specs.declared.entry.Entry.{Entry}
use Rattle.expression_level.specs.Store.{flags_of}
use Rattle.expression_level.specs.Weights.{Known, Weight, parameter, definition, result_so_far, asked_round, nothing, join, total, primed_if, at_name, acted, all_primed, prefix_weight, infix_weight, form_weight, lifted, limited, fixed}
use Rattle.expression_level.specs.Weights.Known.{arguments}
use Rattle.expression_level.specs.declared.names.Local.{Local}

-- what is declared, by number, and the parameters and definitions, the newest last
pub record Env : Type 0 where
  pub declared : List Known
  pub locals : List Local

-- what the newest of a number has
abbrev pub newest : List Local → ℕ → Option Known
newest [] n = None
newest (x ∷ xs) n = elim (newest xs n) [ Some k ↦ Some k | None ↦ if nat_eq x.number n then Some x.known else None ]

abbrev pub or_else : Option Known → Known → Known
or_else None k = k
or_else (Some k) j = k

abbrev pub at_number : Env → ℕ → Known
at_number env n = or_else (newest env.locals n) (get_or env.declared n arguments)

abbrev pub known : Env → Option ℕ → Known
known env None = arguments
known env (Some n) = at_number env n

-- one more name, if it has a number
abbrev pub with_local : Option ℕ → Known → Env → Env
with_local None k env = env
with_local (Some n) k env = record env { locals = env.locals ++ record { number = n; known = k } ∷ [] }

module _ (means : Place → Option ℕ) where
  -- parameters stand for themselves
  abbrev pub with_parameters : ℕ → Env → List Decl → Env
  with_parameters d env [] = env
  with_parameters d env (p ∷ ps) = with_parameters (suc d) (with_local (means p.place) (parameter d) env) ps

module _ (means : Place → Option ℕ) (flags : Option ℕ → List Bool) where
  -- the weight of an expression among so many parameters, where names have these and `@` stands for this
  abbrev mutual
    pub weigh : ℕ → Env → Known → Term → Weight
    weigh d env a (term (name w) ts p) = at_name p (known env (means p)) (weigh_each d env a (flags (means p)) ts)
    weigh d env a (term (call w) ts p) = at_name p (known env (means p)) (weigh_each d env a (flags (means p)) ts)
    weigh d env a (term box ts p) = acted p (weigh_each d env a [] ts)
    weigh d env a (term angle ts p) = acted p (weigh_each d env a [] ts)
    weigh d env a (term at ts p) = at_name p a []
    weigh d env a (term (except us) none p) = nothing
    weigh d env a (term (except us) (part t ts) p) = updates d env a (weigh d env a t) us
    weigh d env a (term (quantifier all gs) ts p) = join (sets d env a gs) (total (weigh_each d env a [] ts))
    weigh d env a (term (choice gs) ts p) = join (sets d env a gs) (total (weigh_each d env a [] ts))
    weigh d env a (term (local ds) ts p) = join (bodies d env a ds) (total (weigh_each d (with_definitions d env a ds) a [] ts))
    weigh d env a (term s ts p) = form_weight s p (total (weigh_each d env a [] ts))

    -- expressions side by side, of which those with a flag are primed
    pub weigh_each : ℕ → Env → Known → List Bool → Terms → List Weight
    weigh_each d env a fs none = []
    weigh_each d env a [] (part t ts) = weigh d env a t ∷ weigh_each d env a [] ts
    weigh_each d env a (f ∷ fs) (part t ts) = primed_if f (weigh d env a t) ∷ weigh_each d env a fs ts

    pub sets : ℕ → Env → Known → Groups → Weight
    sets d env a end_groups = nothing
    sets d env a (free ds gs) = sets d env a gs
    sets d env a (within ds t gs) = join (weigh d env a t) (sets d env a gs)

    pub updates : ℕ → Env → Known → Weight → Updates → Weight
    updates d env a j end_updates = j
    updates d env a j (update ks t us) =
        let k = join j (keys d env a ks) in updates d env a (join k (weigh d env (result_so_far d k) t)) us

    pub keys : ℕ → Env → Known → Keys → Weight
    keys d env a end_keys = nothing
    keys d env a (key t ks) = join (weigh d env a t) (keys d env a ks)
    keys d env a (field_key h ks) = keys d env a ks

    pub with_definitions : ℕ → Env → Known → Defs → Env
    with_definitions d env a end_defs = env
    with_definitions d env a (def w ps t p ds) =
        with_definitions d (with_local (means p) (definition d (length ps) (weigh (d + length ps) (with_parameters means d env ps) a t)) env) a ds

    -- what LET definitions ask for, where their own parameters have level 0
    pub bodies : ℕ → Env → Known → Defs → Weight
    bodies d env a end_defs = nothing
    bodies d env a (def w ps t p ds) =
        let j = weigh (d + length ps) (with_parameters means d env ps) a t in
        join (asked_round d j) (bodies d (with_local (means p) (definition d (length ps) j) env) a ds)

-- ---- what the code keeps

pub record Names : Type 0 where
  pub symbols : List (Place × ℕ)
  pub entries : List Entry
  pub env : Env

abbrev pub names_of : List (Place × ℕ) → List Entry → List Known → Names
names_of symbols entries declared = record { symbols = symbols; entries = entries; env = record { declared = declared; locals = [] } }

abbrev pub found_local : Option (Bor Known) → Option Known
found_local None = None
found_local (Some k) = Some k.now

abbrev pub means_in : Names → Place → Option ℕ
means_in s = symbol_at s.symbols

-- which parameters a definition primes
abbrev pub flags_in : Names → Option ℕ → List Bool
flags_in s = flags_of s.entries

-- what the name at a place has
abbrev pub at_place : Names → Place → Known
at_place s p = known s.env (means_in s p)

abbrev pub with_name : Place → Known → Names → Names
with_name p k s = record s { env = with_local (means_in s p) k s.env }

-- the first so many locals alone
abbrev pub left : ℕ → Names → Names
left n s = record s { env = record s.env { locals = take n s.env.locals } }

-- parameters behind so many others
abbrev pub with_more : ℕ → List Decl → Names → Names
with_more d ps s = record s { env = with_parameters (means_in s) d s.env ps }

abbrev pub weight_of : Names → ℕ → Known → Term → Weight
weight_of s d k t = weigh (means_in s) (flags_in s) d s.env k t

abbrev pub weights_of : Names → ℕ → Known → List Bool → Terms → List Weight
weights_of s d k fs ts = weigh_each (means_in s) (flags_in s) d s.env k fs ts

-- the body of a definition among so many parameters
abbrev pub body_weight : Names → ℕ → Known → List Decl → Term → Weight
body_weight s d k ps t = weight_of (with_more d ps s) (d + length ps) k t

-- a definition, seen from then on
abbrev pub with_definition : ℕ → Known → List Decl → Term → Place → Names → Names
with_definition d k ps t p s = with_name p (definition d (length ps) (body_weight s d k ps t)) s

abbrev pub with_all : ℕ → Known → Defs → Names → Names
with_all d k ds s = record s { env = with_definitions (means_in s) (flags_in s) d s.env k ds }

-- what a form that has no names of its own makes of the weight of its parts
abbrev pub ruled : {A B C D E F : Type 0} → Form-F A B C D E F → Place → Weight → Weight
ruled (Form-F.Prefix o) p x = prefix_weight o p x
ruled (Form-F.Infix o) p x = infix_weight o x
ruled Form-F.Prime p x = lifted (limited 1 p (all_primed x))
ruled (Form-F.Fair strong) p x = fixed 3 x
ruled f p x = x

abbrev pub by_form : Form → Place → Weight → Weight
by_form f = ruled (out-Form f)

abbrev pub count : Terms → ℕ
count none = 0
count (part t ts) = suc (count ts)

-- an operator takes the weights of its operands from a stack, and puts its own there; any other expression puts its own there
abbrev pub turned : Names → ℕ → Known → List Weight → Term → List Weight
turned s d k stack (term f ts p) = elim (is_operator f) [
  | true ↦ take (length stack - count ts) stack ++ form_weight f p (total (drop (length stack - count ts) stack)) ∷ []
  | false ↦ stack ++ weight_of s d k (term f ts p) ∷ []
]

-- the keys and the values of updates
abbrev pub updates_on : Names → ℕ → Known → List Path → List Node → Weight → Weight
updates_on s d k ps ns x = updates (means_in s) (flags_in s) d s.env k x (updates_of (map keys_of ps) (map term_of ns))

abbrev pub excepted : Names → ℕ → Known → List Path → List Node → Weight
excepted s d k ps [] = nothing
excepted s d k ps (n ∷ ns) = updates_on s d k ps ns (weight_of s d k (term_of n))

abbrev pub sets_of : Names → ℕ → Known → Groups → Weight
sets_of s d k gs = sets (means_in s) (flags_in s) d s.env k gs

abbrev pub keys_on : Names → ℕ → Known → Keys → Weight
keys_on s d k ks = keys (means_in s) (flags_in s) d s.env k ks

abbrev pub bodies_of : Names → ℕ → Known → Defs → Weight
bodies_of s d k ds = bodies (means_in s) (flags_in s) d s.env k ds

-- a name with its arguments
abbrev pub applied : Names → ℕ → Known → Place → Terms → Weight
applied s d k p ts = at_name p (at_place s p) (weights_of s d k (flags_in s (means_in s p)) ts)

abbrev pub domain_weight : Names → ℕ → Known → Option Node → Weight
domain_weight s d k None = nothing
domain_weight s d k (Some n) = weight_of s d k (term_of n)

-- an EXCEPT
abbrev pub IsExcept : Node → Type 0
IsExcept n = (ps : List Path) × ((out-Node n).form ≡ form.Except ps)
