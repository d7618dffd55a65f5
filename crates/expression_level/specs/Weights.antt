-- Levels in one pass: how the level of an expression, and what it asks for, depend on the levels of the parameters round it.
-- A parameter is known by its position among those that are bound, the outermost first. A use says how one counts: as it is, raised
-- as by a prime, and the greatest level that is lawful for it; and whether it stands in the expression, and is primed there.
use Rattle.std.specs.Prelude.{ℕ, zero, suc, ◌+◌, Bool, true, false, ◌||◌, ◌&&◌, nat_lt, if◌then◌else◌, List, [], ◌∷◌, ◌++◌, map, take, drop, get_or, Option, Some, None, codes}
use Rattle.tla_ast.specs.declared.place.Place.{Place}
use Rattle.plain_syntax.specs.Plain.{Text, Shape}
use Rattle.plain_syntax.specs.Plain.Shape.{prefixed, infixed, prime, fair}
use Rattle.expression_level.specs.declared.weight.Use.{Use}
use Rattle.expression_level.specs.Levels.{is_word, higher, greatest, raised, has_fault, fault_if, Applied}

-- the level where all parameters have level 0; how each parameter counts; the faults that stand whatever they have
pub record Weight : Type 0 where
  pub least : ℕ
  pub uses : List Use
  pub faults : List Place

-- ---- under given levels of the parameters

-- a level, and whether there is a fault
abbrev pub Told : Type 0
Told = ℕ × Bool

abbrev pub merged : Told → Told → Told
merged x y = (higher x.0 y.0, x.1 || y.1)

abbrev pub counted : Use → ℕ → ℕ
counted u l = higher (if u.plain then l else 0) (if u.raised then raised l else 0)

abbrev pub is_over : Option ℕ → ℕ → Bool
is_over None l = false
is_over (Some k) l = nat_lt k l

-- the level that a parameter gives, and whether it is over its limit
abbrev pub told_by : Use → ℕ → Told
told_by u l = (counted u l, is_over u.limit l)

abbrev pub told_from : List Use → List ℕ → Told
told_from [] ls = (0, false)
told_from (u ∷ us) [] = (0, false)
told_from (u ∷ us) (l ∷ ls) = merged (told_by u l) (told_from us ls)

abbrev pub told_under : List ℕ → Weight → Told
told_under ls w = merged (w.least, has_fault w.faults) (told_from w.uses ls)

-- ---- weights together

abbrev pub stricter : Option ℕ → Option ℕ → Option ℕ
stricter None l = l
stricter (Some k) None = Some k
stricter (Some k) (Some l) = Some (if nat_lt k l then k else l)

abbrev pub both : Use → Use → Use
both u v = record {
  plain = u.plain || v.plain;
  raised = u.raised || v.raised;
  limit = stricter u.limit v.limit;
  held = u.held || v.held;
  primed = u.primed || v.primed;
}

abbrev pub all_uses : List Use → List Use → List Use
all_uses [] vs = vs
all_uses (u ∷ us) [] = u ∷ us
all_uses (u ∷ us) (v ∷ vs) = both u v ∷ all_uses us vs

abbrev pub nothing : Weight
nothing = record { least = 0; uses = []; faults = [] }

abbrev pub join : Weight → Weight → Weight
join v w = record { least = higher v.least w.least; uses = all_uses v.uses w.uses; faults = v.faults ++ w.faults }

abbrev pub total : List Weight → Weight
total [] = nothing
total (w ∷ ws) = join w (total ws)

-- a use of which no level is left
abbrev pub kept : Use → Use
kept u = record u { plain = false; raised = false }

-- a level whatever the parameters are, with what they are asked for
abbrev pub fixed : ℕ → Weight → Weight
fixed l w = record { least = l; uses = map kept w.uses; faults = w.faults }

abbrev pub with_fault : Bool → Place → Weight → Weight
with_fault b p w = record { least = w.least; uses = w.uses; faults = w.faults ++ fault_if b p }

-- the limit where a level as it is, and one that is raised, must not be over this one
abbrev pub asked_plain : ℕ → Bool → Option ℕ
asked_plain k b = if b then Some k else None

abbrev pub asked_raised : ℕ → Bool → Option ℕ
asked_raised k b = if b && nat_lt k 2 then Some 0 else None

abbrev pub asked : ℕ → Use → Option ℕ
asked k u = stricter (asked_plain k u.plain) (asked_raised k u.raised)

abbrev pub capped_use : ℕ → Use → Use
capped_use k u = record u { limit = stricter u.limit (asked k u) }

-- a weight that must not be over a limit: what that asks of parameters
abbrev pub capped : ℕ → Weight → Weight
capped k w = record { least = w.least; uses = map (capped_use k) w.uses; faults = w.faults }

-- and a fault at the place where it is over in any case
abbrev pub limited : ℕ → Place → Weight → Weight
limited k p w = with_fault (nat_lt k w.least) p (capped k w)

abbrev pub raised_use : Use → Use
raised_use u = record u { plain = false; raised = u.plain || u.raised }

abbrev pub lifted : Weight → Weight
lifted w = record { least = raised w.least; uses = map raised_use w.uses; faults = w.faults }

-- all that stands in an expression is primed
abbrev pub primed_use : Use → Use
primed_use u = record u { primed = u.held }

abbrev pub all_primed : Weight → Weight
all_primed w = record { least = w.least; uses = map primed_use w.uses; faults = w.faults }

abbrev pub prefix_weight : Text → Place → Weight → Weight
prefix_weight o p w =
    if is_word o (codes "UNCHANGED") then fixed 2 (limited 1 p (all_primed w))
    else (if is_word o (codes "ENABLED") then fixed 1 (limited 2 p w)
    else (if is_word o (codes "[]") || is_word o (codes "<>") then fixed 3 w else w))

abbrev pub infix_weight : Text → Weight → Weight
infix_weight o w = if is_word o (codes "~>") then fixed 3 w else w

abbrev pub form_weight : Shape → Place → Weight → Weight
form_weight (prefixed o) p w = prefix_weight o p w
form_weight (infixed o) p w = infix_weight o w
form_weight prime p w = lifted (limited 1 p (all_primed w))
form_weight fair p w = fixed 3 w
form_weight s p w = w

-- an action and its subscript
abbrev pub action_weight : Place → Weight → Weight → Weight
action_weight p a v = fixed 2 (with_fault (nat_lt 2 a.least || nat_lt 1 v.least) p (join (capped 2 a) (capped 1 v)))

-- an action with what stands behind it as its subscript, which it primes
abbrev pub acted : Place → List Weight → Weight
acted p [] = fixed 2 nothing
acted p (w ∷ ws) = action_weight p w (all_primed (total ws))

-- ---- names

-- What a number has: the level of its arguments; or a definition, with the number of parameters bound round it, whose own follow.
pub data Known : Type 0 where
  arguments : Known
  defined : ℕ → ℕ → List Use → Bool → Known

-- how many parameters are bound round it
abbrev pub depth_of : Known → ℕ
depth_of arguments = 0
depth_of (defined d l us b) = d

-- what it has under given levels of the parameters round it
abbrev pub function_of : List ℕ → Known → Applied
function_of ls arguments args = (greatest args, false)
function_of ls (defined d l us b) args = merged (l, b) (told_from us (take d ls ++ args))

-- the first items, as many as this, 0 where there are no more
abbrev pub padded : ℕ → List ℕ → List ℕ
padded zero ls = []
padded (suc n) [] = 0 ∷ padded n []
padded (suc n) (l ∷ ls) = l ∷ padded n ls

abbrev pub unused : Use
unused = record { plain = false; raised = false; limit = None; held = false; primed = false }

abbrev pub as_it_is : Use
as_it_is = record { plain = true; raised = false; limit = None; held = true; primed = false }

-- the parameter at a position
abbrev pub uses_of : ℕ → List Use
uses_of zero = as_it_is ∷ []
uses_of (suc n) = unused ∷ uses_of n

abbrev pub parameter : ℕ → Known
parameter n = defined (suc n) 0 (uses_of n) false

-- a definition of so many parameters among those that are bound round it
abbrev pub definition : ℕ → ℕ → Weight → Known
definition d n w = defined d w.least (take (d + n) w.uses) (has_fault w.faults)

abbrev pub unlimited : Use → Use
unlimited u = record u { limit = None }

-- for each of the first so many parameters whether it is primed
abbrev pub primed_first : List Use → ℕ → List Bool
primed_first us zero = []
primed_first us (suc n) = primed_first us n ++ (get_or us n unused).primed ∷ []

-- what `@` stands for
abbrev pub result_so_far : ℕ → Weight → Known
result_so_far d w = defined d w.least (map unlimited (take d w.uses)) false

-- what is asked of a parameter of an argument where the argument must not be over a limit
abbrev pub passed_limit : Option ℕ → Use → Option ℕ
passed_limit None v = None
passed_limit (Some k) v = asked k v

-- how the parameters of an argument count where the argument is used so; where they stand is said of the argument itself
abbrev pub passed : Use → Use → Use
passed u v = record {
  plain = u.plain && v.plain;
  raised = (u.plain && v.raised) || (u.raised && (v.plain || v.raised));
  limit = passed_limit u.limit v;
  held = false;
  primed = false;
}

-- and its level; a fault where it is over its limit in any case
abbrev pub argument : Place → Use → Weight → Weight
argument p u w = record { least = counted u w.least; uses = map (passed u) w.uses; faults = fault_if (is_over u.limit w.least) p }

abbrev pub put : Place → List Use → List Weight → Weight
put p [] ws = nothing
put p (u ∷ us) [] = nothing
put p (u ∷ us) (w ∷ ws) = join (argument p u w) (put p us ws)

-- what a definition holds stands where its name does; what it primes is primed where its body is
abbrev pub named : Use → Use
named u = record u { primed = false }

abbrev pub at_name : Place → Known → List Weight → Weight
at_name p arguments ws = total ws
at_name p (defined d l us b) ws =
    let given = put p (drop d us) ws in
    with_fault (b || has_fault given.faults) p
    (join (fixed 0 (total ws)) (join (record { least = l; uses = map named (take d us); faults = [] }) (record given { faults = [] })))

abbrev pub primed_if : Bool → Weight → Weight
primed_if b w = if b then all_primed w else w

-- what a weight asks of the parameters round a definition
abbrev pub asked_round : ℕ → Weight → Weight
asked_round d w = fixed 0 (record { least = 0; uses = take d w.uses; faults = w.faults })
