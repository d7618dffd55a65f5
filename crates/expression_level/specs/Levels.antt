-- Levels: 0 constant, 1 state, 2 action, 3 temporal. An expression has the greatest level of its parts, but where an operator says
-- otherwise; a defined name has the level of its body under the levels of its arguments.
use Rattle.std.specs.Prelude.{ℕ, Bool, true, false, ◌||◌, nat_eq, nat_lt, if◌then◌else◌, List, [], ◌∷◌, ◌++◌, Option, Some, None, codes}
use Rattle.std.specs.Cmp.Lexicographic.{pointwise}
use Rattle.tla_ast.specs.declared.place.Place.{Place}
use Rattle.tla_ast.specs.declared.tree.Decl.{Decl}
use Rattle.plain_syntax.specs.Plain.{Text, Term, Terms, Shape, Updates, Keys, Groups, Defs}
use Rattle.plain_syntax.specs.Plain.Term.{term}
use Rattle.plain_syntax.specs.Plain.Terms.{none, part}
use Rattle.plain_syntax.specs.Plain.Shape.{name, call, prefixed, infixed, prime, except, box, angle, quantifier, choice, local, at, fair}
use Rattle.plain_syntax.specs.Plain.Updates.{end_updates, update}
use Rattle.plain_syntax.specs.Plain.Keys.{end_keys, key, field_key}
use Rattle.plain_syntax.specs.Plain.Groups.{end_groups, free, within}
use Rattle.plain_syntax.specs.Plain.Defs.{end_defs, def}

abbrev pub is_word : Text → Text → Bool
is_word = pointwise nat_eq

-- a level, and in order the places of the operators and applied names that ask for a lower level below them
abbrev pub Judged : Type 0
Judged = ℕ × List Place

-- what a name has for given levels of its arguments: its level, and whether it asks for lower ones
abbrev pub Applied : Type 0
Applied = List ℕ → ℕ × Bool

-- what each number has
abbrev pub Levels : Type 0
Levels = ℕ → Applied

abbrev pub higher : ℕ → ℕ → ℕ
higher a b = if nat_lt a b then b else a

abbrev pub greatest : List ℕ → ℕ
greatest [] = 0
greatest (l ∷ ls) = higher l (greatest ls)

-- a level that does not depend on arguments
abbrev pub constantly : ℕ → Applied
constantly l ls = (l, false)

-- the level of the arguments
abbrev pub of_arguments : Applied
of_arguments ls = (greatest ls, false)

-- what a declared name has: a level of its own, or with parameters the level of its arguments
abbrev pub declared_level : ℕ → Bool → Applied
declared_level l true = of_arguments
declared_level l false = constantly l

-- nothing is declared yet
abbrev pub undeclared : Levels
undeclared n = of_arguments

-- one number's value is put in place of what it had
abbrev pub bound : {A : Type 0} → ℕ → A → (ℕ → A) → ℕ → A
bound n a f m = if nat_eq n m then a else f m

abbrev pub bind : {A : Type 0} → Option ℕ → A → (ℕ → A) → ℕ → A
bind None a f = f
bind (Some n) a f = bound n a f

-- what a name has that stands for this number, or for none
abbrev pub applied : Levels → Option ℕ → Applied
applied ls None = of_arguments
applied ls (Some n) = ls n

abbrev pub has_fault : List Place → Bool
has_fault [] = false
has_fault (p ∷ ps) = true

-- a fault at the place, if there is one
abbrev pub fault_if : Bool → Place → List Place
fault_if true p = p ∷ []
fault_if false p = []

-- the level, and whether there is a fault
abbrev pub told : Judged → ℕ × Bool
told j = (j.0, has_fault j.1)

-- levels of several expressions, and all their faults
abbrev pub Several : Type 0
Several = List ℕ × List Place

abbrev pub before : Judged → Several → Several
before j js = (j.0 ∷ js.0, j.1 ++ js.1)

abbrev pub beside : Judged → Judged → Judged
beside i j = (higher i.0 j.0, i.1 ++ j.1)

abbrev pub overall : Several → Judged
overall js = (greatest js.0, js.1)

-- a fault in what is applied is a fault at the applied name
abbrev pub at_name : Place → Applied → Several → Judged
at_name p f js = ((f js.0).0, js.1 ++ fault_if (f js.0).1 p)

-- a fault at the place where the level is over the limit
abbrev pub limited : ℕ → Place → Judged → Judged
limited limit p j = (j.0, j.1 ++ fault_if (nat_lt limit j.0) p)

-- the level of a primed expression
abbrev pub raised : ℕ → ℕ
raised l = if nat_lt 0 l then 2 else 0

abbrev pub primed_level : Place → Judged → Judged
primed_level p j = (raised j.0, (limited 1 p j).1)

abbrev pub prefix_level : Text → Place → Judged → Judged
prefix_level o p j =
    if is_word o (codes "UNCHANGED") then (2, (limited 1 p j).1)
    else (if is_word o (codes "ENABLED") then (1, (limited 2 p j).1)
    else (if is_word o (codes "[]") || is_word o (codes "<>") then (3, j.1) else j))

abbrev pub infix_level : Text → Judged → Judged
infix_level o j = if is_word o (codes "~>") then (3, j.1) else j

-- what a form makes of the levels of its parts
abbrev pub form_level : Shape → Place → Judged → Judged
form_level (prefixed o) p j = prefix_level o p j
form_level (infixed o) p j = infix_level o j
form_level prime p j = primed_level p j
form_level fair p j = (3, j.1)
form_level s p j = j

-- an action and its subscript
abbrev pub action_level : Place → Judged → Judged → Judged
action_level p a v = (2, (a.1 ++ v.1) ++ fault_if (nat_lt 2 a.0 || nat_lt 1 v.0) p)

module _ (means : Place → Option ℕ) where
  -- parameters with the levels of the arguments, 0 where there are no more
  abbrev pub with_parameters : Levels → List Decl → List ℕ → Levels
  with_parameters ls [] args = ls
  with_parameters ls (d ∷ ds) [] = with_parameters (bind (means d.place) (constantly 0) ls) ds []
  with_parameters ls (d ∷ ds) (l ∷ args) = with_parameters (bind (means d.place) (constantly l) ls) ds args

  -- the level of an expression, where names have these levels and `@` has this one
  abbrev mutual
    pub level : Levels → ℕ → Term → Judged
    level ls a (term (name w) ts p) = at_name p (applied ls (means p)) (levels ls a ts)
    level ls a (term (call w) ts p) = at_name p (applied ls (means p)) (levels ls a ts)
    level ls a (term box none p) = (2, [])
    level ls a (term box (part t ts) p) = action_level p (level ls a t) (overall (levels ls a ts))
    level ls a (term angle none p) = (2, [])
    level ls a (term angle (part t ts) p) = action_level p (level ls a t) (overall (levels ls a ts))
    level ls a (term at ts p) = (a, [])
    level ls a (term (except us) none p) = (0, [])
    level ls a (term (except us) (part t ts) p) = updates ls a (level ls a t) us
    level ls a (term (quantifier all gs) ts p) = beside (sets ls a gs) (overall (levels ls a ts))
    level ls a (term (choice gs) ts p) = beside (sets ls a gs) (overall (levels ls a ts))
    level ls a (term (local ds) ts p) = beside (0, bodies ls a ds) (overall (levels (with_definitions ls a ds) a ts))
    level ls a (term s ts p) = form_level s p (overall (levels ls a ts))

    pub levels : Levels → ℕ → Terms → Several
    levels ls a none = ([], [])
    levels ls a (part t ts) = before (level ls a t) (levels ls a ts)

    -- the sets of bounds
    pub sets : Levels → ℕ → Groups → Judged
    sets ls a end_groups = (0, [])
    sets ls a (free ds gs) = sets ls a gs
    sets ls a (within ds t gs) = beside (level ls a t) (sets ls a gs)

    -- The result of the updates so far, and the updates after them. In a new value `@` has the level of all that it stands for.
    pub updates : Levels → ℕ → Judged → Updates → Judged
    updates ls a j end_updates = j
    updates ls a j (update ks t us) = let k = beside j (keys ls a ks) in updates ls a (beside k (level ls k.0 t)) us

    pub keys : Levels → ℕ → Keys → Judged
    keys ls a end_keys = (0, [])
    keys ls a (key t ks) = beside (level ls a t) (keys ls a ks)
    keys ls a (field_key h ks) = keys ls a ks

    -- the definitions of a LET, each seen by those after it
    pub with_definitions : Levels → ℕ → Defs → Levels
    with_definitions ls a end_defs = ls
    with_definitions ls a (def w ps t p ds) =
        with_definitions (bind (means p) (λ args. told (level (with_parameters ls ps args) a t)) ls) a ds

    -- the faults in their bodies, whose parameters have level 0
    pub bodies : Levels → ℕ → Defs → List Place
    bodies ls a end_defs = []
    bodies ls a (def w ps t p ds) =
        (level (with_parameters ls ps []) a t).1
        ++ bodies (bind (means p) (λ args. told (level (with_parameters ls ps args) a t)) ls) a ds

  -- what a definition with these parameters and this body has
  abbrev pub definition_level : Levels → List Decl → Term → Applied
  definition_level ls ps t args = told (level (with_parameters ls ps args) 0 t)
