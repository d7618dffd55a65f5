-- What is kept of a definition is what it has.
use Rattle.std.proofs.Common.{◌≡◌, ◌<◌, ◌++◌, ◌+◌, ℕ, Bool, true, false, nat_eq, if◌then◌else◌, List, [], ◌∷◌, take, length, get_or, Option, refl, sym, ap, ◌∙◌, arith}
use lib.ListN.{set}
use Rattle.std.proofs.lemmas.Bool.Decides.{nat_tests}
use Rattle.std.proofs.lemmas.Grind.{common_steps, get_or-set_at}
use Rattle.std.proofs.lemmas.List.{get_or-set_other}
use Rattle.tla_ast.specs.declared.place.Place.{Place}
use Rattle.tla_ast.specs.declared.tree.Decl.{Decl}
use Rattle.plain_syntax.specs.Plain.{Term}
use Rattle.symbol_table.specs.Symbols.{symbol_at}
use Rattle.expression_level.specs.Levels.{Applied, higher, told, level, bound, definition_level}
use Rattle.expression_level.specs.Levels as l
use Rattle.expression_level.specs.Primed.{primed_parameters}
use Rattle.expression_level.proofs.Occurring.{primed-next, blank-closed}
use Rattle.expression_level.specs.Weights.{Known, primed_first, depth_of, function_of, padded, definition}
use Rattle.expression_level.specs.Weights.Known.{arguments, defined}
use Rattle.expression_level.specs.Scope.{Env, names_of, body_weight, weight_of, with_parameters, weigh}
use Rattle.expression_level.specs.Store.{levels_of, flags_of, AllClosed}
use Rattle.symbol_table.specs.declared.entry.Entry.{Entry}
use Rattle.expression_level.proofs.Evaluation.{higher-none, from-none}
use Rattle.expression_level.proofs.Agreement.{Knows}
use Rattle.expression_level.proofs.Linear.{Agree, agree-inside, stands, knows-definition}

abbrev pub at_first : Known
at_first = defined 0 0 [] false

abbrev declared_env : List Known → Env
declared_env ks = record { declared = ks; locals = [] }

agrees : (m : Place → Option ℕ) (fs : Option ℕ → List Bool) (ks : List Known) → AllClosed ks → Agree m fs [] 0 (levels_of ks) (declared_env ks) 0 at_first
agrees m fs ks c = (refl, (λ n. ((let e = c n in omega (arith, e)), λ args. refl), (omega arith, λ args. refl)))

known-definition : (m : Place → Option ℕ) (fs : Option ℕ → List Bool) (ks : List Known) → AllClosed ks → (ps : List Decl) (t : Term)
    → Knows [] (λ args. told (level m (l.with_parameters m (levels_of ks) ps args) 0 t)) (definition 0 (length ps) (weigh m fs (0 + length ps) (with_parameters m 0 (declared_env ks) ps) at_first t))
known-definition m fs ks c ps t =
    knows-definition [] 0 (length ps) (λ args. level m (l.with_parameters m (levels_of ks) ps args) 0 t) (weigh m fs (0 + length ps) (with_parameters m 0 (declared_env ks) ps) at_first t) refl
    (λ args. stands m fs ([] ++ padded (length ps) args) (0 + length ps) (l.with_parameters m (levels_of ks) ps args) (with_parameters m 0 (declared_env ks) ps) 0 at_first
    (agree-inside m fs [] 0 (levels_of ks) (declared_env ks) 0 at_first ps args (agrees m fs ks c)) t)

pub definition-is : (ss : List (Place × ℕ)) (es : List Entry) (ks : List Known) → AllClosed ks → (ps : List Decl) (t : Term)
    → function_of [] (definition 0 (length ps) (body_weight (names_of ss es ks) 0 at_first ps t)) ≡ definition_level (symbol_at ss) (levels_of ks) ps t
definition-is ss es ks c ps t i args = sym ((known-definition (symbol_at ss) (flags_of es) ks c ps t).1 args) i

pub least-is : (ss : List (Place × ℕ)) (es : List Entry) (ks : List Known) → AllClosed ks → (ps : List Decl) (t : Term)
    → (body_weight (names_of ss es ks) 0 at_first ps t).least ≡ (definition_level (symbol_at ss) (levels_of ks) ps t []).0
least-is ss es ks c ps t =
    let w = body_weight (names_of ss es ks) 0 at_first ps t in
    sym (ap (λ x. higher w.least x.0) (from-none (take (0 + length ps) w.uses)) ∙ higher-none w.least)
    ∙ ap (λ (f : Applied). (f []).0) (definition-is ss es ks c ps t)

pub primed-is : (ss : List (Place × ℕ)) (es : List Entry) (ks : List Known) → AllClosed ks → (ps : List Decl) (t : Term)
    → primed_first (body_weight (names_of ss es ks) 0 at_first ps t).uses (0 + length ps) ≡ primed_parameters (symbol_at ss) (flags_of es) ps t
primed-is ss es ks c ps t = primed-next (symbol_at ss) (flags_of es) at_first t _ 0 ps (declared_env ks) refl (λ j n h. blank-closed (get_or ks n arguments) j (c n)) refl

pub judged-is : (ss : List (Place × ℕ)) (es : List Entry) (ks : List Known) → AllClosed ks → (t : Term)
    → ((weight_of (names_of ss es ks) 0 at_first t).least, (weight_of (names_of ss es ks) 0 at_first t).faults) ≡ level (symbol_at ss) (levels_of ks) 0 t
judged-is ss es ks c t =
    let w = weight_of (names_of ss es ks) 0 at_first t in
    let s = stands (symbol_at ss) (flags_of es) [] 0 (levels_of ks) (declared_env ks) 0 at_first (agrees (symbol_at ss) (flags_of es) ks c) t in
    sym (λ i. ((ap (λ x. x.0) s.0 ∙ ap (λ x. higher w.least x.0) (from-none w.uses) ∙ higher-none w.least) i, s.1 tt i))

-- ---- the list of what is kept

set-at : (ks : List Known) (n m : ℕ) (k : Known) → n < length ks → get_or (set ks n k) m arguments ≡ (if nat_eq n m then k else get_or ks m arguments)
set-at ks n m k h = grind (arith, nat_tests, get_or-set_at {X = Known}, get_or-set_other {A = Known})

pub levels-set : (ks : List Known) (n : ℕ) (k : Known) → n < length ks → levels_of (set ks n k) ≡ bound n (function_of [] k) (levels_of ks)
levels-set ks n k h i m = (ap (function_of []) (set-at ks n m k h) ∙ chosen (nat_eq n m)) i
  where
    chosen : (t : Bool) → function_of [] (if t then k else get_or ks m arguments) ≡ (if t then function_of [] k else levels_of ks m)
    chosen true = refl
    chosen false = refl

pub closed-set : (ks : List Known) (n : ℕ) (k : Known) → n < length ks → AllClosed ks → depth_of k ≡ 0 → AllClosed (set ks n k)
closed-set ks n k h c e m = let s = set-at ks n m k h in let d = c m in grind (arith, s, d)

pub more-at : (ks next : List Known) (n : ℕ) → next ≡ ks ++ arguments ∷ [] → get_or next n arguments ≡ get_or ks n arguments
more-at ks next n e = grind (arith, common_steps)
